use Rattle.std.proofs.Common.{arith}
use Rattle.back_tests.proofs.runs.clean.Goals as goal

pub cleanup-requires : goal.cleanup-requires
cleanup-requires g c = λ index lt. let none = c.nothing_read-read.ensures index in omega arith

pub cleanup-requires-2 : goal.cleanup-requires-2
cleanup-requires-2 g c = λ index lt. let none = c.nothing_read-read.ensures index in omega arith
