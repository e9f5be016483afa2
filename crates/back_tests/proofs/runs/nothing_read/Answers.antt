use Rattle.back_tests.proofs.Copies.{zeros}
use Rattle.back_tests.proofs.runs.nothing_read.Goals as goal

pub returns : goal.returns
returns c = zeros 64
