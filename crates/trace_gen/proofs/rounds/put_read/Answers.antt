use Rattle.std.proofs.Common.{refl}
use Rattle.trace_gen.specs.Lines.{read_lines}
use Rattle.trace_gen.proofs.LineLaws.{three_lines}
use Rattle.trace_gen.proofs.rounds.put_read.Goals as goal

pub returns : goal.returns
unfolding read_lines
returns c = three_lines _ _ _ _ (read_lines c.args.thread c.args.b) _ _ _ refl c.in_ok-write.ensures.bytes c.in_ok-write-2.ensures.bytes c.in_ok-write-3.ensures.bytes
