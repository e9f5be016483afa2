use Rattle.std.proofs.Common.{refl}
use Rattle.trace_gen.specs.Lines.{target_lines}
use Rattle.trace_gen.proofs.LineLaws.{two_lines}
use Rattle.trace_gen.proofs.first.put_target.Goals as goal

pub returns : goal.returns
unfolding target_lines
returns c = two_lines _ _ _ (target_lines c.args.thread) _ _ refl c.in_ok-write.ensures.bytes c.in_ok-write-2.ensures.bytes
