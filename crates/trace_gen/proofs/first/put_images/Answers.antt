use Rattle.std.proofs.Common.{refl}
use Rattle.trace_gen.specs.Lines.{image_lines}
use Rattle.trace_gen.proofs.LineLaws.{four_lines}
use Rattle.trace_gen.proofs.first.put_images.Goals as goal

pub returns : goal.returns
unfolding image_lines
returns c = four_lines _ _ _ _ _ (image_lines c.args.thread) _ _ _ _ refl c.in_ok-write.ensures.bytes c.in_ok-write-2.ensures.bytes c.in_ok-write-3.ensures.bytes c.in_ok-write-4.ensures.bytes
