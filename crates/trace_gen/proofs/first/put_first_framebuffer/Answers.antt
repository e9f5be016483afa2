use Rattle.std.proofs.Common.{refl}
use Rattle.trace_gen.specs.Lines.{first_framebuffer_lines}
use Rattle.trace_gen.proofs.LineLaws.{three_lines}
use Rattle.trace_gen.proofs.first.put_first_framebuffer.Goals as goal

pub returns : goal.returns
unfolding first_framebuffer_lines
returns c = three_lines _ _ _ _ (first_framebuffer_lines c.args.thread) _ _ _ refl c.in_ok-write.ensures.bytes c.in_ok-write-2.ensures.bytes c.in_ok-write-3.ensures.bytes
