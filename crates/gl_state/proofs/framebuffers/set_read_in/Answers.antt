use Rattle.std.proofs.Common.{refl, ◌∙◌}
use Rattle.std.specs.Option.{option_map}
use Rattle.gl_model.specs.declared.state.Framebuffer.{Framebuffer}
use Rattle.gl_state.specs.Changes.{with_read}
use Rattle.gl_state.proofs.Ordered.{IsRising-ordered, changed_at-mapped}
use Rattle.gl_state.proofs.framebuffers.set_read_in.Goals as goal

pub returns : goal.returns
returns c =
    rw (c.set_read_of.ensures.changed
    ∙ changed_at-mapped c.args.context.now.read (option_map {T = Framebuffer} {U = Framebuffer} (with_read c.args.buffer)) c.args.context.now.framebuffers (IsRising-ordered c.args.context.now.framebuffers c.set_read_of.ensures.ordered)) refl
