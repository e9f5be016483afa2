use Rattle.std.proofs.Common.{refl, ◌∙◌}
use Rattle.std.specs.Option.{option_map}
use Rattle.gl_model.specs.declared.state.Framebuffer.{Framebuffer}
use Rattle.gl_model.specs.GroupEffect.{with_point}
use Rattle.gl_state.proofs.Ordered.{IsRising-ordered, changed_at-mapped}
use Rattle.gl_state.proofs.framebuffers.attach_in.Goals as goal

pub returns : goal.returns
returns c =
    rw (c.attach_to.ensures.changed
    ∙ changed_at-mapped c.args.name (option_map {T = Framebuffer} {U = Framebuffer} (with_point c.args.point c.args.image)) c.args.context.now.framebuffers (IsRising-ordered c.args.context.now.framebuffers c.attach_to.ensures.ordered)) refl
