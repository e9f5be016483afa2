use Rattle.std.proofs.Common.{refl, ◌∙◌}
use Rattle.std.specs.Option.{option_map}
use Rattle.gl_model.specs.declared.state.Framebuffer.{Framebuffer}
use Rattle.gl_state.specs.Changes.{with_draws}
use Rattle.gl_state.proofs.Ordered.{IsRising-ordered, changed_at-mapped}
use Rattle.gl_state.proofs.framebuffers.set_draws_in.Goals as goal

pub returns : goal.returns
returns c =
    rw (c.set_draws_of.ensures.changed
    ∙ changed_at-mapped c.args.context.now.draw (option_map {T = Framebuffer} {U = Framebuffer} (with_draws c.args.buffers.now)) c.args.context.now.framebuffers (IsRising-ordered c.args.context.now.framebuffers c.set_draws_of.ensures.ordered)) refl
