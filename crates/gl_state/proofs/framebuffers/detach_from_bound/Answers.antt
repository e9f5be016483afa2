use Rattle.std.proofs.Common.{refl, ◌∙◌}
use Rattle.std.specs.Option.{option_map}
use Rattle.gl_model.specs.declared.state.Framebuffer.{Framebuffer}
use Rattle.gl_model.specs.GroupEffect.{detached}
use Rattle.gl_state.proofs.Ordered.{IsRising-ordered, changed_at-mapped}
use Rattle.gl_state.proofs.framebuffers.detach_from_bound.Goals as goal

pub returns : goal.returns
returns c =
    let before = c.args.context.now.framebuffers in
    let after = c.detach_from.new.framebuffers in
    rw (
      c.detach_from-2.ensures.changed
          ∙ changed_at-mapped c.args.context.now.read (option_map {T = Framebuffer} {U = Framebuffer} (detached c.args.image)) after (IsRising-ordered after c.detach_from-2.ensures.ordered),
      c.detach_from.ensures.changed
          ∙ changed_at-mapped c.args.context.now.draw (option_map {T = Framebuffer} {U = Framebuffer} (detached c.args.image)) before (IsRising-ordered before c.detach_from.ensures.ordered),
    ) refl
