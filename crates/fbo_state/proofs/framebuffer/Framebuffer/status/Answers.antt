use Rattle.std.proofs.Common.{ap, ◌∙◌}
use Rattle.fbo_state.specs.Framebuffers.{status_at}
use Rattle.fbo_state.proofs.Statuses.{status_at-group}
use Rattle.fbo_state.proofs.framebuffer.Framebuffer.status.Goals as goal

pub returns-clause-meaning : goal.returns-clause-meaning
returns-clause-meaning c = λ group facts.
    c.status.ensures ∙ ap (status_at c.args.infos.now) c.points.ensures ∙ status_at-group group c.args.self.now c.args.infos.now facts
