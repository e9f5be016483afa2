use Rattle.fbo_state.proofs.Areas.{least_sides-none, least_sides-common}
use Rattle.fbo_state.specs.Framebuffers.{stored}
use Rattle.fbo_state.proofs.framebuffer.Framebuffer.common_area.Goals as goal

pub returns-clause-none : goal.returns-clause-none
returns-clause-none c = rw c.common_area.ensures (least_sides-none (stored c.args.infos.now))

pub returns-clause-meaning : goal.returns-clause-meaning
returns-clause-meaning c = rw c.common_area.ensures (least_sides-common (stored c.args.infos.now))
