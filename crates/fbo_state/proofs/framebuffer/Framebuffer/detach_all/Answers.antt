use Rattle.std.proofs.Common.{ap}
use Rattle.fbo_state.proofs.Detached.{told-detached}
use Rattle.fbo_state.proofs.framebuffer.Framebuffer.detach_all.Goals as goal

pub returns-clause-meaning : goal.returns-clause-meaning
returns-clause-meaning c =
    let f = c.self.inside in
    rw (← c.self.view_is, c.detached-self-inside.ensures, c.as_slice.ensures.value)
    (ap (λ points. record { points = points; draws = f.draws.items; read = f.read }) (told-detached c.args.image f.points.items))
