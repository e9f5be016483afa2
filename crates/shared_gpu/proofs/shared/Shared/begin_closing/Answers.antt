use Rattle.std.proofs.Common.{ap, arith}
use Rattle.shared_gpu.proofs.Causes.{cause_closed}
use Rattle.shared_gpu.proofs.Ordered.{orderly_closed}
use Rattle.shared_gpu.proofs.shared.Shared.begin_closing.Goals as goal

pub invariant_of-self : goal.invariant_of-self
invariant_of-self g c =
    let b = c.self.inside.back in
    let x = c.begin_closing in (
      cause_closed (g.D.Device.faults c.self.inside.opened.value) (g.D.Device.faults b.device) (g.D.Device.faults x.new.self.device) b.history x.new.self.history c.self.invariant.0 (let same = ap g.D.Device.faults x.ensures.device in omega (arith, same)) x.ensures.history,
      orderly_closed b.history x.new.self.history c.self.invariant.1 c.cleanups_stay_whole.ensures.goes_on x.ensures.history,
    )
