use Rattle.std.proofs.Common.{ap, arith}
use Rattle.shared_gpu.proofs.Causes.{cause_retire}
use Rattle.shared_gpu.proofs.Ordered.{orderly_retire}
use Rattle.shared_gpu.proofs.shared.Shared.retire.Goals as goal

pub invariant_of-self : goal.invariant_of-self
invariant_of-self g c =
    let b = c.self.inside.back in
    let x = c.retire in (
      cause_retire (g.D.Device.faults c.self.inside.opened.value) (g.D.Device.faults b.device) (g.D.Device.faults x.new.self.device) b x.new.self x.result c.self.invariant.0 (let same = ap g.D.Device.faults x.ensures.device in omega (arith, same)) x.ensures.some x.ensures.unchanged,
      orderly_retire b x.new.self c.self.invariant.1 c.cleanups_stay_whole.ensures.goes_on x.result x.ensures.some x.ensures.unchanged,
    )

pub returns-clause-none : goal.returns-clause-none
returns-clause-none g c = rw (← c.self.view_is) c.retire.ensures.none
