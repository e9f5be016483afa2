use Rattle.std.proofs.Common.{refl, ap, arith}
use Rattle.back_core.specs.declared.back_event.BackEvent.TheVariants as event
use Rattle.shared_gpu.proofs.Causes.{cause_one}
use Rattle.shared_gpu.proofs.Ordered.{few, orderly_one}
use Rattle.shared_gpu.proofs.shared.Shared.give.Goals as goal

pub invariant_of-self : goal.invariant_of-self
invariant_of-self g c =
    let b = c.self.inside.back in
    let x = c.give in (
      cause_one (g.D.Device.faults c.self.inside.opened.value) (g.D.Device.faults b.device) (g.D.Device.faults x.new.self.device) b.history x.new.self.history c.self.invariant.0 (event.Gave c.args.group c.args.item.handle c.args.item.uses) refl (let same = ap g.D.Device.faults x.ensures.device in omega (arith, same)) x.ensures.history,
      orderly_one b.history x.new.self.history c.self.invariant.1 c.cleanups_stay_whole.ensures.goes_on (event.Gave c.args.group c.args.item.handle c.args.item.uses) (few c.args.group c.requires.low) tt x.ensures.history,
    )
