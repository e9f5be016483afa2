use Rattle.std.proofs.Common.{refl, ap, arith}
use Rattle.back_core.specs.declared.back_event.BackEvent.TheVariants as event
use Rattle.shared_gpu.proofs.Causes.{cause_batch}
use Rattle.shared_gpu.proofs.Ordered.{few, orderly_batch}
use Rattle.std.specs.Prelude.{◌/◌}
use Rattle.shared_gpu.proofs.shared.Shared.enqueue.Goals as goal

pub invariant_of-self : goal.invariant_of-self
invariant_of-self g c =
    let b = c.self.inside.back in
    let x = c.enqueue in (
      cause_batch (g.D.Device.faults c.self.inside.opened.value) (g.D.Device.faults b.device) (g.D.Device.faults x.new.self.device) b.history x.new.self.history c.self.invariant.0 x.result (event.Enqueued c.args.batch) refl (let same = ap g.D.Device.faults x.ensures.device in omega (arith, same)) x.ensures.ok x.ensures.err,
      orderly_batch b.history x.new.self.history c.self.invariant.1 c.cleanups_stay_whole.ensures.goes_on x.result (event.Enqueued c.args.batch) (few (c.args.batch.index / 8) c.requires.low) tt x.ensures.ok x.ensures.err,
    )
