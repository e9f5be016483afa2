use Rattle.back_core.proofs.Losses.{loss_opening}
use Rattle.shared_gpu.proofs.Ordered.{orderly_new}
use Rattle.shared_gpu.proofs.shared.Shared.new.Goals as goal

pub invariant_of-result : goal.invariant_of-result
invariant_of-result g c = rw (c.of-opened.ensures, c.in-Ok.ensures.ok) (loss_opening (g.D.Device.faults c.args.device), orderly_new c.cleanups_stay_whole.ensures.starts)
