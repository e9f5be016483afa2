use Rattle.std.proofs.Common.{◌≡◌, length}
use Rattle.vk_device.specs.Running.{IsInOrder}
use Rattle.back_core.proofs.cleaning.abandon_all.Given as goal

abbrev pub invariant-loop-item : goal.invariant-loop-item
invariant-loop-item g l = record {
  same : g.D.Device.journal l.device ≡ g.D.Device.journal l.initial.device;
  in_order : IsInOrder (g.D.Device.journal l.device) (g.D.Device.bytes_of l.device);
  faults : g.D.Device.faults l.device ≡ g.D.Device.faults l.initial.device;
}

abbrev pub decreases-loop-item : goal.decreases-loop-item
decreases-loop-item g l = length l.garbage.items
