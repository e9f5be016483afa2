use Rattle.std.proofs.Common.{◌≤◌, length}
use Rattle.vk_device.specs.Running.{IsInOrder}
use Rattle.back_core.proofs.TakenOut.{Cleaning}
use Rattle.back_core.proofs.cleaning.destroy_covered.Given as goal

abbrev pub invariant-loop-place : goal.invariant-loop-place
invariant-loop-place g l = record {
  gone : Cleaning (g.D.Device.journal l.initial.device) (g.D.Device.journal l.device) l.initial.garbage.items l.garbage.items l.read l.count l.from;
  in_order : IsInOrder (g.D.Device.journal l.device) (g.D.Device.bytes_of l.device);
  room : l.initial.garbage.room ≤ l.garbage.room;
  later : g.D.Device.faults l.initial.device ≤ g.D.Device.faults l.device;
}

abbrev pub decreases-loop-place : goal.decreases-loop-place
decreases-loop-place g l = length l.garbage.items
