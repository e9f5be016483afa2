use Rattle.std.proofs.Common.{◌≤◌}
use Rattle.world_core.proofs.ClosingAll.{Closing}
use Rattle.world_core.proofs.closing.close_fronts.Given as goal

abbrev pub invariant-loop-group : goal.invariant-loop-group
invariant-loop-group g l = record {
  closing : Closing l.fn.fronts.items l.fronts.items l.fn.link.back.history l.link.back.history l.group;
  later : g.D.Device.faults l.fn.link.back.device ≤ g.D.Device.faults l.link.back.device;
}
