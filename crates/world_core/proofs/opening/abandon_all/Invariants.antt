use Rattle.std.proofs.Common.{◌≤◌, length}
use Rattle.world_core.specs.Inside.{OwnTheirs}
use Rattle.world_core.proofs.opening.abandon_all.Given as goal

abbrev pub invariant-loop-front : goal.invariant-loop-front
invariant-loop-front g l = record {
  low : length l.fronts.items ≤ 8;
  owns : OwnTheirs l.fronts.items l.link.back.history;
  later : g.D.Device.faults l.fn.link.back.device ≤ g.D.Device.faults l.link.back.device;
}

abbrev pub decreases-loop-front : goal.decreases-loop-front
decreases-loop-front g l = length l.fronts.items
