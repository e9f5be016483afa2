use Rattle.std.proofs.Common.{◌≡◌, ◌≤◌, map, length}
use Rattle.std.specs.Vec.{vec_capacity}
use Rattle.trace_text.specs.Reading.{plan}
use Rattle.world_core.specs.World.{AreNew}
use Rattle.world_core.proofs.opening.open_fronts.Given as goal

abbrev pub invariant-loop-group : goal.invariant-loop-group
invariant-loop-group l = record {
  count : length l.fronts.items ≡ l.group;
  room : 8 ≤ vec_capacity l.fronts;
  new : AreNew (map plan l.threads) l.fronts.items;
}
