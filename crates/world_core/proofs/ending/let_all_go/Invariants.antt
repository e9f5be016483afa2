use Rattle.std.proofs.Common.{◌≤◌, map}
use Rattle.std.specs.Vec.{vec_capacity}
use Rattle.trace_text.specs.Reading.{plan}
use Rattle.world_core.proofs.LettingGo.{Letting}
use Rattle.world_core.proofs.ending.let_all_go.Given as goal

abbrev pub invariant-loop-group : goal.invariant-loop-group
invariant-loop-group g l = record {
  letting : Letting (map plan l.threads) l.fn.fronts.items l.fronts.items l.fn.link.back.history l.link.back.history l.ended.items l.group;
  room : 8 ≤ vec_capacity l.ended;
  later : g.D.Device.faults l.fn.link.back.device ≤ g.D.Device.faults l.link.back.device;
}
