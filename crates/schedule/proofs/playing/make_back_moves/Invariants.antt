use Rattle.std.proofs.Common.{◌≤◌, ◌-◌, ◌%◌}
use Rattle.world_core.specs.Steps.{IsAtBack}
use Rattle.schedule.specs.Moves.{back_moves, back_moves_from}
use Rattle.schedule.proofs.Ways.{IsOnWay}
use Rattle.schedule.proofs.playing.make_back_moves.Given as goal

-- the first k steps were made
abbrev pub invariant-loop-k : goal.invariant-loop-k
invariant-loop-k g l = record {
  way : IsOnWay g.D.Device.journal l.initial.world l.world (back_moves l.word) (back_moves_from l.word l.k (l.word % 4 - l.k));
  at_back : IsAtBack l.initial.world l.world;
  later : g.D.Device.faults l.initial.world.back.device ≤ g.D.Device.faults l.world.back.device;
}
