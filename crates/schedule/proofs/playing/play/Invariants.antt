use Rattle.std.proofs.Common.{◌≡◌, ◌≤◌, true, length}
use Rattle.schedule.specs.Moves.{schedule, rounds, ready_threads}
use Rattle.schedule.proofs.Lines.{lines_left}
use Rattle.schedule.proofs.Ways.{IsOnWay}
use Rattle.schedule.proofs.playing.play.Given as goal

-- some rounds were made, and as many are left as lines
abbrev pub invariant-loop-ready : goal.invariant-loop-ready
invariant-loop-ready g l = record {
  way : IsOnWay g.D.Device.journal l.initial.world l.world (schedule l.initial.world.threads l.seed)
      (rounds l.world.threads (lines_left l.world.threads l.world.done) l.world.done l.words);
  threads : l.world.threads ≡ l.initial.world.threads;
  running : l.world.running ≡ true;
  ready_is : l.ready ≡ length (ready_threads l.world.threads l.world.done);
  few : l.ready ≤ 16;
  later : g.D.Device.faults l.initial.world.back.device ≤ g.D.Device.faults l.world.back.device;
}

abbrev pub decreases-loop-ready : goal.decreases-loop-ready
decreases-loop-ready g l = lines_left l.world.threads l.world.done
