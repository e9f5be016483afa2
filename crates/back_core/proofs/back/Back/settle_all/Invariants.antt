use Rattle.std.proofs.Common.{◌≡◌, ◌+◌, ◌≤◌, false, cond}
use Rattle.back_core.specs.Run.{work_left}
use Rattle.back_core.specs.Steps.{HasGoneOn, IsIdle}
use Rattle.back_core.proofs.back.Back.settle_all.Given as goal

abbrev pub invariant-loop-going : goal.invariant-loop-going
invariant-loop-going g l = record {
  gone : HasGoneOn l.initial.self.history l.self.history;
  idle : l.going ≡ false → IsIdle l.self.history;
  later : g.D.Device.faults l.initial.self.device ≤ g.D.Device.faults l.self.device;
}

abbrev pub decreases-loop-going : goal.decreases-loop-going
decreases-loop-going g l = work_left l.self.history + cond l.going 1 0
