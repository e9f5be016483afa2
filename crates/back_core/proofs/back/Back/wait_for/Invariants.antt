use Rattle.std.proofs.Common.{◌≡◌, ◌≤◌}
use Rattle.back_core.specs.Answers.{Learns}
use Rattle.back_core.specs.History.{link_of, completed}
use Rattle.back_core.specs.Run.{work_left}
use Rattle.back_core.specs.Steps.{HasGoneOn}
use Rattle.back_core.proofs.back.Back.wait_for.Given as goal

abbrev pub invariant-loop-reached : goal.invariant-loop-reached
invariant-loop-reached g l = record {
  reached : l.reached ≡ completed l.self.history l.serial.index;
  gone : HasGoneOn l.initial.self.history l.self.history;
  learns : Learns (link_of l.initial.self.history l.group) (link_of l.self.history l.group);
  later : g.D.Device.faults l.initial.self.device ≤ g.D.Device.faults l.self.device;
}

abbrev pub decreases-loop-reached : goal.decreases-loop-reached
decreases-loop-reached g l = work_left l.self.history
