use Rattle.std.proofs.Common.{◌≤◌, length}
use Rattle.std.specs.VecDeque.{deque_len}
use Rattle.garbage.specs.Collecting.{AreKept}
use Rattle.garbage.specs.Steps.{OnlyTurns, HasRoom, WaitFor}
use Rattle.garbage.proofs.turning.next_covered.Given as goal

abbrev pub invariant-loop-item : goal.invariant-loop-item
invariant-loop-item l = record {
  turns : OnlyTurns l.initial.turning l.turning;
  room : HasRoom l.turning 0;
  after : length l.initial.turning.passed.items ≤ length l.turning.passed.items;
  waits : WaitFor l.turning.next l.turning.passed.items;
  kept : AreKept l.read l.turning.passed.items (length l.initial.turning.passed.items) (length l.turning.passed.items);
}

abbrev pub decreases-loop-item : goal.decreases-loop-item
decreases-loop-item l = deque_len l.turning.coming
