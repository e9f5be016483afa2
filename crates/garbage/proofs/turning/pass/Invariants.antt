use Rattle.std.proofs.Common.{◌≡◌, ◌≤◌}
use Rattle.std.specs.VecDeque.{deque_len}
use Rattle.garbage.specs.Steps.{OnlyTurns, HasRoom}
use Rattle.garbage.proofs.turning.pass.Given as goal

abbrev pub invariant-loop-turning : goal.invariant-loop-turning
invariant-loop-turning l = record {
  turns : OnlyTurns l.initial.turning l.turning;
  room : HasRoom l.turning 0;
  before : deque_len l.turning.passed ≤ l.limit;
}

abbrev pub decreases-loop-turning : goal.decreases-loop-turning
decreases-loop-turning l = deque_len l.turning.coming
