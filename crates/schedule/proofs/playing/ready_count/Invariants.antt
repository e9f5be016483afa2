use Rattle.std.proofs.Common.{◌≡◌, ◌≤◌, length}
use Rattle.schedule.proofs.Ready.{ready_to}
use Rattle.schedule.proofs.playing.ready_count.Given as goal

-- so many of the threads that were looked at are ready
abbrev pub invariant-loop-thread : goal.invariant-loop-thread
invariant-loop-thread g l = record {
  count_is : l.count ≡ length (ready_to l.world.threads l.world.done l.thread);
  few : l.count ≤ l.thread;
}
