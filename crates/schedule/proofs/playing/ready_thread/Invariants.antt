use Rattle.std.proofs.Common.{◌≡◌, ◌+◌, length}
use Rattle.schedule.proofs.Ready.{ready_to}
use Rattle.schedule.proofs.playing.ready_thread.Given as goal

-- so many ready threads are before the one that is looked for
abbrev pub invariant-loop-thread : goal.invariant-loop-thread
invariant-loop-thread g l = length (ready_to l.world.threads l.world.done l.thread) + l.left ≡ l.number
