use Rattle.std.proofs.Common.{◌≡◌, take}
use Rattle.gl_model.specs.GroupState.{opening_threads}
use Rattle.gl_model.proofs.opening.opening_threads.Given as goal

abbrev pub invariant-loop-thread : goal.invariant-loop-thread
invariant-loop-thread l = l.table ≡ opening_threads (take l.thread-index l.threads)
