use Rattle.std.proofs.Common.{◌≡◌, take}
use Rattle.egl_contexts.specs.Contexts.{opening_threads}
use Rattle.egl_contexts.proofs.opening_threads.Given as goal

abbrev pub invariant-loop-thread : goal.invariant-loop-thread
invariant-loop-thread l = l.table ≡ opening_threads (take l.thread-index l.threads)
