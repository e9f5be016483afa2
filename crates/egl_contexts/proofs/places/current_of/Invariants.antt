use Rattle.std.proofs.Common.{◌≡◌, drop}
use Rattle.egl_contexts.specs.Contexts.{current_entry}
use Rattle.egl_contexts.proofs.places.current_of.Given as goal

abbrev pub invariant-loop-place : goal.invariant-loop-place
invariant-loop-place l = current_entry l.thread l.places ≡ current_entry l.thread (drop l.place-index l.places)
