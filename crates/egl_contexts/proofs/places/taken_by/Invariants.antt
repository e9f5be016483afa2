use Rattle.std.proofs.Common.{◌≡◌, ◌≤◌, take, length}
use Rattle.egl_contexts.specs.Contexts.{taken_by}
use Rattle.egl_contexts.proofs.places.taken_by.Given as goal

abbrev pub invariant-loop-place : goal.invariant-loop-place
invariant-loop-place l = (l.kept.items ≡ taken_by l.thread l.number (take l.place-index l.places)) × (length l.kept.items ≤ l.place-index)
