use Rattle.std.proofs.Common.{◌≡◌, ◌≤◌, take, length}
use Rattle.egl_contexts.specs.Contexts.{destroyed}
use Rattle.egl_contexts.proofs.places.destroyed.Given as goal

abbrev pub invariant-loop-place : goal.invariant-loop-place
invariant-loop-place l = (l.kept.items ≡ destroyed l.number (take l.place-index l.places)) × (length l.kept.items ≤ l.place-index)
