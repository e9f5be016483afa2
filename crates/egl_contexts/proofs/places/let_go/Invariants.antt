use Rattle.std.proofs.Common.{◌≡◌, ◌≤◌, take, length}
use Rattle.egl_contexts.specs.Contexts.{let_go}
use Rattle.egl_contexts.proofs.places.let_go.Given as goal

abbrev pub invariant-loop-place : goal.invariant-loop-place
invariant-loop-place l = (l.kept.items ≡ let_go l.thread (take l.place-index l.places)) × (length l.kept.items ≤ l.place-index)
