use Rattle.std.proofs.Common.{◌≡◌, ◌++◌, false, take, drop}
use Rattle.tables.specs.Table.{has, with_entry}
use Rattle.egl_contexts.specs.declared.facts.ContextState.{ContextState}
use Rattle.egl_contexts.proofs.places.place_for.Given as goal

abbrev pub invariant-loop-k : goal.invariant-loop-k
invariant-loop-k l =
    (has l.number (drop l.k l.places) ≡ false)
    × ((c : ContextState) → with_entry l.number c l.places ≡ take l.k l.places ++ with_entry l.number c (drop l.k l.places))
