use Rattle.std.proofs.Common.{◌≡◌, drop}
use Rattle.tables.specs.Table.{entry}
use Rattle.egl_contexts.proofs.places.context_of.Given as goal

abbrev pub invariant-loop-n : goal.invariant-loop-n
invariant-loop-n l = entry l.number l.places ≡ entry l.number (drop l.n-index l.places)
