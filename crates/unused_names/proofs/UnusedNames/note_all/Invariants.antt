use Rattle.std.proofs.Common.{ℕ, Bool, ◌||◌, ◌==◌, take}
use Rattle.std.specs.List.{list_any}
use Rattle.unused_names.specs.Unused.{Fits}
use Rattle.unused_names.proofs.UnusedNames.note_all.Given as goal

abbrev pub invariant-loop-name : goal.invariant-loop-name
invariant-loop-name l = (used : ℕ → Bool) → Fits l.initial.self used → Fits l.self (λ n. used n || list_any (λ name. n == name) (take l.name-index l.found))
