-- Names that are put into use, and out of it.
use Rattle.std.specs.Prelude.{ℕ, ◌==◌, ◌≡◌, false, List, [], ◌∷◌}
use Rattle.std.specs.List.{list_any}
use Rattle.tables.specs.Table.{Entries, has, without}

-- names that differ, and that a table does not have
abbrev pub AreUnused : {V : Type 0} → List ℕ → Entries V → Type 0
AreUnused [] table = Unit {0}
AreUnused (name ∷ rest) table = (has name table ≡ false) × (list_any (λ other. name == other) rest ≡ false) × AreUnused rest table

-- a table without some names
abbrev pub without_all : {V : Type 0} → List ℕ → Entries V → Entries V
without_all [] table = table
without_all (name ∷ rest) table = without_all rest (without name table)
