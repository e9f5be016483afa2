-- What a table ends as after one of its values was lent.
use Rattle.std.specs.Prelude.{ℕ, Option}
use Rattle.std.specs.Borrow.{LendsIf, Fml, RattleType, MutBor}
use Rattle.tables.specs.Table.{Entries, with_value}
use Rattle.tables.specs.contracts.Table.{the_row}

-- the table has under the key the last value written through r, and is unchanged if r is None
abbrev pub lends_value : (V : RattleType) → MutBor (Entries V.Denot) → ℕ → Option (MutBor V.Denot) → Fml
lends_value V t key r = LendsIf (the_row V) V t r (with_value key t.now) t.now
