-- What the map from names has after one was set or taken out.
use Rattle.std.specs.Prelude.{ℕ, ◌≡◌, ◌≢◌, Option}
use Rattle.tables.specs.Table.{Entries, entry}
pub use Rattle.unused_names.specs.Names.{AreUnused, without_all}

-- one name has this, and each other name what it had
pub record Sets {V : Type 0} (old new : Entries V) (name : ℕ) (value : Option V) : Type 0 where
  pub here : entry name new ≡ value
  pub others : (other : ℕ) → other ≢ name → entry other new ≡ entry other old
