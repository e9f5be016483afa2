-- Which names are not in use.
use Rattle.std.specs.Prelude.{ℕ, ◌≡◌, ◌<◌, ◌&&◌, Bool, not, nat_lt}
use Rattle.tables.specs.Table.{has}
use Rattle.unused_names.specs.declared.UnusedNames.{UnusedNames}

-- The gaps are exactly the names from 1 on below the top that are not in use.
pub record Fits (unused : UnusedNames) (used : ℕ → Bool) : Type 0 where
  pub start : 0 < unused.top
  pub gaps : (n : ℕ) → has n unused.gaps ≡ (nat_lt 0 n && (nat_lt n unused.top && not (used n)))
