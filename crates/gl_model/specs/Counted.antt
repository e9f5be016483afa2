-- A table beside the sum of the bytes of its values.
use Rattle.std.specs.Prelude.{ℕ, ◌^◌, ◌<◌, ◌≡◌}
use Rattle.std.specs.List.{All, sum_by}
use Rattle.std.specs.Map.{keys_of, values_of}
use Rattle.tables.specs.Table.{Entries, IsOrdered}

-- the bytes of all values of a table
abbrev pub total_bytes : {V : Type 0} → (V → ℕ) → Entries V → ℕ
total_bytes bytes table = sum_by (λ e. bytes e.1) table

-- The sum is that of the bytes of the values. There are at most 2^32 of them, since keys have 32 bits and differ, and none has
-- 2^80 bytes: so a sum is at most 2^112.
pub record IsCounted {V : Type 0} (bytes : V → ℕ) (table : Entries V) (sum : ℕ) : Type 0 where
  pub total : sum ≡ total_bytes bytes table
  pub ordered : IsOrdered table
  pub keys : All (λ k. k < 2 ^ 32) (keys_of table)
  pub bounded : All (λ v. bytes v < 2 ^ 80) (values_of table)
