-- What a cleanup takes out of a garbage list.
use Rattle.std.specs.Prelude.{◌≡◌, ℕ, ◌≤◌, Bool, true, false, not, List, [], ◌∷◌, length}
use Rattle.std.specs.List.{filter, insert, AllWithin}
use Rattle.garbage.specs.declared.entry.Garbage.{Garbage}
use Rattle.resource_use.specs.Uses.{are_covered}

-- whether the numbers that were read cover an entry's uses
abbrev pub is_covered : List ℕ → Garbage → Bool
is_covered read item = are_covered read item.uses

-- the covered entries in order, and the others in order
abbrev pub collect : List Garbage → List ℕ → List Garbage × List Garbage
collect list read = (filter (is_covered read) list, filter (λ item. not (is_covered read item)) list)

-- no entry from a place on, and before another, is covered
abbrev pub AreKept : List ℕ → List Garbage → ℕ → ℕ → Type 0
AreKept read list from end = AllWithin (λ item. is_covered read item ≡ false) list from end

-- the first covered entry at or after `from` was taken out of its place, and the others stay in order
pub record TakesOut (old : List Garbage) (new : List Garbage) (from : ℕ) (read : List ℕ) (place : ℕ) (item : Garbage) : Type 0 where
  pub taken : old ≡ insert new place item
  pub within : place ≤ length new
  pub after : from ≤ place
  pub covered : is_covered read item ≡ true
  pub first : AreKept read new from place

-- taking out from a place on until no entry is covered there: what was taken, in order, and what is left
abbrev pub CleansUp : List ℕ → List Garbage → ℕ → List Garbage → List Garbage → Type 0
CleansUp read list from [] left = (left ≡ list) × AreKept read list from (length list)
CleansUp read list from (item ∷ taken) left =
    (new : List Garbage) × (place : ℕ) × TakesOut list new from read place item × CleansUp read new place taken left
