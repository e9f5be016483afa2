-- The serial indexes of a share group.
use Rattle.std.specs.Prelude.{◌≡◌, ℕ, ◌+◌, ◌-◌, ◌*◌, ◌<◌, ◌≤◌, Bool, true, false, List, replicate, set, slice_index, slice_index_or}

-- the eight indexes of a group, by their places 0 to 7: which are live, and the last number of each
pub record IndexTable : Type 0 where
  pub group : ℕ
  pub live : List Bool
  pub last : List ℕ

-- a group's indexes before the first is taken
abbrev pub unused : ℕ → IndexTable
unused group = record { group = group; live = replicate 8 false; last = replicate 8 0 }

-- the indexes of group g are 8g to 8g + 7
abbrev pub IsOfGroup : IndexTable → ℕ → Type 0
IsOfGroup table index = (8 * table.group ≤ index) × (index < 8 * table.group + 8)

-- whether an index of the group is live
abbrev pub is_live : IndexTable → ℕ → Bool
is_live table index = slice_index_or table.live (index - 8 * table.group) false

-- the last number of an index of the group, 0 before its first
abbrev pub last_of : IndexTable → ℕ → ℕ
last_of table index = slice_index table.last (index - 8 * table.group)

-- the table with an index made live or not
abbrev pub with_live : IndexTable → ℕ → Bool → IndexTable
with_live table index live = record table { live = set table.live (index - 8 * table.group) live }

-- the table with another last number of an index
abbrev pub with_last : IndexTable → ℕ → ℕ → IndexTable
with_last table index number = record table { last = set table.last (index - 8 * table.group) number }

-- an index of the group that is not live, below which each index of the group is live
abbrev pub IsLowestFree : IndexTable → ℕ → Type 0
IsLowestFree table index = IsOfGroup table index × (is_live table index ≡ false)
    × ((i : ℕ) → IsOfGroup table i → i < index → is_live table i ≡ true)

-- each index of the group is live
abbrev pub AreAllLive : IndexTable → Type 0
AreAllLive table = (i : ℕ) → IsOfGroup table i → is_live table i ≡ true
