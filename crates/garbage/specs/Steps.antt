-- A garbage list as its two parts.
use Rattle.std.specs.Prelude.{◌≡◌, ℕ, ◌+◌, ◌<◌, ◌≤◌, min, List, ◌++◌, length, slice_index}
use Rattle.std.specs.VecDeque.{deque_len, deque_capacity}
use Rattle.garbage.specs.declared.entry.Garbage.{Garbage}
use Rattle.garbage.specs.declared.turning.Turning.{Turning}
use Rattle.garbage.specs.Collecting.{AreKept}

-- the entries that a cleanup passed, and then those that are to come
abbrev pub in_order : Turning → List Garbage
in_order t = t.passed.items ++ t.coming.items

-- how many entries stand in both parts
abbrev pub count : Turning → ℕ
count t = deque_len t.passed + deque_len t.coming

-- each part has room for all entries and so many more
abbrev pub HasRoom : Turning → ℕ → Type 0
HasRoom t more = (count t + more ≤ deque_capacity t.passed) × (count t + more ≤ deque_capacity t.coming)

-- the same entries in the same room, divided elsewhere
pub record OnlyTurns (old : Turning) (new : Turning) : Type 0 where
  pub order : in_order new ≡ in_order old
  pub count : count new ≡ count old
  pub capacity : min (deque_capacity new.passed) (deque_capacity new.coming) ≡ min (deque_capacity old.passed) (deque_capacity old.coming)

-- each number that was read is less than the next one of its index
abbrev pub AreLess : List ℕ → List ℕ → Type 0
AreLess read next = (i : ℕ) → i < 64 → slice_index read i < slice_index next i

-- numbers that are all less than the next ones cover no entry
abbrev pub WaitFor : List ℕ → List Garbage → Type 0
WaitFor next list = (read : List ℕ) → AreLess read next → AreKept read list 0 (length list)

-- the entries of a garbage list in order, and how many can be put without memory
pub record GarbageAndRoom : Type 0 where
  pub items : List Garbage
  pub room : ℕ
