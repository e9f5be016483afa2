-- Slots below a room, counted over halves of halves.
use Rattle.std.specs.Prelude.{◌≡◌, ℕ, zero, suc, ◌+◌, ◌-◌, ◌/◌, ◌<◌, ◌==◌, nat_lt, List, [], ◌∷◌, ◌++◌, length, slice_index, if◌then◌else◌}
use Rattle.vk_ready.specs.Slots.{Has, Rises}

-- slots in rising order, and the number below which each one finds room
pub record SlotsAndRoom : Type 0 where
  pub slots : List ℕ
  pub room : ℕ

-- how many numbers of a list are below a bound
abbrev pub count_below : List ℕ → ℕ → ℕ
count_below [] bound = 0
count_below (n ∷ ns) bound = if nat_lt n bound then suc (count_below ns bound) else count_below ns bound

-- where the first half of a part ends and the second begins
abbrev pub middle : (low high : ℕ) → ℕ
middle low high = low + (high - low) / 2

-- the number at the middle of a part
abbrev pub first_half : (halves : List ℕ) (low high : ℕ) → ℕ
first_half halves low high = slice_index halves (middle low high)

-- The number at the middle of a part is how many slots lie in its first half; and so in both halves, if they are halved so often.
abbrev pub AreHalved : (halves slots : List ℕ) (often low high : ℕ) → Type 0
AreHalved halves slots zero low high = Unit {0}
AreHalved halves slots (suc often) low high = 1 < high - low
    → (count_below slots low + first_half halves low high ≡ count_below slots (middle low high))
    × AreHalved halves slots often low (middle low high) × AreHalved halves slots often (middle low high) high

-- the same however often they are halved
abbrev pub AreCounted : (halves slots : List ℕ) (low high : ℕ) → Type 0
AreCounted halves slots low high = (often : ℕ) → AreHalved halves slots often low high

-- the slots of a part, of which there are so many
abbrev pub slots_within : (halves : List ℕ) (often low high count : ℕ) → List ℕ
slots_within halves zero low high count = []
slots_within halves (suc often) low high count = if nat_lt 1 (high - low)
    then slots_within halves often low (middle low high) (first_half halves low high)
    ++ slots_within halves often (middle low high) high (count - first_half halves low high)
    else (if count == 0 then [] else low ∷ [])

-- all slots, of which there are so many
abbrev pub slots_of : (halves : List ℕ) (count : ℕ) → List ℕ
slots_of halves count = slots_within halves (length halves) 0 (length halves) count

-- the slots rise, find room, and are counted in each part
pub record AreRanked (halves : List ℕ) (count : ℕ) (slots : List ℕ) : Type 0 where
  pub rises : Rises slots
  pub inside : (k : ℕ) → Has slots k → k < length halves
  pub size : count ≡ length slots
  pub counted : AreCounted halves slots 0 (length halves)
