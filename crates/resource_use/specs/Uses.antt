-- The last uses of a resource: a list of serials with distinct indexes.
use Rattle.std.specs.Prelude.{◌≡◌, ◌≢◌, ℕ, ◌<◌, ◌≤◌, ◌==◌, max, cond, List, [], ◌∷◌, Bool, nat_le, slice_index}
use Rattle.std.specs.List.{All, list_all}
use Rattle.vk_types.specs.declared.batches.QueueSerial.{QueueSerial}

-- the number that the uses have for an index, 0 where it is absent
abbrev pub number_of : List QueueSerial → ℕ → ℕ
number_of [] index = 0
number_of (use_ ∷ uses) index = cond (use_.index == index) use_.number (number_of uses index)

-- the uses with one more, which replaces the number of its index where that is less
abbrev pub noted : List QueueSerial → QueueSerial → List QueueSerial
noted [] serial = serial ∷ []
noted (use_ ∷ uses) serial = cond (use_.index == serial.index)
    (record { index = use_.index; number = max use_.number serial.number } ∷ uses)
    (use_ ∷ noted uses serial)

-- the uses with each use of another list
abbrev pub merged : List QueueSerial → List QueueSerial → List QueueSerial
merged uses [] = uses
merged uses (other ∷ others) = merged (noted uses other) others

-- the number of each use is at most the number that was read for its index
abbrev pub Covers : List ℕ → List QueueSerial → Type 0
Covers read uses = All (λ use_. use_.number ≤ slice_index read use_.index) uses

-- the test of it
abbrev pub are_covered : List ℕ → List QueueSerial → Bool
are_covered read uses = list_all (λ use_. nat_le use_.number (slice_index read use_.index)) uses

-- no use has this index
abbrev pub IsAbsent : List QueueSerial → ℕ → Type 0
IsAbsent [] index = Unit {0}
IsAbsent (use_ ∷ uses) index = (use_.index ≢ index) × IsAbsent uses index

-- no two of the uses have one index
abbrev pub AreDistinct : List QueueSerial → Type 0
AreDistinct [] = Unit {0}
AreDistinct (use_ ∷ uses) = IsAbsent uses use_.index × AreDistinct uses
