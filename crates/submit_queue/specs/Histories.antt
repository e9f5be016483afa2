-- What happens to the batches of a device: they are pushed, accepted, run and retired.
use Rattle.std.specs.Prelude.{◌≡◌, ℕ, zero, suc, if◌then◌else◌, ◌+◌, ◌<◌, ◌≤◌, ◌==◌, ◌&&◌, cond, Bool, true, false, List, [], ◌∷◌, length, fold, slice_get, Option, Some}
use Rattle.std.specs.List.{flat_map, count_by, list_any}
use Rattle.vk_types.specs.declared.batches.Batch.{Batch}
use Rattle.vk_types.specs.declared.batches.QueueSerial.{QueueSerial}

-- An event. A run names a batch by its place in the order of the pushes, and an item by its place in the batch, both from
-- 0. A retirement names the batch by its serial.
pub data Event : Type 0 where
  Pushed : Batch → Event
  Accepted : Event
  Ran : (batch item : ℕ) → Event
  Retired : QueueSerial → Event

-- the batch that an event pushes
abbrev pub pushed_by : Event → List Batch
pushed_by (Pushed batch) = batch ∷ []
pushed_by Accepted = []
pushed_by (Ran _ _) = []
pushed_by (Retired _) = []

-- the batches of a history in the order of the pushes
abbrev pub batches : List Event → List Batch
batches history = flat_map pushed_by history

-- the device accepts the first batch that it has not accepted
abbrev pub is_accept : Event → Bool
is_accept (Pushed _) = false
is_accept Accepted = true
is_accept (Ran _ _) = false
is_accept (Retired _) = false

-- how many batches were accepted
abbrev pub accepted : List Event → ℕ
accepted history = count_by is_accept history

-- whether an event is the run of this item of this batch
abbrev pub is_run : ℕ → ℕ → Event → Bool
is_run batch item (Pushed _) = false
is_run batch item Accepted = false
is_run batch item (Ran b i) = (b == batch) && (i == item)
is_run batch item (Retired _) = false

-- whether an item of a batch ran
abbrev pub has_run : List Event → ℕ → ℕ → Bool
has_run history batch item = list_any (is_run batch item) history

-- whether an event is the retirement of the batch with this number of the index
abbrev pub is_retirement : ℕ → ℕ → Event → Bool
is_retirement index number (Pushed _) = false
is_retirement index number Accepted = false
is_retirement index number (Ran _ _) = false
is_retirement index number (Retired serial) = (serial.index == index) && (serial.number == number)

-- whether the index's batch with this number was retired
abbrev pub is_retired : List Event → ℕ → ℕ → Bool
is_retired history index number = list_any (is_retirement index number) history

-- the items of a batch are its waits, then its nodes, then its signals
abbrev pub item_count : Batch → ℕ
item_count batch = length batch.waits + length batch.nodes + length batch.signals

-- the number of the last of these batches that has the index, or 0
abbrev pub last_number : List Batch → ℕ → ℕ
last_number list index = fold (λ n (b : Batch). cond (b.index == index) b.number n) 0 list

-- the first batch that was not accepted
abbrev pub first_flushed : List Event → Option Batch
first_flushed history = slice_get (batches history) (accepted history)

-- the numbers of an index rise by one from 1 on, and there is one queue
pub record MayPush (history : List Event) (batch : Batch) : Type 0 where
  pub items : item_count batch < 4294967296
  pub number : batch.number ≡ last_number (batches history) batch.index + 1
  pub one_queue : batch.queue ≡ 0

-- a batch stands that was not accepted
abbrev pub MayAccept : List Event → Type 0
MayAccept history = accepted history < length (batches history)

-- an item of an accepted batch that has not run
pub record MayRun (history : List Event) (batch item : ℕ) : Type 0 where
  pub accepted_before : batch < accepted history
  pub what : Batch
  pub at : slice_get (batches history) batch ≡ Some what
  pub within : item < item_count what
  pub not_before : has_run history batch item ≡ false

-- A batch can be retired where it was accepted, all its items ran, and each earlier batch of its queue was retired.
pub record CanRetire (history : List Event) (place : ℕ) : Type 0 where
  pub batch : Batch
  pub at : slice_get (batches history) place ≡ Some batch
  pub accepted_before : place < accepted history
  pub executed : (item : ℕ) → item < item_count batch → has_run history place item ≡ true
  pub in_order : (k : ℕ) (earlier : Batch) → k < place → slice_get (batches history) k ≡ Some earlier → earlier.queue ≡ batch.queue → is_retired history earlier.index earlier.number ≡ true
  pub not_before : is_retired history batch.index batch.number ≡ false

-- the index has a batch with this number, and it was retired
pub record HasRetired (history : List Event) (index number : ℕ) : Type 0 where
  pub place : ℕ
  pub batch : Batch
  pub at : slice_get (batches history) place ≡ Some batch
  pub of_index : batch.index ≡ index
  pub of_number : batch.number ≡ number
  pub retired : is_retired history index number ≡ true

-- the greatest number such that the index has a batch with each number from 1 to it, and all these were retired
pub record IsCompleted (history : List Event) (index number : ℕ) : Type 0 where
  pub each : (n : ℕ) → 1 ≤ n → n ≤ number → HasRetired history index n
  pub no_more : HasRetired history index (number + 1) → ⊥

-- so far a test holds without a gap, from a number on and no more than so many numbers
abbrev pub reach : (ℕ → Bool) → ℕ → ℕ → ℕ
reach test n zero = n
reach test n (suc more) = if test (suc n) then reach test (suc n) more else n

-- whether an event retires a batch
abbrev pub is_retire : Event → Bool
is_retire (Pushed _) = false
is_retire Accepted = false
is_retire (Ran _ _) = false
is_retire (Retired _) = true

-- how many batches were retired
abbrev pub retired : List Event → ℕ
retired history = count_by is_retire history

-- the completed number of an index, which is no more than the batches that were retired
abbrev pub completed : List Event → ℕ → ℕ
completed history index = reach (is_retired history index) 0 (retired history)

-- a batch that was not retired
pub record IsLeft (history : List Event) (place : ℕ) : Type 0 where
  pub batch : Batch
  pub at : slice_get (batches history) place ≡ Some batch
  pub kept : is_retired history batch.index batch.number ≡ false
