-- What a submission queue keeps of a history.
use Rattle.std.specs.Prelude.{◌≡◌, ℕ, zero, suc, ◌+◌, ◌-◌, ◌<◌, ◌≤◌, ◌^◌, ◌==◌, not, min, cond, Bool, true, false, List, [], ◌∷◌, ◌++◌, length, map, take, slice_get, slice_index, Some}
use Rattle.vk_types.specs.declared.batches.Batch.{Batch}
use Rattle.vk_types.specs.declared.batches.QueueSerial.{QueueSerial}
use Rattle.submit_queue.specs.declared.pending.Pending.{Pending}
use Rattle.submit_queue.specs.declared.queue.SubmitQueue.{SubmitQueue}
use Rattle.submit_queue.specs.Histories.{Event, Retired, batches, accepted, has_run, is_retired, retired, item_count, last_number, CanRetire}

abbrev pub batch_of : Pending → Batch
batch_of one = one.batch

-- how many of so many items have not run
abbrev pub not_run : (ℕ → Bool) → ℕ → ℕ
not_run ran zero = 0
not_run ran (suc n) = cond (ran n) 0 1 + not_run ran n

-- each of these batches, from a place on, has the count of its items that have not run
abbrev pub LeftAre : (ℕ → ℕ → Bool) → ℕ → List Pending → Type 0
LeftAre ran place [] = Unit {0}
LeftAre ran place (one ∷ more) = (one.left ≡ not_run (ran place) (item_count one.batch)) × LeftAre ran (suc place) more

-- each number is one more than the last one of its index before
abbrev pub AreNumbered : List Batch → Type 0
AreNumbered list = (k : ℕ) (b : Batch) → slice_get list k ≡ Some b → b.number ≡ last_number (take k list) b.index + 1

-- one of these batches has this serial
pub record HasNumber (list : List Batch) (index number : ℕ) : Type 0 where
  pub place : ℕ
  pub batch : Batch
  pub at : slice_get list place ≡ Some batch
  pub of_index : batch.index ≡ index
  pub of_number : batch.number ≡ number

-- What a queue knows of a history: the batches that were not retired, each with the count of the items that it still has
-- to run; how many of them were accepted; how many others were retired, as far as a number goes; and for each index the
-- last number that was retired.
pub record IsKept (history : List Event) (pending : List Pending) (accepted_ retired_ : ℕ) (completed_ : List ℕ) : Type 0 where
  pub past : List Batch
  pub pushed : batches history ≡ past ++ map batch_of pending
  pub count : retired_ ≡ min (length past) (2 ^ 64 - 1)
  pub gone : (k : ℕ) (b : Batch) → slice_get past k ≡ Some b → is_retired history b.index b.number ≡ true
  pub no_other : (index number : ℕ) → is_retired history index number ≡ true → HasNumber past index number
  pub so_many : retired history ≡ length past
  pub taken : accepted history ≡ length past + accepted_
  pub within : accepted_ ≤ length pending
  pub done : (k i : ℕ) (b : Batch) → slice_get past k ≡ Some b → i < item_count b → has_run history k i ≡ true
  pub left : LeftAre (has_run history) (length past) pending
  pub not_early : (k i : ℕ) → accepted history ≤ k → has_run history k i ≡ false
  pub numbered : AreNumbered (batches history)
  pub one_queue : (k : ℕ) (b : Batch) → slice_get (batches history) k ≡ Some b → b.queue ≡ 0
  pub completed : (i : ℕ) → i < 64 → slice_index completed_ i ≡ last_number past i

-- the queue keeps a history
abbrev pub Keeps : List Event → SubmitQueue → Type 0
Keeps history queue = IsKept history queue.pending.items queue.accepted queue.retired queue.completed

-- a batch that can be retired was retired, and the serial is its own
pub record Retires (history : List Event) (serial : QueueSerial) (queue : SubmitQueue) : Type 0 where
  pub place : ℕ
  pub can : CanRetire history place
  pub index : serial.index ≡ can.batch.index
  pub number : serial.number ≡ can.batch.number
  pub keeps : Keeps (history ++ Retired serial ∷ []) queue

-- the list after an item ran of the batch at a place
abbrev pub lowered : List Pending → ℕ → List Pending
lowered [] place = []
lowered (one ∷ more) zero = record one { left = one.left - 1 } ∷ more
lowered (one ∷ more) (suc place) = one ∷ lowered more place

-- an item of one of these batches has not run
abbrev pub has_left : Pending → Bool
has_left one = not (one.left == 0)
