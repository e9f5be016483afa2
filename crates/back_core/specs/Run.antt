-- What the device did and what waits to be destroyed, as functions of what happened to the back, and what may happen next.
use Rattle.std.specs.Prelude.{◌≡◌, ℕ, zero, suc, ◌+◌, ◌-◌, ◌<◌, ◌≤◌, ◌/◌, ◌⊎◌, Bool, true, false, List, [], ◌∷◌, ◌++◌, length, map, take, fold, slice_get, slice_index, All, Option, Some, None, if◌then◌else◌}
use Rattle.std.specs.List.{filter}
use Rattle.vk_types.specs.declared.batches.Batch.{Batch}
use Rattle.vk_types.specs.declared.batches.QueueSerial.{QueueSerial}
use Rattle.vk_model.specs.Fitting.{IsKind, NodeFits}
use Rattle.vk_model.specs.Meaning.{IsSettled}
use Rattle.vk_device.specs.declared.logged.Logged.{Logged}
use Rattle.vk_device.specs.declared.logged.Logged.TheVariants as logged
use Rattle.vk_device.specs.Journal.{kind_of, creates}
use Rattle.vk_device.specs.Order.{log_of, order_of, IsOfOneQueue, FindItsLayouts}
use Rattle.resource_use.specs.Uses.{number_of, AreDistinct}
use Rattle.garbage.specs.declared.entry.Garbage.{Garbage}
use Rattle.garbage.specs.Collecting.{is_covered}
use Rattle.submit_queue.specs.Histories as queue
use Rattle.back_core.specs.declared.back_event.BackEvent.{BackEvent}
use Rattle.back_core.specs.declared.back_event.BackEvent.TheVariants.{Created, Wrote, Enqueued, Submitted, Ran, Retired, Fetched, Gave, Abandoned, Cleaned, Closing, Stopped}
use Rattle.back_core.specs.Own as own
use Rattle.back_core.specs.Link.{Link}
use Rattle.back_core.specs.Needs.{IsOfGroup, HostMay, MayEnqueue}
use Rattle.back_core.specs.History.{queue_history, completed, link_of}

-- Garbage

-- a list without its first entries that these numbers cover, so many of them
abbrev pub without_covered : List ℕ → ℕ → List Garbage → List Garbage
without_covered read zero list = list
without_covered read (suc count) [] = []
without_covered read (suc count) (item ∷ list) =
    if is_covered read item then without_covered read count list else item ∷ without_covered read (suc count) list

-- The garbage after an event. A cleanup took out what it destroyed, and the next covered entry, if there was one more.
abbrev pub garbage_after : List Garbage → BackEvent → List Garbage
garbage_after list (Created group id kind) = list
garbage_after list (Wrote group id at bytes) = list
garbage_after list (Enqueued batch) = list
garbage_after list Submitted = list
garbage_after list (Ran batch node) = list
garbage_after list (Retired serial) = list
garbage_after list (Fetched group id at bytes) = list
garbage_after list (Gave group id uses) = list ++ record { handle = id; uses = uses } ∷ []
garbage_after list (Abandoned group id) = list
garbage_after list (Cleaned read destroyed) = without_covered read (destroyed + 1) list
garbage_after list Closing = list
garbage_after list (Stopped stop) = list

-- what was given and waits to be destroyed, in order
unfoldable pub garbage_of : List BackEvent → List Garbage
garbage_of history = fold garbage_after [] history

-- what of it these numbers cover, in order
abbrev pub covered_in : List BackEvent → List ℕ → List Garbage
covered_in history read = filter (is_covered read) (garbage_of history)

-- The device's journal

abbrev pub submission : Option Batch → List Logged
submission None = []
submission (Some batch) = logged.Submitted batch ∷ []

-- the destroys of some garbage, in order
abbrev pub destroys : List Garbage → List Logged
destroys items = map (λ item. logged.Destroyed item.handle) items

-- what an event adds to the device's journal, after those before it
abbrev pub logged_by : List BackEvent → BackEvent → List Logged
logged_by before (Created group id kind) = logged.Created id kind ∷ []
logged_by before (Wrote group id at bytes) = logged.Wrote id at bytes ∷ []
logged_by before (Enqueued batch) = []
logged_by before Submitted = submission (queue.first_flushed (queue_history before))
logged_by before (Ran batch node) = logged.Ran batch node ∷ []
logged_by before (Retired serial) = []
logged_by before (Fetched group id at bytes) = logged.Fetched id at bytes ∷ []
logged_by before (Gave group id uses) = []
logged_by before (Abandoned group id) = []
logged_by before (Cleaned read destroyed) = destroys (take destroyed (covered_in before read))
logged_by before Closing = []
logged_by before (Stopped stop) = []

abbrev pub journal_from : List BackEvent → List BackEvent → List Logged
journal_from before [] = []
journal_from before (event ∷ events) = logged_by before event ++ journal_from (before ++ event ∷ []) events

-- the journal of the device after these events
unfoldable pub journal_of : List BackEvent → List Logged
journal_of history = journal_from [] history

-- What may happen

-- the batch at a place can be retired, and this is its serial
pub record MayRetire (history : List BackEvent) (serial : QueueSerial) : Type 0 where
  pub place : ℕ
  pub can : queue.CanRetire (queue_history history) place
  pub index : serial.index ≡ can.batch.index
  pub number : serial.number ≡ can.batch.number

-- each number that was read is at most the completed one
abbrev pub WereRead : List BackEvent → List ℕ → Type 0
WereRead history read = (index : ℕ) → index < 64 → slice_index read index ≤ completed history index

-- An object may be given with these uses, as a call of its link asks, and no two of the uses have one index.
pub record IsGiven (s : Link) (id : ℕ) (uses : List QueueSerial) : Type 0 where
  pub held : s.held id ≡ true
  pub exact : (index : ℕ) → (number_of uses index ≡ own.last_use s.mine index id) ⊎ (IsOfGroup s.group index × (number_of uses index ≡ own.next_number s.mine index))
  pub distinct : AreDistinct uses

-- An event that may come after these. The calls of a group are those that its link allows.
abbrev pub MayHappen : List BackEvent → BackEvent → Type 0
MayHappen before (Created group id kind) = (id.0 ≡ creates (journal_of before)) × IsKind kind
MayHappen before (Wrote group id at bytes) = HostMay (link_of before group) id.0 at (length bytes)
MayHappen before (Enqueued batch) = (batch.index < 64) × MayEnqueue (link_of before (batch.index / 8)) batch
MayHappen before Submitted = queue.MayAccept (queue_history before)
MayHappen before (Ran batch node) = queue.MayRun (queue_history before) batch node
MayHappen before (Retired serial) = MayRetire before serial
MayHappen before (Fetched group id at bytes) =
    HostMay (link_of before group) id.0 at (length bytes) × own.IsReadable (own.log_of (link_of before group).mine) id.0 at (length bytes)
MayHappen before (Gave group id uses) = IsGiven (link_of before group) id.0 uses
MayHappen before (Abandoned group id) = (link_of before group).held id.0 ≡ true
MayHappen before (Cleaned read destroyed) = WereRead before read × (destroyed ≤ length (covered_in before read))
MayHappen before Closing = Unit {0}
MayHappen before (Stopped stop) = Unit {0}

abbrev pub MayHappenAll : List BackEvent → List BackEvent → Type 0
MayHappenAll before [] = Unit {0}
MayHappenAll before (event ∷ events) = MayHappen before event × MayHappenAll (before ++ event ∷ []) events

-- each of these events may come after those before it
unfoldable pub IsRun : List BackEvent → Type 0
IsRun history = MayHappenAll [] history

-- What the device needs

-- a batch that a device with this journal may accept
pub record IsAcceptable (journal : List Logged) (batch : Batch) : Type 0 where
  pub queue : IsOfOneQueue batch
  pub short : length batch.nodes < 4294967296
  pub fits : All (NodeFits (kind_of journal)) batch.nodes
  pub layouts : FindItsLayouts (log_of journal) batch

-- an object that no accepted batch touches that was not executed, and no other batch either
pub record IsLeftAlone (history : List BackEvent) (id : ℕ) : Type 0 where
  pub settled : IsSettled (log_of (journal_of history)) (order_of (journal_of history)) id
  pub flushed : (k : ℕ) (batch : Batch) → queue.accepted (queue_history history) ≤ k →
      slice_get (queue.batches (queue_history history)) k ≡ Some batch → own.batch_touches batch id ≡ false

-- How much is left to do

-- how many items of a batch have not run
abbrev pub items_left : (ℕ → Bool) → ℕ → ℕ
items_left ran zero = 0
items_left ran (suc count) = (if ran count then 0 else 1) + items_left ran count

abbrev pub all_items_left : (ℕ → ℕ → Bool) → ℕ → List Batch → ℕ
all_items_left ran place [] = 0
all_items_left ran place (batch ∷ batches) = items_left (ran place) (queue.item_count batch) + all_items_left ran (suc place) batches

-- how many batches are to be accepted, how many to be retired, and how many items are to run
abbrev pub work_in : List queue.Event → ℕ
work_in history = (length (queue.batches history) - queue.accepted history) + (length (queue.batches history) - queue.retired history)
    + all_items_left (queue.has_run history) 0 (queue.batches history)

abbrev pub work_left : List BackEvent → ℕ
work_left history = work_in (queue_history history)

-- the back or the device goes on with the batches
abbrev pub IsProgress : BackEvent → Type 0
IsProgress (Created group id kind) = ⊥
IsProgress (Wrote group id at bytes) = ⊥
IsProgress (Enqueued batch) = ⊥
IsProgress Submitted = Unit {0}
IsProgress (Ran batch node) = Unit {0}
IsProgress (Retired serial) = Unit {0}
IsProgress (Fetched group id at bytes) = ⊥
IsProgress (Gave group id uses) = ⊥
IsProgress (Abandoned group id) = ⊥
IsProgress (Cleaned read destroyed) = ⊥
IsProgress Closing = ⊥
IsProgress (Stopped stop) = ⊥
