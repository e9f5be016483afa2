-- What the calls of a back leave of its history.
use Rattle.std.specs.Prelude.{◌≡◌, ℕ, ◌+◌, ◌&&◌, is_none, Option, ◌<◌, ◌≤◌, ◌/◌, ◌==◌, List, [], ◌∷◌, ◌++◌, length, take, All, Some, None, IsSome, slice_index, false, if◌then◌else◌}
use Rattle.vk_types.specs.declared.stops.Stop.{Stop}
use Rattle.vk_types.specs.declared.batches.Batch.{Batch}
use Rattle.vk_types.specs.declared.batches.QueueSerial.{QueueSerial}
use Rattle.vk_device.specs.declared.logged.Logged.{Logged}
use Rattle.vk_device.specs.declared.logged.Turned.{Turned}
use Rattle.vk_device.specs.declared.logged.Turned.TheVariants.{Ran, Idle}
use Rattle.vk_device.specs.Order.{AllRan}
use Rattle.resource_use.specs.Uses.{number_of}
use Rattle.garbage.specs.declared.entry.Garbage.{Garbage}
use Rattle.garbage.specs.Collecting.{collect}
use Rattle.submit_queue.specs.Histories as queue
use Rattle.back_core.specs.declared.back_event.BackEvent.{BackEvent}
use Rattle.back_core.specs.declared.back_event.BackEvent.TheVariants as event
use Rattle.back_core.specs.declared.ending.Step.{Step}
use Rattle.back_core.specs.declared.ending.Step.TheVariants.{Done, Nothing}
use Rattle.back_core.specs.Own as own
use Rattle.back_core.specs.Needs.{MayEnqueue, HasBatch}
use Rattle.back_core.specs.History.{queue_history, completed, link_of}
use Rattle.back_core.specs.Run.{garbage_of, without_covered, journal_of, destroys, covered_in, MayRetire, MayHappen, IsRun, IsLeftAlone, IsProgress, work_left}
use Rattle.back_core.specs.Back.{BackModel, stopped_by}

-- the first flushed batch was submitted, or none stands
abbrev pub Submits : List BackEvent → List BackEvent → Step → Type 0
Submits old new Done = (new ≡ old ++ event.Submitted ∷ []) × queue.MayAccept (queue_history old)
Submits old new Nothing = (new ≡ old) × (queue.first_flushed (queue_history old) ≡ None)

-- the device ran this item, or each accepted one ran before
abbrev pub Turns : List BackEvent → List BackEvent → Turned → Type 0
Turns old new (Ran batch node) = (new ≡ old ++ event.Ran batch node ∷ []) × queue.MayRun (queue_history old) batch node
Turns old new Idle = (new ≡ old) × AllRan (journal_of old)

-- the batch with this serial was retired
abbrev pub RetiresOne : List BackEvent → List BackEvent → QueueSerial → Type 0
RetiresOne old new serial = (new ≡ old ++ event.Retired serial ∷ []) × MayRetire old serial

-- No batch is flushed, no item is to run, and no batch can be retired. So each batch of a group is retired.
pub record IsIdle (history : List BackEvent) : Type 0 where
  pub all_retired : (g index number : ℕ) → HasBatch (link_of history g) index number → number ≤ completed history index
  pub none_flushed : queue.first_flushed (queue_history history) ≡ None
  pub all_ran : AllRan (journal_of history)
  pub none_to_retire : (place : ℕ) → queue.CanRetire (queue_history history) place → ⊥

-- one more event by which the batches went on, so that less is left to do
pub record MakesOne (old new : List BackEvent) : Type 0 where
  pub event : BackEvent
  pub is : new ≡ old ++ event ∷ []
  pub may : MayHappen old event
  pub progress : IsProgress event
  pub less : work_left new < work_left old

abbrev pub Proceeds : List BackEvent → List BackEvent → Step → Type 0
Proceeds old new Done = MakesOne old new
Proceeds old new Nothing = (new ≡ old) × IsIdle old

-- the history grew by events by which the batches went on, and by nothing else
pub record HasGoneOn (old new : List BackEvent) : Type 0 where
  pub more : List BackEvent
  pub is : new ≡ old ++ more
  pub progress : All IsProgress more

-- the same, and then a stop was answered
pub record HasStopped (old new : List BackEvent) (stop : Stop) : Type 0 where
  pub before : List BackEvent
  pub gone_on : HasGoneOn old before
  pub is : new ≡ stopped_by before stop

-- What a cleanup did: it destroyed so many of the covered objects, all of them or those before the one at which it was
-- stopped. One that did nothing is not told.
pub record CleansBy {D : Type 0} (journal : D → List Logged) (old new : BackModel D) (read : List ℕ) (count : ℕ) (stop : Option Stop) : Type 0 where
  pub destroyed : journal new.device ≡ journal old.device ++ destroys (take count (covered_in old.history read))
  pub left : garbage_of new.history ≡ without_covered read (count + 1) (garbage_of old.history)
  pub all : stop ≡ None → count ≡ length (covered_in old.history read)
  pub some : (s : Stop) → stop ≡ Some s → count < length (covered_in old.history read)
  pub history : new.history ≡ (if (count == 0) && is_none stop then old.history else old.history ++ event.Cleaned read count ∷ [])

-- the history after a cleanup that destroyed so many; one that destroyed nothing is not told
abbrev pub cleaned : List BackEvent → List ℕ → ℕ → List BackEvent
cleaned history read count = if count == 0 then history else history ++ event.Cleaned read count ∷ []

-- The covered garbage was destroyed, all of it, in order, and the rest stays in order.
pub record CleansUp {D : Type 0} (journal : D → List Logged) (old new : BackModel D) (read : List ℕ) (count : ℕ) : Type 0 where
  pub destroyed : journal new.device ≡ journal old.device ++ destroys (collect (garbage_of old.history) read).0
  pub left : garbage_of new.history ≡ (collect (garbage_of old.history) read).1
  pub counted : count ≡ length (collect (garbage_of old.history) read).0
  pub history : new.history ≡ cleaned old.history read count

-- A cleanup was stopped: the first ones were destroyed, and the next one is spent.
pub record CleansSome {D : Type 0} (journal : D → List Logged) (old new : BackModel D) (read : List ℕ) (stop : Stop) : Type 0 where
  pub count : ℕ
  pub fewer : count < length (covered_in old.history read)
  pub destroyed : journal new.device ≡ journal old.device ++ destroys (take count (covered_in old.history read))
  pub history : new.history ≡ stopped_by (old.history ++ event.Cleaned read count ∷ []) stop

-- a cleanup destroyed all that its numbers covered, so nothing stopped it
abbrev pub IsWhole : List BackEvent → BackEvent → Type 0
IsWhole before (event.Created group id kind) = Unit {0}
IsWhole before (event.Wrote group id at bytes) = Unit {0}
IsWhole before (event.Enqueued batch) = Unit {0}
IsWhole before event.Submitted = Unit {0}
IsWhole before (event.Ran batch node) = Unit {0}
IsWhole before (event.Retired serial) = Unit {0}
IsWhole before (event.Fetched group id at bytes) = Unit {0}
IsWhole before (event.Gave group id uses) = Unit {0}
IsWhole before (event.Abandoned group id) = Unit {0}
IsWhole before (event.Cleaned read destroyed) = destroyed ≡ length (covered_in before read)
IsWhole before event.Closing = Unit {0}
IsWhole before (event.Stopped stop) = Unit {0}

abbrev pub AreWhole : List BackEvent → List BackEvent → Type 0
AreWhole before [] = Unit {0}
AreWhole before (event ∷ events) = IsWhole before event × AreWhole (before ++ event ∷ []) events

-- each cleanup destroyed all that its numbers covered
unfoldable pub CleansWhole : List BackEvent → Type 0
CleansWhole history = AreWhole [] history

-- the completed numbers of all indexes
abbrev pub AreCompleted : List BackEvent → List ℕ → Type 0
AreCompleted history read = (index : ℕ) → index < 64 → slice_index read index ≡ completed history index

-- what these numbers cover was destroyed, all of it
pub record CleansAll {D : Type 0} (journal : D → List Logged) (old new : BackModel D) (count : ℕ) : Type 0 where
  pub read : List ℕ
  pub are : AreCompleted old.history read
  pub cleans : CleansUp journal old new read count

-- and the first ones of it, where a stop came
pub record CleansSomeOfAll {D : Type 0} (journal : D → List Logged) (old new : BackModel D) (stop : Stop) : Type 0 where
  pub read : List ℕ
  pub are : AreCompleted old.history read
  pub cleans : CleansSome journal old new read stop

-- each object that the group made was given away, with uses that are completed
pub record IsAllGiven (history : List BackEvent) (g : ℕ) : Type 0 where
  pub given : (id : ℕ) → IsSome ((link_of history g).kinds id) → IsSome ((link_of history g).given id)
  pub reached : (id : ℕ) (uses : List QueueSerial) → (link_of history g).given id ≡ Some uses → (index : ℕ) → number_of uses index ≤ completed history index

-- no batch that was or will be handed to the back touches what these numbers cover
pub record IsForgotten (history : List BackEvent) (read : List ℕ) (item : Garbage) : Type 0 where
  pub alone : IsLeftAlone history item.handle.0
  pub later : (more : List BackEvent) (batch : Batch) → IsRun (history ++ more) → batch.index < 64 →
      MayEnqueue (link_of (history ++ more) (batch.index / 8)) batch → own.batch_touches batch item.handle.0 ≡ false
