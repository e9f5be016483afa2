-- What a back keeps.
use Rattle.std.specs.Prelude.{◌≡◌, ℕ, ◌+◌, ◌*◌, ◌≤◌, ◌==◌, ◌&&◌, Bool, true, false, List, [], ◌∷◌, ◌++◌, length, fold, if◌then◌else◌}
use Rattle.vk_types.specs.declared.stops.Stop.{Stop}
use Rattle.vk_device.specs.declared.logged.Logged.{Logged}
use Rattle.vk_device.specs.Running.{IsInOrder}
use Rattle.garbage.specs.Steps.{GarbageAndRoom}
use Rattle.submit_queue.specs.declared.queue.SubmitQueue.{SubmitQueue}
use Rattle.submit_queue.specs.Kept.{Keeps}
use Rattle.back_core.specs.declared.back_event.BackEvent.{BackEvent}
use Rattle.back_core.specs.declared.back_event.BackEvent.TheVariants as event
use Rattle.back_core.specs.declared.stored.Stored.{Stored}
use Rattle.back_core.specs.declared.stored.Stored.TheVariants as stored
use Rattle.back_core.specs.declared.ending.Ending.{Ending}
use Rattle.back_core.specs.declared.ending.Ending.TheVariants.{Running, Closing, Stopped}
use Rattle.back_core.specs.History.{queue_history}
use Rattle.back_core.specs.Run.{garbage_of, journal_of, IsRun, work_left}

-- what contracts see of a back: its device, and what happened to it
pub record BackModel (D : Type 0) : Type 0 where
  pub device : D
  pub history : List BackEvent

-- the event that is stored
abbrev pub event_of : Stored → BackEvent
event_of (stored.Event event) = event
event_of (stored.Gave group id uses) = event.Gave group id uses.value

-- The ending

-- a back that was not stopped is closing
abbrev pub closed : Ending → Ending
closed Running = Closing
closed Closing = Closing
closed (Stopped stop) = Stopped stop

-- the first stop stays
abbrev pub stopped : Ending → Stop → Ending
stopped Running stop = Stopped stop
stopped Closing stop = Stopped stop
stopped (Stopped first) stop = Stopped first

abbrev pub ending_after : Ending → BackEvent → Ending
ending_after ending (event.Created group id kind) = ending
ending_after ending (event.Wrote group id at bytes) = ending
ending_after ending (event.Enqueued batch) = ending
ending_after ending event.Submitted = ending
ending_after ending (event.Ran batch node) = ending
ending_after ending (event.Retired serial) = ending
ending_after ending (event.Fetched group id at bytes) = ending
ending_after ending (event.Gave group id uses) = ending
ending_after ending (event.Abandoned group id) = ending
ending_after ending (event.Cleaned read destroyed) = ending
ending_after ending event.Closing = closed ending
ending_after ending (event.Stopped stop) = stopped ending stop

-- how a back ends: it runs, it is closing, or it was stopped
unfoldable pub ending_of : List BackEvent → Ending
ending_of history = fold ending_after Running history

abbrev pub is_running : Ending → Bool
is_running Running = true
is_running Closing = false
is_running (Stopped stop) = false

-- the history after a back was told to close: one that runs is closing
abbrev pub closed_by : List BackEvent → List BackEvent
closed_by history = if is_running (ending_of history) then history ++ event.Closing ∷ [] else history

-- whether a back was stopped
abbrev pub is_stopped : Ending → Bool
is_stopped Running = false
is_stopped Closing = false
is_stopped (Stopped stop) = true

-- the history after a stop was answered: the first one is told
abbrev pub stopped_by : List BackEvent → Stop → List BackEvent
stopped_by history stop = if is_stopped (ending_of history) then history else history ++ event.Stopped stop ∷ []

-- The room

-- these pairs without the first one of a group and an object
abbrev pub without : List (ℕ × ℕ) → ℕ → ℕ → List (ℕ × ℕ)
without [] group id = []
without (held ∷ more) group id = if (held.0 == group) && (held.1 == id) then more else held ∷ without more group id

abbrev pub holdings_after : List (ℕ × ℕ) → BackEvent → List (ℕ × ℕ)
holdings_after list (event.Created group id kind) = (group, id.0) ∷ list
holdings_after list (event.Wrote group id at bytes) = list
holdings_after list (event.Enqueued batch) = list
holdings_after list event.Submitted = list
holdings_after list (event.Ran batch node) = list
holdings_after list (event.Retired serial) = list
holdings_after list (event.Fetched group id at bytes) = list
holdings_after list (event.Gave group id uses) = without list group id.0
holdings_after list (event.Abandoned group id) = without list group id.0
holdings_after list (event.Cleaned read destroyed) = list
holdings_after list event.Closing = list
holdings_after list (event.Stopped stop) = list

-- the groups with the objects that they hold
unfoldable pub holdings_of : List BackEvent → List (ℕ × ℕ)
holdings_of history = fold holdings_after [] history

-- how often the ending may still change
abbrev pub endings_left : Ending → ℕ
endings_left Running = 2
endings_left Closing = 1
endings_left (Stopped stop) = 0

-- how many events may come that take no memory: the batches go on, objects are given and destroyed, the ending changes
abbrev pub owed : List BackEvent → ℕ
owed history = work_left history + 2 * length (holdings_of history) + length (garbage_of history) + endings_left (ending_of history)

-- What a back keeps of what happened to it, with room for so many events.
pub record Holds (history : List BackEvent) (journal : List Logged) (bytes_of : ℕ → List ℕ) (queue : SubmitQueue) (garbage : GarbageAndRoom) (ending : Ending) (promised : ℕ) : Type 0 where
  pub run : IsRun history
  pub logged : journal ≡ journal_of history
  pub in_order : IsInOrder journal bytes_of
  pub kept : Keeps (queue_history history) queue
  pub waiting : garbage.items ≡ garbage_of history
  pub ends : ending ≡ ending_of history
  pub room : owed history ≤ promised
  pub garbage_room : length (holdings_of history) ≤ garbage.room
