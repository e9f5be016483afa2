-- What a share group sees, as a function of what happened to the back.
use Rattle.std.specs.Prelude.{◌≢◌, ℕ, ◌/◌, ◌==◌, not, Bool, true, false, List, [], ◌∷◌, fold, Some, None, if◌then◌else◌}
use Rattle.std.specs.List.{flat_map, filter}
use Rattle.submit_queue.specs.Histories as queue
use Rattle.back_core.specs.declared.back_event.BackEvent.{BackEvent}
use Rattle.back_core.specs.declared.back_event.BackEvent.TheVariants.{Created, Wrote, Enqueued, Submitted, Ran, Retired, Fetched, Gave, Abandoned, Cleaned, Closing, Stopped}
use Rattle.back_core.specs.Link.{Link, created, wrote, enqueued, fetched, gave, abandoned}

-- the event of the submission queue
abbrev pub queue_event : BackEvent → List queue.Event
queue_event (Created group id kind) = []
queue_event (Wrote group id at bytes) = []
queue_event (Enqueued batch) = queue.Pushed batch ∷ []
queue_event Submitted = queue.Accepted ∷ []
queue_event (Ran batch node) = queue.Ran batch node ∷ []
queue_event (Retired serial) = queue.Retired serial ∷ []
queue_event (Fetched group id at bytes) = []
queue_event (Gave group id uses) = []
queue_event (Abandoned group id) = []
queue_event (Cleaned read destroyed) = []
queue_event Closing = []
queue_event (Stopped stop) = []

-- the history of the submission queue
abbrev pub queue_history : List BackEvent → List queue.Event
queue_history history = flat_map queue_event history

-- the completed number of an index
abbrev pub completed : List BackEvent → ℕ → ℕ
completed history index = queue.completed (queue_history history) index

-- what a group sees before the back did anything; it knows no number, and is told none
abbrev pub opening : ℕ → Link
opening group = record {
  group = group;
  mine = [];
  done = λ index. 0;
  kinds = λ id. None;
  held = λ id. false;
  given = λ id. None;
  now = None;
  asked = None;
}

-- what a group sees after an event that is its own
abbrev pub if_own : Link → ℕ → Link → Link
if_own link group new = if group == link.group then new else link

abbrev pub link_after : Link → BackEvent → Link
link_after link (Created group id kind) = if_own link group (created link id.0 kind)
link_after link (Wrote group id at bytes) = if_own link group (wrote link id.0 at bytes)
link_after link (Enqueued batch) = if_own link (batch.index / 8) (enqueued link batch)
link_after link Submitted = link
link_after link (Ran batch node) = link
link_after link (Retired serial) = link
link_after link (Fetched group id at bytes) = if_own link group (fetched link id.0 at bytes)
link_after link (Gave group id uses) = if_own link group (gave link id.0 uses)
link_after link (Abandoned group id) = if_own link group (abandoned link id.0)
link_after link (Cleaned read destroyed) = link
link_after link Closing = link
link_after link (Stopped stop) = link

-- the group's own part of a history
abbrev pub own_part : List BackEvent → ℕ → Link
own_part history group = fold link_after (opening group) history

-- what a group sees that reaches the back directly: it is told the completed numbers, and knows them
abbrev pub link_of : List BackEvent → ℕ → Link
link_of history group = record (own_part history group) { done = completed history; now = Some (completed history); asked = None }

-- an event that tells a group nothing: another group's, or the device's or the back's, but for a retirement
abbrev pub IsOfOthers : BackEvent → ℕ → Type 0
IsOfOthers (Created group id kind) g = group ≢ g
IsOfOthers (Wrote group id at bytes) g = group ≢ g
IsOfOthers (Enqueued batch) g = batch.index / 8 ≢ g
IsOfOthers Submitted g = Unit {0}
IsOfOthers (Ran batch node) g = Unit {0}
IsOfOthers (Retired serial) g = ⊥
IsOfOthers (Fetched group id at bytes) g = group ≢ g
IsOfOthers (Gave group id uses) g = group ≢ g
IsOfOthers (Abandoned group id) g = group ≢ g
IsOfOthers (Cleaned read destroyed) g = Unit {0}
IsOfOthers Closing g = Unit {0}
IsOfOthers (Stopped stop) g = Unit {0}

-- an event that the calls of a group's link have no part in: one of another group, a cleanup, or the change to closing
abbrev pub is_outside : ℕ → BackEvent → Bool
is_outside g (Created group id kind) = not (group == g)
is_outside g (Wrote group id at bytes) = not (group == g)
is_outside g (Enqueued batch) = not ((batch.index / 8) == g)
is_outside g Submitted = false
is_outside g (Ran batch node) = false
is_outside g (Retired serial) = false
is_outside g (Fetched group id at bytes) = not (group == g)
is_outside g (Gave group id uses) = not (group == g)
is_outside g (Abandoned group id) = not (group == g)
is_outside g (Cleaned read destroyed) = true
is_outside g Closing = true
is_outside g (Stopped stop) = false

-- an event of a group's own calls
abbrev pub is_own : ℕ → BackEvent → Bool
is_own g (Created group id kind) = group == g
is_own g (Wrote group id at bytes) = group == g
is_own g (Enqueued batch) = (batch.index / 8) == g
is_own g Submitted = false
is_own g (Ran batch node) = false
is_own g (Retired serial) = false
is_own g (Fetched group id at bytes) = group == g
is_own g (Gave group id uses) = group == g
is_own g (Abandoned group id) = group == g
is_own g (Cleaned read destroyed) = false
is_own g Closing = false
is_own g (Stopped stop) = false

-- the events of a group's own calls, in order
abbrev pub own_events : List BackEvent → ℕ → List BackEvent
own_events history g = filter (is_own g) history
