-- The history of a back as its turnstile keeps it, and the pass that each entry names.
use Rattle.std.specs.Prelude.{◌≡◌, ℕ, ◌+◌, ◌/◌, ◌<◌, slice_index, List, [], ◌∷◌, ◌++◌, map, Option, Some, None}
use Rattle.std.specs.List.{flat_map}
use Rattle.back_core.specs.declared.back_event.BackEvent.{BackEvent}
use Rattle.back_core.specs.declared.back_event.BackEvent.TheVariants.{Created, Wrote, Enqueued, Submitted, Ran, Retired}
use Rattle.back_core.specs.declared.back_event.BackEvent.TheVariants.{Fetched, Gave, Abandoned, Cleaned, Closing, Stopped}
use Rattle.back_core.specs.History.{completed}
use Rattle.turnstile.specs.Histories.{NamesOnly}
use Rattle.turnstile.specs.Views.{PassModel}
use Rattle.shared_gpu.specs.declared.noted.Noted.{Noted}
use Rattle.shared_gpu.specs.declared.noted.Noted.TheVariants.{Opened, Happened}

-- the pass of the group whose own event this is: group g has pass g + 1
abbrev pub owner : BackEvent → Option ℕ
owner (Created group id kind) = Some (group + 1)
owner (Wrote group id at bytes) = Some (group + 1)
owner (Enqueued batch) = Some (batch.index / 8 + 1)
owner Submitted = None
owner (Ran batch node) = None
owner (Retired serial) = None
owner (Fetched group id at bytes) = Some (group + 1)
owner (Gave group id uses) = Some (group + 1)
owner (Abandoned group id) = Some (group + 1)
owner (Cleaned read destroyed) = None
owner Closing = None
owner (Stopped stop) = None

-- the pass that an entry names
abbrev pub names_of : Noted → Option ℕ
names_of (Opened faults) = None
names_of (Happened event) = owner event

-- the entries of a back whose device had so many faults when it was made
abbrev pub notes_of : ℕ → List BackEvent → List Noted
notes_of faults history = Opened faults ∷ map Happened history

-- what happened, by an entry
abbrev pub event_by : Noted → List BackEvent
event_by (Opened faults) = []
event_by (Happened event) = event ∷ []

-- what happened, by the entries
abbrev pub events_of : List Noted → List BackEvent
events_of notes = flat_map event_by notes

-- A turn has added events that name its pass or none, and no retirement: the words, which told the completed numbers
-- at its start, tell them still.
pub record Adds (pass : PassModel Noted) (opened : ℕ) (new : List BackEvent) : Type 0 where
  pub before : List BackEvent
  pub more : List BackEvent
  pub seen_is : pass.seen ≡ notes_of opened before
  pub is : new ≡ before ++ more
  pub names : NamesOnly names_of pass.number (map Happened more)
  pub numbers : completed new ≡ completed before
  pub shown : (index : ℕ) → index < 64 → slice_index pass.words (index + 1) ≡ completed before index
