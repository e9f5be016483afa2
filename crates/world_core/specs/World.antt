-- What contracts see of a world of threads, and what holds of each.
use Rattle.std.specs.Prelude.{◌≡◌, ℕ, ◌+◌, ◌≤◌, ◌<◌, ◌==◌, Bool, true, List, [], ◌∷◌, length, map, slice_get, unwrap_or, Some}
use Rattle.std.specs.List.{All, filter, list_any}
use Rattle.vk_device.specs.declared.logged.Logged.{Logged}
use Rattle.vk_device.specs.Journal.{IsClean}
use Rattle.gl_calls.specs.declared.reply.Entry.{Entry}
use Rattle.trace_text.specs.declared.trace.Line.{Line}
use Rattle.trace_text.specs.Reading.{Plan}
use Rattle.trace_text.specs.Orders.{IsTrace, IsLineOf}
use Rattle.reply_text.specs.declared.history.GroupHistory.{GroupHistory}
use Rattle.gl_model.specs.Sizes.{HasItsData}
use Rattle.back_core.specs.declared.back_event.BackEvent.{BackEvent}
use Rattle.back_core.specs.Back.{BackModel}
use Rattle.back_core.specs.History.{link_of}
use Rattle.back_core.specs.Frame.{IsGoing, host_bytes}
use Rattle.back_core.specs.Run.{IsRun, journal_of}
use Rattle.front_model.specs.Stands.{BarriersAreLicensed}
use Rattle.front_core.specs.Share.{is_built}
use Rattle.front_core.specs.Economy.{due_over}
use Rattle.front_core.specs.Front.{FrontModel, FrontStands, IsNewFront}
use Rattle.play_model.specs.Plays.{Play, HasPlayed, members, none_done, opening_play}

-- The threads, how many lines of each were answered, the fronts of the groups from 0 on, the back, and whether the world goes on:
-- it was not closed, and no step ended by a stop.
pub record WorldModel (D : Type 0) : Type 0 where
  pub threads : List Plan
  pub done : List ℕ
  pub fronts : List FrontModel
  pub back : BackModel D
  pub running : Bool

-- the histories of the fronts
abbrev pub histories_of : List FrontModel → List (List Entry)
histories_of fronts = map (λ front. front.history) fronts

-- the history of a group
abbrev pub history_at : List (List Entry) → ℕ → List Entry
history_at histories group = unwrap_or (slice_get histories group) []

abbrev pub play_at : List ℕ → List (List Entry) → Play
play_at done histories = record { done = done; histories = history_at histories }

-- what was played
abbrev pub play_of : {D : Type 0} → WorldModel D → Play
play_of w = play_at w.done (histories_of w.fronts)

-- The threads of a trace each of whose calls is built, and has the data that it names.
pub record IsServed (threads : List Plan) : Type 0 where
  pub trace : IsTrace threads
  pub built : (thread place : ℕ) (line : Line) → IsLineOf threads thread place line → is_built line.call ≡ true
  pub its_data : (thread place : ℕ) (line : Line) → IsLineOf threads thread place line → HasItsData line.call

-- the numbers that a group may have
abbrev pub group_numbers : List ℕ
group_numbers = 0 ∷ 1 ∷ 2 ∷ 3 ∷ 4 ∷ 5 ∷ 6 ∷ 7 ∷ []

-- each front is a new one of its group
abbrev pub AreNew : List Plan → List FrontModel → Type 0
AreNew threads fronts = (group : ℕ) (front : FrontModel) → slice_get fronts group ≡ Some front →
    IsNewFront front group (members threads group)

-- A world of these threads over a device that did nothing: no line was answered, each of the eight groups has a new front, and nothing
-- happened to the back.
pub record IsNewWorld {D : Type 0} (threads : List Plan) (device : D) (w : WorldModel D) : Type 0 where
  pub threads_are : w.threads ≡ threads
  pub done : w.done ≡ none_done threads
  pub eight : length w.fronts ≡ 8
  pub new : AreNew threads w.fronts
  pub back : w.back ≡ record { device = device; history = [] }
  pub running : w.running ≡ true
  -- what was played is nothing
  pub play : play_of w ≡ opening_play threads

-- The groups

abbrev pub is_declared : List Plan → ℕ → Bool
is_declared threads group = list_any (λ plan. plan.group == group) threads

-- the groups that threads are declared for, in rising order
abbrev pub declared : List Plan → List ℕ
declared threads = filter (is_declared threads) group_numbers

-- the histories of the declared groups, in rising order, also of one that made no call
pub record AreHistories (threads : List Plan) (play : Play) (groups : List GroupHistory) : Type 0 where
  pub of_groups : map (λ history. history.group) groups ≡ declared threads
  pub entries : All (λ history. history.entries.items ≡ play.histories history.group) groups

-- the bytes that are due over the histories of these groups
abbrev pub due_among : List ℕ → List Plan → Play → ℕ
due_among [] threads play = 0
due_among (group ∷ groups) threads play = due_over (members threads group) (play.histories group) + due_among groups threads play

-- the bytes that are due over all histories
abbrev pub due_in : List Plan → Play → ℕ
due_in threads play = due_among group_numbers threads play

-- What holds of each world

-- each front stands over what its group sees of the back
abbrev pub AllStand : List FrontModel → List BackEvent → Type 0
AllStand fronts history = (group : ℕ) (front : FrontModel) → slice_get fronts group ≡ Some front → FrontStands front (link_of history group)

-- There are eight fronts. What was played is legal and in order, and what happened to the back is a run, which left a clean journal on the
-- device. Each barrier that a group had the back do was licensed where it stands, also where the world does not go on. Where it does, each
-- front stands, no call on the device failed, and the host wrote no more bytes than were due.
pub record IsLawful {D : Type 0} (journal : D → List Logged) (w : WorldModel D) : Type 0 where
  pub served : IsServed w.threads
  pub eight : length w.fronts ≡ 8
  pub played : HasPlayed w.threads (play_of w)
  pub run : IsRun w.back.history
  pub journal_is : journal w.back.device ≡ journal_of w.back.history
  pub clean : IsClean (journal w.back.device)
  pub licensed : (group : ℕ) → group < 8 → BarriersAreLicensed (link_of w.back.history group)
  pub stands : w.running ≡ true → AllStand w.fronts w.back.history
  pub going : w.running ≡ true → IsGoing (Some w.back.history)
  pub uploads : w.running ≡ true → host_bytes (journal w.back.device) ≤ due_in w.threads (play_of w)
