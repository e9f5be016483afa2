-- When a worker is done, and what the workers keep of a back.
use Rattle.std.specs.Prelude.{◌≡◌, ◌↔◌, ◌==◌, ◌≤◌, ℕ, Bool, true, false, not, is_some, IsTrue, List, [], length, None}
use Rattle.submit_queue.specs.Histories.{first_flushed, MayRun, IsLeft}
use Rattle.back_core.specs.declared.back_event.BackEvent.{BackEvent}
use Rattle.back_core.specs.declared.ending.Ending.TheVariants.{Closing}
use Rattle.back_core.specs.declared.ending.Left.{Left}
use Rattle.back_core.specs.History.{queue_history}
use Rattle.back_core.specs.Back.{ending_of}
use Rattle.back_core.specs.Run.{garbage_of}
use Rattle.shared_gpu.specs.declared.noted.Noted.{Noted}
use Rattle.shared_gpu.specs.Notes.{events_of}

-- what is left to do after these events
pub record IsWhatIsLeft (history : List BackEvent) (left : Left) : Type 0 where
  pub flushed : left.flushed ≡ is_some (first_flushed (queue_history history))
  pub nodes : IsTrue left.nodes ↔ ((batch : ℕ) × (item : ℕ) × MayRun (queue_history history) batch item)
  pub batches : IsTrue left.batches ↔ ((batch : ℕ) × IsLeft (queue_history history) batch)
  pub garbage : left.garbage ≡ not (length (garbage_of history) == 0)

-- every batch was retired
abbrev pub AllAreRetired : List BackEvent → Type 0
AllAreRetired history = (batch : ℕ) → IsLeft (queue_history history) batch → ⊥

-- every batch was accepted, and every item of it ran
pub record AllHaveRun (history : List BackEvent) : Type 0 where
  pub none_flushed : first_flushed (queue_history history) ≡ None
  pub none_waits : (batch item : ℕ) → MayRun (queue_history history) batch item → ⊥

-- all garbage was destroyed
abbrev pub NoneWaits : List BackEvent → Type 0
NoneWaits history = garbage_of history ≡ []

-- The entries are those of a back that was closing and was not stopped, and of the worker's part of the work nothing was left.
pub record IsDone (AllDone : List BackEvent → Type 0) (seen : List Noted) : Type 0 where
  pub closing : ending_of (events_of seen) ≡ Closing
  pub all : AllDone (events_of seen)
