-- What the turns of workers do at a back.
use Rattle.std.specs.Prelude.{◌≡◌, ℕ, ◌+◌, ◌<◌, true, false, slice_index, List}
use Rattle.back_core.specs.History.{completed}
use mathlib.Core.List.{IsPrefix}
use Rattle.vk_types.specs.declared.stops.Stop.{Stop}
use Rattle.vk_device.specs.declared.logged.Logged.{Logged}
use Rattle.turnstile.specs.Histories.{greatest}
use Rattle.turnstile.specs.Views.{PassModel}
use Rattle.back_core.specs.Back.{ending_of, is_stopped}
use Rattle.back_core.specs.Steps.{CleansSome}
use Rattle.shared_gpu.specs.declared.noted.Noted.{Noted}
use Rattle.shared_gpu.specs.Notes.{notes_of}
use Rattle.shared_gpu.specs.Views.{SharedModel, back_of}

-- One turn of a pass did this to the back: what it found began with all that the pass had seen before, and what it left is what the
-- pass has seen now. The words show the completed numbers of what it left.
pub record InOneTurn (D : Type 0) (before now : PassModel Noted) (Did : SharedModel D → SharedModel D → Type 0) : Type 0 where
  pub old : SharedModel D
  pub new : SharedModel D
  pub begins : IsPrefix before.seen (notes_of old.opened old.history)
  pub seen : now.seen ≡ notes_of new.opened new.history
  pub opened : new.opened ≡ old.opened
  pub shown : (index : ℕ) → index < 64 → slice_index now.words (index + 1) ≡ completed new.history index
  pub did : Did old new

-- a pass between its turns, of the same turnstile, number and joined passes as before
pub record IsKept (before now : PassModel Noted) : Type 0 where
  pub name : now.name ≡ before.name
  pub number : now.number ≡ before.number
  pub made : now.made ≡ before.made
  pub joined : now.joined ≡ before.joined
  pub holds : now.holds ≡ false

-- each number is the greatest that the loads of its index's word gave
abbrev pub WereLoaded : List (ℕ × ℕ) → List ℕ → Type 0
WereLoaded loads read = (index : ℕ) → index < 64 → slice_index read index ≡ greatest (index + 1) loads

-- a cleanup was stopped, or found that the back was stopped before and did nothing
pub record StopsCleaning {D : Type 0} (journal : D → List Logged) (old new : SharedModel D) (read : List ℕ) (stop : Stop) : Type 0 where
  pub cleans : is_stopped (ending_of old.history) ≡ false → CleansSome journal (back_of old) (back_of new) read stop
  pub unchanged : is_stopped (ending_of old.history) ≡ true → new ≡ old
