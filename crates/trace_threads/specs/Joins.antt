-- What becomes of pass 0 of a turnstile that makes passes for threads, and joins them.
use Rattle.std.specs.Prelude.{◌≡◌, ℕ, ◌+◌, ◌≤◌, ◌<◌, false, List, Contains}
use mathlib.Core.List.{IsPrefix}
use Rattle.turnstile.specs.Views.{PassModel}
use Rattle.back_core.specs.declared.back_event.BackEvent.{BackEvent}
use Rattle.shared_gpu.specs.declared.noted.Noted.{Noted}
use Rattle.shared_gpu.specs.Workers.{IsDone}

-- pass 0 between its turns, which has made so many passes more and joined them all
pub record HasJoined {E : Type 0} (before now : PassModel E) (count : ℕ) : Type 0 where
  pub name : now.name ≡ before.name
  pub number : now.number ≡ before.number
  pub holds : now.holds ≡ false
  pub made : now.made ≡ before.made + count
  pub theirs : (k : ℕ) → before.made ≤ k → k < now.made → Contains now.joined k
  pub kept : (k : ℕ) → Contains before.joined k → Contains now.joined k
  pub begins : IsPrefix before.seen now.seen

-- a worker's pass had seen that the worker was done, and what it had seen begins this
pub record WasDone (AllDone : List BackEvent → Type 0) (now : List Noted) : Type 0 where
  pub seen : List Noted
  pub begins : IsPrefix seen now
  pub done : IsDone AllDone seen
