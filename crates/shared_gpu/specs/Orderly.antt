-- What a shared back keeps beside the cause of its losses.
use Rattle.std.specs.Prelude.{◌≡◌, ◌≤◌, ℕ, false, List}
use Rattle.back_core.specs.declared.back_event.BackEvent.{BackEvent}
use Rattle.back_core.specs.History.{own_part, opening}
use Rattle.back_core.specs.Back.{ending_of, is_stopped}
use Rattle.back_core.specs.Steps.{CleansWhole}

-- No more than the eight groups used the back, and no cleanup was cut off unless the back was stopped.
pub record IsOrderly (history : List BackEvent) : Type 0 where
  pub no_others : (group : ℕ) → 8 ≤ group → own_part history group ≡ opening group
  pub whole : is_stopped (ending_of history) ≡ false → CleansWhole history
