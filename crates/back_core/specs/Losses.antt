-- When a back may be stopped by a lost device.
use Rattle.std.specs.Prelude.{◌≡◌, ℕ, ◌≤◌, List}
use Rattle.faults.specs.Faults.{Rose}
use Rattle.vk_types.specs.declared.stops.Stop.TheVariants.{Lost}
use Rattle.back_core.specs.declared.back_event.BackEvent.{BackEvent}
use Rattle.back_core.specs.declared.ending.Ending.TheVariants.{Stopped}
use Rattle.back_core.specs.Back.{ending_of}

-- the count of faults has not fallen since it was first read, and it rose since where the device's loss stopped the back
pub record LossHasCause (first now : ℕ) (history : List BackEvent) : Type 0 where
  pub later : first ≤ now
  pub lost : ending_of history ≡ Stopped Lost → Rose first now
