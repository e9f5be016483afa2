-- When a call of a device may answer that the device was lost.
use Rattle.std.specs.Prelude.{◌≡◌, ℕ, ◌≤◌, Result, Err}
use Rattle.faults.specs.Faults.{Rose}
use Rattle.vk_types.specs.declared.stops.Stop.{Stop}
use Rattle.vk_types.specs.declared.stops.Stop.TheVariants.{Lost}

-- the count never falls, and `Lost` is answered only where it rose
pub record HasCause {T : Type 0} (before now : ℕ) (result : Result T Stop) : Type 0 where
  pub later : before ≤ now
  pub lost : result ≡ Err Lost → Rose before now
