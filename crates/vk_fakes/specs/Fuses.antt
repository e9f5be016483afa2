-- Calls of a device that is lost after so many of them.
use Rattle.std.specs.Prelude.{◌≡◌, ℕ, ◌+◌, ◌-◌, ◌^◌, ◌⊎◌, min, Result, Err}
use Rattle.vk_types.specs.declared.stops.Stop.{Stop}
use Rattle.vk_types.specs.declared.stops.Stop.TheVariants.{Lost}
use Rattle.vk_device.specs.Faults.{HasCause}
use Rattle.vk_fakes.specs.declared.fuse.FuseDevice.{FuseDevice}

-- A pass was left: the call used it up, and the device inside did it. So a `Lost` is that of the device inside.
pub record UsesPass {D T : Type 0} (faults : D → ℕ) (old new : FuseDevice D) (result : Result T Stop) : Type 0 where
  pub left : old.left ≡ new.left + 1
  pub lost : new.lost ≡ old.lost
  pub cause : HasCause (faults old.inner) (faults new.inner) result

-- None was left: the call was answered with `Lost`, which is counted, and the device inside is as it was. A count that
-- stands at its last value stays.
pub record IsBlown {D T : Type 0} (old new : FuseDevice D) (result : Result T Stop) : Type 0 where
  pub none : old.left ≡ 0
  pub still_none : new.left ≡ 0
  pub answer : result ≡ Err Lost
  pub lost : new.lost ≡ min (old.lost + 1) (2 ^ 64 - 1)
  pub inside : new.inner ≡ old.inner

-- what a call does with the passes
abbrev pub GoesByFuse : {D T : Type 0} (faults : D → ℕ) (old new : FuseDevice D) → Result T Stop → Type 0
GoesByFuse faults old new result = UsesPass faults old new result ⊎ IsBlown old new result
