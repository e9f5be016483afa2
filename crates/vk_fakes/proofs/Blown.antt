-- A count beside another that stays.
use Rattle.std.proofs.Common.{◌≡◌, ℕ, ◌+◌, ◌≤◌, Err, arith}
use Rattle.faults.specs.Faults.{Rose}
use Rattle.vk_types.specs.declared.stops.Stop.TheVariants.{Lost}
use Rattle.vk_device.specs.Faults.{HasCause}

-- a call that is lost by the fuse; the count of the device inside stays
pub blown : {T : Type 0} (before now inside inside_now : ℕ) → Rose before now → before ≤ now → inside_now ≡ inside → HasCause {T = T} (before + inside) (now + inside_now) (Err Lost)
blown before now inside inside_now rose later same = record { later = omega arith; lost = λ e. omega arith }
