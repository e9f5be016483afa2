-- A back behind a turnstile, a group's seat there, and its link, as contracts see them.
use Rattle.std.specs.Prelude.{ℕ, List}
use Rattle.back_core.specs.declared.back_event.BackEvent.{BackEvent}
use Rattle.back_core.specs.Back.{BackModel}
use Rattle.turnstile.specs.Views.{PassModel}
use Rattle.shared_gpu.specs.declared.noted.Noted.{Noted}

-- its device, what happened to it, and how many faults the device had when the back was made
pub record SharedModel (D : Type 0) : Type 0 where
  pub device : D
  pub history : List BackEvent
  pub opened : ℕ

-- the back alone
abbrev pub back_of : {D : Type 0} → SharedModel D → BackModel D
back_of s = record { device = s.device; history = s.history }

-- a group and its pass
pub record SeatModel : Type 0 where
  pub group : ℕ
  pub pass : PassModel Noted

-- a seat, and how many faults its link had
pub record SeatedModel : Type 0 where
  pub seat : SeatModel
  pub faults : ℕ
