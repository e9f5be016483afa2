-- A turn as contracts see it.
use Rattle.std.specs.Prelude.{◌≡◌, true}
use Rattle.turnstile.specs.declared.pass.Turn.{Turn}
use Rattle.turnstile.specs.Views.{PassModel}

-- the pass took this turn, and it is out
abbrev pub IsTurnOf : {V E : Type 0} → Turn V E → PassModel E → Type 0
IsTurnOf turn pass = (turn.taken.value.name ≡ pass.name) × (turn.taken.value.number ≡ pass.number) × (pass.holds ≡ true)
