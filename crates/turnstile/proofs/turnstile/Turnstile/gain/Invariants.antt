use Rattle.std.proofs.Common.{◌≡◌}
use Rattle.turnstile.proofs.turnstile.Turnstile.gain.Given as goal

-- a try that fails changes nothing
abbrev pub invariant-loop : goal.invariant-loop
invariant-loop g l = (l.seat.table_id ≡ l.initial.seat.table_id) × (l.seat.me ≡ l.initial.seat.me)
