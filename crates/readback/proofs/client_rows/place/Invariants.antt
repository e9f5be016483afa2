use Rattle.readback.proofs.Placing.{HasRows}
use Rattle.readback.proofs.client_rows.place.Given as goal

abbrev pub invariant-loop-row : goal.invariant-loop-row
invariant-loop-row l = HasRows l.plan l.host l.row l.bytes
