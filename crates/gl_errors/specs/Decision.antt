-- What decide answers, by the rows of the table.
use Rattle.std.specs.Prelude.{Option, Some, None, List}
use Rattle.gl_calls.specs.declared.reply.Reply.{Reply}
use Rattle.gl_errors.specs.declared.decision.Decision.{Decision}
use Rattle.gl_errors.specs.declared.decision.Decision.TheVariants.{Refused, Accepted}
use Rattle.gl_model.specs.RefusalRows.{Row, first_row}

abbrev pub decision_of : Option Reply → Decision
decision_of None = Accepted
decision_of (Some reply) = Refused reply

-- refused by the first row that holds
abbrev pub decided : List Row → Decision
decided rows = decision_of (first_row rows)
