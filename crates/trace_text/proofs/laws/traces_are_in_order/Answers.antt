use Rattle.trace_text.proofs.OrderLaws.{Spells-order}
use Rattle.trace_text.proofs.laws.traces_are_in_order.Goals as goal

pub returns : goal.returns
returns c = Spells-order
