use Rattle.std.proofs.Common.{ap, ◌∙◌, arith}
use Rattle.front_moves.specs.Core.{face}
use Rattle.front_moves.proofs.AtBack.{then_handless}
use Rattle.front_moves.proofs.group_core.Core.close.Goals as goal

pub returns-in-Ok-clause-closed : goal.returns-in-Ok-clause-closed
returns-in-Ok-clause-closed g c =
    c.close_comes_to.ensures (face c.end_each.new.self) (g.L.BackLink.state c.end_each.new.link) c.end_each.ensures.holds
    (λ index. ap (λ pending. pending index) c.end_each.ensures.pending ∙ c.in-Ok.ensures.pending index) c.end_each.ensures.stored

pub returns-in-Ok-clause-at_back : goal.returns-in-Ok-clause-at_back
returns-in-Ok-clause-at_back g c = then_handless (omega arith) c.in-Ok.ensures.at_back c.end_each.ensures.at_back
