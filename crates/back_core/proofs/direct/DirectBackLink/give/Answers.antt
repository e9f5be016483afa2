use Rattle.back_core.proofs.Calling.{give_acts}
use Rattle.back_core.proofs.direct.DirectBackLink.give.Goals as goal

pub returns-clause-at_back : goal.returns-clause-at_back
returns-clause-at_back g c =
    let h = c.args.self.now.back.history in give_acts h c.give.new.self.history c.args.self.now.group c.args.item.handle c.args.item.uses c.give.ensures.history
