use Rattle.back_core.proofs.Calling.{abandon_acts}
use Rattle.back_core.proofs.direct.DirectBackLink.abandon.Goals as goal

pub returns-clause-at_back : goal.returns-clause-at_back
returns-clause-at_back g c =
    let h = c.args.self.now.back.history in abandon_acts h c.abandon.new.self.history c.args.self.now.group c.args.handle c.abandon.ensures.history
