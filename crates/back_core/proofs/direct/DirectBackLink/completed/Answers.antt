use Rattle.back_core.proofs.Calling.{ask_acts}
use Rattle.back_core.proofs.direct.DirectBackLink.completed.Goals as goal

pub returns-clause-at_back : goal.returns-clause-at_back
returns-clause-at_back g c =
    let h = c.args.self.now.back.history in ask_acts h c.args.self.now.group
