use Rattle.back_core.proofs.Calling.{create_acts}
use Rattle.back_core.proofs.direct.DirectBackLink.create.Goals as goal

pub returns-clause-at_back : goal.returns-clause-at_back
returns-clause-at_back g c =
    let h = c.args.self.now.back.history in create_acts c.create.result h c.create.new.self.history c.args.self.now.group c.args.kind c.create.ensures.ok c.create.ensures.err
