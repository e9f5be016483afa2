use Rattle.back_core.proofs.Calling.{wait_acts}
use Rattle.back_core.proofs.direct.DirectBackLink.wait_for.Goals as goal

pub returns-clause-at_back : goal.returns-clause-at_back
returns-clause-at_back g c =
    let h = c.args.self.now.back.history in wait_acts c.wait_for.result h c.wait_for.new.self.history c.args.self.now.group c.wait_for.ensures.learns c.wait_for.ensures.ok c.wait_for.ensures.err
