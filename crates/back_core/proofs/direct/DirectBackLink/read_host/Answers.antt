use Rattle.back_core.proofs.Calling.{fetch_acts}
use Rattle.back_core.proofs.direct.DirectBackLink.read_host.Goals as goal

pub returns-clause-at_back : goal.returns-clause-at_back
returns-clause-at_back g c =
    let h = c.args.self.now.back.history in fetch_acts c.read_host.result h c.read_host.new.self.history c.args.self.now.group c.args.id c.args.at c.read_host.new.out c.read_host.ensures.ok c.read_host.ensures.err
