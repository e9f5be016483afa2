use Rattle.back_core.proofs.Calling.{write_acts}
use Rattle.back_core.proofs.direct.DirectBackLink.write_host.Goals as goal

pub returns-clause-at_back : goal.returns-clause-at_back
returns-clause-at_back g c =
    let h = c.args.self.now.back.history in write_acts c.write_host.result h c.write_host.new.self.history c.args.self.now.group c.args.id c.args.at c.args.bytes.now c.write_host.ensures.ok c.write_host.ensures.err
