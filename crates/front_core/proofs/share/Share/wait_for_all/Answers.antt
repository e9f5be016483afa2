use Rattle.std.proofs.Common.{true, false}
use Rattle.back_core.specs.Frame.{NoBatch}
use Rattle.front_core.proofs.AtTheBack.{nothing_done}
use Rattle.front_core.proofs.share.Share.wait_for_all.Goals as goal

pub returns-then-number-eq0-clause-at_back : goal.returns-then-number-eq0-clause-at_back
returns-then-number-eq0-clause-at_back g c = nothing_done (g.L.BackLink.state c.args.link.now) (g.L.BackLink.told c.args.link.now) 0 true false NoBatch
