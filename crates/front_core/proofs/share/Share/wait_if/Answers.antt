use Rattle.std.proofs.Common.{false, not, ◌==◌}
use Rattle.front_core.specs.Economy.{IsWaitedFor}
use Rattle.front_core.proofs.AtTheBack.{nothing_done}
use Rattle.front_core.proofs.share.Share.wait_if.Goals as goal

pub returns-then-timeout-eq0-clause-at_back : goal.returns-then-timeout-eq0-clause-at_back
returns-then-timeout-eq0-clause-at_back g c = nothing_done (g.L.BackLink.state c.args.link.now) (g.L.BackLink.told c.args.link.now) 0 (not (c.args.timeout == 0)) false (IsWaitedFor c.args.serial c.args.timeout)
