use Rattle.std.proofs.Common.{false}
use Rattle.front_core.specs.Economy.{IsNeededAnd, IsOwnFlush}
use Rattle.front_core.proofs.AtTheBack.{nothing_done, may_hand, needed_map}
use Rattle.front_core.proofs.share.Share.flush_if.Goals as goal

pub returns-then-flush-clause-at_back : goal.returns-then-flush-clause-at_back
returns-then-flush-clause-at_back g c =
    may_hand (IsNeededAnd c.args.syncs.now (IsOwnFlush c.args.self.now.state c.args.self.now.serials c.args.thread c.args.flush))
    (needed_map c.args.syncs.now (λ batch own. record { asked = c.if-flush.true; own = own })) c.flush_current.ensures.at_back

pub returns-clause-at_back : goal.returns-clause-at_back
returns-clause-at_back g c =
    nothing_done (g.L.BackLink.state c.args.link.now) (g.L.BackLink.told c.args.link.now) 0 false false (IsNeededAnd c.args.syncs.now (IsOwnFlush c.args.self.now.state c.args.self.now.serials c.args.thread c.args.flush))
