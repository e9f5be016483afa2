use Rattle.std.proofs.Common.{false, sym}
use Rattle.front_moves.specs.Core.{face}
use Rattle.front_core.specs.Economy.{IsNeededAnd, IsOfCurrent}
use Rattle.front_core.proofs.AtTheBack.{nothing_done, may_hand, needed_map}
use Rattle.front_core.proofs.SyncMoves.{own_flush}
use Rattle.front_core.proofs.share.Share.flush_current.Goals as goal

pub returns-in-Some-clause-at_back : goal.returns-in-Some-clause-at_back
returns-in-Some-clause-at_back g c =
    may_hand (IsNeededAnd c.args.syncs.now (IsOfCurrent c.args.self.now.state c.args.self.now.serials c.args.thread c.args.reason))
    (needed_map c.args.syncs.now (own_flush (face c.args.self.now.core) c.args.self.now.state c.args.self.now.serials c.args.thread c.in-Some.index c.args.reason (sym c.in-Some.ensures))) c.flush_context.ensures.at_back

pub returns-in-None-clause-at_back : goal.returns-in-None-clause-at_back
returns-in-None-clause-at_back g c =
    nothing_done (g.L.BackLink.state c.args.link.now) (g.L.BackLink.told c.args.link.now) 0 false false (IsNeededAnd c.args.syncs.now (IsOfCurrent c.args.self.now.state c.args.self.now.serials c.args.thread c.args.reason))
