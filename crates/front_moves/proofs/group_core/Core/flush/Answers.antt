use Rattle.std.proofs.Common.{arith}
use Rattle.front_moves.specs.Core.{face}
use Rattle.front_moves.proofs.AtBack.{did_nothing, did_for}
use Rattle.front_moves.proofs.Flushing.{last_rises, only_enqueued}
use Rattle.front_moves.proofs.Handing.{flush_of_some}
use Rattle.front_moves.proofs.Preparing.{on_ok}
use Rattle.front_moves.proofs.group_core.Core.flush.Goals as goal

pub returns-then-has_pending-clause-last : goal.returns-then-has_pending-clause-last
returns-then-has_pending-clause-last g c = on_ok c.hand_over.result (last_rises (face c.args.self.now) (face c.hand_over.new.self) c.args.index) c.hand_over.ensures.last

pub returns-then-has_pending-clause-link : goal.returns-then-has_pending-clause-link
returns-then-has_pending-clause-link g c = on_ok c.hand_over.result (only_enqueued (g.L.BackLink.state c.args.link.now) (g.L.BackLink.state c.hand_over.new.link)) c.hand_over.ensures.link

pub returns-then-has_pending-clause-at_back : goal.returns-then-has_pending-clause-at_back
returns-then-has_pending-clause-at_back g c =
    did_for (omega arith) (flush_of_some (face c.args.self.now) c.args.index c.args.reason (c.has_pending.ensures.some c.if-has_pending.true)) c.hand_over.ensures.at_back

pub returns-clause-flushed : goal.returns-clause-flushed
returns-clause-flushed g c = (c.flush_comes_to.ensures.nothing (face c.args.self.now) (g.L.BackLink.state c.args.link.now) c.args.index c.requires.holds (c.has_pending.ensures.none c.if-has_pending.false)).flushed

pub returns-clause-log : goal.returns-clause-log
returns-clause-log g c = (c.flush_comes_to.ensures.nothing (face c.args.self.now) (g.L.BackLink.state c.args.link.now) c.args.index c.requires.holds (c.has_pending.ensures.none c.if-has_pending.false)).log

pub returns-clause-at_back : goal.returns-clause-at_back
returns-clause-at_back g c = did_nothing (g.L.BackLink.state c.args.link.now) (g.L.BackLink.told c.args.link.now)
