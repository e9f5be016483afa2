use Rattle.std.proofs.Common.{◌≡◌, ◌<◌, rules, [], false}
use Rattle.front_moves.specs.Core.{face}
use Rattle.front_moves.specs.Reasons.{IsFlushOf}
use Rattle.front_core.specs.Economy.{IsNeededAnd}
use Rattle.front_core.proofs.AtTheBack.{nothing_done, may_hand, flush_is_needed, none_pending}
use Rattle.front_core.proofs.SyncMoves.{ok_map2, still_after, flushed_after}
use Rattle.sync_serials.specs.Serials.{newest_of}
use Rattle.front_core.proofs.share.Share.flush_context.Goals as goal
use Rattle.front_core.proofs.share.Share.flush_context.Goals.{then-has_pending-via-then-has_pending, then-has_pending-via-else-has_pending+then-newest-last}

pub returns-then-has_pending-clause-still : goal.returns-then-has_pending-clause-still
returns-then-has_pending-clause-still g c =
    ok_map2 c.hand_over.result (still_after (face c.args.self.now.core) (face c.hand_over.new.self) c.args.index) c.hand_over.ensures.flushed c.hand_over.ensures.last

pub returns-then-has_pending-clause-flushed : goal.returns-then-has_pending-clause-flushed
returns-then-has_pending-clause-flushed g c =
    ok_map2 c.hand_over.result (flushed_after (face c.args.self.now.core) (face c.hand_over.new.self) c.args.syncs.now c.args.index c.requires.newest) c.hand_over.ensures.flushed c.hand_over.ensures.last

pub returns-then-has_pending-clause-at_back : goal.returns-then-has_pending-clause-at_back
returns-then-has_pending-clause-at_back g c =
    let waits : (face c.args.self.now.core).pending c.args.index ≡ [] → (face c.args.self.now.core).last c.args.index < newest_of c.args.syncs.now c.args.index =
    elim c.then-has_pending.branch [
      | then-has_pending-via-then-has_pending w ↦ none_pending ((face c.args.self.now.core).pending c.args.index) (c.has_pending.ensures.some w.if-has_pending.true)
      | then-has_pending-via-else-has_pending+then-newest-last w ↦ λ none. search rules
    ] in
    may_hand (IsNeededAnd c.args.syncs.now (IsFlushOf (face c.args.self.now.core) c.args.index c.args.reason))
    (flush_is_needed (face c.args.self.now.core) c.args.syncs.now c.args.index c.args.reason waits) c.hand_over.ensures.at_back

pub returns-clause-at_back : goal.returns-clause-at_back
returns-clause-at_back g c = nothing_done (g.L.BackLink.state c.args.link.now) (g.L.BackLink.told c.args.link.now) 0 false false (IsNeededAnd c.args.syncs.now (IsFlushOf (face c.args.self.now.core) c.args.index c.args.reason))
