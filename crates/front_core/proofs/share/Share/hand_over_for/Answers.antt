use Rattle.std.proofs.Common.{◌<◌, rules, false}
use Rattle.front_moves.specs.Core.{face}
use Rattle.front_core.specs.Economy.{IsForSync}
use Rattle.front_core.proofs.AtTheBack.{nothing_done, may_hand, flush_for_sync}
use Rattle.front_core.proofs.SyncMoves.{ok_map, ok_map2, still_after, handed_after}
use Rattle.front_core.proofs.share.Share.hand_over_for.Goals as goal

pub returns-then-serial-last-clause-still : goal.returns-then-serial-last-clause-still
returns-then-serial-last-clause-still g c =
    ok_map2 c.hand_over.result (still_after (face c.args.self.now.core) (face c.hand_over.new.self) c.args.serial.index) c.hand_over.ensures.flushed c.hand_over.ensures.last

pub returns-then-serial-last-clause-handed : goal.returns-then-serial-last-clause-handed
returns-then-serial-last-clause-handed g c =
    ok_map c.hand_over.result (handed_after (face c.args.self.now.core) (face c.hand_over.new.self) c.args.serial.index c.args.serial.number c.requires.number) c.hand_over.ensures.last

pub returns-then-serial-last-clause-at_back : goal.returns-then-serial-last-clause-at_back
returns-then-serial-last-clause-at_back g c =
    let above : (face c.args.self.now.core).last c.args.serial.index < c.args.serial.number = search rules in
    may_hand (IsForSync c.args.serial) (flush_for_sync (face c.args.self.now.core) c.args.serial above c.requires.number) c.hand_over.ensures.at_back

pub returns-clause-at_back : goal.returns-clause-at_back
returns-clause-at_back g c = nothing_done (g.L.BackLink.state c.args.link.now) (g.L.BackLink.told c.args.link.now) 0 false false (IsForSync c.args.serial)
