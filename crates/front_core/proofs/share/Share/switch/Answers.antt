use Rattle.std.proofs.Common.{false}
use Rattle.front_moves.specs.Core.{face}
use Rattle.front_core.specs.Economy.{IsNeededAnd, IsSwitch}
use Rattle.front_core.specs.Polls.{HasFlushedAll}
use Rattle.front_core.specs.Share.{replaced_index}
use Rattle.front_core.proofs.AtTheBack.{nothing_done, may_hand, flush_is_switch, needed_map}
use Rattle.front_core.proofs.Switching.{flushed_replaced}
use Rattle.front_core.proofs.share.Share.switch.Goals as goal

pub returns-in-Some-clause-flushed : goal.returns-in-Some-clause-flushed
returns-in-Some-clause-flushed g c =
    flushed_replaced c.flush_context.result (HasFlushedAll (face c.flush_context.new.self.core) c.args.syncs.now) c.in-Some.index (replaced_index c.args.self.now.state c.args.self.now.serials c.args.thread c.args.number) c.in-Some.ensures c.flush_context.ensures.flushed

pub returns-in-Some-clause-at_back : goal.returns-in-Some-clause-at_back
returns-in-Some-clause-at_back g c =
    may_hand (IsNeededAnd c.args.syncs.now (IsSwitch c.args.self.now.state c.args.self.now.serials c.args.thread c.args.number))
    (needed_map c.args.syncs.now (flush_is_switch (face c.args.self.now.core) c.args.self.now.state c.args.self.now.serials c.args.thread c.args.number c.in-Some.index c.in-Some.ensures)) c.flush_context.ensures.at_back

pub returns-in-None-clause-at_back : goal.returns-in-None-clause-at_back
returns-in-None-clause-at_back g c =
    nothing_done (g.L.BackLink.state c.args.link.now) (g.L.BackLink.told c.args.link.now) 0 false false (IsNeededAnd c.args.syncs.now (IsSwitch c.args.self.now.state c.args.self.now.serials c.args.thread c.args.number))
