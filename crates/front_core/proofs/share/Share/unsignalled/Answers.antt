use Rattle.std.proofs.Common.{true, refl, arith, inl, not, ◌==◌}
use Rattle.std.specs.Prelude.{is_err}
use Rattle.std.proofs.lemmas.Bool.{false≢true}
use Rattle.back_core.proofs.Frames.{within, then_within}
use Rattle.front_moves.specs.Core.{face}
use Rattle.front_core.specs.Share.{current_index}
use Rattle.front_core.specs.Economy.{IsNeededAnd, IsForWait}
use Rattle.front_core.proofs.SyncMoves.{ok_map, some_map, stays_then}
use Rattle.front_core.proofs.AtTheBack.{needed_map, waited_is_needed}
use Rattle.front_core.proofs.share.Share.unsignalled.Goals as goal

pub returns-in-Ok-clause-stays : goal.returns-in-Ok-clause-stays
returns-in-Ok-clause-stays g c =
    ok_map c.wait_if.result (stays_then (face c.args.self.now.core) (face c.flush_if.new.self.core) (face c.wait_if.new.self.core) (g.L.BackLink.state c.args.link.now) (g.L.BackLink.state c.flush_if.new.link) (g.L.BackLink.state c.wait_if.new.link)
    c.in-Ok.ensures.stays) c.wait_if.ensures.stays

pub returns-in-Ok-clause-flushed : goal.returns-in-Ok-clause-flushed
returns-in-Ok-clause-flushed g c =
    ok_map c.wait_if.result (λ still on. some_map (current_index c.args.self.now.state c.args.self.now.serials c.args.thread) (still c.args.syncs.now) (c.in-Ok.ensures.flushed on)) c.wait_if.ensures.still

pub returns-in-Ok-clause-at_back : goal.returns-in-Ok-clause-at_back
returns-in-Ok-clause-at_back g c =
    then_within 0 (not (c.args.timeout == 0)) (is_err c.wait_if.result) (IsNeededAnd c.args.syncs.now (IsForWait c.args.self.now.state c.args.self.now.serials c.args.thread c.args.serial c.args.flush c.args.timeout)) (omega arith)
    (λ on. absurd (false≢true on)) (λ on. on) (λ on. absurd (false≢true on)) (λ on. on) (needed_map c.args.syncs.now (λ batch may. inl may))
    (waited_is_needed c.args.self.now.state c.args.self.now.serials c.args.syncs.now c.args.thread c.args.serial c.args.flush c.args.timeout c.requires.made.low)
    c.in-Ok.ensures.at_back c.wait_if.ensures.at_back

pub returns-in-Err-clause-at_back : goal.returns-in-Err-clause-at_back
returns-in-Err-clause-at_back g c =
    within 0 (not (c.args.timeout == 0)) true (IsNeededAnd c.args.syncs.now (IsForWait c.args.self.now.state c.args.self.now.serials c.args.thread c.args.serial c.args.flush c.args.timeout)) (omega arith)
    (λ on. absurd (false≢true on)) (λ on. refl) (needed_map c.args.syncs.now (λ batch may. inl may)) c.in-Err.ensures.at_back
