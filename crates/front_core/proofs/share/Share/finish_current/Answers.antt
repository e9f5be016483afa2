use Rattle.std.proofs.Common.{true, false, refl, sym, arith}
use Rattle.std.specs.Prelude.{is_err}
use Rattle.std.proofs.lemmas.Bool.{false≢true}
use Rattle.vk_types.specs.declared.batches.Reason.TheVariants as reason
use Rattle.back_core.proofs.Frames.{within, then_within, no_batch}
use Rattle.front_moves.specs.Core.{face}
use Rattle.front_core.specs.Economy.{IsNeededAnd, IsOfCurrent}
use Rattle.front_core.proofs.AtTheBack.{nothing_done, needed_map}
use Rattle.front_core.proofs.SyncMoves.{ok_map, stays_then, own_flush}
use Rattle.front_core.proofs.share.Share.finish_current.Goals as goal

pub returns-in-Ok-clause-stays : goal.returns-in-Ok-clause-stays
returns-in-Ok-clause-stays g c =
    ok_map c.wait_for_all.result (stays_then (face c.args.self.now.core) (face c.flush_context.new.self.core) (face c.flush_context.new.self.core) (g.L.BackLink.state c.args.link.now) (g.L.BackLink.state c.flush_context.new.link) (g.L.BackLink.state c.wait_for_all.new.link)
    c.in-Ok.ensures.stays) c.wait_for_all.ensures.stays

pub returns-in-Ok-clause-at_back : goal.returns-in-Ok-clause-at_back
returns-in-Ok-clause-at_back g c =
    then_within 0 true (is_err c.wait_for_all.result) (IsNeededAnd c.args.syncs.now (IsOfCurrent c.args.self.now.state c.args.self.now.serials c.args.thread reason.Finish)) (omega arith) (λ on. refl) (λ on. refl) (λ on. absurd (false≢true on)) (λ on. on)
    (needed_map c.args.syncs.now (own_flush (face c.args.self.now.core) c.args.self.now.state c.args.self.now.serials c.args.thread c.in-Some.index reason.Finish (sym c.in-Some.ensures)))
    (no_batch (IsNeededAnd c.args.syncs.now (IsOfCurrent c.args.self.now.state c.args.self.now.serials c.args.thread reason.Finish)))
    c.in-Ok.ensures.at_back c.wait_for_all.ensures.at_back

pub returns-in-Err-clause-at_back : goal.returns-in-Err-clause-at_back
returns-in-Err-clause-at_back g c =
    within 0 true true (IsNeededAnd c.args.syncs.now (IsOfCurrent c.args.self.now.state c.args.self.now.serials c.args.thread reason.Finish)) (omega arith) (λ on. refl) (λ on. refl)
    (needed_map c.args.syncs.now (own_flush (face c.args.self.now.core) c.args.self.now.state c.args.self.now.serials c.args.thread c.in-Some.index reason.Finish (sym c.in-Some.ensures)))
    c.in-Err.ensures.at_back

pub returns-in-None-clause-at_back : goal.returns-in-None-clause-at_back
returns-in-None-clause-at_back g c =
    nothing_done (g.L.BackLink.state c.args.link.now) (g.L.BackLink.told c.args.link.now) 0 true false (IsNeededAnd c.args.syncs.now (IsOfCurrent c.args.self.now.state c.args.self.now.serials c.args.thread reason.Finish))
