use Rattle.std.proofs.Common.{ℕ, true, false, refl, sym, subst, ◌∙◌, arith}
use Rattle.gl_calls.specs.declared.call.Call.TheVariants as call
use Rattle.tables.specs.Table.{Entries}
use Rattle.gl_model.specs.declared.state.GroupState.{GroupState}
use Rattle.back_core.proofs.Frames.{then_within, no_batch}
use Rattle.front_moves.specs.Core.{face}
use Rattle.sync_serials.specs.Serials.{HasGoneOn}
use Rattle.front_core.specs.Economy as economy
use Rattle.front_core.specs.Economy.{IsNeededAnd, IsSyncReason}
use Rattle.front_core.specs.Share.{MayCall, IsCarriedOut, current_index}
use Rattle.front_core.specs.Front.{IsServed}
use Rattle.front_core.proofs.GoingOn.{gone_on}
use Rattle.front_core.proofs.Switching.{may_still, carried_from, flushed_still}
use Rattle.front_core.proofs.Serving.{gone_then}
use Rattle.front_core.proofs.AtTheBack.{may_hand, needed_map}
use Rattle.front_core.proofs.share.Share.flush_call.Goals as goal

pub state_call-requires-clause-may : goal.state_call-requires-clause-may
state_call-requires-clause-may g c =
    subst (λ (x : GroupState). MayCall (face c.flush_current.new.self.core) (g.L.BackLink.state c.flush_current.new.link) x c.args.thread call.Flush) (sym c.flush_current.ensures.state)
    (may_still (face c.args.self.now.core) (face c.flush_current.new.self.core) (g.L.BackLink.state c.args.link.now) (g.L.BackLink.state c.flush_current.new.link) c.args.self.now.state c.args.thread call.Flush c.requires.may.may c.in-Ok.ensures.stays)

pub returns-in-Ok-state_call-clause-done : goal.returns-in-Ok-state_call-clause-done
returns-in-Ok-state_call-clause-done g c =
    let f = face c.args.self.now.core in
    let m = face c.flush_current.new.self.core in
    let h = face c.state_call.new.self.core in
    let s = g.L.BackLink.state c.args.link.now in
    let u = g.L.BackLink.state c.flush_current.new.link in
    let t = g.L.BackLink.state c.state_call.new.link in
    let first : HasGoneOn f m s u = gone_on c.args.self.now.core c.flush_current.new.self.core c.requires.may.may.backs.holds c.in-Ok.ensures.stays.holds c.flush_current.ensures.group c.in-Ok.ensures.at_back in
    let second : HasGoneOn m h u t = gone_on c.flush_current.new.self.core c.state_call.new.self.core c.in-Ok.ensures.stays.holds c.in-Ok-state_call.ensures.done.backs.holds c.state_call.ensures.group c.in-Ok-state_call.ensures.at_back in
    subst (λ (x : Entries ℕ). IsServed f h s t c.args.self.now.state c.state_call.new.self.state c.args.self.now.serials x c.args.syncs.now c.args.syncs.now c.args.thread call.Flush c.in-Ok-state_call.reply)
    (sym (c.state_call.ensures.serials ∙ c.flush_current.ensures.serials))
    (c.syncs_come_to.ensures.others f h s t c.args.self.now.state c.state_call.new.self.state c.args.self.now.serials c.args.syncs.now c.args.thread call.Flush c.in-Ok-state_call.reply
    c.requires.may.may.accepted refl refl (gone_then f m h s u t first second)
    (carried_from f m h s u t c.args.self.now.state c.state_call.new.self.state c.args.thread call.Flush c.in-Ok-state_call.reply c.in-Ok.ensures.stays.view_is
    (subst (λ (x : GroupState). IsCarriedOut m h u t x c.state_call.new.self.state c.args.thread call.Flush c.in-Ok-state_call.reply) c.flush_current.ensures.state c.in-Ok-state_call.ensures.done)))

pub returns-in-Ok-state_call-clause-flushes : goal.returns-in-Ok-state_call-clause-flushes
returns-in-Ok-state_call-clause-flushes g c =
    let second : HasGoneOn (face c.flush_current.new.self.core) (face c.state_call.new.self.core) (g.L.BackLink.state c.flush_current.new.link) (g.L.BackLink.state c.state_call.new.link)
    = gone_on c.flush_current.new.self.core c.state_call.new.self.core c.in-Ok.ensures.stays.holds c.in-Ok-state_call.ensures.done.backs.holds c.state_call.ensures.group c.in-Ok-state_call.ensures.at_back in
    flushed_still (current_index c.args.self.now.state c.args.self.now.serials c.args.thread) (face c.flush_current.new.self.core) (face c.state_call.new.self.core) c.args.syncs.now c.state_call.ensures.pending second.last c.in-Ok.ensures.flushed

pub returns-in-Ok-state_call-clause-at_back : goal.returns-in-Ok-state_call-clause-at_back
returns-in-Ok-state_call-clause-at_back g c =
    then_within 0 false false (IsNeededAnd c.args.syncs.now (IsSyncReason c.args.self.now.state c.args.self.now.serials c.args.syncs.now c.args.thread call.Flush)) (omega arith) (λ on. on) (λ on. on) (λ on. on) (λ on. on)
    (needed_map c.args.syncs.now (λ batch may. economy.flush refl may)) (no_batch (IsNeededAnd c.args.syncs.now (IsSyncReason c.args.self.now.state c.args.self.now.serials c.args.syncs.now c.args.thread call.Flush)))
    c.in-Ok.ensures.at_back c.in-Ok-state_call.ensures.at_back

pub returns-in-Err-state_call-clause-at_back : goal.returns-in-Err-state_call-clause-at_back
returns-in-Err-state_call-clause-at_back g c =
    then_within 0 false true (IsNeededAnd c.args.syncs.now (IsSyncReason c.args.self.now.state c.args.self.now.serials c.args.syncs.now c.args.thread call.Flush)) (omega arith) (λ on. on) (λ on. on) (λ on. refl) (λ on. refl)
    (needed_map c.args.syncs.now (λ batch may. economy.flush refl may)) (no_batch (IsNeededAnd c.args.syncs.now (IsSyncReason c.args.self.now.state c.args.self.now.serials c.args.syncs.now c.args.thread call.Flush)))
    c.in-Ok.ensures.at_back c.state_call.ensures.at_back

pub returns-in-Err-clause-at_back : goal.returns-in-Err-clause-at_back
returns-in-Err-clause-at_back g c =
    may_hand (IsNeededAnd c.args.syncs.now (IsSyncReason c.args.self.now.state c.args.self.now.serials c.args.syncs.now c.args.thread call.Flush)) (needed_map c.args.syncs.now (λ batch may. economy.flush refl may)) c.in-Err.ensures.at_back
