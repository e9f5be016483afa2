use Rattle.std.proofs.Common.{◌≤◌, ℕ, List, true, false, refl, sym, subst, ◌∙◌, ap, arith}
use Rattle.std.specs.Prelude.{IfSome}
use Rattle.gl_calls.specs.declared.call.Call.TheVariants as call
use Rattle.tables.specs.Table.{Entries}
use Rattle.gl_model.specs.declared.state.GroupState.{GroupState}
use Rattle.back_core.proofs.Frames.{then_within, no_batch}
use Rattle.back_core.specs.Needs.{IsOfGroup}
use Rattle.front_moves.specs.Core.{face}
use Rattle.vk_types.specs.declared.ops.Node.{Node}
use Rattle.sync_serials.specs.Serials.{HasGoneOn, newest_of}
use Rattle.front_core.specs.Polls.{HasFinished}
use Rattle.front_core.specs.Economy as economy
use Rattle.front_core.specs.Economy.{IsNeededAnd, IsSyncReason}
use Rattle.front_core.specs.Share.{MayCall, IsCarriedOut}
use Rattle.front_core.specs.Front.{IsServed}
use Rattle.front_core.proofs.GoingOn.{gone_on, last_stays}
use Rattle.front_core.proofs.Switching.{may_still, carried_from}
use Rattle.front_core.proofs.Serving.{gone_then, finished_on}
use Rattle.front_core.proofs.AtTheBack.{may_hand, needed_map}
use Rattle.front_core.proofs.share.Share.finish_call.Goals as goal

pub state_call-requires-clause-may : goal.state_call-requires-clause-may
state_call-requires-clause-may g c =
    subst (λ (x : GroupState). MayCall (face c.finish_current.new.self.core) (g.L.BackLink.state c.finish_current.new.link) x c.args.thread call.Finish) (sym c.finish_current.ensures.state)
    (may_still (face c.args.self.now.core) (face c.finish_current.new.self.core) (g.L.BackLink.state c.args.link.now) (g.L.BackLink.state c.finish_current.new.link) c.args.self.now.state c.args.thread call.Finish c.requires.may.may c.in-Ok.ensures.stays)

pub returns-in-Ok-state_call-clause-done : goal.returns-in-Ok-state_call-clause-done
returns-in-Ok-state_call-clause-done g c =
    let f = face c.args.self.now.core in
    let m = face c.finish_current.new.self.core in
    let h = face c.state_call.new.self.core in
    let s = g.L.BackLink.state c.args.link.now in
    let u = g.L.BackLink.state c.finish_current.new.link in
    let t = g.L.BackLink.state c.state_call.new.link in
    let first : HasGoneOn f m s u = gone_on c.args.self.now.core c.finish_current.new.self.core c.requires.may.may.backs.holds c.in-Ok.ensures.stays.holds c.finish_current.ensures.group c.in-Ok.ensures.at_back in
    let second : HasGoneOn m h u t = gone_on c.finish_current.new.self.core c.state_call.new.self.core c.in-Ok.ensures.stays.holds c.in-Ok-state_call.ensures.done.backs.holds c.state_call.ensures.group c.in-Ok-state_call.ensures.at_back in
    let on = finished_on c.args.self.now.state c.args.self.now.serials f.group c.args.thread c.requires.indexes c.requires.may.may.accepted in
    let done : HasFinished m u c.args.syncs.now on.0 = subst (λ o. IfSome o (HasFinished m u c.args.syncs.now)) on.1 c.in-Ok.ensures.finished in
    let later = second.done on.0 in
    let low : newest_of c.args.syncs.now on.0 ≤ t.done on.0 = omega (arith, done.flushed.batched, done.retired, later) in
    subst (λ (x : Entries ℕ). IsServed f h s t c.args.self.now.state c.state_call.new.self.state c.args.self.now.serials x c.args.syncs.now c.args.syncs.now c.args.thread call.Finish c.in-Ok-state_call.reply)
    (sym (c.state_call.ensures.serials ∙ c.finish_current.ensures.serials))
    (c.syncs_come_to.ensures.finished f h s t c.args.self.now.state c.state_call.new.self.state c.args.self.now.serials c.args.syncs.now c.args.thread on.0 c.in-Ok-state_call.reply
    c.requires.may.may.accepted on.1 low (gone_then f m h s u t first second)
    (carried_from f m h s u t c.args.self.now.state c.state_call.new.self.state c.args.thread call.Finish c.in-Ok-state_call.reply c.in-Ok.ensures.stays.view_is
    (subst (λ (x : GroupState). IsCarriedOut m h u t x c.state_call.new.self.state c.args.thread call.Finish c.in-Ok-state_call.reply) c.finish_current.ensures.state c.in-Ok-state_call.ensures.done)))

pub returns-in-Ok-state_call-clause-flushes : goal.returns-in-Ok-state_call-clause-flushes
returns-in-Ok-state_call-clause-flushes g c =
    let second : HasGoneOn (face c.finish_current.new.self.core) (face c.state_call.new.self.core) (g.L.BackLink.state c.finish_current.new.link) (g.L.BackLink.state c.state_call.new.link)
    = gone_on c.finish_current.new.self.core c.state_call.new.self.core c.in-Ok.ensures.stays.holds c.in-Ok-state_call.ensures.done.backs.holds c.state_call.ensures.group c.in-Ok-state_call.ensures.at_back in
    let on = finished_on c.args.self.now.state c.args.self.now.serials (face c.args.self.now.core).group c.args.thread c.requires.indexes c.requires.may.may.accepted in
    let done : HasFinished (face c.finish_current.new.self.core) (g.L.BackLink.state c.finish_current.new.link) c.args.syncs.now on.0 = subst (λ o. IfSome o (HasFinished (face c.finish_current.new.self.core) (g.L.BackLink.state c.finish_current.new.link) c.args.syncs.now)) on.1 c.in-Ok.ensures.finished in
    subst (λ o. IfSome o (HasFinished (face c.state_call.new.self.core) (g.L.BackLink.state c.state_call.new.link) c.args.syncs.now)) (sym on.1)
    (record {
      flushed = record { pending = ap (λ (p : ℕ → List Node). p on.0) c.state_call.ensures.pending ∙ done.flushed.pending; batched = let risen = second.last on.0 in omega (arith, done.flushed.batched, risen) };
      retired =
          let same = last_stays c.finish_current.new.self.core c.state_call.new.self.core c.in-Ok.ensures.stays.holds c.in-Ok-state_call.ensures.done.backs.holds c.state_call.ensures.group c.in-Ok-state_call.ensures.at_back on.0 (subst (λ n. IsOfGroup n on.0) (sym c.finish_current.ensures.group) on.2) in
          let low = second.done on.0 in
          omega (arith, same, done.retired, low);
    })

pub returns-in-Ok-state_call-clause-at_back : goal.returns-in-Ok-state_call-clause-at_back
returns-in-Ok-state_call-clause-at_back g c =
    then_within 0 true false (IsNeededAnd c.args.syncs.now (IsSyncReason c.args.self.now.state c.args.self.now.serials c.args.syncs.now c.args.thread call.Finish)) (omega arith) (λ on. refl) (λ on. refl) (λ on. on) (λ on. on)
    (needed_map c.args.syncs.now (λ batch may. economy.finish refl may)) (no_batch (IsNeededAnd c.args.syncs.now (IsSyncReason c.args.self.now.state c.args.self.now.serials c.args.syncs.now c.args.thread call.Finish)))
    c.in-Ok.ensures.at_back c.in-Ok-state_call.ensures.at_back

pub returns-in-Err-state_call-clause-at_back : goal.returns-in-Err-state_call-clause-at_back
returns-in-Err-state_call-clause-at_back g c =
    then_within 0 true true (IsNeededAnd c.args.syncs.now (IsSyncReason c.args.self.now.state c.args.self.now.serials c.args.syncs.now c.args.thread call.Finish)) (omega arith) (λ on. refl) (λ on. refl) (λ on. refl) (λ on. refl)
    (needed_map c.args.syncs.now (λ batch may. economy.finish refl may)) (no_batch (IsNeededAnd c.args.syncs.now (IsSyncReason c.args.self.now.state c.args.self.now.serials c.args.syncs.now c.args.thread call.Finish)))
    c.in-Ok.ensures.at_back c.state_call.ensures.at_back

pub returns-in-Err-clause-at_back : goal.returns-in-Err-clause-at_back
returns-in-Err-clause-at_back g c =
    may_hand (IsNeededAnd c.args.syncs.now (IsSyncReason c.args.self.now.state c.args.self.now.serials c.args.syncs.now c.args.thread call.Finish)) (needed_map c.args.syncs.now (λ batch may. economy.finish refl may)) c.in-Err.ensures.at_back
