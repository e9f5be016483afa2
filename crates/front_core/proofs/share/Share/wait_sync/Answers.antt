use Rattle.std.proofs.Common.{◌≡◌, ℕ, Some, None, rules, true, false, refl, sym, subst, ◌∙◌, arith}
use Rattle.std.specs.Prelude.{IsSome}
use Rattle.std.proofs.lemmas.Bool.{false≢true}
use Rattle.tables.specs.Table.{Entries}
use Rattle.gl_model.specs.declared.state.GroupState.{GroupState}
use Rattle.back_core.proofs.Frames.{then_within, no_batch}
use Rattle.front_moves.specs.Core.{face}
use Rattle.sync_serials.specs.declared.serials.SyncName.TheVariants.{Gl}
use Rattle.sync_serials.specs.Serials.{HasGoneOn, serial_at}
use Rattle.front_core.specs.Economy.{IsNeededAnd, IsSyncReason}
use Rattle.front_core.specs.Share.{MayCall, IsCarriedOut}
use Rattle.front_core.specs.Front.{IsServed}
use Rattle.front_core.proofs.AtTheBack.{may_hand, needed_for_sync}
use Rattle.front_core.proofs.GoingOn.{gone_on}
use Rattle.front_core.proofs.Switching.{may_still, carried_from}
use Rattle.front_core.proofs.Serving.{gone_then, wait_sync_stays, wait_sync_of_state, wait_sync_flushes, wait_sync_reason}
use Rattle.front_core.proofs.share.Share.wait_sync.Goals as goal

pub unreachable-requires : goal.unreachable-requires
unreachable-requires g c =
    let there : IsSome (serial_at c.args.syncs.now (Gl c.args.number)) = c.syncs_are_there.ensures.found_by_wait (face c.args.self.now.core) (g.L.BackLink.state c.args.link.now) c.args.self.now.state c.args.self.now.serials c.args.syncs.now c.args.thread c.args.number c.args.call.now c.requires.may c.requires.which in
    let none : serial_at c.args.syncs.now (Gl c.args.number) ≡ None = search rules in
    false≢true (subst IsSome none there)

pub hand_over_for-requires-clause-group : goal.hand_over_for-requires-clause-group
hand_over_for-requires-clause-group g c =
    let at : serial_at c.args.syncs.now (Gl c.args.number) ≡ Some c.in-Some.serial = search rules in
    (c.syncs_are_there.ensures.made (face c.args.self.now.core) (g.L.BackLink.state c.args.link.now) c.args.self.now.state c.args.self.now.serials c.args.syncs.now c.args.thread c.args.call.now (Gl c.args.number) c.in-Some.serial c.requires.may at).of_group

pub hand_over_for-requires-clause-number : goal.hand_over_for-requires-clause-number
hand_over_for-requires-clause-number g c =
    let at : serial_at c.args.syncs.now (Gl c.args.number) ≡ Some c.in-Some.serial = search rules in
    (c.syncs_are_there.ensures.made (face c.args.self.now.core) (g.L.BackLink.state c.args.link.now) c.args.self.now.state c.args.self.now.serials c.args.syncs.now c.args.thread c.args.call.now (Gl c.args.number) c.in-Some.serial c.requires.may at).number

pub state_call-requires-clause-may : goal.state_call-requires-clause-may
state_call-requires-clause-may g c =
    subst (λ (x : GroupState). MayCall (face c.hand_over_for.new.self.core) (g.L.BackLink.state c.hand_over_for.new.link) x c.args.thread c.args.call.now) (sym c.hand_over_for.ensures.state)
    (may_still (face c.args.self.now.core) (face c.hand_over_for.new.self.core) (g.L.BackLink.state c.args.link.now) (g.L.BackLink.state c.hand_over_for.new.link) c.args.self.now.state c.args.thread c.args.call.now c.requires.may.may c.in-Ok.ensures.stays)

pub state_call-requires-clause-which : goal.state_call-requires-clause-which
state_call-requires-clause-which g c = wait_sync_of_state c.args.call.now c.args.number c.requires.which

pub returns-in-Ok-state_call-clause-done : goal.returns-in-Ok-state_call-clause-done
returns-in-Ok-state_call-clause-done g c =
    let f = face c.args.self.now.core in
    let m = face c.hand_over_for.new.self.core in
    let h = face c.state_call.new.self.core in
    let s = g.L.BackLink.state c.args.link.now in
    let u = g.L.BackLink.state c.hand_over_for.new.link in
    let t = g.L.BackLink.state c.state_call.new.link in
    let first : HasGoneOn f m s u = gone_on c.args.self.now.core c.hand_over_for.new.self.core c.requires.may.may.backs.holds c.in-Ok.ensures.stays.holds c.hand_over_for.ensures.group c.in-Ok.ensures.at_back in
    let second : HasGoneOn m h u t = gone_on c.hand_over_for.new.self.core c.state_call.new.self.core c.in-Ok.ensures.stays.holds c.in-Ok-state_call.ensures.done.backs.holds c.state_call.ensures.group c.in-Ok-state_call.ensures.at_back in
    let quiet = wait_sync_stays c.args.call.now c.args.number c.requires.which in
    subst (λ (x : Entries ℕ). IsServed f h s t c.args.self.now.state c.state_call.new.self.state c.args.self.now.serials x c.args.syncs.now c.args.syncs.now c.args.thread c.args.call.now c.in-Ok-state_call.reply)
    (sym (c.state_call.ensures.serials ∙ c.hand_over_for.ensures.serials))
    (c.syncs_come_to.ensures.others f h s t c.args.self.now.state c.state_call.new.self.state c.args.self.now.serials c.args.syncs.now c.args.thread c.args.call.now c.in-Ok-state_call.reply
    c.requires.may.may.accepted quiet.0 quiet.1 (gone_then f m h s u t first second)
    (carried_from f m h s u t c.args.self.now.state c.state_call.new.self.state c.args.thread c.args.call.now c.in-Ok-state_call.reply c.in-Ok.ensures.stays.view_is
    (subst (λ (x : GroupState). IsCarriedOut m h u t x c.state_call.new.self.state c.args.thread c.args.call.now c.in-Ok-state_call.reply) c.hand_over_for.ensures.state c.in-Ok-state_call.ensures.done)))

pub returns-in-Ok-state_call-clause-flushes : goal.returns-in-Ok-state_call-clause-flushes
returns-in-Ok-state_call-clause-flushes g c =
    let at : serial_at c.args.syncs.now (Gl c.args.number) ≡ Some c.in-Some.serial = search rules in
    let second : HasGoneOn (face c.hand_over_for.new.self.core) (face c.state_call.new.self.core) (g.L.BackLink.state c.hand_over_for.new.link) (g.L.BackLink.state c.state_call.new.link)
    = gone_on c.hand_over_for.new.self.core c.state_call.new.self.core c.in-Ok.ensures.stays.holds c.in-Ok-state_call.ensures.done.backs.holds c.state_call.ensures.group c.in-Ok-state_call.ensures.at_back in
    let low = c.in-Ok.ensures.handed in
    let risen = second.last c.in-Some.serial.index in
    wait_sync_flushes c.args.self.now.state c.args.self.now.serials c.args.syncs.now c.args.thread c.args.number c.args.call.now (face c.state_call.new.self.core) (g.L.BackLink.state c.state_call.new.link) c.in-Ok-state_call.reply c.in-Some.serial c.requires.which at
    (omega (arith, low, risen))

pub returns-in-Ok-state_call-clause-at_back : goal.returns-in-Ok-state_call-clause-at_back
returns-in-Ok-state_call-clause-at_back g c =
    let at : serial_at c.args.syncs.now (Gl c.args.number) ≡ Some c.in-Some.serial = search rules in
    then_within 0 false false (IsNeededAnd c.args.syncs.now (IsSyncReason c.args.self.now.state c.args.self.now.serials c.args.syncs.now c.args.thread c.args.call.now)) (omega arith) (λ on. on) (λ on. on) (λ on. on) (λ on. on)
    (needed_for_sync c.args.syncs.now c.in-Some.serial (c.syncs_are_there.ensures.made (face c.args.self.now.core) (g.L.BackLink.state c.args.link.now) c.args.self.now.state c.args.self.now.serials c.args.syncs.now c.args.thread c.args.call.now (Gl c.args.number) c.in-Some.serial c.requires.may at).low
    (wait_sync_reason c.args.self.now.state c.args.self.now.serials c.args.syncs.now c.args.thread c.args.number c.args.call.now c.in-Some.serial c.requires.which at))
    (no_batch (IsNeededAnd c.args.syncs.now (IsSyncReason c.args.self.now.state c.args.self.now.serials c.args.syncs.now c.args.thread c.args.call.now)))
    c.in-Ok.ensures.at_back c.in-Ok-state_call.ensures.at_back

pub returns-in-Err-state_call-clause-at_back : goal.returns-in-Err-state_call-clause-at_back
returns-in-Err-state_call-clause-at_back g c =
    let at : serial_at c.args.syncs.now (Gl c.args.number) ≡ Some c.in-Some.serial = search rules in
    then_within 0 false true (IsNeededAnd c.args.syncs.now (IsSyncReason c.args.self.now.state c.args.self.now.serials c.args.syncs.now c.args.thread c.args.call.now)) (omega arith) (λ on. on) (λ on. on) (λ on. refl) (λ on. refl)
    (needed_for_sync c.args.syncs.now c.in-Some.serial (c.syncs_are_there.ensures.made (face c.args.self.now.core) (g.L.BackLink.state c.args.link.now) c.args.self.now.state c.args.self.now.serials c.args.syncs.now c.args.thread c.args.call.now (Gl c.args.number) c.in-Some.serial c.requires.may at).low
    (wait_sync_reason c.args.self.now.state c.args.self.now.serials c.args.syncs.now c.args.thread c.args.number c.args.call.now c.in-Some.serial c.requires.which at))
    (no_batch (IsNeededAnd c.args.syncs.now (IsSyncReason c.args.self.now.state c.args.self.now.serials c.args.syncs.now c.args.thread c.args.call.now)))
    c.in-Ok.ensures.at_back c.state_call.ensures.at_back

pub returns-in-Err-clause-at_back : goal.returns-in-Err-clause-at_back
returns-in-Err-clause-at_back g c =
    let at : serial_at c.args.syncs.now (Gl c.args.number) ≡ Some c.in-Some.serial = search rules in
    may_hand (IsNeededAnd c.args.syncs.now (IsSyncReason c.args.self.now.state c.args.self.now.serials c.args.syncs.now c.args.thread c.args.call.now))
    (needed_for_sync c.args.syncs.now c.in-Some.serial (c.syncs_are_there.ensures.made (face c.args.self.now.core) (g.L.BackLink.state c.args.link.now) c.args.self.now.state c.args.self.now.serials c.args.syncs.now c.args.thread c.args.call.now (Gl c.args.number) c.in-Some.serial c.requires.may at).low
    (wait_sync_reason c.args.self.now.state c.args.self.now.serials c.args.syncs.now c.args.thread c.args.number c.args.call.now c.in-Some.serial c.requires.which at))
    c.in-Err.ensures.at_back
