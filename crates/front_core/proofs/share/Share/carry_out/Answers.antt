use Rattle.std.proofs.Common.{◌≡◌, rules, false, true, sym, ◌∙◌, ap, subst, arith}
use Rattle.tables.specs.Table.{Entries, has}
use Rattle.gl_model.specs.declared.state.GroupState.{GroupState}
use Rattle.sync_serials.specs.Serials.{HasGoneOn}
use Rattle.front_moves.specs.Core.{face}
use Rattle.front_core.specs.Answering.{changes_contexts, reaches_syncs}
use Rattle.front_core.specs.Economy.{IsNeededAnd, HasTrueReason, may_wait, upload_due}
use Rattle.front_core.specs.Front.{IsServed}
use Rattle.front_core.proofs.ContextsStay.{contexts_stay, indexes_stay}
use Rattle.front_core.proofs.AtTheBack.{at_most, due_as, may_hand, of_objects, of_syncs, though_stopped, needed_map, of_needed_objects}
use Rattle.front_core.proofs.GoingOn.{gone_on}
use Rattle.front_core.proofs.Serving.{others_stay, others_wait, contexts_wait, polls_none, flushes_none, contexts_served, no_bytes, syncs_leave_contexts}
use Rattle.front_core.proofs.share.Share.carry_out.Goals as goal

pub returns-in-Ok-other_call-clause-indexes : goal.returns-in-Ok-other_call-clause-indexes
returns-in-Ok-other_call-clause-indexes g c =
    let before : GroupState = c.args.self.now.state in
    let others : changes_contexts c.args.call.now ≡ false = search rules in
    indexes_stay before.contexts c.other_call.new.self.state.contexts c.args.self.now.serials c.other_call.new.self.serials c.args.self.now.core.indexes.group c.other_call.new.self.core.indexes.group
    c.requires.indexes
    (λ n. ap (λ (x : GroupState). has n x.contexts) c.in-Ok-other_call.ensures.done.state ∙ contexts_stay before c.args.thread n c.args.call.now c.requires.built others)
    c.other_call.ensures.serials c.other_call.ensures.group

pub returns-in-Ok-other_call-clause-done : goal.returns-in-Ok-other_call-clause-done
returns-in-Ok-other_call-clause-done g c =
    let f = face c.args.self.now.core in
    let h = face c.other_call.new.self.core in
    let s = g.L.BackLink.state c.args.link.now in
    let t = g.L.BackLink.state c.other_call.new.link in
    let none : changes_contexts c.args.call.now ≡ false = search rules in
    let no_sync : reaches_syncs c.args.call.now ≡ false = search rules in
    let on : HasGoneOn f h s t = gone_on c.args.self.now.core c.other_call.new.self.core c.requires.may.may.backs.holds c.in-Ok-other_call.ensures.done.backs.holds c.other_call.ensures.group c.in-Ok-other_call.ensures.at_back in
    subst (λ (x : Entries _). IsServed f h s t c.args.self.now.state c.other_call.new.self.state c.args.self.now.serials x c.args.syncs.now c.args.syncs.now c.args.thread c.args.call.now c.in-Ok-other_call.reply)
    (sym c.other_call.ensures.serials)
    (c.syncs_come_to.ensures.others f h s t c.args.self.now.state c.other_call.new.self.state c.args.self.now.serials c.args.syncs.now c.args.thread c.args.call.now c.in-Ok-other_call.reply
    c.requires.may.may.accepted (others_stay c.args.call.now none no_sync) (others_wait c.args.call.now no_sync) on c.in-Ok-other_call.ensures.done)

pub returns-in-Ok-other_call-clause-polls : goal.returns-in-Ok-other_call-clause-polls
returns-in-Ok-other_call-clause-polls g c =
    let no_sync : reaches_syncs c.args.call.now ≡ false = search rules in
    polls_none c.args.syncs.now (g.L.BackLink.state c.args.link.now) (g.L.BackLink.state c.other_call.new.link) c.args.call.now c.in-Ok-other_call.reply (others_wait c.args.call.now no_sync)

pub returns-in-Ok-other_call-clause-flushes : goal.returns-in-Ok-other_call-clause-flushes
returns-in-Ok-other_call-clause-flushes g c =
    let none : changes_contexts c.args.call.now ≡ false = search rules in
    let no_sync : reaches_syncs c.args.call.now ≡ false = search rules in
    flushes_none c.args.self.now.state c.args.self.now.serials c.args.syncs.now c.args.thread c.args.call.now (face c.other_call.new.self.core) (g.L.BackLink.state c.other_call.new.link) c.in-Ok-other_call.reply none no_sync

pub returns-in-Ok-other_call-clause-at_back : goal.returns-in-Ok-other_call-clause-at_back
returns-in-Ok-other_call-clause-at_back g c =
    let none : changes_contexts c.args.call.now ≡ false = search rules in
    may_hand (IsNeededAnd c.args.syncs.now (HasTrueReason (face c.args.self.now.core) c.args.self.now.state c.args.self.now.serials c.args.syncs.now c.args.thread c.args.call.now))
    (of_needed_objects (face c.args.self.now.core) c.args.self.now.state c.args.self.now.serials c.args.syncs.now c.args.thread c.args.call.now none) c.in-Ok-other_call.ensures.at_back

pub returns-in-Err-other_call-clause-at_back : goal.returns-in-Err-other_call-clause-at_back
returns-in-Err-other_call-clause-at_back g c =
    let none : changes_contexts c.args.call.now ≡ false = search rules in
    may_hand (IsNeededAnd c.args.syncs.now (HasTrueReason (face c.args.self.now.core) c.args.self.now.state c.args.self.now.serials c.args.syncs.now c.args.thread c.args.call.now))
    (of_needed_objects (face c.args.self.now.core) c.args.self.now.state c.args.self.now.serials c.args.syncs.now c.args.thread c.args.call.now none) (though_stopped c.other_call.ensures.at_back)

pub returns-in-Ok-context_call-clause-done : goal.returns-in-Ok-context_call-clause-done
returns-in-Ok-context_call-clause-done g c =
    let f = face c.args.self.now.core in
    let h = face c.context_call.new.self.core in
    let s = g.L.BackLink.state c.args.link.now in
    let t = g.L.BackLink.state c.context_call.new.link in
    let which : changes_contexts c.args.call.now ≡ true = search rules in
    let on : HasGoneOn f h s t = gone_on c.args.self.now.core c.context_call.new.self.core c.requires.may.may.backs.holds c.in-Ok-context_call.ensures.done.backs.holds c.context_call.ensures.group c.in-Ok-context_call.ensures.at_back in
    contexts_served (record { created = c.syncs_come_to.ensures.created; left = c.syncs_come_to.ensures.left }) f h s t c.args.self.now.state c.context_call.new.self.state c.args.self.now.serials c.context_call.new.self.serials
    c.args.syncs.now c.args.thread c.args.call.now c.in-Ok-context_call.reply which c.requires.may.may.accepted c.in-Ok-context_call.ensures.reindexed on c.in-Ok-context_call.ensures.done

pub returns-in-Ok-context_call-clause-polls : goal.returns-in-Ok-context_call-clause-polls
returns-in-Ok-context_call-clause-polls g c =
    let which : changes_contexts c.args.call.now ≡ true = search rules in
    polls_none c.args.syncs.now (g.L.BackLink.state c.args.link.now) (g.L.BackLink.state c.context_call.new.link) c.args.call.now c.in-Ok-context_call.reply (contexts_wait c.args.call.now which)

pub returns-in-Ok-context_call-clause-at_back : goal.returns-in-Ok-context_call-clause-at_back
returns-in-Ok-context_call-clause-at_back g c =
    at_most (upload_due c.args.self.now.state c.args.thread c.args.call.now) (may_wait c.args.call.now) (omega arith)
    (may_hand (IsNeededAnd c.args.syncs.now (HasTrueReason (face c.args.self.now.core) c.args.self.now.state c.args.self.now.serials c.args.syncs.now c.args.thread c.args.call.now))
    (needed_map c.args.syncs.now (of_objects (face c.args.self.now.core) c.args.self.now.state c.args.self.now.serials c.args.syncs.now c.args.thread c.args.call.now)) c.in-Ok-context_call.ensures.at_back)

pub returns-in-Err-context_call-clause-at_back : goal.returns-in-Err-context_call-clause-at_back
returns-in-Err-context_call-clause-at_back g c =
    at_most (upload_due c.args.self.now.state c.args.thread c.args.call.now) (may_wait c.args.call.now) (omega arith)
    (may_hand (IsNeededAnd c.args.syncs.now (HasTrueReason (face c.args.self.now.core) c.args.self.now.state c.args.self.now.serials c.args.syncs.now c.args.thread c.args.call.now))
    (needed_map c.args.syncs.now (of_objects (face c.args.self.now.core) c.args.self.now.state c.args.self.now.serials c.args.syncs.now c.args.thread c.args.call.now)) (though_stopped c.context_call.ensures.at_back))

pub returns-in-Ok-clause-indexes : goal.returns-in-Ok-clause-indexes
returns-in-Ok-clause-indexes g c =
    let before : GroupState = c.args.self.now.state in
    let which : reaches_syncs c.args.call.now ≡ true = search rules in
    indexes_stay before.contexts c.sync_call.new.self.state.contexts c.args.self.now.serials c.sync_call.new.self.serials c.args.self.now.core.indexes.group c.sync_call.new.self.core.indexes.group
    c.requires.indexes
    (λ n. ap (λ (x : GroupState). has n x.contexts) c.in-Ok.ensures.done.state ∙ contexts_stay before c.args.thread n c.args.call.now c.requires.built (syncs_leave_contexts c.args.call.now which))
    c.sync_call.ensures.serials c.sync_call.ensures.group

pub returns-in-Ok-clause-at_back : goal.returns-in-Ok-clause-at_back
returns-in-Ok-clause-at_back g c =
    let which : reaches_syncs c.args.call.now ≡ true = search rules in
    due_as (sym (no_bytes c.args.self.now.state c.args.thread c.args.call.now which))
    (may_hand (IsNeededAnd c.args.syncs.now (HasTrueReason (face c.args.self.now.core) c.args.self.now.state c.args.self.now.serials c.args.syncs.now c.args.thread c.args.call.now))
    (needed_map c.args.syncs.now (of_syncs (face c.args.self.now.core) c.args.self.now.state c.args.self.now.serials c.args.syncs.now c.args.thread c.args.call.now)) c.in-Ok.ensures.at_back)

pub returns-in-Err-clause-at_back : goal.returns-in-Err-clause-at_back
returns-in-Err-clause-at_back g c =
    let which : reaches_syncs c.args.call.now ≡ true = search rules in
    due_as (sym (no_bytes c.args.self.now.state c.args.thread c.args.call.now which))
    (may_hand (IsNeededAnd c.args.syncs.now (HasTrueReason (face c.args.self.now.core) c.args.self.now.state c.args.self.now.serials c.args.syncs.now c.args.thread c.args.call.now))
    (needed_map c.args.syncs.now (of_syncs (face c.args.self.now.core) c.args.self.now.state c.args.self.now.serials c.args.syncs.now c.args.thread c.args.call.now)) (though_stopped c.sync_call.ensures.at_back))
