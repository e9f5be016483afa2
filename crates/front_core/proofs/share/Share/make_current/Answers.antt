use Rattle.std.proofs.Common.{◌≡◌, sym, ◌∙◌, ap, subst, refl, arith, false, true}
use Rattle.std.specs.Prelude.{IfSome}
use Rattle.gl_calls.specs.declared.call.Call.TheVariants as call
use Rattle.tables.specs.Table.{has, only}
use Rattle.gl_model.specs.declared.state.GroupState.{GroupState}
use Rattle.gl_model.specs.GroupEffect.{taken_by, let_go}
use Rattle.front_moves.specs.Core.{face}
use Rattle.front_core.specs.Share.{MayCall, IsCarriedOut, HaveIndexes, replaced_index}
use Rattle.front_core.proofs.ContextIndexes.{left_indexes, fewer-taken, indexes_of_equal}
use Rattle.sync_serials.specs.Serials.{HasGoneOn}
use Rattle.front_core.specs.Polls.{HasFlushedAll}
use Rattle.front_core.proofs.GoingOn.{gone_on}
use Rattle.front_core.proofs.Switching.{may_still, carried_from, flushed_still}
use Rattle.back_core.proofs.Frames.{then_within, no_batch}
use Rattle.front_core.specs.Economy.{IsNeededAnd, IsSwitch, IsTrueReason}
use Rattle.front_core.proofs.AtTheBack.{switch_is_true, may_hand, needed_map}
use Rattle.front_core.proofs.share.Share.make_current.Goals as goal

pub state_call-requires-clause-may : goal.state_call-requires-clause-may
state_call-requires-clause-may g c =
    subst (λ (x : GroupState). MayCall (face c.switch.new.self.core) (g.L.BackLink.state c.switch.new.link) x c.args.thread (call.MakeCurrent c.args.number)) (sym c.switch.ensures.state)
    (may_still (face c.args.self.now.core) (face c.switch.new.self.core) (g.L.BackLink.state c.args.link.now) (g.L.BackLink.state c.switch.new.link) c.args.self.now.state c.args.thread (call.MakeCurrent c.args.number) c.requires.may c.in-Ok.ensures.moved)

pub returns-in-Ok-state_call-clause-done : goal.returns-in-Ok-state_call-clause-done
returns-in-Ok-state_call-clause-done g c =
    carried_from (face c.args.self.now.core) (face c.switch.new.self.core) (face c.state_call.new.self.core) (g.L.BackLink.state c.args.link.now) (g.L.BackLink.state c.switch.new.link) (g.L.BackLink.state c.state_call.new.link)
    c.args.self.now.state c.state_call.new.self.state c.args.thread (call.MakeCurrent c.args.number) c.in-Ok-state_call.reply c.in-Ok.ensures.moved.view_is
    (subst (λ (x : GroupState). IsCarriedOut (face c.switch.new.self.core) (face c.state_call.new.self.core) (g.L.BackLink.state c.switch.new.link) (g.L.BackLink.state c.state_call.new.link) x c.state_call.new.self.state c.args.thread (call.MakeCurrent c.args.number) c.in-Ok-state_call.reply)
    c.switch.ensures.state c.in-Ok-state_call.ensures.done)

pub returns-in-Ok-state_call-clause-indexes : goal.returns-in-Ok-state_call-clause-indexes
returns-in-Ok-state_call-clause-indexes g c =
    let before : GroupState = c.args.self.now.state in
    let after : GroupState = c.state_call.new.self.state in
    let kept : HaveIndexes before.contexts c.state_call.new.self.serials c.state_call.new.self.core.indexes.group
    = indexes_of_equal before.contexts before.contexts c.state_call.new.self.serials c.args.self.now.serials c.state_call.new.self.core.indexes.group c.args.self.now.core.indexes.group
    refl (c.state_call.ensures.serials ∙ c.switch.ensures.serials) (c.state_call.ensures.group ∙ c.switch.ensures.group) c.requires.indexes in
    let contexts : after.contexts ≡ taken_by c.args.thread c.args.number (let_go c.args.thread before.contexts)
    = ap (λ (x : GroupState). x.contexts) c.in-Ok-state_call.ensures.done.state
    ∙ ap (λ (x : GroupState). taken_by c.args.thread c.args.number (let_go c.args.thread x.contexts)) c.switch.ensures.state in
    indexes_of_equal after.contexts after.contexts c.drop_indexes.new.serials (only (λ n. has n after.contexts) c.state_call.new.self.serials) c.state_call.new.self.core.indexes.group c.state_call.new.self.core.indexes.group
    refl (c.drop_indexes.ensures ∙ ap (λ (x : GroupState). only (λ n. has n x.contexts) c.state_call.new.self.serials) c.group.ensures) refl
    (left_indexes before.contexts after.contexts c.state_call.new.self.serials c.state_call.new.self.core.indexes.group kept
    (λ n there. fewer-taken c.args.thread c.args.number n before.contexts (sym (ap (has n) contexts) ∙ there)))

pub returns-in-Ok-state_call-clause-flushed : goal.returns-in-Ok-state_call-clause-flushed
returns-in-Ok-state_call-clause-flushed g c =
    let on : HasGoneOn (face c.switch.new.self.core) (face c.state_call.new.self.core) (g.L.BackLink.state c.switch.new.link) (g.L.BackLink.state c.state_call.new.link)
    = gone_on c.switch.new.self.core c.state_call.new.self.core c.in-Ok.ensures.moved.holds c.in-Ok-state_call.ensures.done.backs.holds c.state_call.ensures.group c.in-Ok-state_call.ensures.at_back in
    flushed_still (replaced_index c.args.self.now.state c.args.self.now.serials c.args.thread c.args.number) (face c.switch.new.self.core) (face c.state_call.new.self.core) c.args.syncs.now c.state_call.ensures.pending on.last
    (subst (λ n. IfSome (replaced_index c.args.self.now.state c.args.self.now.serials c.args.thread n) (HasFlushedAll (face c.switch.new.self.core) c.args.syncs.now)) c.from.ensures c.in-Ok.ensures.flushed)

pub returns-in-Ok-state_call-clause-left : goal.returns-in-Ok-state_call-clause-left
returns-in-Ok-state_call-clause-left g c =
    c.drop_indexes.ensures ∙ ap (λ (x : GroupState). only (λ n. has n x.contexts) c.state_call.new.self.serials) c.group.ensures
    ∙ ap (only (λ n. has n c.state_call.new.self.state.contexts)) (c.state_call.ensures.serials ∙ c.switch.ensures.serials)

pub returns-in-Ok-state_call-clause-at_back : goal.returns-in-Ok-state_call-clause-at_back
returns-in-Ok-state_call-clause-at_back g c =
    then_within 0 false false (IsNeededAnd c.args.syncs.now (IsTrueReason (face c.args.self.now.core) c.args.self.now.state c.args.self.now.serials c.args.thread (call.MakeCurrent c.args.number))) (omega arith) (λ on. on) (λ on. on) (λ on. on) (λ on. on)
    (needed_map c.args.syncs.now (λ batch is. switch_is_true (face c.args.self.now.core) c.args.self.now.state c.args.self.now.serials c.args.thread c.args.number batch (subst (λ n. IsSwitch c.args.self.now.state c.args.self.now.serials c.args.thread n batch) c.from.ensures is)))
    (no_batch (IsNeededAnd c.args.syncs.now (IsTrueReason (face c.args.self.now.core) c.args.self.now.state c.args.self.now.serials c.args.thread (call.MakeCurrent c.args.number))))
    c.in-Ok.ensures.at_back c.in-Ok-state_call.ensures.at_back

pub returns-in-Ok-clause-at_back : goal.returns-in-Ok-clause-at_back
returns-in-Ok-clause-at_back g c =
    then_within 0 false true (IsNeededAnd c.args.syncs.now (IsTrueReason (face c.args.self.now.core) c.args.self.now.state c.args.self.now.serials c.args.thread (call.MakeCurrent c.args.number))) (omega arith) (λ on. on) (λ on. on) (λ on. refl) (λ on. refl)
    (needed_map c.args.syncs.now (λ batch is. switch_is_true (face c.args.self.now.core) c.args.self.now.state c.args.self.now.serials c.args.thread c.args.number batch (subst (λ n. IsSwitch c.args.self.now.state c.args.self.now.serials c.args.thread n batch) c.from.ensures is)))
    (no_batch (IsNeededAnd c.args.syncs.now (IsTrueReason (face c.args.self.now.core) c.args.self.now.state c.args.self.now.serials c.args.thread (call.MakeCurrent c.args.number))))
    c.in-Ok.ensures.at_back c.state_call.ensures.at_back

pub returns-clause-at_back : goal.returns-clause-at_back
returns-clause-at_back g c =
    may_hand (IsNeededAnd c.args.syncs.now (IsTrueReason (face c.args.self.now.core) c.args.self.now.state c.args.self.now.serials c.args.thread (call.MakeCurrent c.args.number)))
    (needed_map c.args.syncs.now (λ batch is. switch_is_true (face c.args.self.now.core) c.args.self.now.state c.args.self.now.serials c.args.thread c.args.number batch (subst (λ n. IsSwitch c.args.self.now.state c.args.self.now.serials c.args.thread n batch) c.from.ensures is)))
    c.in-Err.ensures.at_back
