use Rattle.std.proofs.Common.{◌≡◌, ℕ, None, Some, sym, ◌∙◌, ap, subst, refl, if◌then◌else◌}
use Rattle.gl_calls.specs.declared.call.Call.{Call}
use Rattle.gl_calls.specs.declared.call.Call.TheVariants as call
use Rattle.gl_calls.specs.declared.reply.Reply.TheVariants as reply
use Rattle.gl_model.specs.declared.state.GroupState.{GroupState}
use Rattle.gl_model.specs.GroupModel.{GroupModel}
use Rattle.gl_model.specs.GroupEffect.{group_effect}
use Rattle.gl_model.specs.Effect.{effect}
use Rattle.gl_model.specs.Legal.{Answers}
use Rattle.gl_model.specs.Refusal.{refusal}
use Rattle.front_model.specs.declared.object.Object.{Object}
use Rattle.front_model.specs.Face.{view}
use Rattle.front_model.specs.Stands.{no_hands}
use Rattle.front_model.specs.Wanted.{kind_wanted, exists, IsMapped, HasFreeNumbers}
use Rattle.front_moves.specs.Core.{face}
use Rattle.sync_serials.specs.Serials.{SyncsStand, asks, serial_at}
use Rattle.front_core.specs.Share.{IsChanged}
use Rattle.front_core.specs.Front.{entry_of}
use Rattle.front_core.specs.Polls.{IsPoll, answer_by, timeout_of}
use Rattle.front_core.proofs.AnsweredCalls.{refusal_of}
use Rattle.front_moves.specs.Ending.{is_ended}
use Rattle.front_core.proofs.GoneBuffers.{objects_gone_are}
use Rattle.front_core.proofs.StateCalls.{AreGone, kinds_left, maps_left, agrees_left}
use Rattle.front_core.proofs.Serving.{wait_makes_none, wait_maps_none, wait_agrees, wait_contexts, changed_on, says_retired}
use Rattle.front_core.proofs.syncs_come_to.waits_come_to.Goals as goal

pub returns-clause-changed : goal.returns-clause-changed
returns-clause-changed r c g s t group thread asked ended which may is has_ended =
    let after : GroupState = group_effect group thread asked in
    let same : may.model.group ≡ group = may.is.group_is in
    let ended_is : AreGone group after ended = λ o. ap (λ l. is_ended l o) is ∙ objects_gone_are group after o in
    let kinds : (o : Object) → kind_wanted after o ≡ (if exists after o then kind_wanted group o else None)
    = subst (λ (x : GroupState). (o : Object) → kind_wanted (group_effect x thread asked) o ≡ (if exists (group_effect x thread asked) o then kind_wanted x o else None)) same
    (r.calls_keep_stores.ensures.others may.model thread asked may.is.sizes (subst HasFreeNumbers (sym same) may.is.free) (wait_makes_none asked which)) in
    let maps : (b : ℕ) → IsMapped after b → IsMapped group b
    = subst (λ (x : GroupState). (b : ℕ) → IsMapped (group_effect x thread asked) b → IsMapped x b) same
    (r.calls_keep_stores.ensures.maps may.model thread asked may.is.sizes (wait_maps_none asked which)) in
    record {
      backs = record {
        holds = has_ended.holds;
        kinds = kinds_left c g s t group after thread ended ended_is kinds may.backs.kinds has_ended;
        maps = maps_left c g s t group after thread ended ended_is maps may.backs.maps has_ended;
      };
      state = refl;
      agrees = λ state place is_state agree.
          let accepted : refusal state.group thread asked ≡ None = ap (λ (x : GroupState). refusal x thread asked) is_state.group_is ∙ may.accepted in
          let projected : (effect state thread asked place).group ≡ after = r.group_is_a_projection.ensures.effect state thread asked place ∙ ap (λ (x : GroupState). group_effect x thread asked) is_state.group_is in
          agrees_left c g s t group after thread ended (effect state thread asked place) projected
          (r.buffers_have_their_sizes.ensures.effect state thread asked place is_state.sizes accepted may.its_data)
          (r.images_have_their_sizes.ensures.effect state thread asked place is_state.images accepted) ended_is has_ended
          (wait_agrees r.calls_keep_agreement.ensures.others state thread place (view (face c) s) asked which agree);
    }

pub returns-clause-contexts : goal.returns-clause-contexts
returns-clause-contexts r group thread asked which = wait_contexts group thread asked which

pub returns-clause-served : goal.returns-clause-served
returns-clause-served r f h g s u t group after serials tables thread asked x signalled may which changed stays on poll =
    let now : IsChanged f g s t group after thread asked = changed_on f h g s u t group after thread asked changed stays in
    record {
      backs = now.backs;
      state = now.state;
      agrees = now.agrees;
      answers = λ state place is stand agree. by_call asked which state (refusal_of state group thread asked None is may.may.accepted) poll place stand;
      syncs = λ state line place is stand.
          r.syncs_are_signalled.ensures.asked g t serials tables state place (entry_of thread line asked (reply.Waited (answer_by asked signalled))) x poll.polled.serial
          (r.syncs_stand_on.ensures.goes_on f g s t serials tables state place stand on) (refusal_of state group thread asked None is may.may.accepted) which poll.polled.is
          (says_retired tables s t x asked signalled which poll);
    }
  where
    by_call : (asked : Call) → asks asked x → (state : GroupModel) → refusal state.group thread asked ≡ None → IsPoll tables s t x (timeout_of asked) signalled → (place : ℕ) →
        SyncsStand f s serials tables state place → Answers state thread asked (reply.Waited (answer_by asked signalled))
    by_call (call.ClientWaitSync number flags timeout) which state accepted poll place stand =
        subst (λ b. Answers state thread (call.ClientWaitSync number flags timeout) (reply.Waited (answer_by (call.ClientWaitSync number flags timeout) b))) (sym poll.is_signalled)
        (r.waits_may_answer.ensures.answers f s serials tables state place thread number flags timeout poll.polled.completed poll.polled.serial stand accepted
        (subst (λ y. serial_at tables y ≡ Some poll.polled.serial) which poll.polled.is) poll.polled.rises)
    by_call (call.EglClientWaitSync number flush timeout) which state accepted poll place stand =
        subst (λ b. Answers state thread (call.EglClientWaitSync number flush timeout) (reply.Waited (answer_by (call.EglClientWaitSync number flush timeout) b))) (sym poll.is_signalled)
        (r.waits_may_answer.ensures.egl_answers f s serials tables state place thread number timeout poll.polled.completed flush poll.polled.serial stand accepted
        (subst (λ y. serial_at tables y ≡ Some poll.polled.serial) which poll.polled.is) poll.polled.rises)
    by_call other which state accepted poll place stand = absurd which

pub returns-clause-owns : goal.returns-clause-owns
returns-clause-owns r f s h = r.steps_may.ensures.owns f no_hands s h
