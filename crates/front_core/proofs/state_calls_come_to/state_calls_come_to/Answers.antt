use Rattle.std.proofs.Common.{◌≡◌, ℕ, sym, ◌∙◌, ap, subst, refl}
use Rattle.std.specs.Prelude.{None, if◌then◌else◌}
use Rattle.gl_model.specs.declared.state.GroupState.{GroupState}
use Rattle.gl_model.specs.GroupEffect.{group_effect, swept}
use Rattle.gl_model.specs.Effect.{effect}
use Rattle.gl_model.specs.Refusal.{refusal}
use Rattle.gl_state.specs.Applied.{reply_of}
use Rattle.front_model.specs.declared.object.Object.{Object}
use Rattle.front_model.specs.Face.{view}
use Rattle.front_model.specs.Stands.{no_hands}
use Rattle.front_model.specs.Wanted.{kind_wanted, exists, IsMapped, HasFreeNumbers}
use Rattle.front_moves.specs.Core.{face}
use Rattle.front_moves.specs.Ending.{is_ended}
use Rattle.front_core.proofs.GoneBuffers.{objects_gone_are}
use Rattle.front_core.proofs.StateCalls.{Keeping, has_reply, makes_none, maps_none, still_agrees, AreGone, kinds_left, maps_left, agrees_left}
use Rattle.front_core.proofs.state_calls_come_to.state_calls_come_to.Goals as goal

pub returns : goal.returns
returns r = record {
  carried = λ c g s t group thread asked answer ended which may told is has_ended.
      let after : GroupState = group_effect group thread asked in
      let same : may.model.group ≡ group = may.is.group_is in
      let ended_is : AreGone group after ended = λ o. ap (λ l. is_ended l o) is ∙ objects_gone_are group after o in
      let keeping : Keeping = record { others = r.calls_keep_agreement.ensures.others; flush = r.calls_keep_agreement.ensures.flush; unmap = r.calls_keep_agreement.ensures.unmap; delete = r.calls_keep_agreement.ensures.delete } in
      let kinds : (o : Object) → kind_wanted after o ≡ (if exists after o then kind_wanted group o else None)
      = subst (λ (x : GroupState). (o : Object) → kind_wanted (group_effect x thread asked) o ≡ (if exists (group_effect x thread asked) o then kind_wanted x o else None)) same
      (r.calls_keep_stores.ensures.others may.model thread asked may.is.sizes (subst HasFreeNumbers (sym same) may.is.free) (makes_none asked which)) in
      let maps : (b : ℕ) → IsMapped after b → IsMapped group b
      = subst (λ (x : GroupState). (b : ℕ) → IsMapped (group_effect x thread asked) b → IsMapped x b) same
      (r.calls_keep_stores.ensures.maps may.model thread asked may.is.sizes (maps_none asked which)) in
      record {
        backs = record {
          holds = has_ended.holds;
          kinds = kinds_left c g s t group after thread ended ended_is kinds may.backs.kinds has_ended;
          maps = maps_left c g s t group after thread ended ended_is maps may.backs.maps has_ended;
        };
        state = refl;
        agrees = λ state place is_state agree.
            let accepted : refusal state.group thread asked ≡ None = ap (λ (x : GroupState). refusal x thread asked) is_state.group_is ∙ may.accepted in
            let referred : swept state.group ≡ state.group = subst (λ (x : GroupState). swept x ≡ x) (sym is_state.group_is) is_state.referred in
            let projected : (effect state thread asked place).group ≡ after = r.group_is_a_projection.ensures.effect state thread asked place ∙ ap (λ (x : GroupState). group_effect x thread asked) is_state.group_is in
            agrees_left c g s t group after thread ended (effect state thread asked place) projected
            (r.buffers_have_their_sizes.ensures.effect state thread asked place is_state.sizes accepted may.its_data)
            (r.images_have_their_sizes.ensures.effect state thread asked place is_state.images accepted) ended_is has_ended
            (still_agrees keeping state thread place (view (face c) s) is_state.sizes referred asked which accepted agree);
        answers = λ state is_state agree. r.replies_are_answers.ensures state thread asked answer (ap (λ (x : GroupState). reply_of x thread asked) is_state.group_is ∙ told);
      };
  replies = has_reply;
  owns = λ f s h. r.steps_may.ensures.owns f no_hands s h;
}
