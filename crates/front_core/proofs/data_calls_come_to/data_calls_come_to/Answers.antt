use Rattle.std.proofs.Common.{◌≡◌, ◌≢◌, ℕ, ◌+◌, ◌≤◌, Option, None, refl, sym, ◌∙◌, ap, subst}
use Rattle.std.specs.Prelude.{unsigned_abs}
use Rattle.std.specs.Option.{option_map}
use Rattle.gl_calls.specs.declared.call.Call.TheVariants as call
use Rattle.gl_calls.specs.declared.reply.Reply.TheVariants as reply
use Rattle.gl_calls.specs.Words.{payload_len, payload_bytes}
use Rattle.tables.specs.Table.{entry}
use Rattle.gl_model.specs.declared.state.GroupState.{GroupState}
use Rattle.gl_model.specs.GroupEffect.{group_effect, swept}
use Rattle.gl_model.specs.Effect.{effect}
use Rattle.front_model.specs.declared.object.Object.{Object}
use Rattle.front_model.specs.declared.object.Object.TheVariants.{Buffer}
use Rattle.front_model.specs.Face.{Outline, put_object, view}
use Rattle.front_model.specs.Stands.{no_hands}
use Rattle.front_model.specs.Wanted.{buffer_kind, kind_wanted, wanted, IsMapped, HasBound}
use Rattle.front_moves.specs.Core.{IsQuietBut}
use Rattle.front_core.proofs.BufferCalls.{context_of, accepted_of, bound_of, bound_back, bound_has, carried_still, nothing_changes, done_answers}
use Rattle.front_core.proofs.CurrentIndexes.{index_of_current}
use Rattle.front_core.proofs.DataCalls.{data_is_its, kinds_with_data, maps_with_data, unmapped_is_other, agrees_with_data, agrees_filled}
use Rattle.front_core.proofs.data_calls_come_to.data_calls_come_to.Goals as goal

pub returns : goal.returns
returns r = record {
  owns = λ f s h. r.steps_may.ensures.owns f no_hands s h;
  may_data = λ f s group thread target size usage payload may.
      let asked = call.BufferData target size usage payload in
      let known = context_of group thread asked may.accepted in (
        known.0,
        known.1,
        bound_back may.model group known.0 target (λ b facts. Unit {0}) may.is.group_is
            (r.accepted_calls_are_in_range.ensures.«data» may.model thread known.0 target size usage payload (accepted_of f s group thread asked known.0 may known.1 may.model may.is)).1,
      );
  its_data = data_is_its;
  may_sub = λ f s group thread target offset payload may.
      let asked = call.BufferSubData target offset payload in
      let known = context_of group thread asked may.accepted in (
        known.0,
        known.1,
        bound_back may.model group known.0 target (λ b facts. (facts.map ≡ None) × (unsigned_abs offset + payload_len payload ≤ facts.size)) may.is.group_is
            (r.accepted_calls_are_in_range.ensures.sub may.model thread known.0 target offset payload (accepted_of f s group thread asked known.0 may known.1 may.model may.is)),
      );
  index = index_of_current;
  renewed = λ f g s t group after thread b target size usage payload may finds moved after_is.
      let asked = call.BufferData target size usage payload in
      let known = context_of group thread asked may.accepted in
      let found = finds known.0 known.1 in
      let accepted = accepted_of f s group thread asked known.0 may known.1 may.model may.is in
      let bound = bound_of may.model group known.0 target b found.0 may.is.group_is found.1 in
      record {
        backs = record {
          holds = moved.holds;
          kinds = λ o. ap (λ (x : Object → Option Outline). option_map (λ v. v.kind) (x o)) moved.outlines_are
              ∙ kinds_with_data f (kind_wanted group) b (unsigned_abs size) may.backs.kinds o
              ∙ sym (subst (λ (x : GroupState). kind_wanted (group_effect x thread asked) o ≡ put_object (kind_wanted x) (Buffer b) (buffer_kind (unsigned_abs size)) o) may.is.group_is
              (r.calls_keep_stores.ensures.«data» may.model thread b known.0 found.0 target size usage payload accepted bound o))
              ∙ ap (λ (x : GroupState). kind_wanted x o) (sym after_is);
          maps = maps_with_data f g s t b group after may.backs.maps moved.still
              (subst (λ (x : GroupState). (c : ℕ) → IsMapped x c → IsMapped group c × (c ≢ b)) (sym after_is)
              (subst (λ (x : GroupState). (c : ℕ) → IsMapped (group_effect x thread asked) c → IsMapped x c × (c ≢ b)) may.is.group_is
              (r.calls_keep_stores.ensures.unmapped may.model thread b known.0 found.0 target size usage payload accepted bound)));
        };
        state = after_is;
        agrees = λ state place is agree. agrees_with_data f g s t b (unsigned_abs size) payload (wanted (effect state thread asked place)) moved.view_is
            (r.calls_keep_agreement.ensures.«data» state thread place b known.0 found.0 target size usage payload (view f s)
            (accepted_of f s group thread asked known.0 may known.1 state is) (bound_of state group known.0 target b found.0 is.group_is found.1) agree);
        answers = λ state is agree. done_answers state thread asked known.0 ((accepted_of f s group thread asked known.0 may known.1 state is).current) refl;
      };
  filled = λ f g s t group thread b facts target offset payload may finds filled.
      let asked = call.BufferSubData target offset payload in
      let known = context_of group thread asked may.accepted in
      let bound = finds known.0 known.1 in
      let has : HasBound group known.0 target (λ b facts. (facts.map ≡ None) × (unsigned_abs offset + payload_len payload ≤ facts.size))
      = bound_back may.model group known.0 target (λ b facts. (facts.map ≡ None) × (unsigned_abs offset + payload_len payload ≤ facts.size)) may.is.group_is
      (r.accepted_calls_are_in_range.ensures.sub may.model thread known.0 target offset payload (accepted_of f s group thread asked known.0 may known.1 may.model may.is)) in
      let none : facts.map ≡ None = (bound_has group known.0 target b facts (λ b facts. (facts.map ≡ None) × (unsigned_abs offset + payload_len payload ≤ facts.size)) has bound).0 in
      let same : group_effect group thread asked ≡ swept group = nothing_changes group thread asked refl (λ n x. refl) in
      carried_still f g s t group thread asked reply.Done (view g t) (IsQuietBut f s (Buffer b)) may filled.moved
      (λ c mapped. (may.backs.maps c mapped, unmapped_is_other group b c facts bound.is none mapped))
      same
      (λ state place is agree.
      let accepted = accepted_of f s group thread asked known.0 may known.1 state is in
      let projected : (effect state thread asked place).group ≡ group = r.group_is_a_projection.ensures.effect state thread asked place ∙ ap (λ (x : GroupState). group_effect x thread asked) is.group_is ∙ same ∙ may.is.referred in
      agrees_filled f g s t b (unsigned_abs offset) (payload_bytes payload) facts (effect state thread asked place) filled
      (r.buffers_have_their_sizes.ensures.effect state thread asked place is.sizes accepted.accepted may.its_data)
      (ap (λ (x : GroupState). entry b x.buffers) projected ∙ bound.is)
      (r.calls_keep_agreement.ensures.sub state thread place b known.0 facts target offset payload (view f s) accepted (bound_of state group known.0 target b facts is.group_is bound) agree))
      (λ state is agree. done_answers state thread asked known.0 ((accepted_of f s group thread asked known.0 may known.1 state is).current) refl);
}
