use Rattle.std.proofs.Common.{◌+◌, refl, sym, subst}
use Rattle.std.specs.Prelude.{unsigned_abs}
use Rattle.cells.specs.Contents.{cells, Agrees}
use Rattle.gl_calls.specs.declared.call.Call.TheVariants as call
use Rattle.gl_calls.specs.declared.reply.Reply.TheVariants as reply
use Rattle.gl_calls.specs.Words.{payload_len, payload_bytes}
use Rattle.gl_model.specs.Bindings.{current_context}
use Rattle.gl_model.specs.Effect.{effect}
use Rattle.front_model.specs.declared.object.Object.TheVariants.{Buffer}
use Rattle.front_model.specs.Face.{put_object, view}
use Rattle.front_model.specs.Stands.{no_hands, IsQuiet}
use Rattle.front_model.specs.Wanted.{wanted, AgreeWith, HasMapRange, with_bytes}
use Rattle.front_core.proofs.BufferCalls.{context_of, accepted_of, bound_of, bound_back, carried_still, nothing_changes, done_answers}
use Rattle.front_core.proofs.StateCalls.{none_either, nil_either}
use Rattle.front_core.proofs.calls_come_to.map_calls_come_to.Goals as goal

pub returns : goal.returns
returns r = record {
  owns = λ f s h. r.steps_may.ensures.owns f no_hands s h;
  may_read = λ f s group thread target offset len may.
      let known = context_of group thread (call.MapRead target offset len) may.accepted in (
        known.0,
        known.1,
        bound_back may.model group known.0 target (λ b facts. HasMapRange facts (unsigned_abs offset) (unsigned_abs len)) may.is.group_is
            (r.accepted_calls_are_in_range.ensures.map_read may.model thread known.0 target offset len (accepted_of f s group thread (call.MapRead target offset len) known.0 may known.1 may.model may.is)),
      );
  may_write = λ f s group thread target offset payload may.
      let known = context_of group thread (call.MapWrite target offset payload) may.accepted in (
        known.0,
        known.1,
        bound_back may.model group known.0 target (λ b facts. HasMapRange facts (unsigned_abs offset) (payload_len payload)) may.is.group_is
            (r.accepted_calls_are_in_range.ensures.map_write may.model thread known.0 target offset payload (accepted_of f s group thread (call.MapWrite target offset payload) known.0 may known.1 may.model may.is)),
      );
  read = λ f g s t group thread b place target offset len out may finds moved bytes.
      let asked = call.MapRead target offset len in
      let known = context_of group thread asked may.accepted in
      let found = finds known.0 known.1 in
      carried_still f g s t group thread asked (reply.Bytes out) (view f s) (IsQuiet f s) may moved (λ c mapped. may.backs.maps c mapped) (nothing_changes group thread asked refl (λ n x. refl))
      (λ state at is agree. r.calls_keep_agreement.ensures.others state thread at asked (view f s) (none_either (current_context state.group thread)) (nil_either (current_context state.group thread)) agree)
      (λ state is agree. r.reads_through_a_map_answer.ensures.read state thread b known.0 found.0 found.1 target offset len (view f s) out
      (accepted_of f s group thread asked known.0 may known.1 state is) (bound_of state group known.0 target b found.0 is.group_is found.2) found.3 agree
      (subst (λ n. Agrees out (cells (unsigned_abs len) (λ k. view f s (Buffer b) (n + unsigned_abs offset + k)))) (sym found.4) bytes));
  write = λ f s t group thread b place target offset payload may finds moved.
      let asked = call.MapWrite target offset payload in
      let known = context_of group thread asked may.accepted in
      let found = finds known.0 known.1 in
      carried_still f f s t group thread asked reply.Done (put_object (view f s) (Buffer b) (with_bytes (view f s (Buffer b)) (place + unsigned_abs offset) (payload_bytes payload))) (IsQuiet f s) may moved (λ c mapped. may.backs.maps c mapped) (nothing_changes group thread asked refl (λ n x. refl))
      (λ state at is agree. subst (λ n. AgreeWith (put_object (view f s) (Buffer b) (with_bytes (view f s (Buffer b)) (n + unsigned_abs offset) (payload_bytes payload))) (wanted (effect state thread asked at))) found.4
      (r.calls_keep_agreement.ensures.map_write state thread at b known.0 found.0 found.1 target offset payload (view f s)
      (accepted_of f s group thread asked known.0 may known.1 state is) (bound_of state group known.0 target b found.0 is.group_is found.2) found.3 agree))
      (λ state is agree. done_answers state thread asked known.0 ((accepted_of f s group thread asked known.0 may known.1 state is).current) refl);
}
