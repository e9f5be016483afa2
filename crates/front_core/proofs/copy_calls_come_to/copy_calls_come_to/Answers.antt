use Rattle.std.proofs.Common.{arith, ◌≢◌, refl}
use Rattle.std.specs.Prelude.{unsigned_abs}
use Rattle.gl_calls.specs.declared.call.Call.TheVariants as call
use Rattle.gl_calls.specs.declared.reply.Reply.TheVariants as reply
use Rattle.front_model.specs.declared.object.Object.TheVariants.{Buffer}
use Rattle.front_model.specs.Face.{put_object, view}
use Rattle.front_model.specs.Stands.{no_hands}
use Rattle.front_model.specs.Wanted.{with_copy}
use Rattle.front_moves.specs.Core.{face, IsQuietBut}
use Rattle.front_core.proofs.BufferCalls.{accepted_of, bound_of, carried_still, nothing_changes, done_answers, store_is, has_store}
use Rattle.front_core.proofs.CopyCalls.{Copies, has_index, index_own, copy_range, copies_of, copy_may, quiet_still, map_range, named_is, carried_mapped}
use Rattle.front_core.proofs.copy_calls_come_to.copy_calls_come_to.Goals as goal

pub returns : goal.returns
returns r = record {
  owns = λ f s h. r.steps_may.ensures.owns f no_hands s h;
  index = has_index;
  own = index_own;
  copy_names = λ f s group thread from to read write size may.
      let range = copy_range r.accepted_calls_are_in_range.ensures.copy f s group thread from to read write size may in
      let inner = range.2.holds.2 in
      (range.0, range.1, record { b = range.2.b; facts = range.2.facts; is_bound = range.2.is_bound; holds = record { b = inner.b; facts = inner.facts; is_bound = inner.is_bound; holds = tt } });
  copy_may = λ c s group thread b w from to read write size may b_is w_is some.
      let range = copy_range r.accepted_calls_are_in_range.ensures.copy (face c) s group thread from to read write size may in
      copy_may c s group thread (call.CopyBufferSubData from to read write size) range.0 from to b w (unsigned_abs read) (unsigned_abs write) (unsigned_abs size) may
      (copies_of group range.0 from to b w (unsigned_abs read) (unsigned_abs write) (unsigned_abs size) range.2 (b_is range.0 range.1) (w_is range.0 range.1)) some;
  copied = λ f g s t group thread b w from to read write size may b_is w_is moved.
      let asked = call.CopyBufferSubData from to read write size in
      let range = copy_range r.accepted_calls_are_in_range.ensures.copy f s group thread from to read write size may in
      let copies : Copies group range.0 from to b w (unsigned_abs read) (unsigned_abs write) (unsigned_abs size)
      = copies_of group range.0 from to b w (unsigned_abs read) (unsigned_abs write) (unsigned_abs size) range.2 (b_is range.0 range.1) (w_is range.0 range.1) in
      carried_still f g s t group thread asked reply.Done
      (put_object (view f s) (Buffer w) (with_copy (view f s (Buffer w)) (unsigned_abs write) (unsigned_abs size) (view f s (Buffer b)) (unsigned_abs read)))
      (λ o. IsQuietBut f s (Buffer w) o × (o ≢ Buffer b)) may moved
      (quiet_still f s group thread asked range.0 from to b w (unsigned_abs read) (unsigned_abs write) (unsigned_abs size) may copies)
      (nothing_changes group thread asked refl (λ n x. refl))
      (λ state at is agree. r.calls_keep_agreement.ensures.copy state thread at b w range.0 copies.source copies.target from to read write size (view f s)
      (accepted_of f s group thread asked range.0 may range.1 state is)
      (bound_of state group range.0 from b copies.source is.group_is copies.from_is) (bound_of state group range.0 to w copies.target is.group_is copies.to_is) agree)
      (λ state is agree. done_answers state thread asked range.0 ((accepted_of f s group thread asked range.0 may range.1 state is).current) refl);
  map_names = λ f s group thread target offset len access may.
      let range = map_range r.accepted_calls_are_in_range.ensures.map f s group thread target offset len access may in
      (range.0, range.1, record { b = range.2.b; facts = range.2.facts; is_bound = range.2.is_bound; holds = tt });
  map_may = λ c s group thread b target offset len access may b_is.
      let range = map_range r.accepted_calls_are_in_range.ensures.map (face c) s group thread target offset len access may in (
        range.2.facts.size,
        has_store c b range.2.facts.size (omega (arith, range.2.holds.1, range.2.holds.2))
            (store_is c s group thread b (call.MapBufferRange target offset len access) range.2.facts may (named_is group range.0 target b (unsigned_abs offset) (unsigned_abs len) range.2 (b_is range.0 range.1)).is),
      );
  mapped = λ f g s t group thread b target offset len access may b_is moved quiet.
      let range = map_range r.accepted_calls_are_in_range.ensures.map f s group thread target offset len access may in
      carried_mapped r.calls_keep_agreement.ensures.map r.calls_keep_stores.ensures.mapped f g s t group thread b target offset len access range.0 range.2.facts may range.1
      (named_is group range.0 target b (unsigned_abs offset) (unsigned_abs len) range.2 (b_is range.0 range.1)) moved quiet;
}
