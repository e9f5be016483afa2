use Rattle.std.proofs.Common.{arith, ◌≡◌, ◌+◌, ◌≤◌, refl, sym, ◌∙◌, ap, subst, w64, length, false, true, [], ◌∷◌}
use Rattle.std.proofs.Math.Facts.{to_z-of_z}
use Rattle.std.specs.Prelude.{unsigned_abs, None}
use Rattle.gl_calls.specs.declared.call.Call.TheVariants as call
use Rattle.gl_calls.specs.declared.reply.Reply.TheVariants as reply
use Rattle.gl_calls.specs.Words.{payload_len, payload_bytes}
use Rattle.gl_model.specs.declared.state.GroupState.{GroupState}
use Rattle.front_model.specs.declared.object.Object.TheVariants.{Buffer}
use Rattle.front_moves.specs.Core.{face}
use Rattle.front_core.specs.Share.{IsCarriedOut}
use Rattle.front_core.proofs.BufferCalls.{bound_has, store_is, length-payload_bytes}
use Rattle.front_core.proofs.DataCalls.{filled_as}
use Rattle.front_core.specs.Economy.{IsUsedBy, IsTrueReason}
use Rattle.front_core.proofs.AtTheBack.{nothing_done, due_as, may_hand, parting_is_true, used_first, each_of_one, though_stopped}
use Rattle.front_core.proofs.share.Share.buffer_sub_data.Goals as goal

pub unreachable-requires : goal.unreachable-requires
unreachable-requires g c =
    let h = c.data_calls_come_to.ensures.may_sub (face c.args.self.now.core) (g.L.BackLink.state c.args.link.now) c.args.self.now.state c.args.thread c.args.target c.args.offset c.args.payload.now c.requires.may in
    c.in_default.ensures.none h.0 h.2.b h.2.facts h.1 h.2.is_bound

pub returns-in_default-bytes-clause-err : goal.returns-in_default-bytes-clause-err
returns-in_default-bytes-clause-err g c = c.data_calls_come_to.ensures.owns (face c.args.self.now.core) (g.L.BackLink.state c.args.link.now) c.requires.may.backs.holds

pub fill-requires-clause-store : goal.fill-requires-clause-store
fill-requires-clause-store g c =
    let h = c.data_calls_come_to.ensures.may_sub (face c.args.self.now.core) (g.L.BackLink.state c.args.link.now) c.args.self.now.state c.args.thread c.args.target c.args.offset c.args.payload.now c.requires.may in
    store_is c.args.self.now.core (g.L.BackLink.state c.args.link.now) c.args.self.now.state c.args.thread c.in-Some.buffer (call.BufferSubData c.args.target c.args.offset c.args.payload.now) c.in-Some.facts c.requires.may (c.in-Some.ensures.some h.0 h.1).is

pub fill-requires-clause-inside : goal.fill-requires-clause-inside
fill-requires-clause-inside g c =
    let h = c.data_calls_come_to.ensures.may_sub (face c.args.self.now.core) (g.L.BackLink.state c.args.link.now) c.args.self.now.state c.args.thread c.args.target c.args.offset c.args.payload.now c.requires.may in
    let range : (c.in-Some.facts.map ≡ None) × (unsigned_abs c.args.offset + payload_len c.args.payload.now ≤ c.in-Some.facts.size)
    = bound_has c.args.self.now.state h.0 c.args.target c.in-Some.buffer c.in-Some.facts (λ b facts. (facts.map ≡ None) × (unsigned_abs c.args.offset + payload_len c.args.payload.now ≤ facts.size)) h.2 (c.in-Some.ensures.some h.0 h.1) in
    let inside : unsigned_abs c.args.offset + payload_len c.args.payload.now ≤ c.in-Some.facts.size = range.1 in
    let at_is : c.unsigned_abs-at.result ≡ unsigned_abs c.args.offset = c.unsigned_abs-at.ensures.value ∙ rw (to_z-of_z {w = w64} {z = c.args.offset} c.ranges.offset) refl in
    let len_is : length c.as_slice.result.now ≡ payload_len c.args.payload.now = ap length (c.as_slice.ensures ∙ c.in-Ok.ensures) ∙ length-payload_bytes c.args.payload.now in
    omega (arith, inside, at_is, len_is)

pub returns-in-Ok-fill-clause-done : goal.returns-in-Ok-fill-clause-done
returns-in-Ok-fill-clause-done g c =
    let at_is : c.unsigned_abs-at.result ≡ unsigned_abs c.args.offset = c.unsigned_abs-at.ensures.value ∙ rw (to_z-of_z {w = w64} {z = c.args.offset} c.ranges.offset) refl in
    subst (λ (x : GroupState). IsCarriedOut (face c.args.self.now.core) (face c.fill.new.self.core) (g.L.BackLink.state c.args.link.now) (g.L.BackLink.state c.fill.new.link) c.args.self.now.state x c.args.thread (call.BufferSubData c.args.target c.args.offset c.args.payload.now) reply.Done)
    (sym c.fill.ensures.state)
    (c.data_calls_come_to.ensures.filled (face c.args.self.now.core) (face c.fill.new.self.core) (g.L.BackLink.state c.args.link.now) (g.L.BackLink.state c.fill.new.link) c.args.self.now.state c.args.thread c.in-Some.buffer c.in-Some.facts c.args.target c.args.offset c.args.payload.now c.requires.may c.in-Some.ensures.some
    (filled_as (face c.args.self.now.core) (face c.fill.new.self.core) (g.L.BackLink.state c.args.link.now) (g.L.BackLink.state c.fill.new.link) c.in-Some.buffer c.in-Some.facts.size c.unsigned_abs-at.result (unsigned_abs c.args.offset) c.as_slice.result.now (payload_bytes c.args.payload.now)
    at_is (c.as_slice.ensures ∙ c.in-Ok.ensures) c.in-Ok-fill.ensures.filled))

pub returns-in_default-bytes-clause-at_back : goal.returns-in_default-bytes-clause-at_back
returns-in_default-bytes-clause-at_back g c =
    nothing_done (g.L.BackLink.state c.args.link.now) (g.L.BackLink.told c.args.link.now) (payload_len c.args.payload.now) false true (IsTrueReason (face c.args.self.now.core) c.args.self.now.state c.args.self.now.serials c.args.thread (call.BufferSubData c.args.target c.args.offset c.args.payload.now))

pub returns-in-Ok-fill-clause-at_back : goal.returns-in-Ok-fill-clause-at_back
returns-in-Ok-fill-clause-at_back g c =
    let h = c.data_calls_come_to.ensures.may_sub (face c.args.self.now.core) (g.L.BackLink.state c.args.link.now) c.args.self.now.state c.args.thread c.args.target c.args.offset c.args.payload.now c.requires.may in
    let len_is : length c.as_slice.result.now ≡ payload_len c.args.payload.now = ap length (c.as_slice.ensures ∙ c.in-Ok.ensures) ∙ length-payload_bytes c.args.payload.now in
    let used : IsUsedBy c.args.self.now.state c.args.thread (call.BufferSubData c.args.target c.args.offset c.args.payload.now) (Buffer c.in-Some.buffer, false) = used_first c.args.self.now.state c.args.thread (call.BufferSubData c.args.target c.args.offset c.args.payload.now) h.0 c.args.target false [] c.in-Some.buffer refl h.1 (c.in-Some.ensures.some h.0 h.1).bound in
    due_as len_is
    (may_hand (IsTrueReason (face c.args.self.now.core) c.args.self.now.state c.args.self.now.serials c.args.thread (call.BufferSubData c.args.target c.args.offset c.args.payload.now))
    (parting_is_true (face c.args.self.now.core) c.args.self.now.state c.args.self.now.serials c.args.thread (call.BufferSubData c.args.target c.args.offset c.args.payload.now) c.in-Some-index.index ((Buffer c.in-Some.buffer, false) ∷ []) (sym c.index.ensures ∙ c.in-Some-index.is)
    (each_of_one (IsUsedBy c.args.self.now.state c.args.thread (call.BufferSubData c.args.target c.args.offset c.args.payload.now)) (Buffer c.in-Some.buffer, false) used))
    c.in-Ok-fill.ensures.at_back)

pub returns-clause-at_back : goal.returns-clause-at_back
returns-clause-at_back g c =
    let h = c.data_calls_come_to.ensures.may_sub (face c.args.self.now.core) (g.L.BackLink.state c.args.link.now) c.args.self.now.state c.args.thread c.args.target c.args.offset c.args.payload.now c.requires.may in
    let len_is : length c.as_slice.result.now ≡ payload_len c.args.payload.now = ap length (c.as_slice.ensures ∙ c.in-Ok.ensures) ∙ length-payload_bytes c.args.payload.now in
    let used : IsUsedBy c.args.self.now.state c.args.thread (call.BufferSubData c.args.target c.args.offset c.args.payload.now) (Buffer c.in-Some.buffer, false) = used_first c.args.self.now.state c.args.thread (call.BufferSubData c.args.target c.args.offset c.args.payload.now) h.0 c.args.target false [] c.in-Some.buffer refl h.1 (c.in-Some.ensures.some h.0 h.1).bound in
    due_as len_is
    (may_hand (IsTrueReason (face c.args.self.now.core) c.args.self.now.state c.args.self.now.serials c.args.thread (call.BufferSubData c.args.target c.args.offset c.args.payload.now))
    (parting_is_true (face c.args.self.now.core) c.args.self.now.state c.args.self.now.serials c.args.thread (call.BufferSubData c.args.target c.args.offset c.args.payload.now) c.in-Some-index.index ((Buffer c.in-Some.buffer, false) ∷ []) (sym c.index.ensures ∙ c.in-Some-index.is)
    (each_of_one (IsUsedBy c.args.self.now.state c.args.thread (call.BufferSubData c.args.target c.args.offset c.args.payload.now)) (Buffer c.in-Some.buffer, false) used))
    (though_stopped c.fill.ensures.at_back))
