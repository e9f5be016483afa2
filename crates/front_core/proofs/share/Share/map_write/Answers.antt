use Rattle.std.proofs.Common.{arith, rules, ◌≡◌, ◌+◌, ◌<◌, refl, sym, ◌∙◌, ap, w64, length, false, true}
use Rattle.std.proofs.Math.Facts.{to_z-of_z}
use Rattle.std.specs.Prelude.{unsigned_abs}
use Rattle.gl_calls.specs.declared.call.Call.TheVariants as call
use Rattle.gl_calls.specs.Words.{payload_len, payload_bytes}
use Rattle.front_moves.specs.Core.{face}
use Rattle.front_core.proofs.BufferCalls.{InMap, Reach, in_map, has_reach, length-payload_bytes, wrote_as, wrote_nothing}
use Rattle.back_core.specs.Frame.{NoBatch}
use Rattle.front_core.proofs.AtTheBack.{nothing_done, due_as, though_stopped}
use Rattle.front_core.proofs.share.Share.map_write.Goals as goal

pub unreachable-requires : goal.unreachable-requires
unreachable-requires g c =
    let h : InMap c.args.self.now.state c.args.thread c.args.target (unsigned_abs c.args.offset) (payload_len c.args.payload.now)
    = c.map_calls_come_to.ensures.may_write (face c.args.self.now.core) (g.L.BackLink.state c.args.link.now) c.args.self.now.state c.args.thread c.args.target c.args.offset c.args.payload.now c.requires in
    c.in_default.ensures.none h.0 h.2.b h.2.facts h.2.holds.mapped h.1 h.2.is_bound h.2.holds.map

pub returns-in_default-bytes-clause-err : goal.returns-in_default-bytes-clause-err
returns-in_default-bytes-clause-err g c = c.map_calls_come_to.ensures.owns (face c.args.self.now.core) (g.L.BackLink.state c.args.link.now) c.requires.backs.holds

pub returns-then-is_empty-clause-done : goal.returns-then-is_empty-clause-done
returns-then-is_empty-clause-done g c =
    let none : length c.in-Ok.bytes ≡ 0 = search rules in
    c.map_calls_come_to.ensures.write (face c.args.self.now.core) (g.L.BackLink.state c.args.link.now) (g.L.BackLink.state c.args.link.now) c.args.self.now.state c.args.thread c.in-Some.buffer c.in-Some.place c.args.target c.args.offset c.args.payload.now c.requires c.in-Some.ensures.some
    (wrote_nothing (face c.args.self.now.core) (g.L.BackLink.state c.args.link.now) c.in-Some.buffer _ (payload_bytes c.args.payload.now) (ap length (sym c.in-Ok.ensures) ∙ none) c.requires.backs.holds)

pub overflow_add-place : goal.overflow_add-place
overflow_add-place g c =
    let h : InMap c.args.self.now.state c.args.thread c.args.target (unsigned_abs c.args.offset) (payload_len c.args.payload.now)
    = c.map_calls_come_to.ensures.may_write (face c.args.self.now.core) (g.L.BackLink.state c.args.link.now) c.args.self.now.state c.args.thread c.args.target c.args.offset c.args.payload.now c.requires in
    let r : Reach c.args.self.now.core (g.L.BackLink.state c.args.link.now) c.in-Some.buffer (c.in-Some.place + unsigned_abs c.args.offset) (payload_len c.args.payload.now)
    = in_map c.args.self.now.core (g.L.BackLink.state c.args.link.now) c.args.self.now.state c.args.thread (call.MapWrite c.args.target c.args.offset c.args.payload.now) c.args.target (unsigned_abs c.args.offset) (payload_len c.args.payload.now) c.in-Some.buffer c.in-Some.place c.requires h c.in-Some.ensures.some in
    let at_is : c.unsigned_abs.result ≡ unsigned_abs c.args.offset = c.unsigned_abs.ensures.value ∙ rw (to_z-of_z {w = w64} {z = c.args.offset} c.ranges.offset) refl in
    omega (arith, r.inside, r.fits, at_is)

pub write-requires-clause-quiet : goal.write-requires-clause-quiet
write-requires-clause-quiet g c =
    let h : InMap c.args.self.now.state c.args.thread c.args.target (unsigned_abs c.args.offset) (payload_len c.args.payload.now)
    = c.map_calls_come_to.ensures.may_write (face c.args.self.now.core) (g.L.BackLink.state c.args.link.now) c.args.self.now.state c.args.thread c.args.target c.args.offset c.args.payload.now c.requires in
    (in_map c.args.self.now.core (g.L.BackLink.state c.args.link.now) c.args.self.now.state c.args.thread (call.MapWrite c.args.target c.args.offset c.args.payload.now) c.args.target (unsigned_abs c.args.offset) (payload_len c.args.payload.now) c.in-Some.buffer c.in-Some.place c.requires h c.in-Some.ensures.some).quiet

pub write-requires-clause-store : goal.write-requires-clause-store
write-requires-clause-store g c =
    let h : InMap c.args.self.now.state c.args.thread c.args.target (unsigned_abs c.args.offset) (payload_len c.args.payload.now)
    = c.map_calls_come_to.ensures.may_write (face c.args.self.now.core) (g.L.BackLink.state c.args.link.now) c.args.self.now.state c.args.thread c.args.target c.args.offset c.args.payload.now c.requires in
    let r : Reach c.args.self.now.core (g.L.BackLink.state c.args.link.now) c.in-Some.buffer (c.in-Some.place + unsigned_abs c.args.offset) (payload_len c.args.payload.now)
    = in_map c.args.self.now.core (g.L.BackLink.state c.args.link.now) c.args.self.now.state c.args.thread (call.MapWrite c.args.target c.args.offset c.args.payload.now) c.args.target (unsigned_abs c.args.offset) (payload_len c.args.payload.now) c.in-Some.buffer c.in-Some.place c.requires h c.in-Some.ensures.some in
    let at_is : c.unsigned_abs.result ≡ unsigned_abs c.args.offset = c.unsigned_abs.ensures.value ∙ rw (to_z-of_z {w = w64} {z = c.args.offset} c.ranges.offset) refl in
    let len_is : length c.as_slice-2.result.now ≡ payload_len c.args.payload.now = ap length (c.as_slice-2.ensures ∙ c.in-Ok.ensures) ∙ length-payload_bytes c.args.payload.now in
    let some : 0 < length c.as_slice-2.result.now = search rules in
    let reach = has_reach c.args.self.now.core (g.L.BackLink.state c.args.link.now) c.in-Some.buffer (c.in-Some.place + unsigned_abs c.args.offset) (payload_len c.args.payload.now) (omega (arith, some, len_is)) r in
    (reach.0, reach.1, omega (arith, reach.2, at_is, len_is))

pub returns-in-Ok-write-clause-done : goal.returns-in-Ok-write-clause-done
returns-in-Ok-write-clause-done g c =
    let at_is : c.unsigned_abs.result ≡ unsigned_abs c.args.offset = c.unsigned_abs.ensures.value ∙ rw (to_z-of_z {w = w64} {z = c.args.offset} c.ranges.offset) refl in
    c.map_calls_come_to.ensures.write (face c.args.self.now.core) (g.L.BackLink.state c.args.link.now) (g.L.BackLink.state c.write.new.link) c.args.self.now.state c.args.thread c.in-Some.buffer c.in-Some.place c.args.target c.args.offset c.args.payload.now c.requires c.in-Some.ensures.some
    (wrote_as (face c.args.self.now.core) (g.L.BackLink.state c.args.link.now) (g.L.BackLink.state c.write.new.link) c.in-Some.buffer _ (c.in-Some.place + unsigned_abs c.args.offset) _ (payload_bytes c.args.payload.now)
    (ap (λ n. c.in-Some.place + n) at_is) (c.as_slice-2.ensures ∙ c.in-Ok.ensures) c.in-Ok-write.ensures.moved)

pub returns-in_default-bytes-clause-at_back : goal.returns-in_default-bytes-clause-at_back
returns-in_default-bytes-clause-at_back g c =
    nothing_done (g.L.BackLink.state c.args.link.now) (g.L.BackLink.told c.args.link.now) (payload_len c.args.payload.now) false true NoBatch

pub returns-then-is_empty-clause-at_back : goal.returns-then-is_empty-clause-at_back
returns-then-is_empty-clause-at_back g c =
    nothing_done (g.L.BackLink.state c.args.link.now) (g.L.BackLink.told c.args.link.now) (payload_len c.args.payload.now) false false NoBatch

pub returns-in-Ok-write-clause-at_back : goal.returns-in-Ok-write-clause-at_back
returns-in-Ok-write-clause-at_back g c =
    let len_is : length c.as_slice-2.result.now ≡ payload_len c.args.payload.now = ap length (c.as_slice-2.ensures ∙ c.in-Ok.ensures) ∙ length-payload_bytes c.args.payload.now in
    due_as len_is c.in-Ok-write.ensures.at_back

pub returns-clause-at_back : goal.returns-clause-at_back
returns-clause-at_back g c =
    let len_is : length c.as_slice-2.result.now ≡ payload_len c.args.payload.now = ap length (c.as_slice-2.ensures ∙ c.in-Ok.ensures) ∙ length-payload_bytes c.args.payload.now in
    due_as len_is (though_stopped c.write.ensures.at_back)
