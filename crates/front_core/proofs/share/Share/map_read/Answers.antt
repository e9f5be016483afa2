use Rattle.std.proofs.Common.{arith, rules, ◌≡◌, ◌+◌, ◌<◌, refl, sym, ◌∙◌, ap, subst, w64, length, [], false, true}
use Rattle.cells.specs.Contents.{cells, Agrees}
use Rattle.front_model.specs.declared.object.Object.TheVariants.{Buffer}
use Rattle.front_model.specs.Face.{view}
use Rattle.std.proofs.Math.Facts.{to_z-of_z}
use Rattle.std.specs.Prelude.{unsigned_abs}
use Rattle.std.proofs.lemmas.List.{length-replicate}
use Rattle.gl_calls.specs.declared.call.Call.TheVariants as call
use Rattle.back_core.specs.Link.{Link}
use Rattle.front_moves.specs.Core.{face}
use Rattle.front_core.specs.Share.{Gains}
use Rattle.front_core.proofs.BufferCalls.{gained, InMap, Reach, in_map, has_reach, moved_none, agrees_none, agrees_length, length-cells, written_over}
use Rattle.back_core.specs.Frame.{NoBatch}
use Rattle.front_core.proofs.AtTheBack.{nothing_done}
use Rattle.front_core.proofs.share.Share.map_read.Goals as goal

pub unreachable-requires : goal.unreachable-requires
unreachable-requires g c =
    let h : InMap c.args.self.now.state c.args.thread c.args.target (unsigned_abs c.args.offset) (unsigned_abs c.args.length)
    = c.map_calls_come_to.ensures.may_read (face c.args.self.now.core) (g.L.BackLink.state c.args.link.now) c.args.self.now.state c.args.thread c.args.target c.args.offset c.args.length c.requires in
    c.in_default.ensures.none h.0 h.2.b h.2.facts h.2.holds.mapped h.1 h.2.is_bound h.2.holds.map

pub returns-in_default-zeroed-clause-err : goal.returns-in_default-zeroed-clause-err
returns-in_default-zeroed-clause-err g c = c.map_calls_come_to.ensures.owns (face c.args.self.now.core) (g.L.BackLink.state c.args.link.now) c.requires.backs.holds

pub returns-then-length-eq0-clause-done : goal.returns-then-length-eq0-clause-done
returns-then-length-eq0-clause-done g c =
    let len_is : unsigned_abs c.args.length ≡ 0 = search rules in
    let asked_is : c.unsigned_abs.result ≡ unsigned_abs c.args.length = c.unsigned_abs.ensures.value ∙ rw (to_z-of_z {w = w64} {z = c.args.length} c.ranges.length) refl in
    let none : c.in-Ok.bytes ≡ [] = c.in-Ok.ensures ∙ rw (asked_is, len_is) refl in
    c.map_calls_come_to.ensures.read (face c.args.self.now.core) (face c.args.self.now.core) (g.L.BackLink.state c.args.link.now) (g.L.BackLink.state c.args.link.now) c.args.self.now.state c.args.thread c.in-Some.buffer c.in-Some.place c.args.target c.args.offset c.args.length c.in-Ok.bytes c.requires c.in-Some.ensures.some
    (moved_none (face c.args.self.now.core) (g.L.BackLink.state c.args.link.now) c.requires.backs.holds)
    (agrees_none c.in-Ok.bytes (unsigned_abs c.args.length) _ none len_is)

pub overflow_add-place : goal.overflow_add-place
overflow_add-place g c =
    let h : InMap c.args.self.now.state c.args.thread c.args.target (unsigned_abs c.args.offset) (unsigned_abs c.args.length)
    = c.map_calls_come_to.ensures.may_read (face c.args.self.now.core) (g.L.BackLink.state c.args.link.now) c.args.self.now.state c.args.thread c.args.target c.args.offset c.args.length c.requires in
    let r : Reach c.args.self.now.core (g.L.BackLink.state c.args.link.now) c.in-Some.buffer (c.in-Some.place + unsigned_abs c.args.offset) (unsigned_abs c.args.length)
    = in_map c.args.self.now.core (g.L.BackLink.state c.args.link.now) c.args.self.now.state c.args.thread (call.MapRead c.args.target c.args.offset c.args.length) c.args.target (unsigned_abs c.args.offset) (unsigned_abs c.args.length) c.in-Some.buffer c.in-Some.place c.requires h c.in-Some.ensures.some in
    let at_is : c.unsigned_abs-2.result ≡ unsigned_abs c.args.offset = c.unsigned_abs-2.ensures.value ∙ rw (to_z-of_z {w = w64} {z = c.args.offset} c.ranges.offset) refl in
    omega (arith, r.inside, r.fits, at_is)

pub read-requires-clause-quiet : goal.read-requires-clause-quiet
read-requires-clause-quiet g c =
    let h : InMap c.args.self.now.state c.args.thread c.args.target (unsigned_abs c.args.offset) (unsigned_abs c.args.length)
    = c.map_calls_come_to.ensures.may_read (face c.args.self.now.core) (g.L.BackLink.state c.args.link.now) c.args.self.now.state c.args.thread c.args.target c.args.offset c.args.length c.requires in
    (in_map c.args.self.now.core (g.L.BackLink.state c.args.link.now) c.args.self.now.state c.args.thread (call.MapRead c.args.target c.args.offset c.args.length) c.args.target (unsigned_abs c.args.offset) (unsigned_abs c.args.length) c.in-Some.buffer c.in-Some.place c.requires h c.in-Some.ensures.some).quiet

pub read-requires-clause-store : goal.read-requires-clause-store
read-requires-clause-store g c =
    let h : InMap c.args.self.now.state c.args.thread c.args.target (unsigned_abs c.args.offset) (unsigned_abs c.args.length)
    = c.map_calls_come_to.ensures.may_read (face c.args.self.now.core) (g.L.BackLink.state c.args.link.now) c.args.self.now.state c.args.thread c.args.target c.args.offset c.args.length c.requires in
    let r : Reach c.args.self.now.core (g.L.BackLink.state c.args.link.now) c.in-Some.buffer (c.in-Some.place + unsigned_abs c.args.offset) (unsigned_abs c.args.length)
    = in_map c.args.self.now.core (g.L.BackLink.state c.args.link.now) c.args.self.now.state c.args.thread (call.MapRead c.args.target c.args.offset c.args.length) c.args.target (unsigned_abs c.args.offset) (unsigned_abs c.args.length) c.in-Some.buffer c.in-Some.place c.requires h c.in-Some.ensures.some in
    let at_is : c.unsigned_abs-2.result ≡ unsigned_abs c.args.offset = c.unsigned_abs-2.ensures.value ∙ rw (to_z-of_z {w = w64} {z = c.args.offset} c.ranges.offset) refl in
    let asked_is : c.unsigned_abs.result ≡ unsigned_abs c.args.length = c.unsigned_abs.ensures.value ∙ rw (to_z-of_z {w = w64} {z = c.args.length} c.ranges.length) refl in
    let len_is : length c.as_mut_slice.result.now ≡ unsigned_abs c.args.length = ap length (c.as_mut_slice.ensures.value ∙ c.in-Ok.ensures) ∙ length-replicate _ 0 ∙ asked_is in
    let some : 0 < unsigned_abs c.args.length = search rules in
    let reach = has_reach c.args.self.now.core (g.L.BackLink.state c.args.link.now) c.in-Some.buffer (c.in-Some.place + unsigned_abs c.args.offset) (unsigned_abs c.args.length) some r in
    (reach.0, reach.1, omega (arith, reach.2, at_is, len_is))

pub returns-in-Ok-read-clause-done : goal.returns-in-Ok-read-clause-done
returns-in-Ok-read-clause-done g c =
    let at_is : c.unsigned_abs-2.result ≡ unsigned_abs c.args.offset = c.unsigned_abs-2.ensures.value ∙ rw (to_z-of_z {w = w64} {z = c.args.offset} c.ranges.offset) refl in
    let asked_is : c.unsigned_abs.result ≡ unsigned_abs c.args.length = c.unsigned_abs.ensures.value ∙ rw (to_z-of_z {w = w64} {z = c.args.length} c.ranges.length) refl in
    let zeros : length c.in-Ok.bytes ≡ unsigned_abs c.args.length = ap length c.in-Ok.ensures ∙ length-replicate _ 0 ∙ asked_is in
    let given : length c.as_mut_slice.result.now ≡ unsigned_abs c.args.length = ap length c.as_mut_slice.ensures.value ∙ zeros in
    let read : Agrees c.read.new.out (cells (unsigned_abs c.args.length) (λ k. view (face c.args.self.now.core) (g.L.BackLink.state c.args.link.now) (Buffer c.in-Some.buffer) (c.in-Some.place + unsigned_abs c.args.offset + k)))
    = subst (λ n. Agrees c.read.new.out (cells n (λ k. view (face c.args.self.now.core) (g.L.BackLink.state c.args.link.now) (Buffer c.in-Some.buffer) (c.in-Some.place + unsigned_abs c.args.offset + k)))) given
    (subst (λ n. Agrees c.read.new.out (cells (length c.as_mut_slice.result.now) (λ k. view (face c.args.self.now.core) (g.L.BackLink.state c.args.link.now) (Buffer c.in-Some.buffer) (c.in-Some.place + n + k)))) at_is c.in-Ok-read.ensures.bytes) in
    let all : length c.read.new.out ≡ length c.in-Ok.bytes = agrees_length c.read.new.out _ read ∙ length-cells _ _ ∙ sym zeros in
    c.map_calls_come_to.ensures.read (face c.args.self.now.core) (face c.read.new.self) (g.L.BackLink.state c.args.link.now) (g.L.BackLink.state c.read.new.link) c.args.self.now.state c.args.thread c.in-Some.buffer c.in-Some.place c.args.target c.args.offset c.args.length _ c.requires c.in-Some.ensures.some
    c.in-Ok-read.ensures.moved
    (subst (λ xs. Agrees xs (cells (unsigned_abs c.args.length) (λ k. view (face c.args.self.now.core) (g.L.BackLink.state c.args.link.now) (Buffer c.in-Some.buffer) (c.in-Some.place + unsigned_abs c.args.offset + k)))) (sym (written_over c.in-Ok.bytes c.read.new.out all)) read)

pub returns-in-Ok-read-clause-origin : goal.returns-in-Ok-read-clause-origin
returns-in-Ok-read-clause-origin g c =
    let had = c.in-Ok-read.ensures.fetched in
    let all : length c.read.new.out ≡ length c.in-Ok.bytes = agrees_length c.read.new.out _ c.in-Ok-read.ensures.bytes ∙ length-cells _ _ ∙ ap length c.as_mut_slice.ensures.value in
    subst (λ xs. Gains (g.L.BackLink.state c.args.link.now).mine (g.L.BackLink.state c.read.new.link).mine xs) (sym (written_over c.in-Ok.bytes c.read.new.out all))
    (gained (g.L.BackLink.state c.args.link.now).mine (g.L.BackLink.state c.read.new.link).mine had.0 _ c.read.new.out (ap (λ (s : Link). s.mine) had.1))

pub returns-in_default-zeroed-clause-at_back : goal.returns-in_default-zeroed-clause-at_back
returns-in_default-zeroed-clause-at_back g c =
    nothing_done (g.L.BackLink.state c.args.link.now) (g.L.BackLink.told c.args.link.now) 0 false true NoBatch

pub returns-then-length-eq0-clause-at_back : goal.returns-then-length-eq0-clause-at_back
returns-then-length-eq0-clause-at_back g c =
    nothing_done (g.L.BackLink.state c.args.link.now) (g.L.BackLink.told c.args.link.now) 0 false false NoBatch
