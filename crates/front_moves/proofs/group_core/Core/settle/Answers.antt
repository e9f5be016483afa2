use Rattle.std.proofs.Common.{◌≡◌, sym, ap, subst, ◌∙◌, arith, false}
use Rattle.std.specs.Prelude.{Option}
use Rattle.back_core.specs.Link.{Link}
use Rattle.front_model.specs.declared.object.Object.{Object}
use Rattle.front_model.specs.declared.object.Object.TheVariants.{Buffer}
use Rattle.front_model.specs.Face.{Face, Outline}
use Rattle.front_moves.specs.Core.{face, HasBytes, IsParted, IsUntouched, IsOpen}
use Rattle.front_moves.specs.Reasons.{IsSettling}
use Rattle.front_moves.proofs.AtBack.{did_for, might_wait, might_stop, good_then, then_handless}
use Rattle.front_moves.proofs.Handing.{settles_parting, settles_reading}
use Rattle.front_moves.proofs.Preparing.{on_ok_both}
use Rattle.front_moves.proofs.Settling.{untouched_after, open_after, settled}
use Rattle.front_moves.proofs.group_core.Core.settle.Goals as goal

pub record_opening-requires-clause-store : goal.record_opening-requires-clause-store
record_opening-requires-clause-store g c =
    (c.requires.store.0, ap (λ (o : Object → Option Outline). o (Buffer c.args.buffer)) c.in-Ok.ensures.moved.outlines_are ∙ c.requires.store.1)

pub wait_for_uses-requires-clause-untouched : goal.wait_for_uses-requires-clause-untouched
wait_for_uses-requires-clause-untouched g c =
    untouched_after (face c.record_opening.new.self) (face c.part.new.self) c.args.index (Buffer c.args.buffer) c.in-Ok-part.ensures.some.flushed c.in-Ok-part.ensures.apart
    (subst (λ i. IsParted false (face c.record_opening.new.self) i (Buffer c.args.buffer)) c.next_serial-serial.ensures.index c.in-Ok-record_opening.ensures.parted)

pub returns-in-Ok-part-clause-quiet : goal.returns-in-Ok-part-clause-quiet
returns-in-Ok-part-clause-quiet g c =
    let f : Face = face c.record_opening.new.self in
    let k : Face = face c.part.new.self in
    let v : Link = g.L.BackLink.state c.wait_for_uses.new.link in
    let has : HasBytes k c.args.buffer c.requires.store.0 =
    ap (λ (o : Object → Option Outline). o (Buffer c.args.buffer)) (c.in-Ok-part.ensures.some.moved.outlines_are ∙ c.in-Ok-record_opening.ensures.moved.outlines_are ∙ c.in-Ok.ensures.moved.outlines_are)
    ∙ c.requires.store.1 in
    let parted : IsParted false f c.args.index (Buffer c.args.buffer) = subst (λ i. IsParted false f i (Buffer c.args.buffer)) c.next_serial-serial.ensures.index c.in-Ok-record_opening.ensures.parted in
    let untouched : IsUntouched k (Buffer c.args.buffer) = untouched_after f k c.args.index (Buffer c.args.buffer) c.in-Ok-part.ensures.some.flushed c.in-Ok-part.ensures.apart parted in
    let opened : IsOpen k (Buffer c.args.buffer) = open_after f k (Buffer c.args.buffer) c.in-Ok-part.ensures.some.flushed c.in-Ok-record_opening.ensures.opened in
    on_ok_both c.wait_for_uses.result
    (λ moved retired. c.settle_comes_to.ensures k v c.args.buffer c.requires.store.0 moved.holds has untouched retired opened)
    c.wait_for_uses.ensures.moved c.wait_for_uses.ensures.retired

pub returns-in-Ok-part-clause-moved : goal.returns-in-Ok-part-clause-moved
returns-in-Ok-part-clause-moved g c =
    let s : Link = g.L.BackLink.state c.args.link.now in
    let t : Link = g.L.BackLink.state c.prepare.new.link in
    let u : Link = g.L.BackLink.state c.part.new.link in
    let v : Link = g.L.BackLink.state c.wait_for_uses.new.link in
    on_ok_both c.wait_for_uses.result
    (λ moved quiet. settled (face c.args.self.now) (face c.prepare.new.self) (face c.record_opening.new.self) (face c.part.new.self) s t u v c.args.buffer
    c.in-Ok.ensures.moved c.in-Ok-record_opening.ensures.moved c.in-Ok-part.ensures.some.moved moved quiet)
    c.wait_for_uses.ensures.moved (returns-in-Ok-part-clause-quiet g c)

pub returns-in-Ok-part-clause-at_back : goal.returns-in-Ok-part-clause-at_back
returns-in-Ok-part-clause-at_back g c =
    then_handless (omega arith)
    (might_wait (good_then {due = 0} {MayHand = IsSettling (face c.args.self.now) c.args.index (Buffer c.args.buffer)} (omega arith) (settles_parting (face c.args.self.now) c.args.index (Buffer c.args.buffer))
    (settles_reading (face c.args.self.now) (face c.record_opening.new.self) c.args.index (Buffer c.args.buffer) false) c.in-Ok.ensures.at_back c.in-Ok-part.ensures.at_back))
    c.wait_for_uses.ensures.at_back

pub returns-in-Err-part-clause-at_back : goal.returns-in-Err-part-clause-at_back
returns-in-Err-part-clause-at_back g c =
    might_wait (good_then (omega arith) (settles_parting (face c.args.self.now) c.args.index (Buffer c.args.buffer)) (settles_reading (face c.args.self.now) (face c.record_opening.new.self) c.args.index (Buffer c.args.buffer) false)
    c.in-Ok.ensures.at_back c.in-Err-part.ensures.at_back)

pub returns-in-Err-record_opening-clause-at_back : goal.returns-in-Err-record_opening-clause-at_back
returns-in-Err-record_opening-clause-at_back g c = might_wait (might_stop (did_for (omega arith) (settles_parting (face c.args.self.now) c.args.index (Buffer c.args.buffer)) c.in-Ok.ensures.at_back))

pub returns-in-Err-clause-at_back : goal.returns-in-Err-clause-at_back
returns-in-Err-clause-at_back g c = might_wait (did_for (omega arith) (settles_parting (face c.args.self.now) c.args.index (Buffer c.args.buffer)) c.in-Err.ensures.at_back)

pub record_opening-requires-clause-parted : goal.record_opening-requires-clause-parted
record_opening-requires-clause-parted g c =
    subst (λ i. IsParted false (face c.prepare.new.self) i (Buffer c.args.buffer)) (sym c.next_serial-serial.ensures.index) c.in-Ok.ensures.parted
