use Rattle.std.proofs.Common.{arith, Some, sym, subst}
use Rattle.garbage.specs.Collecting.{TakesOut}
use Rattle.back_core.specs.Cleaning.{covered_of, Destroys}
use Rattle.back_core.proofs.TakenOut.{cleaning_head, cleaning_next, cleaning_stops, cleaning_ends, cleaning_live, cleaning_settled, inside_drop, length-covered}
use Rattle.back_core.proofs.cleaning.destroy_covered.Goals as goal

pub destroy-requires-clause-live : goal.destroy-requires-clause-live
destroy-requires-clause-live g c =
    let l = c.loop-place in
    let out : TakesOut l.garbage.items c.take_covered.new.self.items l.from c.args.read.now c.in-Some.place c.in-Some.item = c.in-Some.ensures.some in
    cleaning_live (g.D.Device.journal c.args.device.now) (g.D.Device.journal l.device) c.args.garbage.now.items l.garbage.items c.take_covered.new.self.items c.args.read.now l.count l.from l.invariant.gone c.requires.can c.in-Some.place c.in-Some.item out

pub destroy-requires-clause-settled : goal.destroy-requires-clause-settled
destroy-requires-clause-settled g c =
    let l = c.loop-place in
    let out : TakesOut l.garbage.items c.take_covered.new.self.items l.from c.args.read.now c.in-Some.place c.in-Some.item = c.in-Some.ensures.some in
    cleaning_settled (g.D.Device.journal c.args.device.now) (g.D.Device.journal l.device) c.args.garbage.now.items l.garbage.items c.take_covered.new.self.items c.args.read.now l.count l.from l.invariant.gone c.requires.can c.in-Some.place c.in-Some.item out

pub overflow_add-count : goal.overflow_add-count
overflow_add-count g c =
    let l = c.loop-place in
    let out : TakesOut l.garbage.items c.take_covered.new.self.items l.from c.args.read.now c.in-Some.place c.in-Some.item = c.in-Some.ensures.some in
    let inside = inside_drop (covered_of c.args.read.now c.args.garbage.now.items) _ l.count c.in-Some.item (cleaning_head (g.D.Device.journal c.args.device.now) (g.D.Device.journal l.device) c.args.garbage.now.items l.garbage.items c.take_covered.new.self.items c.args.read.now l.count l.from l.invariant.gone c.in-Some.place c.in-Some.item out) in
    let few = length-covered c.args.read.now c.args.garbage.now.items in
    omega (arith, c.requires.few)

pub returns-in-Err-clause-destroys : goal.returns-in-Err-clause-destroys
returns-in-Err-clause-destroys g c =
    let l = c.loop-place in
    let out : TakesOut l.garbage.items c.take_covered.new.self.items l.from c.args.read.now c.in-Some.place c.in-Some.item = c.in-Some.ensures.some in
    subst (λ j. Destroys (g.D.Device.journal c.args.device.now) j c.args.garbage.now.items c.take_covered.new.self.items c.args.read.now l.count (Some c.in-Err.stop)) (sym c.in-Err.ensures.err.logged)
    (cleaning_stops (g.D.Device.journal c.args.device.now) (g.D.Device.journal l.device) c.args.garbage.now.items l.garbage.items c.take_covered.new.self.items c.args.read.now l.count l.from l.invariant.gone c.in-Some.place c.in-Some.item c.in-Err.stop out)

pub loop-place-preserved : goal.loop-place-preserved
loop-place-preserved g c =
    let l = c.loop-place in
    let out : TakesOut l.garbage.items c.take_covered.new.self.items l.from c.args.read.now c.in-Some.place c.in-Some.item = c.in-Some.ensures.some in
    let live = cleaning_live (g.D.Device.journal c.args.device.now) (g.D.Device.journal l.device) c.args.garbage.now.items l.garbage.items c.take_covered.new.self.items c.args.read.now l.count l.from l.invariant.gone c.requires.can c.in-Some.place c.in-Some.item out in
    record {
      gone = cleaning_next (g.D.Device.journal c.args.device.now) (g.D.Device.journal l.device) c.args.garbage.now.items l.garbage.items c.take_covered.new.self.items c.args.read.now l.count l.from l.invariant.gone (g.D.Device.journal c.destroy.new.self) c.in-Some.place c.in-Some.item out c.in-Ok.ensures.logged.logged;
      in_order = c.devices_stay_in_order.ensures.destroys l.device c.destroy.new.self c.in-Some.item.handle l.invariant.in_order live c.in-Ok.ensures.logged;
      room = omega (arith, l.invariant.room, c.take_covered.ensures.room);
      later = omega (arith, l.invariant.later, c.in-Ok.ensures.cause.later);
    }

pub returns-clause-destroys : goal.returns-clause-destroys
returns-clause-destroys g c =
    let l = c.loop-place in
    cleaning_ends (g.D.Device.journal c.args.device.now) (g.D.Device.journal l.device) c.args.garbage.now.items l.garbage.items c.take_covered.new.self.items c.args.read.now l.count l.from l.invariant.gone c.in_default.ensures.unchanged c.in_default.ensures.none
