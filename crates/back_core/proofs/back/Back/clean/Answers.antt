use Rattle.std.proofs.Common.{◌≡◌, ◌+◌, ◌-◌, ◌≤◌, ◌++◌, true, false, length, sym, ap, ◌∙◌, subst, arith, map, take}
use Rattle.back_core.specs.declared.back_event.BackEvent.TheVariants.{Cleaned}
use Rattle.back_core.specs.declared.stored.Stored.TheVariants as stored
use Rattle.back_core.specs.Run.{submission, journal_of, IsAcceptable, MayRetire}
use Rattle.back_core.specs.Back.{BackModel, Holds, event_of}
use Rattle.back_core.proofs.Holding.{GoesOn, at_end, is_end}
use Rattle.std.specs.Prelude.{◌==◌, ◌&&◌, is_none}
use Rattle.back_core.specs.Run.{WereRead, without_covered, covered_in, garbage_of}
use Rattle.back_core.specs.Cleaning.{Destroys, CanDestroy}
use Rattle.std.proofs.lemmas.Bool.{cond-true, cond-false}
use Rattle.back_core.proofs.Calls.{holds_still, holds_cleaned, cleaned_room}
use Rattle.back_core.proofs.TakenOut.{can_destroy, place_in}
use Rattle.back_core.proofs.Cleans.{count_few, nothing_done, fewer_left, cleans_by}
use Rattle.back_core.proofs.back.Back.clean.Goals as goal

pub destroy_covered-done-requires-clause-can : goal.destroy_covered-done-requires-clause-can
destroy_covered-done-requires-clause-can g c =
    let b = c.self.inside in
    let h = map event_of b.history.items in
    let holds = c.self.invariant.0 in
    let were : WereRead h c.args.read.now = subst (λ (m : BackModel _). WereRead m.history c.args.read.now) (sym c.self.view_is) c.requires in
    let laws = c.runs_meet_the_device.ensures in
    can_destroy h (g.D.Device.journal b.device) c.args.read.now b.garbage.items (λ k item at. laws.destroys h c.args.read.now k item holds.run were at) (λ k item at. laws.left_alone h c.args.read.now k item holds.run were at) (λ list id s. laws.stays_settled h list id s) holds.logged holds.waiting

pub invariant_of-self : goal.invariant_of-self
invariant_of-self g c =
    let b = c.self.inside in
    let h = map event_of b.history.items in
    let holds = c.self.invariant.0 in
    let d = c.destroy_covered-done in
    let done = d.ensures.destroys in
    let nothing : ((d.result.count == 0) && is_none d.result.stop) ≡ true = sym c.is_nothing.ensures ∙ c.if-is_nothing.true in
    let same = nothing_done (g.D.Device.journal b.device) (g.D.Device.journal d.new.device) b.garbage.items d.new.garbage.items c.args.read.now d.result.count d.result.stop done nothing in (
      holds_still h (g.D.Device.journal b.device) (g.D.Device.journal d.new.device) (g.D.Device.bytes_of b.device) (g.D.Device.bytes_of d.new.device) b.queue b.garbage d.new.garbage b.ending b.promised holds same.0 d.ensures.in_order (done.left ∙ same.1) d.ensures.room,
      c.self.invariant.1,
    )

pub returns-then-is_nothing-clause-cleans : goal.returns-then-is_nothing-clause-cleans
returns-then-is_nothing-clause-cleans g c =
    let b = c.self.inside in
    let h = map event_of b.history.items in
    let holds = c.self.invariant.0 in
    let d = c.destroy_covered-done in
    let done = d.ensures.destroys in
    let nothing : ((d.result.count == 0) && is_none d.result.stop) ≡ true = sym c.is_nothing.ensures ∙ c.if-is_nothing.true in
    let same = nothing_done (g.D.Device.journal b.device) (g.D.Device.journal d.new.device) b.garbage.items d.new.garbage.items c.args.read.now d.result.count d.result.stop done nothing in
    rw (← c.self.view_is) (cleans_by g.D.Device.journal (record { device = b.device; history = h }) (record { device = d.new.device; history = h }) b.garbage.items d.new.garbage.items c.args.read.now d.result.count d.result.stop done holds.waiting (done.left ∙ (same.1 ∙ holds.waiting)) (sym (cond-true _ h _ nothing)))

pub push_reserved-requires : goal.push_reserved-requires
push_reserved-requires g c =
    let b = c.self.inside in
    let h = map event_of b.history.items in
    let holds = c.self.invariant.0 in
    let d = c.destroy_covered-done in
    let done = d.ensures.destroys in
    let nothing : ((d.result.count == 0) && is_none d.result.stop) ≡ false = sym c.is_nothing.ensures ∙ c.if-is_nothing.false in
    let fewer = fewer_left (g.D.Device.journal b.device) (g.D.Device.journal d.new.device) b.garbage.items d.new.garbage.items c.args.read.now d.result.count d.result.stop done nothing in
    let room = cleaned_room record { goes_on = c.runs_go_on.ensures.goes_on; journal = c.runs_go_on.ensures.journal; garbage = c.runs_go_on.ensures.garbage } h (g.D.Device.journal b.device) (g.D.Device.journal b.device) (g.D.Device.bytes_of b.device) (g.D.Device.bytes_of b.device) b.queue b.garbage b.ending b.promised holds c.args.read.now d.result.count d.new.garbage fewer in
    omega (arith, c.self.invariant.1)

pub overflow_sub-self : goal.overflow_sub-self
overflow_sub-self g c =
    let b = c.self.inside in
    let h = map event_of b.history.items in
    let holds = c.self.invariant.0 in
    let d = c.destroy_covered-done in
    let done = d.ensures.destroys in
    let nothing : ((d.result.count == 0) && is_none d.result.stop) ≡ false = sym c.is_nothing.ensures ∙ c.if-is_nothing.false in
    let fewer = fewer_left (g.D.Device.journal b.device) (g.D.Device.journal d.new.device) b.garbage.items d.new.garbage.items c.args.read.now d.result.count d.result.stop done nothing in
    cleaned_room record { goes_on = c.runs_go_on.ensures.goes_on; journal = c.runs_go_on.ensures.journal; garbage = c.runs_go_on.ensures.garbage } h (g.D.Device.journal b.device) (g.D.Device.journal b.device) (g.D.Device.bytes_of b.device) (g.D.Device.bytes_of b.device) b.queue b.garbage b.ending b.promised holds c.args.read.now d.result.count d.new.garbage fewer

pub invariant_of-self-2 : goal.invariant_of-self-2
invariant_of-self-2 g c =
    let b = c.self.inside in
    let h = map event_of b.history.items in
    let holds = c.self.invariant.0 in
    let were : WereRead h c.args.read.now = subst (λ (m : BackModel _). WereRead m.history c.args.read.now) (sym c.self.view_is) c.requires in
    let d = c.destroy_covered-done in
    let done = d.ensures.destroys in
    let nothing : ((d.result.count == 0) && is_none d.result.stop) ≡ false = sym c.is_nothing.ensures ∙ c.if-is_nothing.false in
    let fewer = fewer_left (g.D.Device.journal b.device) (g.D.Device.journal d.new.device) b.garbage.items d.new.garbage.items c.args.read.now d.result.count d.result.stop done nothing in
    let laws : GoesOn = record { goes_on = c.runs_go_on.ensures.goes_on; journal = c.runs_go_on.ensures.journal; garbage = c.runs_go_on.ensures.garbage } in
    let room = cleaned_room laws h (g.D.Device.journal b.device) (g.D.Device.journal b.device) (g.D.Device.bytes_of b.device) (g.D.Device.bytes_of b.device) b.queue b.garbage b.ending b.promised holds c.args.read.now d.result.count d.new.garbage fewer in
    let few = count_few (g.D.Device.journal b.device) (g.D.Device.journal d.new.device) b.garbage.items d.new.garbage.items c.args.read.now d.result.count d.result.stop done in (
      at_end (λ l. Holds l (g.D.Device.journal d.new.device) (g.D.Device.bytes_of d.new.device) b.queue d.new.garbage b.ending (b.promised - 1)) b.history.items c.push_reserved.new.self.items (stored.Event (Cleaned c.args.read.now d.result.count)) c.push_reserved.ensures.items
          (holds_cleaned laws h (g.D.Device.journal b.device) (g.D.Device.journal d.new.device) (g.D.Device.bytes_of b.device) (g.D.Device.bytes_of d.new.device) b.queue b.garbage b.ending b.promised holds c.args.read.now d.result.count d.new.garbage were
          (subst (λ l. d.result.count ≤ length (Rattle.back_core.specs.Cleaning.covered_of c.args.read.now l)) holds.waiting few)
          (done.destroyed ∙ ap (λ l. g.D.Device.journal b.device ++ Rattle.back_core.specs.Run.destroys (take d.result.count (Rattle.back_core.specs.Cleaning.covered_of c.args.read.now l))) holds.waiting)
          d.ensures.in_order done.left fewer d.ensures.room),
      omega (arith, c.self.invariant.1, c.push_reserved.ensures.len, c.push_reserved.ensures.capacity),
    )

pub returns-clause-cleans : goal.returns-clause-cleans
returns-clause-cleans g c =
    let b = c.self.inside in
    let h = map event_of b.history.items in
    let holds = c.self.invariant.0 in
    let d = c.destroy_covered-done in
    let done = d.ensures.destroys in
    let nothing : ((d.result.count == 0) && is_none d.result.stop) ≡ false = sym c.is_nothing.ensures ∙ c.if-is_nothing.false in
    let fewer = fewer_left (g.D.Device.journal b.device) (g.D.Device.journal d.new.device) b.garbage.items d.new.garbage.items c.args.read.now d.result.count d.result.stop done nothing in
    let laws : GoesOn = record { goes_on = c.runs_go_on.ensures.goes_on; journal = c.runs_go_on.ensures.journal; garbage = c.runs_go_on.ensures.garbage } in
    rw (← c.self.view_is) (cleans_by g.D.Device.journal (record { device = b.device; history = h }) (record { device = d.new.device; history = map event_of c.push_reserved.new.self.items }) b.garbage.items d.new.garbage.items c.args.read.now d.result.count d.result.stop done holds.waiting
    (done.left ∙ (ap (λ l. without_covered c.args.read.now (d.result.count + 1) l) holds.waiting ∙ (sym (laws.garbage h (Cleaned c.args.read.now d.result.count)) ∙ ap garbage_of (sym (is_end b.history.items c.push_reserved.new.self.items (stored.Event (Cleaned c.args.read.now d.result.count)) c.push_reserved.ensures.items)))))
    (is_end b.history.items c.push_reserved.new.self.items (stored.Event (Cleaned c.args.read.now d.result.count)) c.push_reserved.ensures.items ∙ sym (cond-false _ h _ nothing)))

pub returns-clause-forgotten : goal.returns-clause-forgotten
returns-clause-forgotten g c =
    let b = c.self.inside in
    let h = map event_of b.history.items in
    let holds = c.self.invariant.0 in
    let were : WereRead h c.args.read.now = subst (λ (m : BackModel _). WereRead m.history c.args.read.now) (sym c.self.view_is) c.requires in
    let laws = c.runs_meet_the_device.ensures in
    rw (← c.self.view_is) (λ item is. record {
      alone = laws.left_alone h c.args.read.now is.0 item holds.run were (place_in (covered_in h c.args.read.now) is.0 item is.1 is.2);
      later = λ more batch run index may. laws.forgotten h more c.args.read.now item batch run were is index may;
    })

pub returns-then-is_nothing-clause-forgotten : goal.returns-then-is_nothing-clause-forgotten
returns-then-is_nothing-clause-forgotten g c =
    let b = c.self.inside in
    let h = map event_of b.history.items in
    let holds = c.self.invariant.0 in
    let were : WereRead h c.args.read.now = subst (λ (m : BackModel _). WereRead m.history c.args.read.now) (sym c.self.view_is) c.requires in
    let laws = c.runs_meet_the_device.ensures in
    rw (← c.self.view_is) (λ item is. record {
      alone = laws.left_alone h c.args.read.now is.0 item holds.run were (place_in (covered_in h c.args.read.now) is.0 item is.1 is.2);
      later = λ more batch run index may. laws.forgotten h more c.args.read.now item batch run were is index may;
    })
