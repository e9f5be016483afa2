use Rattle.std.proofs.Common.{◌≡◌, ◌-◌, ◌++◌, refl, sym, ap, ◌∙◌, subst, arith, map, Some}
use Rattle.std.specs.Prelude.{All}
use Rattle.vk_model.specs.Fitting.{NodeFits}
use Rattle.vk_device.specs.Journal.{kind_of}
use Rattle.vk_device.specs.Order.{log_of, FindItsLayouts}
use Rattle.submit_queue.specs.Histories as queue
use Rattle.back_core.specs.declared.back_event.BackEvent.TheVariants.{Submitted}
use Rattle.back_core.specs.declared.stored.Stored.TheVariants as stored
use Rattle.back_core.specs.History.{queue_history}
use Rattle.back_core.specs.Run.{submission, journal_of, IsAcceptable}
use Rattle.back_core.specs.Back.{Holds, event_of}
use Rattle.back_core.proofs.Holding.{GoesOn, at_end, is_end}
use Rattle.back_core.proofs.Calls.{progress_room, holds_progress, within}
use Rattle.back_core.proofs.back.Back.try_submit.Goals as goal

pub submit-requires-clause-queue : goal.submit-requires-clause-queue
submit-requires-clause-queue g c =
    let b = c.self.inside in
    let h = map event_of b.history.items in
    let holds = c.self.invariant.0 in
    let batch = c.in-Some.batch.now in
    let first : queue.first_flushed (queue_history h) ≡ Some batch = sym (c.in-Some.ensures (queue_history h) holds.kept) in
    let fine : IsAcceptable (journal_of h) batch = c.runs_meet_the_device.ensures.accepts h batch holds.run first (c.runs_are_sound.ensures.layouts h batch holds.run first) in
    fine.queue

pub submit-requires-clause-short : goal.submit-requires-clause-short
submit-requires-clause-short g c =
    let b = c.self.inside in
    let h = map event_of b.history.items in
    let holds = c.self.invariant.0 in
    let batch = c.in-Some.batch.now in
    let first : queue.first_flushed (queue_history h) ≡ Some batch = sym (c.in-Some.ensures (queue_history h) holds.kept) in
    let fine : IsAcceptable (journal_of h) batch = c.runs_meet_the_device.ensures.accepts h batch holds.run first (c.runs_are_sound.ensures.layouts h batch holds.run first) in
    fine.short

pub submit-requires-clause-fits : goal.submit-requires-clause-fits
submit-requires-clause-fits g c =
    let b = c.self.inside in
    let h = map event_of b.history.items in
    let holds = c.self.invariant.0 in
    let batch = c.in-Some.batch.now in
    let first : queue.first_flushed (queue_history h) ≡ Some batch = sym (c.in-Some.ensures (queue_history h) holds.kept) in
    let fine : IsAcceptable (journal_of h) batch = c.runs_meet_the_device.ensures.accepts h batch holds.run first (c.runs_are_sound.ensures.layouts h batch holds.run first) in
    subst (λ j. All (NodeFits (kind_of j)) batch.nodes) (sym holds.logged) fine.fits

pub submit-requires-clause-layouts : goal.submit-requires-clause-layouts
submit-requires-clause-layouts g c =
    let b = c.self.inside in
    let h = map event_of b.history.items in
    let holds = c.self.invariant.0 in
    let batch = c.in-Some.batch.now in
    let first : queue.first_flushed (queue_history h) ≡ Some batch = sym (c.in-Some.ensures (queue_history h) holds.kept) in
    let fine : IsAcceptable (journal_of h) batch = c.runs_meet_the_device.ensures.accepts h batch holds.run first (c.runs_are_sound.ensures.layouts h batch holds.run first) in
    subst (λ j. FindItsLayouts (log_of j) batch) (sym holds.logged) fine.layouts

pub push_reserved-requires : goal.push_reserved-requires
push_reserved-requires g c =
    let b = c.self.inside in
    let h = map event_of b.history.items in
    let holds = c.self.invariant.0 in
    let batch = c.in-Some.batch.now in
    let first : queue.first_flushed (queue_history h) ≡ Some batch = sym (c.in-Some.ensures (queue_history h) holds.kept) in
    let may : queue.MayAccept (queue_history h) = within _ _ _ first in
    let room = progress_room record { goes_on = c.runs_go_on.ensures.goes_on; journal = c.runs_go_on.ensures.journal; garbage = c.runs_go_on.ensures.garbage } h (g.D.Device.journal b.device) (g.D.Device.journal b.device) (g.D.Device.bytes_of b.device) (g.D.Device.bytes_of b.device) b.queue b.garbage b.ending b.promised holds c.runs_meet_the_device.ensures.less Submitted may tt in
    omega (arith, c.self.invariant.1)

pub overflow_sub-self : goal.overflow_sub-self
overflow_sub-self g c =
    let b = c.self.inside in
    let h = map event_of b.history.items in
    let holds = c.self.invariant.0 in
    let batch = c.in-Some.batch.now in
    let first : queue.first_flushed (queue_history h) ≡ Some batch = sym (c.in-Some.ensures (queue_history h) holds.kept) in
    let may : queue.MayAccept (queue_history h) = within _ _ _ first in
    progress_room record { goes_on = c.runs_go_on.ensures.goes_on; journal = c.runs_go_on.ensures.journal; garbage = c.runs_go_on.ensures.garbage } h (g.D.Device.journal b.device) (g.D.Device.journal b.device) (g.D.Device.bytes_of b.device) (g.D.Device.bytes_of b.device) b.queue b.garbage b.ending b.promised holds c.runs_meet_the_device.ensures.less Submitted may tt

pub invariant_of-self-2 : goal.invariant_of-self-2
invariant_of-self-2 g c =
    let b = c.self.inside in
    let h = map event_of b.history.items in
    let holds = c.self.invariant.0 in
    let batch = c.in-Some.batch.now in
    let first : queue.first_flushed (queue_history h) ≡ Some batch = sym (c.in-Some.ensures (queue_history h) holds.kept) in
    let fine : IsAcceptable (journal_of h) batch = c.runs_meet_the_device.ensures.accepts h batch holds.run first (c.runs_are_sound.ensures.layouts h batch holds.run first) in
    let may : queue.MayAccept (queue_history h) = within _ _ _ first in
    let laws : GoesOn = record { goes_on = c.runs_go_on.ensures.goes_on; journal = c.runs_go_on.ensures.journal; garbage = c.runs_go_on.ensures.garbage } in
    let adds = c.in_ok-submit-in-Some.ensures.logged in
    let fits : All (NodeFits (kind_of (g.D.Device.journal b.device))) batch.nodes = subst (λ j. All (NodeFits (kind_of j)) batch.nodes) (sym holds.logged) fine.fits in
    let room = progress_room laws h (g.D.Device.journal b.device) (g.D.Device.journal b.device) (g.D.Device.bytes_of b.device) (g.D.Device.bytes_of b.device) b.queue b.garbage b.ending b.promised holds c.runs_meet_the_device.ensures.less Submitted may tt in (
      at_end (λ l. Holds l (g.D.Device.journal c.submit.new.self) (g.D.Device.bytes_of c.submit.new.self) c.accept.new.self b.garbage b.ending (b.promised - 1)) b.history.items c.push_reserved.new.self.items (stored.Event Submitted) c.push_reserved.ensures.items
          (holds_progress laws h (g.D.Device.journal b.device) (g.D.Device.journal c.submit.new.self) (g.D.Device.bytes_of b.device) (g.D.Device.bytes_of c.submit.new.self) b.queue b.garbage b.ending b.promised holds c.runs_meet_the_device.ensures.less Submitted c.accept.new.self refl refl refl refl refl may tt
          (adds.logged ∙ ap (λ o. g.D.Device.journal b.device ++ submission o) (sym first))
          (c.devices_stay_in_order.ensures.submits b.device c.submit.new.self batch holds.in_order fits adds)
          (c.accept.ensures (queue_history h) holds.kept may)),
      omega (arith, c.self.invariant.1, c.push_reserved.ensures.len, c.push_reserved.ensures.capacity),
    )

pub returns-clause-ok : goal.returns-clause-ok
returns-clause-ok g c =
    let b = c.self.inside in
    let h = map event_of b.history.items in
    let holds = c.self.invariant.0 in
    let batch = c.in-Some.batch.now in
    let first : queue.first_flushed (queue_history h) ≡ Some batch = sym (c.in-Some.ensures (queue_history h) holds.kept) in
    let may : queue.MayAccept (queue_history h) = within _ _ _ first in
    rw (← c.self.view_is) (is_end b.history.items c.push_reserved.new.self.items (stored.Event Submitted) c.push_reserved.ensures.items, may)
