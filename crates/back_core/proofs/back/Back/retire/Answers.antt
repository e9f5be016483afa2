use Rattle.std.proofs.Common.{◌-◌, refl, sym, ap, ◌∙◌, arith, map}
use Rattle.submit_queue.specs.Histories as queue
use Rattle.back_core.specs.declared.back_event.BackEvent.TheVariants.{Retired}
use Rattle.back_core.specs.declared.stored.Stored.TheVariants as stored
use Rattle.back_core.specs.History.{queue_history, completed}
use Rattle.back_core.specs.Run.{MayRetire}
use Rattle.back_core.specs.Back.{Holds, event_of}
use Rattle.back_core.proofs.Sees.{queue_then}
use Rattle.back_core.proofs.Holding.{GoesOn, at_end, is_end}
use Rattle.back_core.proofs.Calls.{progress_room, holds_progress}
use Rattle.std.proofs.lemmas.List.{append-nil}
use Rattle.back_core.proofs.back.Back.retire.Goals as goal

pub returns-in_err-index-clause-none : goal.returns-in_err-index-clause-none
returns-in_err-index-clause-none g c =
    let b = c.self.inside in
    let h = map event_of b.history.items in
    let holds = c.self.invariant.0 in
    rw c.from_residual.ensures (rw (← c.self.view_is) (c.in_err-index.ensures.none (queue_history h) holds.kept))

pub push_reserved-requires : goal.push_reserved-requires
push_reserved-requires g c =
    let b = c.self.inside in
    let h = map event_of b.history.items in
    let holds = c.self.invariant.0 in
    let gone = c.in_ok-index.ensures.some (queue_history h) holds.kept in
    let may : MayRetire h c.in_ok-index.field-0 = record { place = gone.place; can = gone.can; index = gone.index; number = gone.number } in
    let room = progress_room record { goes_on = c.runs_go_on.ensures.goes_on; journal = c.runs_go_on.ensures.journal; garbage = c.runs_go_on.ensures.garbage } h (g.D.Device.journal b.device) (g.D.Device.journal b.device) (g.D.Device.bytes_of b.device) (g.D.Device.bytes_of b.device) b.queue b.garbage b.ending b.promised holds c.runs_meet_the_device.ensures.less (Retired c.in_ok-index.field-0) may tt in
    omega (arith, c.self.invariant.1)

pub overflow_sub-self : goal.overflow_sub-self
overflow_sub-self g c =
    let b = c.self.inside in
    let h = map event_of b.history.items in
    let holds = c.self.invariant.0 in
    let gone = c.in_ok-index.ensures.some (queue_history h) holds.kept in
    let may : MayRetire h c.in_ok-index.field-0 = record { place = gone.place; can = gone.can; index = gone.index; number = gone.number } in
    progress_room record { goes_on = c.runs_go_on.ensures.goes_on; journal = c.runs_go_on.ensures.journal; garbage = c.runs_go_on.ensures.garbage } h (g.D.Device.journal b.device) (g.D.Device.journal b.device) (g.D.Device.bytes_of b.device) (g.D.Device.bytes_of b.device) b.queue b.garbage b.ending b.promised holds c.runs_meet_the_device.ensures.less (Retired c.in_ok-index.field-0) may tt

pub invariant_of-self-2 : goal.invariant_of-self-2
invariant_of-self-2 g c =
    let b = c.self.inside in
    let h = map event_of b.history.items in
    let holds = c.self.invariant.0 in
    let gone = c.in_ok-index.ensures.some (queue_history h) holds.kept in
    let may : MayRetire h c.in_ok-index.field-0 = record { place = gone.place; can = gone.can; index = gone.index; number = gone.number } in
    let laws : GoesOn = record { goes_on = c.runs_go_on.ensures.goes_on; journal = c.runs_go_on.ensures.journal; garbage = c.runs_go_on.ensures.garbage } in
    let room = progress_room laws h (g.D.Device.journal b.device) (g.D.Device.journal b.device) (g.D.Device.bytes_of b.device) (g.D.Device.bytes_of b.device) b.queue b.garbage b.ending b.promised holds c.runs_meet_the_device.ensures.less (Retired c.in_ok-index.field-0) may tt in (
      at_end (λ l. Holds l (g.D.Device.journal b.device) (g.D.Device.bytes_of b.device) c.retire.new.self b.garbage b.ending (b.promised - 1)) b.history.items c.push_reserved.new.self.items (stored.Event (Retired c.in_ok-index.field-0)) c.push_reserved.ensures.items
          (holds_progress laws h (g.D.Device.journal b.device) (g.D.Device.journal b.device) (g.D.Device.bytes_of b.device) (g.D.Device.bytes_of b.device) b.queue b.garbage b.ending b.promised holds c.runs_meet_the_device.ensures.less (Retired c.in_ok-index.field-0) c.retire.new.self refl refl refl refl refl may tt
          (sym (append-nil (g.D.Device.journal b.device)))
          holds.in_order
          gone.keeps),
      omega (arith, c.self.invariant.1, c.push_reserved.ensures.len, c.push_reserved.ensures.capacity),
    )

pub returns-clause-some : goal.returns-clause-some
returns-clause-some g c =
    let b = c.self.inside in
    let h = map event_of b.history.items in
    let holds = c.self.invariant.0 in
    let gone = c.in_ok-index.ensures.some (queue_history h) holds.kept in
    let may : MayRetire h c.in_ok-index.field-0 = record { place = gone.place; can = gone.can; index = gone.index; number = gone.number } in
    rw (← c.self.view_is) (is_end b.history.items c.push_reserved.new.self.items (stored.Event (Retired c.in_ok-index.field-0)) c.push_reserved.ensures.items, may)

pub returns-clause-others : goal.returns-clause-others
returns-clause-others g c i low apart =
    let b = c.self.inside in
    let h = map event_of b.history.items in
    let holds = c.self.invariant.0 in
    rw (← c.self.view_is)
    (ap (λ l. completed l i) (is_end b.history.items c.push_reserved.new.self.items (stored.Event (Retired c.in_ok-index.field-0)) c.push_reserved.ensures.items)
    ∙ ap (λ q. queue.completed q i) (queue_then h (Retired c.in_ok-index.field-0))
    ∙ c.in_ok-index.ensures.others (queue_history h) holds.kept i low apart)
