use Rattle.std.proofs.Common.{◌-◌, arith, map}
use Rattle.back_core.specs.declared.back_event.BackEvent.TheVariants.{Closing}
use Rattle.back_core.specs.declared.stored.Stored.TheVariants.{Event}
use Rattle.back_core.specs.declared.ending.Ending.TheVariants as Runs
use Rattle.back_core.specs.Back.{Holds, event_of}
use Rattle.back_core.proofs.Holding.{GoesOn, at_end, holds_closing, closing_room}
use Rattle.back_core.proofs.back.Back.begin_closing.Goals as goal

pub invariant_of-self : goal.invariant_of-self
invariant_of-self g c =
    let laws : GoesOn = record { goes_on = c.runs_go_on.ensures.goes_on; journal = c.runs_go_on.ensures.journal; garbage = c.runs_go_on.ensures.garbage } in
    let b = c.self.inside in
    let h = map event_of b.history.items in
    let holds = c.self.invariant.0 in (
      at_end (λ l. Holds l (g.D.Device.journal b.device) (g.D.Device.bytes_of b.device) b.queue b.garbage Runs.Closing (b.promised - 1)) b.history.items c.push_reserved.new.self.items (Event Closing) c.push_reserved.ensures.items
          (holds_closing laws h (g.D.Device.journal b.device) (g.D.Device.bytes_of b.device) b.queue b.garbage b.ending b.promised holds c.in-Running.is),
      omega (arith, c.self.invariant.1, c.push_reserved.ensures.len, c.push_reserved.ensures.capacity, closing_room laws h (g.D.Device.journal b.device) (g.D.Device.bytes_of b.device) b.queue b.garbage b.ending b.promised holds c.in-Running.is),
    )
