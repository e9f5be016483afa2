use Rattle.std.proofs.Common.{◌≡◌, ◌-◌, false, arith, map, sym, ◌∙◌}
use Rattle.back_core.specs.declared.back_event.BackEvent.TheVariants.{Stopped}
use Rattle.back_core.specs.declared.stored.Stored.TheVariants.{Event}
use Rattle.back_core.specs.declared.ending.Ending.TheVariants as Runs
use Rattle.back_core.specs.Back.{Holds, event_of, is_stopped}
use Rattle.back_core.proofs.Holding.{GoesOn, at_end, holds_stopped, stopped_room}
use Rattle.back_core.proofs.back.Back.stop.Goals as goal

pub invariant_of-self : goal.invariant_of-self
invariant_of-self g c =
    let laws : GoesOn = record { goes_on = c.runs_go_on.ensures.goes_on; journal = c.runs_go_on.ensures.journal; garbage = c.runs_go_on.ensures.garbage } in
    let b = c.self.inside in
    let runs : is_stopped b.ending ≡ false = sym c.is_stopped.ensures ∙ c.if-is_stopped.false in
    let h = map event_of b.history.items in (
      at_end (λ h. Holds h (g.D.Device.journal b.device) (g.D.Device.bytes_of b.device) b.queue b.garbage (Runs.Stopped c.args.stop) (b.promised - 1)) b.history.items c.push_reserved.new.self.items (Event (Stopped c.args.stop)) c.push_reserved.ensures.items
          (holds_stopped laws h c.args.stop _ _ b.queue b.garbage b.ending b.promised c.self.invariant.0 runs),
      omega (arith, c.self.invariant.1, c.push_reserved.ensures.len, c.push_reserved.ensures.capacity, stopped_room laws h c.args.stop _ _ b.queue b.garbage b.ending b.promised c.self.invariant.0 runs),
    )
