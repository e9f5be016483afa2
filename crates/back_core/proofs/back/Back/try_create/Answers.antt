use Rattle.std.proofs.Common.{◌≡◌, ◌+◌, sym, ap, ◌∙◌, subst, arith, map}
use Rattle.vk_device.specs.Journal.{creates}
use Rattle.back_core.specs.declared.back_event.BackEvent.TheVariants.{Created}
use Rattle.back_core.specs.declared.stored.Stored.TheVariants as stored
use Rattle.back_core.specs.History.{link_of}
use Rattle.back_core.specs.Needs.{IsFresh}
use Rattle.back_core.specs.Run.{journal_of}
use Rattle.back_core.specs.Back.{Holds, event_of}
use Rattle.back_core.proofs.Holding.{GoesOn, at_end_then}
use Rattle.back_core.proofs.Calls.{holds_created}
use Rattle.back_core.proofs.back.Back.try_create.Goals as goal

pub returns-clause-fresh : goal.returns-clause-fresh
returns-clause-fresh g c =
    let b = c.self.inside in
    let h = map event_of b.history.items in
    let holds = c.self.invariant.0 in
    let handle = c.in_ok-handle.handle in
    let number : creates (journal_of h) ≡ handle.0 = sym (c.in_ok-handle.ensures.number ∙ ap creates holds.logged) in
    rw (← c.self.view_is) (subst (λ n. IsFresh (link_of h c.args.group) n) number (c.runs_meet_the_device.ensures.fresh h c.args.group holds.run))

pub invariant_of-self-2 : goal.invariant_of-self-2
invariant_of-self-2 g c =
    let b = c.self.inside in
    let h = map event_of b.history.items in
    let holds = c.self.invariant.0 in
    let laws : GoesOn = record { goes_on = c.runs_go_on.ensures.goes_on; journal = c.runs_go_on.ensures.journal; garbage = c.runs_go_on.ensures.garbage } in
    let handle = c.in_ok-handle.handle in (
      at_end_then (λ l. Holds l (g.D.Device.journal c.create.new.self) (g.D.Device.bytes_of c.create.new.self) b.queue c.reserve_one.new.self b.ending (b.promised + 2)) b.history.items c.reserve.new.self.items c.push_reserved.new.self.items (stored.Event (Created c.args.group c.id.result c.args.kind)) c.push_reserved.ensures.items c.reserve.ensures.items
          (rw c.id.ensures (holds_created laws h (g.D.Device.journal b.device) (g.D.Device.journal c.create.new.self) (g.D.Device.bytes_of b.device) (g.D.Device.bytes_of c.create.new.self) b.queue b.garbage b.ending b.promised holds c.args.group handle c.args.kind c.reserve_one.new.self
          c.in_ok-handle.ensures.number c.requires c.in_ok-handle.ensures.logged.logged
          (c.devices_stay_in_order.ensures.creates b.device c.create.new.self handle c.args.kind holds.in_order c.in_ok-handle.ensures.fresh c.in_ok-handle.ensures.size c.in_ok-handle.ensures.logged)
          c.reserve_one.ensures.items c.in_ok-reserve_one.ensures.room)),
      omega (arith, c.self.invariant.1, c.push_reserved.ensures.len, c.push_reserved.ensures.capacity, c.in_ok-reserve.ensures.ok, c.reserve.ensures.len),
    )
