use Rattle.std.proofs.Common.{◌≡◌, ◌-◌, true, sym, subst, arith, map}
use Rattle.back_core.specs.declared.back_event.BackEvent.TheVariants.{Abandoned}
use Rattle.back_core.specs.declared.stored.Stored.TheVariants as stored
use Rattle.back_core.specs.History.{link_of}
use Rattle.back_core.specs.Back.{BackModel, Holds, event_of}
use Rattle.back_core.proofs.Holding.{GoesOn, at_end}
use Rattle.back_core.proofs.Calls.{abandoned_room, holds_abandoned}
use Rattle.back_core.proofs.back.Back.abandon.Goals as goal

pub push_reserved-requires : goal.push_reserved-requires
push_reserved-requires g c =
    let b = c.self.inside in
    let h = map event_of b.history.items in
    let holds = c.self.invariant.0 in
    let held : (link_of h c.args.group).held c.args.handle.0 ≡ true = subst (λ (m : BackModel _). (link_of m.history c.args.group).held c.args.handle.0 ≡ true) (sym c.self.view_is) c.requires in
    let room = abandoned_room record { goes_on = c.runs_go_on.ensures.goes_on; journal = c.runs_go_on.ensures.journal; garbage = c.runs_go_on.ensures.garbage } h (g.D.Device.journal b.device) (g.D.Device.journal b.device) (g.D.Device.bytes_of b.device) (g.D.Device.bytes_of b.device) b.queue b.garbage b.ending b.promised holds c.args.group c.args.handle held in
    omega (arith, c.self.invariant.1)

pub overflow_sub-self : goal.overflow_sub-self
overflow_sub-self g c =
    let b = c.self.inside in
    let h = map event_of b.history.items in
    let holds = c.self.invariant.0 in
    let held : (link_of h c.args.group).held c.args.handle.0 ≡ true = subst (λ (m : BackModel _). (link_of m.history c.args.group).held c.args.handle.0 ≡ true) (sym c.self.view_is) c.requires in
    abandoned_room record { goes_on = c.runs_go_on.ensures.goes_on; journal = c.runs_go_on.ensures.journal; garbage = c.runs_go_on.ensures.garbage } h (g.D.Device.journal b.device) (g.D.Device.journal b.device) (g.D.Device.bytes_of b.device) (g.D.Device.bytes_of b.device) b.queue b.garbage b.ending b.promised holds c.args.group c.args.handle held

pub invariant_of-self : goal.invariant_of-self
invariant_of-self g c =
    let b = c.self.inside in
    let h = map event_of b.history.items in
    let holds = c.self.invariant.0 in
    let held : (link_of h c.args.group).held c.args.handle.0 ≡ true = subst (λ (m : BackModel _). (link_of m.history c.args.group).held c.args.handle.0 ≡ true) (sym c.self.view_is) c.requires in
    let laws : GoesOn = record { goes_on = c.runs_go_on.ensures.goes_on; journal = c.runs_go_on.ensures.journal; garbage = c.runs_go_on.ensures.garbage } in
    let room = abandoned_room laws h (g.D.Device.journal b.device) (g.D.Device.journal b.device) (g.D.Device.bytes_of b.device) (g.D.Device.bytes_of b.device) b.queue b.garbage b.ending b.promised holds c.args.group c.args.handle held in (
      at_end (λ l. Holds l (g.D.Device.journal c.abandon.new.self) (g.D.Device.bytes_of c.abandon.new.self) b.queue b.garbage b.ending (b.promised - 2)) b.history.items c.push_reserved.new.self.items (stored.Event (Abandoned c.args.group c.id-id.result)) c.push_reserved.ensures.items
          (rw c.id-id.ensures (holds_abandoned laws h (g.D.Device.journal b.device) (g.D.Device.journal c.abandon.new.self) (g.D.Device.bytes_of b.device) (g.D.Device.bytes_of c.abandon.new.self) b.queue b.garbage b.ending b.promised holds c.args.group c.args.handle held c.abandon.ensures.same.logged
          (c.devices_stay_in_order.ensures.stays b.device c.abandon.new.self holds.in_order c.abandon.ensures.same))),
      omega (arith, c.self.invariant.1, c.push_reserved.ensures.len, c.push_reserved.ensures.capacity),
    )
