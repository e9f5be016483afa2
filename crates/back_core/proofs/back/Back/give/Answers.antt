use Rattle.std.proofs.Common.{◌-◌, ℕ, List, refl, sym, subst, arith, map}
use Rattle.vk_types.specs.declared.batches.QueueSerial.{QueueSerial}
use Rattle.resource_use.specs.Uses.{AreDistinct}
use Rattle.back_core.specs.Link.{Link}
use Rattle.back_core.specs.History.{link_of}
use Rattle.back_core.specs.Needs.{MayGive}
use Rattle.back_core.specs.Run.{IsGiven}
use Rattle.back_core.specs.Back.{BackModel, Holds, event_of}
use Rattle.back_core.proofs.Holding.{GoesOn, at_end}
use Rattle.back_core.proofs.Calls.{gave_room, holds_gave}
use Rattle.back_core.proofs.back.Back.give.Goals as goal

-- what may be given is given, with uses of which no two have one index
given : (s : Link) (id : ℕ) (uses : List QueueSerial) → MayGive s id uses → AreDistinct uses → IsGiven s id uses
given s id uses may distinct = record { held = may.held; exact = may.exact; distinct = distinct }

pub push_reserved-requires : goal.push_reserved-requires
push_reserved-requires g c =
    let b = c.self.inside in
    let h = map event_of b.history.items in
    let holds = c.self.invariant.0 in
    let may = given (link_of h c.args.group) c.args.item.handle.0 c.args.item.uses (subst (λ (m : BackModel _). MayGive (link_of m.history c.args.group) c.args.item.handle.0 c.args.item.uses) (sym c.self.view_is) c.requires) c.has_one_number_each.ensures in
    let room = gave_room record { goes_on = c.runs_go_on.ensures.goes_on; journal = c.runs_go_on.ensures.journal; garbage = c.runs_go_on.ensures.garbage } h (g.D.Device.journal b.device) (g.D.Device.journal b.device) (g.D.Device.bytes_of b.device) (g.D.Device.bytes_of b.device) b.queue b.garbage b.ending b.promised holds c.args.group c.args.item.handle c.args.item.uses may in
    omega (arith, c.self.invariant.1, room.0)

pub put-requires : goal.put-requires
put-requires g c =
    let b = c.self.inside in
    let h = map event_of b.history.items in
    let holds = c.self.invariant.0 in
    let may = given (link_of h c.args.group) c.args.item.handle.0 c.args.item.uses (subst (λ (m : BackModel _). MayGive (link_of m.history c.args.group) c.args.item.handle.0 c.args.item.uses) (sym c.self.view_is) c.requires) c.has_one_number_each.ensures in
    (gave_room record { goes_on = c.runs_go_on.ensures.goes_on; journal = c.runs_go_on.ensures.journal; garbage = c.runs_go_on.ensures.garbage } h (g.D.Device.journal b.device) (g.D.Device.journal b.device) (g.D.Device.bytes_of b.device) (g.D.Device.bytes_of b.device) b.queue b.garbage b.ending b.promised holds c.args.group c.args.item.handle c.args.item.uses may).1

pub overflow_sub-self : goal.overflow_sub-self
overflow_sub-self g c =
    let b = c.self.inside in
    let h = map event_of b.history.items in
    let holds = c.self.invariant.0 in
    let may = given (link_of h c.args.group) c.args.item.handle.0 c.args.item.uses (subst (λ (m : BackModel _). MayGive (link_of m.history c.args.group) c.args.item.handle.0 c.args.item.uses) (sym c.self.view_is) c.requires) c.has_one_number_each.ensures in
    (gave_room record { goes_on = c.runs_go_on.ensures.goes_on; journal = c.runs_go_on.ensures.journal; garbage = c.runs_go_on.ensures.garbage } h (g.D.Device.journal b.device) (g.D.Device.journal b.device) (g.D.Device.bytes_of b.device) (g.D.Device.bytes_of b.device) b.queue b.garbage b.ending b.promised holds c.args.group c.args.item.handle c.args.item.uses may).0

pub invariant_of-self : goal.invariant_of-self
invariant_of-self g c =
    let b = c.self.inside in
    let h = map event_of b.history.items in
    let holds = c.self.invariant.0 in
    let may = given (link_of h c.args.group) c.args.item.handle.0 c.args.item.uses (subst (λ (m : BackModel _). MayGive (link_of m.history c.args.group) c.args.item.handle.0 c.args.item.uses) (sym c.self.view_is) c.requires) c.has_one_number_each.ensures in
    let laws : GoesOn = record { goes_on = c.runs_go_on.ensures.goes_on; journal = c.runs_go_on.ensures.journal; garbage = c.runs_go_on.ensures.garbage } in
    let room = gave_room laws h (g.D.Device.journal b.device) (g.D.Device.journal b.device) (g.D.Device.bytes_of b.device) (g.D.Device.bytes_of b.device) b.queue b.garbage b.ending b.promised holds c.args.group c.args.item.handle c.args.item.uses may in (
      at_end (λ l. Holds l (g.D.Device.journal b.device) (g.D.Device.bytes_of b.device) b.queue c.put.new.self b.ending (b.promised - 1)) b.history.items c.push_reserved.new.self.items _ c.push_reserved.ensures.items
          (rw (c.id.ensures, c.of.ensures) (holds_gave laws h (g.D.Device.journal b.device) (g.D.Device.journal b.device) (g.D.Device.bytes_of b.device) (g.D.Device.bytes_of b.device) b.queue b.garbage b.ending b.promised holds c.args.group c.args.item c.put.new.self may refl holds.in_order c.put.ensures.items c.put.ensures.room)),
      omega (arith, c.self.invariant.1, room.0, c.push_reserved.ensures.len, c.push_reserved.ensures.capacity),
    )
