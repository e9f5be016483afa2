use Rattle.std.proofs.Common.{◌+◌, length, refl, sym, subst, arith, map}
use Rattle.vk_device.specs.Journal.{kind_of}
use Rattle.vk_device.specs.Order.{log_of, order_of}
use Rattle.back_core.specs.declared.back_event.BackEvent.TheVariants.{Wrote}
use Rattle.back_core.specs.declared.stored.Stored.TheVariants as stored
use Rattle.back_core.specs.History.{link_of}
use Rattle.back_core.specs.Needs.{HostMay}
use Rattle.back_core.specs.Back.{BackModel, Holds, event_of}
use Rattle.back_core.proofs.Holding.{GoesOn, at_end_then}
use Rattle.back_core.proofs.Calls.{holds_noted}
use Rattle.vk_model.specs.Meaning.{IsSettled}
use Rattle.vk_device.specs.Journal.{ReachesTo}
use Rattle.back_core.specs.Run.{IsLeftAlone}
use Rattle.back_core.proofs.back.Back.try_write.Goals as goal

pub invariant_of-self-2 : goal.invariant_of-self-2
invariant_of-self-2 g c =
    let b = c.self.inside in
    let h = map event_of b.history.items in
    let holds = c.self.invariant.0 in
    let laws : GoesOn = record { goes_on = c.runs_go_on.ensures.goes_on; journal = c.runs_go_on.ensures.journal; garbage = c.runs_go_on.ensures.garbage } in
    let may : HostMay (link_of h c.args.group) c.args.id.0 c.args.at (length c.args.bytes.now) = subst (λ (m : BackModel _). HostMay (link_of m.history c.args.group) c.args.id.0 c.args.at (length c.args.bytes.now)) (sym c.self.view_is) c.requires in
    let inside = subst (λ j. ReachesTo (kind_of j c.args.id.0) (c.args.at + length c.args.bytes.now)) (sym holds.logged) (c.runs_meet_the_device.ensures.inside h c.args.group c.args.id.0 c.args.at (length c.args.bytes.now) holds.run may) in
    let alone : IsLeftAlone h c.args.id.0 = c.runs_meet_the_device.ensures.settled h c.args.group c.args.id.0 c.args.at (length c.args.bytes.now) holds.run may in
    let settled = subst (λ j. IsSettled (log_of j) (order_of j) c.args.id.0) (sym holds.logged) alone.settled in
    let in_order = c.devices_stay_in_order.ensures.writes b.device c.write_host.new.self c.args.id c.args.at c.args.bytes.now holds.in_order inside c.in_ok-write_host.ensures.short settled c.in_ok-write_host.ensures.logged c.in_ok-write_host.ensures.written in (
      at_end_then (λ l. Holds l (g.D.Device.journal c.write_host.new.self) (g.D.Device.bytes_of c.write_host.new.self) b.queue b.garbage b.ending b.promised) b.history.items c.reserve.new.self.items c.push_reserved.new.self.items (stored.Event (Wrote c.args.group c.args.id c.args.at c.in_ok-copy.copy)) c.push_reserved.ensures.items c.reserve.ensures.items
          (rw c.in_ok-copy.ensures (holds_noted laws h (g.D.Device.journal b.device) (g.D.Device.journal c.write_host.new.self) (g.D.Device.bytes_of b.device) (g.D.Device.bytes_of c.write_host.new.self) b.queue b.garbage b.ending b.promised holds (Wrote c.args.group c.args.id c.args.at c.args.bytes.now) refl refl refl refl refl refl may c.in_ok-write_host.ensures.logged.logged in_order)),
      omega (arith, c.self.invariant.1, c.push_reserved.ensures.len, c.push_reserved.ensures.capacity, c.in_ok-reserve.ensures.ok, c.reserve.ensures.len),
    )
