use Rattle.std.proofs.Common.{◌≡◌, ◌+◌, length, refl, sym, ap, ◌∙◌, subst, arith, map}
use Rattle.vk_device.specs.Journal.{kind_of}
use Rattle.vk_device.specs.Order.{log_of}
use Rattle.back_core.specs.declared.back_event.BackEvent.TheVariants.{Fetched}
use Rattle.back_core.specs.declared.stored.Stored.TheVariants as stored
use Rattle.back_core.specs.History.{link_of}
use Rattle.back_core.specs.Needs.{HostMay}
use Rattle.back_core.specs.Run.{journal_of}
use Rattle.back_core.specs.Back.{BackModel, Holds, event_of}
use Rattle.back_core.proofs.Holding.{GoesOn, at_end_then}
use Rattle.back_core.proofs.Calls.{holds_noted}
use Rattle.cells.specs.Contents.{Agrees, cells}
use Rattle.vk_device.specs.Order.{IsVisible}
use Rattle.vk_device.specs.Running.{IsInOrder}
use Rattle.vk_device.specs.Journal.{ReachesTo}
use Rattle.back_core.specs.Own.{log_of as own_log, IsReadable}
use Rattle.back_core.specs.Link.{contents_of}
use Rattle.std.proofs.lemmas.List.{length-replicate}
use Rattle.back_core.proofs.Numbers.{overwritten-all}
use Rattle.back_core.proofs.back.Back.try_read.Goals as goal

pub read_host-requires-clause-visible : goal.read_host-requires-clause-visible
read_host-requires-clause-visible g c =
    let b = c.self.inside in
    let h = map event_of b.history.items in
    let holds = c.self.invariant.0 in
    let may : HostMay (link_of h c.args.group) c.args.id.0 c.args.at (length c.args.out.now) = subst (λ (m : BackModel _). HostMay (link_of m.history c.args.group) c.args.id.0 c.args.at (length c.args.out.now)) (sym c.self.view_is) c.requires.may in
    let readable : IsReadable (own_log (link_of h c.args.group).mine) c.args.id.0 c.args.at (length c.args.out.now) = subst (λ (m : BackModel _). IsReadable (own_log (link_of m.history c.args.group).mine) c.args.id.0 c.args.at (length c.args.out.now)) (sym c.self.view_is) c.requires.readable in
    subst (λ j. IsVisible (log_of j) c.args.id.0 c.args.at (c.args.at + (length c.args.out.now))) (sym holds.logged) (c.runs_are_sound.ensures.visible h c.args.group c.args.id.0 c.args.at (length c.args.out.now) holds.run may readable)

pub invariant_of-self-2 : goal.invariant_of-self-2
invariant_of-self-2 g c =
    let b = c.self.inside in
    let h = map event_of b.history.items in
    let holds = c.self.invariant.0 in
    let may : HostMay (link_of h c.args.group) c.args.id.0 c.args.at (length c.args.out.now) = subst (λ (m : BackModel _). HostMay (link_of m.history c.args.group) c.args.id.0 c.args.at (length c.args.out.now)) (sym c.self.view_is) c.requires.may in
    let readable : IsReadable (own_log (link_of h c.args.group).mine) c.args.id.0 c.args.at (length c.args.out.now) = subst (λ (m : BackModel _). IsReadable (own_log (link_of m.history c.args.group).mine) c.args.id.0 c.args.at (length c.args.out.now)) (sym c.self.view_is) c.requires.readable in
    let laws : GoesOn = record { goes_on = c.runs_go_on.ensures.goes_on; journal = c.runs_go_on.ensures.journal; garbage = c.runs_go_on.ensures.garbage } in
    let out = c.read_host.new.out in
    let size : length c.read_host.new.out ≡ length c.args.out.now = omega arith in
    let whole : c.overwrite.new.self ≡ c.read_host.new.out = c.overwrite.ensures ∙ overwritten-all c.in_ok-copy.copy c.read_host.new.out (size ∙ sym (ap length c.in_ok-copy.ensures ∙ length-replicate (length c.args.out.now) 0)) in
    let inside = subst (λ j. ReachesTo (kind_of j c.args.id.0) (c.args.at + length c.read_host.new.out)) (sym holds.logged) (subst (λ n. ReachesTo (kind_of (journal_of h) c.args.id.0) (c.args.at + n)) (sym size) (c.runs_meet_the_device.ensures.inside h c.args.group c.args.id.0 c.args.at (length c.args.out.now) holds.run may)) in
    let in_order = c.devices_stay_in_order.ensures.fetches b.device c.read_host.new.self c.args.id c.args.at c.read_host.new.out holds.in_order inside c.in_ok-read_host.ensures.logged c.in_ok-read_host.ensures.same in (
      at_end_then (λ l. Holds l (g.D.Device.journal c.read_host.new.self) (g.D.Device.bytes_of c.read_host.new.self) b.queue b.garbage b.ending b.promised) b.history.items c.reserve.new.self.items c.push_reserved.new.self.items (stored.Event (Fetched c.args.group c.args.id c.args.at c.overwrite.new.self)) c.push_reserved.ensures.items c.reserve.ensures.items
          (rw whole (holds_noted laws h (g.D.Device.journal b.device) (g.D.Device.journal c.read_host.new.self) (g.D.Device.bytes_of b.device) (g.D.Device.bytes_of c.read_host.new.self) b.queue b.garbage b.ending b.promised holds (Fetched c.args.group c.args.id c.args.at c.read_host.new.out) refl refl refl refl refl refl
          (subst (λ n. HostMay (link_of h c.args.group) c.args.id.0 c.args.at n × IsReadable (own_log (link_of h c.args.group).mine) c.args.id.0 c.args.at n) (sym size) (may, readable))
          c.in_ok-read_host.ensures.logged.logged in_order)),
      omega (arith, c.self.invariant.1, c.push_reserved.ensures.len, c.push_reserved.ensures.capacity, c.in_ok-reserve.ensures.ok, c.reserve.ensures.len),
    )

pub returns-clause-bytes : goal.returns-clause-bytes
returns-clause-bytes g c =
    let b = c.self.inside in
    let h = map event_of b.history.items in
    let holds = c.self.invariant.0 in
    let may : HostMay (link_of h c.args.group) c.args.id.0 c.args.at (length c.args.out.now) = subst (λ (m : BackModel _). HostMay (link_of m.history c.args.group) c.args.id.0 c.args.at (length c.args.out.now)) (sym c.self.view_is) c.requires.may in
    let readable : IsReadable (own_log (link_of h c.args.group).mine) c.args.id.0 c.args.at (length c.args.out.now) = subst (λ (m : BackModel _). IsReadable (own_log (link_of m.history c.args.group).mine) c.args.id.0 c.args.at (length c.args.out.now)) (sym c.self.view_is) c.requires.readable in
    let agrees = c.runs_are_sound.ensures.agrees h (g.D.Device.bytes_of b.device) c.args.group c.args.id.0 c.args.at (length c.args.out.now) holds.run (subst (λ j. IsInOrder j (g.D.Device.bytes_of b.device)) holds.logged holds.in_order) may in
    rw (← c.self.view_is) (subst (λ out. Agrees out (cells (length c.args.out.now) (λ i. contents_of (link_of h c.args.group) c.args.id.0 (c.args.at + i)))) (sym c.in_ok-read_host.ensures.read) agrees)
