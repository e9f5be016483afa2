use Rattle.std.proofs.Common.{◌≡◌, ◌+◌, ◌<◌, length, refl, sym, ap, subst, arith, map}
use Rattle.std.specs.Prelude.{◌/◌}
use Rattle.submit_queue.specs.Histories as queue
use Rattle.back_core.specs.declared.back_event.BackEvent.TheVariants.{Enqueued}
use Rattle.back_core.specs.declared.stored.Stored.TheVariants as stored
use Rattle.back_core.specs.History.{queue_history, link_of}
use Rattle.back_core.specs.Needs.{MayEnqueue}
use Rattle.back_core.specs.Back.{BackModel, Holds, event_of}
use Rattle.back_core.proofs.Holding.{GoesOn, at_end_then, is_end_then}
use Rattle.back_core.proofs.Calls.{holds_enqueued}
use Rattle.back_core.proofs.Numbers.{numbers_few, batches_few}
use Rattle.back_core.proofs.back.Back.enqueue.Goals as goal

pub invariant_of-self-2 : goal.invariant_of-self-2
invariant_of-self-2 g c =
    let b = c.self.inside in
    let h = map event_of b.history.items in
    let holds = c.self.invariant.0 in
    let may : MayEnqueue (link_of h (c.args.batch.index / 8)) c.args.batch = subst (λ (m : BackModel _). MayEnqueue (link_of m.history (c.args.batch.index / 8)) c.args.batch) (sym c.self.view_is) c.requires in
    let index : c.args.batch.index < 64 = omega (arith, c.get-index.ensures.value, c.get-index.ensures.bound) in
    let push : queue.MayPush (queue_history h) c.args.batch = c.runs_meet_the_device.ensures.pushes h c.args.batch holds.run index may in
    let laws : GoesOn = record { goes_on = c.runs_go_on.ensures.goes_on; journal = c.runs_go_on.ensures.journal; garbage = c.runs_go_on.ensures.garbage } in
    let waits : length c.args.batch.waits ≡ 0 = ap length c.requires.one_queue.waits in
    let signals : length c.args.batch.signals ≡ 0 = ap length c.requires.one_queue.signals in
    let nodes : length c.as_slice.result.now ≡ length c.args.batch.nodes = ap length c.as_slice.ensures in (
      at_end_then (λ l. Holds l (g.D.Device.journal b.device) (g.D.Device.bytes_of b.device) c.push.new.self b.garbage b.ending (b.promised + (length c.as_slice.result.now + 2))) b.history.items c.reserve.new.self.items c.push_reserved.new.self.items (stored.Event (Enqueued c.in-Ok.copy)) c.push_reserved.ensures.items c.reserve.ensures.items
          (rw c.in-Ok.ensures (holds_enqueued laws h (g.D.Device.journal b.device) (g.D.Device.journal b.device) (g.D.Device.bytes_of b.device) (g.D.Device.bytes_of b.device) b.queue b.garbage b.ending b.promised holds c.args.batch c.push.new.self (length c.as_slice.result.now + 2) index may
          (c.in-Ok-push.ensures.ok (queue_history h) holds.kept push) (omega arith) refl holds.in_order)),
      omega (arith, c.self.invariant.1, c.push_reserved.ensures.len, c.push_reserved.ensures.capacity, c.in-Ok-reserve.ensures.ok, c.reserve.ensures.len),
    )

pub returns-clause-ok : goal.returns-clause-ok
returns-clause-ok g c =
    let b = c.self.inside in
    let h = map event_of b.history.items in
    let holds = c.self.invariant.0 in
    rw (← c.self.view_is, ← c.in-Ok.ensures) (is_end_then b.history.items c.reserve.new.self.items c.push_reserved.new.self.items (stored.Event (Enqueued c.in-Ok.copy)) c.push_reserved.ensures.items c.reserve.ensures.items)

pub returns-clause-room : goal.returns-clause-room
returns-clause-room g c =
    let b = c.self.inside in
    let h = map event_of b.history.items in
    let holds = c.self.invariant.0 in
    let may : MayEnqueue (link_of h (c.args.batch.index / 8)) c.args.batch = subst (λ (m : BackModel _). MayEnqueue (link_of m.history (c.args.batch.index / 8)) c.args.batch) (sym c.self.view_is) c.requires in
    let index : c.args.batch.index < 64 = omega (arith, c.get-index.ensures.value, c.get-index.ensures.bound) in
    let push : queue.MayPush (queue_history h) c.args.batch = c.runs_meet_the_device.ensures.pushes h c.args.batch holds.run index may in
    let few = numbers_few (queue.batches (queue_history h)) c.args.batch.index holds.kept.numbered in
    let many = batches_few b.history.items in
    omega (arith, push.number, c.self.invariant.1)
