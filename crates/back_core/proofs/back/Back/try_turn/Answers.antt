use Rattle.std.proofs.Common.{◌≡◌, ◌-◌, refl, subst, arith, map, Some}
use Rattle.std.specs.Prelude.{Contains, Ok}
use Rattle.vk_device.specs.declared.logged.Turned.TheVariants as turned
use Rattle.vk_device.specs.Journal.{accepted, node_at}
use Rattle.vk_device.specs.Order.{order_of, place_of, AllRan}
use Rattle.vk_device.specs.Effects.{HasTurned, Executes}
use Rattle.submit_queue.specs.Histories as queue
use Rattle.back_core.specs.declared.back_event.BackEvent.TheVariants.{Ran}
use Rattle.back_core.specs.declared.stored.Stored.TheVariants as stored
use Rattle.back_core.specs.History.{queue_history}
use Rattle.back_core.specs.Back.{Holds, event_of}
use Rattle.back_core.proofs.Holding.{GoesOn, at_end, is_end}
use Rattle.back_core.proofs.Calls.{progress_room, holds_progress}
use Rattle.back_core.proofs.back.Back.try_turn.Goals as goal

pub push_reserved-requires : goal.push_reserved-requires
push_reserved-requires g c =
    let b = c.self.inside in
    let h = map event_of b.history.items in
    let holds = c.self.invariant.0 in
    let done : Executes g.D.Device.journal g.D.Device.bytes_of b.device c.turn.new.self c.in-Ran.batch c.in-Ran.node = subst (λ t. HasTurned g.D.Device.journal g.D.Device.bytes_of b.device c.turn.new.self (Ok t)) c.in-Ran.is c.in_ok-batch.ensures.turned in
    let may : queue.MayRun (queue_history h) c.in-Ran.batch c.in-Ran.node = c.runs_meet_the_device.ensures.runs h c.in-Ran.batch c.in-Ran.node done.command holds.run
    (subst (λ j. node_at (accepted j) c.in-Ran.batch c.in-Ran.node ≡ Some done.command) holds.logged done.is)
    (subst (λ j. Contains (order_of j) (place_of j c.in-Ran.batch c.in-Ran.node) → ⊥) holds.logged done.ready.new) in
    let room = progress_room record { goes_on = c.runs_go_on.ensures.goes_on; journal = c.runs_go_on.ensures.journal; garbage = c.runs_go_on.ensures.garbage } h (g.D.Device.journal b.device) (g.D.Device.journal b.device) (g.D.Device.bytes_of b.device) (g.D.Device.bytes_of b.device) b.queue b.garbage b.ending b.promised holds c.runs_meet_the_device.ensures.less (Ran c.in-Ran.batch c.in-Ran.node) may tt in
    omega (arith, c.self.invariant.1)

pub overflow_sub-self : goal.overflow_sub-self
overflow_sub-self g c =
    let b = c.self.inside in
    let h = map event_of b.history.items in
    let holds = c.self.invariant.0 in
    let done : Executes g.D.Device.journal g.D.Device.bytes_of b.device c.turn.new.self c.in-Ran.batch c.in-Ran.node = subst (λ t. HasTurned g.D.Device.journal g.D.Device.bytes_of b.device c.turn.new.self (Ok t)) c.in-Ran.is c.in_ok-batch.ensures.turned in
    let may : queue.MayRun (queue_history h) c.in-Ran.batch c.in-Ran.node = c.runs_meet_the_device.ensures.runs h c.in-Ran.batch c.in-Ran.node done.command holds.run
    (subst (λ j. node_at (accepted j) c.in-Ran.batch c.in-Ran.node ≡ Some done.command) holds.logged done.is)
    (subst (λ j. Contains (order_of j) (place_of j c.in-Ran.batch c.in-Ran.node) → ⊥) holds.logged done.ready.new) in
    progress_room record { goes_on = c.runs_go_on.ensures.goes_on; journal = c.runs_go_on.ensures.journal; garbage = c.runs_go_on.ensures.garbage } h (g.D.Device.journal b.device) (g.D.Device.journal b.device) (g.D.Device.bytes_of b.device) (g.D.Device.bytes_of b.device) b.queue b.garbage b.ending b.promised holds c.runs_meet_the_device.ensures.less (Ran c.in-Ran.batch c.in-Ran.node) may tt

pub invariant_of-self-in-Ran : goal.invariant_of-self-in-Ran
invariant_of-self-in-Ran g c =
    let b = c.self.inside in
    let h = map event_of b.history.items in
    let holds = c.self.invariant.0 in
    let done : Executes g.D.Device.journal g.D.Device.bytes_of b.device c.turn.new.self c.in-Ran.batch c.in-Ran.node = subst (λ t. HasTurned g.D.Device.journal g.D.Device.bytes_of b.device c.turn.new.self (Ok t)) c.in-Ran.is c.in_ok-batch.ensures.turned in
    let may : queue.MayRun (queue_history h) c.in-Ran.batch c.in-Ran.node = c.runs_meet_the_device.ensures.runs h c.in-Ran.batch c.in-Ran.node done.command holds.run
    (subst (λ j. node_at (accepted j) c.in-Ran.batch c.in-Ran.node ≡ Some done.command) holds.logged done.is)
    (subst (λ j. Contains (order_of j) (place_of j c.in-Ran.batch c.in-Ran.node) → ⊥) holds.logged done.ready.new) in
    let laws : GoesOn = record { goes_on = c.runs_go_on.ensures.goes_on; journal = c.runs_go_on.ensures.journal; garbage = c.runs_go_on.ensures.garbage } in
    let room = progress_room laws h (g.D.Device.journal b.device) (g.D.Device.journal b.device) (g.D.Device.bytes_of b.device) (g.D.Device.bytes_of b.device) b.queue b.garbage b.ending b.promised holds c.runs_meet_the_device.ensures.less (Ran c.in-Ran.batch c.in-Ran.node) may tt in (
      at_end (λ l. Holds l (g.D.Device.journal c.turn.new.self) (g.D.Device.bytes_of c.turn.new.self) c.ran.new.self b.garbage b.ending (b.promised - 1)) b.history.items c.push_reserved.new.self.items (stored.Event (Ran c.in-Ran.batch c.in-Ran.node)) c.push_reserved.ensures.items
          (holds_progress laws h (g.D.Device.journal b.device) (g.D.Device.journal c.turn.new.self) (g.D.Device.bytes_of b.device) (g.D.Device.bytes_of c.turn.new.self) b.queue b.garbage b.ending b.promised holds c.runs_meet_the_device.ensures.less (Ran c.in-Ran.batch c.in-Ran.node) c.ran.new.self refl refl refl refl refl may tt
          done.logged
          (c.devices_stay_in_order.ensures.turns b.device c.turn.new.self (Ok (turned.Ran c.in-Ran.batch c.in-Ran.node)) holds.in_order done)
          (c.ran.ensures (queue_history h) holds.kept may)),
      omega (arith, c.self.invariant.1, c.push_reserved.ensures.len, c.push_reserved.ensures.capacity),
    )

pub returns-in-Ran-clause-ok : goal.returns-in-Ran-clause-ok
returns-in-Ran-clause-ok g c =
    let b = c.self.inside in
    let h = map event_of b.history.items in
    let holds = c.self.invariant.0 in
    let done : Executes g.D.Device.journal g.D.Device.bytes_of b.device c.turn.new.self c.in-Ran.batch c.in-Ran.node = subst (λ t. HasTurned g.D.Device.journal g.D.Device.bytes_of b.device c.turn.new.self (Ok t)) c.in-Ran.is c.in_ok-batch.ensures.turned in
    let may : queue.MayRun (queue_history h) c.in-Ran.batch c.in-Ran.node = c.runs_meet_the_device.ensures.runs h c.in-Ran.batch c.in-Ran.node done.command holds.run
    (subst (λ j. node_at (accepted j) c.in-Ran.batch c.in-Ran.node ≡ Some done.command) holds.logged done.is)
    (subst (λ j. Contains (order_of j) (place_of j c.in-Ran.batch c.in-Ran.node) → ⊥) holds.logged done.ready.new) in
    rw (← c.self.view_is) (is_end b.history.items c.push_reserved.new.self.items (stored.Event (Ran c.in-Ran.batch c.in-Ran.node)) c.push_reserved.ensures.items, may)

pub returns-in-Idle-clause-ok : goal.returns-in-Idle-clause-ok
returns-in-Idle-clause-ok g c =
    let b = c.self.inside in
    let h = map event_of b.history.items in
    let holds = c.self.invariant.0 in
    let none = subst (λ t. HasTurned g.D.Device.journal g.D.Device.bytes_of b.device c.turn.new.self (Ok t)) c.in-Idle.is c.in_ok-batch.ensures.turned in
    rw (← c.self.view_is) (refl, subst AllRan holds.logged none.1)
