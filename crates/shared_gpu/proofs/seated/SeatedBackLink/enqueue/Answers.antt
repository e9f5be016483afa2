use Rattle.std.proofs.Common.{◌≡◌, sym, subst}
use Rattle.back_core.specs.Needs.{MayEnqueue}
use Rattle.shared_gpu.specs.Views.{SeatedModel}
use Rattle.vk_types.specs.declared.stops.Stop.TheVariants.{Lost}
use Rattle.shared_gpu.proofs.Lost.{still_stopped}
use Rattle.shared_gpu.specs.Seats.{seat_link}
use Rattle.shared_gpu.proofs.Acting.{enqueue_acts}
use Rattle.shared_gpu.proofs.seated.SeatedBackLink.enqueue.Goals as goal

pub invariant_of-self : goal.invariant_of-self
invariant_of-self g c =
    let s = c.self.inside in
    let x = c.enqueue in (
      c.self.invariant.0,
      λ some. still_stopped Lost s.seat.pass.seen x.new.self.pass.seen x.ensures.begins (c.self.invariant.1 some),
    )

pub returns-clause-at_back : goal.returns-clause-at_back
returns-clause-at_back g c =
    let s = c.self.inside in
    let x = c.enqueue in
    let may : MayEnqueue (seat_link s.seat) c.args.batch = subst (λ (m : SeatedModel). MayEnqueue (seat_link m.seat) c.args.batch) (sym c.self.view_is) c.requires in
    rw (← c.self.view_is) (enqueue_acts (seat_link s.seat) (seat_link x.new.self) c.args.batch may.next x.result x.ensures.ok x.ensures.err)
