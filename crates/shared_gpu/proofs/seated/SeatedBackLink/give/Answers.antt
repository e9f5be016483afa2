use Rattle.vk_types.specs.declared.stops.Stop.TheVariants.{Lost}
use Rattle.shared_gpu.proofs.Lost.{still_stopped}
use Rattle.shared_gpu.specs.Seats.{seat_link}
use Rattle.shared_gpu.proofs.Acting.{give_acts}
use Rattle.shared_gpu.proofs.seated.SeatedBackLink.give.Goals as goal

pub invariant_of-self : goal.invariant_of-self
invariant_of-self g c =
    let s = c.self.inside in
    let x = c.give in (
      c.self.invariant.0,
      λ some. still_stopped Lost s.seat.pass.seen x.new.self.pass.seen x.ensures.begins (c.self.invariant.1 some),
    )

pub returns-clause-at_back : goal.returns-clause-at_back
returns-clause-at_back g c =
    let s = c.self.inside in
    let x = c.give in
    rw (← c.self.view_is) (give_acts (seat_link s.seat) (seat_link x.new.self) c.args.item.handle.0 c.args.item.uses x.ensures.link)
