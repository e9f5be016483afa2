use Rattle.vk_types.specs.declared.stops.Stop.TheVariants.{Lost}
use Rattle.shared_gpu.proofs.Lost.{still_stopped}
use Rattle.shared_gpu.specs.Seats.{seat_link}
use Rattle.shared_gpu.proofs.Acting.{abandon_acts}
use Rattle.shared_gpu.proofs.seated.SeatedBackLink.abandon.Goals as goal

pub invariant_of-self : goal.invariant_of-self
invariant_of-self g c =
    let s = c.self.inside in
    let x = c.abandon in (
      c.self.invariant.0,
      λ some. still_stopped Lost s.seat.pass.seen x.new.self.pass.seen x.ensures.begins (c.self.invariant.1 some),
    )

pub returns-clause-at_back : goal.returns-clause-at_back
returns-clause-at_back g c =
    let s = c.self.inside in
    let x = c.abandon in
    rw (← c.self.view_is) (abandon_acts (seat_link s.seat) (seat_link x.new.self) c.args.handle.0 x.ensures.link)
