use Rattle.std.proofs.Common.{◌≡◌, false, sym, subst}
use Rattle.std.specs.Prelude.{IfErr}
use Rattle.back_core.specs.declared.ending.Ending.TheVariants.{Stopped}
use Rattle.back_core.specs.Back.{ending_of}
use Rattle.shared_gpu.specs.Notes.{events_of}
use Rattle.shared_gpu.proofs.Lost.{lost_kept}
use Rattle.shared_gpu.specs.Seats.{seat_link}
use Rattle.shared_gpu.proofs.Acting.{fetch_acts, passed_on}
use Rattle.shared_gpu.proofs.seated.SeatedBackLink.read_host.Goals as goal

pub invariant_of-self : goal.invariant_of-self
invariant_of-self g c =
    let s = c.self.inside in
    let x = c.read_host-answer in (
      c.self.invariant.0,
      lost_kept s.faults c.counted.new.faults s.seat.pass.seen x.new.self.pass.seen c.counted.result c.self.invariant.1 x.ensures.begins c.counted.ensures.rose (subst (λ r. IfErr r (λ t. ending_of (events_of x.new.self.pass.seen) ≡ Stopped t)) (sym c.counted.ensures.same) x.ensures.stopped),
    )

pub returns-clause-at_back : goal.returns-clause-at_back
returns-clause-at_back g c =
    let s = c.self.inside in
    let x = c.read_host-answer in
    rw (← c.self.view_is) (passed_on (seat_link s.seat) (seat_link x.new.self) 0 false x.result c.counted.result c.counted.ensures.same (fetch_acts (seat_link s.seat) (seat_link x.new.self) c.args.id.0 c.args.at x.new.out x.result x.ensures.ok x.ensures.err))
