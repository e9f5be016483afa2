use Rattle.shared_gpu.specs.Seats.{seat_link}
use Rattle.shared_gpu.proofs.Acting.{ask_acts}
use Rattle.shared_gpu.proofs.seated.SeatedBackLink.completed.Goals as goal

pub returns-clause-at_back : goal.returns-clause-at_back
returns-clause-at_back g c =
    let s = c.self.inside in
    let x = c.completed in
    rw (← c.self.view_is) (ask_acts (seat_link s.seat) (seat_link x.new.self) c.args.index x.result x.ensures.answer)
