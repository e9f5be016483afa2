use Rattle.std.proofs.Common.{◌≡◌, false, sym, ap, ◌∙◌}
use Rattle.back_core.specs.Back.{ending_of, is_stopped}
use Rattle.shared_gpu.proofs.Endings.{first_stop, runs_on}
use Rattle.shared_gpu.proofs.Causes.{cause_turn}
use Rattle.shared_gpu.proofs.Ordered.{orderly_turn}
use Rattle.shared_gpu.proofs.shared.Shared.turn.Goals as goal

pub invariant_of-self : goal.invariant_of-self
invariant_of-self g c =
    let b = c.self.inside.back in
    let x = c.turn in (
      cause_turn (g.D.Device.faults c.self.inside.opened.value) (g.D.Device.faults b.device) (g.D.Device.faults x.new.self.device) b.history x.new.self.history c.self.invariant.0 x.result x.ensures.cause x.ensures.ok x.ensures.err,
      orderly_turn b.history x.new.self.history c.self.invariant.1 c.cleanups_stay_whole.ensures.goes_on x.result x.ensures.ok x.ensures.err,
    )

pub returns-in-Running-clause-first : goal.returns-in-Running-clause-first
returns-in-Running-clause-first g c =
    let h = c.self.inside.back.history in
    let runs : is_stopped (ending_of h) ≡ false = ap is_stopped (sym c.ending.ensures) ∙ runs_on c.ending.result c.in-Running.is in
    first_stop h c.turn.new.self.history c.turn.result runs c.turn.ensures.err

pub returns-in-Running-clause-ok : goal.returns-in-Running-clause-ok
returns-in-Running-clause-ok g c = rw (← c.self.view_is) c.turn.ensures.ok
