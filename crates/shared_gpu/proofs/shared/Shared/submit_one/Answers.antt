use Rattle.std.proofs.Common.{◌≡◌, false, sym, ap, ◌∙◌}
use Rattle.back_core.specs.Back.{ending_of, is_stopped}
use Rattle.shared_gpu.proofs.Endings.{first_stop, runs_on}
use Rattle.shared_gpu.proofs.Causes.{cause_submit}
use Rattle.shared_gpu.proofs.Ordered.{orderly_submit}
use Rattle.shared_gpu.proofs.shared.Shared.submit_one.Goals as goal

pub invariant_of-self : goal.invariant_of-self
invariant_of-self g c =
    let b = c.self.inside.back in
    let x = c.submit_one in (
      cause_submit (g.D.Device.faults c.self.inside.opened.value) (g.D.Device.faults b.device) (g.D.Device.faults x.new.self.device) b.history x.new.self.history c.self.invariant.0 x.result x.ensures.cause x.ensures.ok x.ensures.err,
      orderly_submit b.history x.new.self.history c.self.invariant.1 c.cleanups_stay_whole.ensures.goes_on x.result x.ensures.ok x.ensures.err,
    )

pub returns-in-Running-clause-first : goal.returns-in-Running-clause-first
returns-in-Running-clause-first g c =
    let h = c.self.inside.back.history in
    let runs : is_stopped (ending_of h) ≡ false = ap is_stopped (sym c.ending.ensures) ∙ runs_on c.ending.result c.in-Running.is in
    first_stop h c.submit_one.new.self.history c.submit_one.result runs c.submit_one.ensures.err
