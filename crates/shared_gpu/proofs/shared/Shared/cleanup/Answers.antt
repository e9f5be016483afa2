use Rattle.std.proofs.Common.{◌≡◌, false, sym, ap, ◌∙◌}
use Rattle.back_core.specs.Back.{ending_of, is_stopped}
use Rattle.shared_gpu.proofs.Endings.{first_stop_cleaning, runs_on}
use Rattle.shared_gpu.proofs.Causes.{cause_cleanup}
use Rattle.shared_gpu.proofs.Ordered.{orderly_cleanup}
use Rattle.shared_gpu.proofs.shared.Shared.cleanup.Goals as goal

pub invariant_of-self : goal.invariant_of-self
invariant_of-self g c =
    let b = c.self.inside.back in
    let x = c.cleanup in (
      cause_cleanup g.D.Device.journal (g.D.Device.faults c.self.inside.opened.value) (g.D.Device.faults b.device) (g.D.Device.faults x.new.self.device) b x.new.self c.args.read.now x.result c.self.invariant.0 x.ensures.cause x.ensures.ok x.ensures.err,
      orderly_cleanup g.D.Device.journal b x.new.self c.args.read.now c.self.invariant.1 x.result x.ensures.ok x.ensures.err x.ensures.whole,
    )

pub returns-in-Running-clause-first : goal.returns-in-Running-clause-first
returns-in-Running-clause-first g c =
    let b = c.self.inside.back in
    let runs : is_stopped (ending_of b.history) ≡ false = ap is_stopped (sym c.ending.ensures) ∙ runs_on c.ending.result c.in-Running.is in
    first_stop_cleaning g.D.Device.journal b c.cleanup.new.self c.args.read.now c.cleanup.result runs c.cleanup.ensures.err
