use Rattle.std.proofs.Common.{◌≡◌, false, sym, ap, ◌∙◌, refl}
use Rattle.back_core.specs.Back.{ending_of, is_stopped}
use Rattle.shared_gpu.proofs.Endings.{first_stop, runs_on}
use Rattle.back_core.specs.declared.back_event.BackEvent.TheVariants as event
use Rattle.shared_gpu.proofs.Causes.{cause_reply}
use Rattle.shared_gpu.proofs.Ordered.{few, orderly_reply}
use Rattle.shared_gpu.proofs.shared.Shared.read_host.Goals as goal

pub invariant_of-self : goal.invariant_of-self
invariant_of-self g c =
    let b = c.self.inside.back in
    let x = c.read_host in (
      cause_reply (g.D.Device.faults c.self.inside.opened.value) (g.D.Device.faults b.device) (g.D.Device.faults x.new.self.device) b.history x.new.self.history c.self.invariant.0 x.result (λ u. event.Fetched c.args.group c.args.id c.args.at x.new.out) (λ v. refl) x.ensures.cause x.ensures.ok x.ensures.err,
      orderly_reply b.history x.new.self.history c.self.invariant.1 c.cleanups_stay_whole.ensures.goes_on x.result (λ u. event.Fetched c.args.group c.args.id c.args.at x.new.out) (λ v. few c.args.group c.requires.low) (λ v. tt) x.ensures.ok x.ensures.err,
    )

pub returns-in-Running-clause-first : goal.returns-in-Running-clause-first
returns-in-Running-clause-first g c =
    let h = c.self.inside.back.history in
    let runs : is_stopped (ending_of h) ≡ false = ap is_stopped (sym c.ending.ensures) ∙ runs_on c.ending.result c.in-Running.is in
    first_stop h c.read_host.new.self.history c.read_host.result runs c.read_host.ensures.err
