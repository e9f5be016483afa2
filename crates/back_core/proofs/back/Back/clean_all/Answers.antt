use Rattle.std.proofs.Common.{◌≡◌, ℕ, sym, subst}
use Rattle.std.specs.Prelude.{None}
use Rattle.std.proofs.lemmas.Result.{IfOk-weaker}
use Rattle.vk_device.specs.Journal.{kind_of}
use Rattle.back_core.specs.Run.{IsRun, journal_of}
use Rattle.back_core.specs.Back.{BackModel}
use Rattle.back_core.specs.Steps.{IsAllGiven, CleansWhole}
use Rattle.back_core.proofs.back.Back.clean_all.Goals as goal

pub returns-clause-clean : goal.returns-clause-clean
returns-clause-clean g c =
    let old = c.args.self.now.history in
    let run : IsRun old = subst (λ (m : BackModel _). IsRun m.history) c.self.view_is c.self.invariant.0.run in
    IfOk-weaker c.cleanup.result _ (λ count. CleansWhole old → ((k : ℕ) → IsAllGiven old k) → (id : ℕ) → kind_of (journal_of c.cleanup.new.self.history) id ≡ None)
    (λ count up whole all id. subst (λ l. kind_of (journal_of l) id ≡ None) (sym up.history) (c.runs_end_clean.ensures.cleaned old count c.all_completed-read.result run whole all c.all_completed-read.ensures up.counted id))
    c.cleanup.ensures.ok
