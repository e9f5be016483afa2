use Rattle.std.proofs.Common.{◌≡◌, ap, ◌∙◌, subst}
use Rattle.vk_device.specs.declared.logged.Turned.TheVariants as turned
use Rattle.vk_device.specs.Order.{AllRan}
use Rattle.back_core.specs.Run.{journal_of}
use Rattle.back_core.specs.Back.{BackModel}
use Rattle.back_core.specs.Run.{IsRun}
use Rattle.std.proofs.lemmas.Result.{IfOk-weaker}
use Rattle.back_core.specs.Steps.{Turns}
use Rattle.back_core.proofs.Waiting.{by_submit}
use Rattle.back_core.proofs.back.Back.go_on.Goals as goal

pub returns-in-Idle-clause-ok : goal.returns-in-Idle-clause-ok
returns-in-Idle-clause-ok g c =
    let old = c.args.self.now.history in
    let laws = c.runs_meet_the_device.ensures in
    let run : IsRun old = subst (λ (m : BackModel _). IsRun m.history) c.self.view_is c.self.invariant.0.run in
    let first : c.retire.new.self ≡ c.args.self.now = c.in-None.ensures.unchanged in
    let turned : Turns c.retire.new.self.history c.turn.new.self.history turned.Idle = subst (λ t. Turns c.retire.new.self.history c.turn.new.self.history t) c.in-Idle.is c.in_ok-turn.ensures.ok in
    let same : c.retire.new.self.history ≡ old = ap (λ (m : BackModel _). m.history) first in
    IfOk-weaker c.submit_one.result _ _ (λ step s. by_submit laws.less laws.done old c.turn.new.self.history _ step run (turned.0 ∙ same) (subst (λ l. AllRan (journal_of l)) same turned.1) c.in-None.ensures.none s) c.submit_one.ensures.ok
