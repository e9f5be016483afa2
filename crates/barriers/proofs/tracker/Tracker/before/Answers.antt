use Rattle.std.proofs.Common.{sym, ◌∙◌}
use Rattle.barriers.proofs.Licences.{none_due, some_due}
use Rattle.barriers.proofs.tracker.Tracker.before.Goals as goal

pub returns-then-not-is_due-clause-licensed : goal.returns-then-not-is_due-clause-licensed
returns-then-not-is_due-clause-licensed c = λ is_image uses k. sym (none_due c.args.self.now c.args.touch.now.id is_image uses k c.args.touch.now (sym c.is_due.ensures ∙ c.if-not-is_due.true))

pub returns-clause-licensed : goal.returns-clause-licensed
returns-clause-licensed c = λ is_image uses k. let e = some_due c.args.self.now c.args.touch.now.id is_image uses k c.args.touch.now (sym c.is_due.ensures ∙ c.if-not-is_due.false) in cc (e, c.first.ensures, c.named_layouts.ensures)
