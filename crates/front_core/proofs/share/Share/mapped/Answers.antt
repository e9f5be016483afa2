use Rattle.std.proofs.Common.{rules, refl}
use Rattle.front_core.proofs.share.Share.mapped.Goals as goal

pub returns-in-Some-clause-some : goal.returns-in-Some-clause-some
returns-in-Some-clause-some c = λ context current. (c.in_ok-buffer.facts, c.in-Some.mapped, c.in_ok-buffer.ensures.some context current, c.in-Some.is, refl, search rules)
