use Rattle.std.proofs.Common.{sym, subst}
use Rattle.front_model.specs.Stands.{Holds, no_hands}
use Rattle.front_moves.proofs.Faces.{nothing_in}
use Rattle.front_moves.proofs.comes_to.new_comes_to.Goals as goal

pub returns : goal.returns
returns c = λ s group few new. subst (λ f. Holds f no_hands s) (sym (nothing_in group few)) (c.steps_hold.ensures.starts s group few new)
