use Rattle.front_model.proofs.LinkSteps.{learned_holds}
use Rattle.front_model.proofs.LinkViews.{view_learns}
use Rattle.front_model.proofs.Quiet.{learned_quiet}
use Rattle.front_model.proofs.Learning.{learned_stands, learned_owns}
use Rattle.front_model.proofs.learning_laws.fronts_learn.Goals as goal

pub returns : goal.returns
returns c = record {
  holds = learned_holds;
  quiet = λ f s t o quiet learns. learned_quiet f s t o learns quiet;
  view = view_learns;
  stands = learned_stands;
  owns = learned_owns;
}
