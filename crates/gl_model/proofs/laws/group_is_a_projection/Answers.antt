use Rattle.gl_model.specs.GroupModel.{opening}
use Rattle.gl_model.proofs.GroupLaws.{effect-group, after_entry-group, state_after-group}
use Rattle.gl_model.proofs.laws.group_is_a_projection.Goals as goal

pub returns : goal.returns
returns c = record {
  effect = effect-group;
  entry = after_entry-group;
  history = λ threads history. state_after-group (opening threads) 0 history;
}
