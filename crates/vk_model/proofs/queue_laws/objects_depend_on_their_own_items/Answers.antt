use Rattle.vk_model.proofs.Groups.{eval_of_group, eval_untouched}
use Rattle.vk_model.proofs.SameKinds.{eval_same_kinds}
use Rattle.vk_model.proofs.queue_laws.objects_depend_on_their_own_items.Goals as goal

pub returns : goal.returns
returns c = record { group = eval_of_group; untouched = eval_untouched; kinds = eval_same_kinds }
