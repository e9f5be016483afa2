use Rattle.vk_model.proofs.Order.{neighbours}
use Rattle.vk_model.proofs.swap_laws.neighbours_commute.Goals as goal

pub returns : goal.returns
returns c = neighbours
