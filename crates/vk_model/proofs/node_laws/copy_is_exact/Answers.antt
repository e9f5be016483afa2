use Rattle.vk_model.proofs.Copies.{copy_inside, copy_outside}
use Rattle.vk_model.proofs.node_laws.copy_is_exact.Goals as goal

pub returns : goal.returns
returns c = record { inside = copy_inside; outside = copy_outside }
