use Rattle.vk_model.proofs.Clashes.{conflict_mutual}
use Rattle.vk_model.proofs.order_laws.conflict_is_mutual.Goals as goal

pub returns : goal.returns
returns c = conflict_mutual
