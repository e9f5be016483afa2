use Rattle.vk_model.proofs.Lists.{permitted_iff}
use Rattle.vk_model.proofs.order_laws.permitted_orders.Goals as goal

pub returns : goal.returns
returns c = permitted_iff
