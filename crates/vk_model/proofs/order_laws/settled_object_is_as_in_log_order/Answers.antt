use Rattle.vk_model.proofs.Order.{settled}
use Rattle.vk_model.proofs.order_laws.settled_object_is_as_in_log_order.Goals as goal

pub returns : goal.returns
returns c = settled
