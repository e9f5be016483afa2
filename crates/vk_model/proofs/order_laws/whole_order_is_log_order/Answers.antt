use Rattle.vk_model.proofs.Order.{whole}
use Rattle.vk_model.proofs.order_laws.whole_order_is_log_order.Goals as goal

pub returns : goal.returns
returns c = whole
