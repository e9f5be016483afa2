use Rattle.vk_model.proofs.Order.{ready_finds}
use Rattle.vk_model.proofs.order_laws.ready_item_finds_log_order.Goals as goal

pub returns : goal.returns
returns c = ready_finds
