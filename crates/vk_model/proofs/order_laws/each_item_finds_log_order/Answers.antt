use Rattle.vk_model.proofs.Order.{each_finds}
use Rattle.vk_model.proofs.order_laws.each_item_finds_log_order.Goals as goal

pub returns : goal.returns
returns c = each_finds
