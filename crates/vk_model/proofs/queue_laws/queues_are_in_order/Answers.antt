use Rattle.vk_model.proofs.Handover.{sound_from_groups}
use Rattle.vk_model.proofs.Batches.{handed_over}
use Rattle.vk_model.proofs.Lists.{one_queue_handed_over}
use Rattle.vk_model.proofs.queue_laws.queues_are_in_order.Goals as goal

pub returns : goal.returns
returns c = record { one_queue = one_queue_handed_over; batches = handed_over; sound = sound_from_groups }
