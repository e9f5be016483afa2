use Rattle.vk_model.proofs.Images.{clear_writes, copy_image_writes, buffer_to_image_writes}
use Rattle.vk_model.proofs.node_laws.image_writes_are_exact.Goals as goal

pub returns : goal.returns
returns c = record { clear = clear_writes; copy = copy_image_writes; rows = buffer_to_image_writes }
