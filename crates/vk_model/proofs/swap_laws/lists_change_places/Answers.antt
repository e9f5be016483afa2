use Rattle.vk_model.proofs.Blocks.{blocks_sound, blocks_eval}
use Rattle.vk_model.proofs.swap_laws.lists_change_places.Goals as goal

pub returns : goal.returns
returns c = record { sound = blocks_sound; contents = blocks_eval }
