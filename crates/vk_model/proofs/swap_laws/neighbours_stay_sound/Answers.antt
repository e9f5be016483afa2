use Rattle.vk_model.proofs.Swap.{sound_swapped}
use Rattle.vk_model.proofs.swap_laws.neighbours_stay_sound.Goals as goal

pub returns : goal.returns
returns c = sound_swapped
