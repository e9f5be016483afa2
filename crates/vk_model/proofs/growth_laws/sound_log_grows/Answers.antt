use Rattle.vk_model.proofs.Growth.{sound_next}
use Rattle.vk_model.proofs.growth_laws.sound_log_grows.Goals as goal

pub returns : goal.returns
returns c = sound_next
