use Rattle.vk_model.proofs.Growth.{sound_front}
use Rattle.vk_model.proofs.growth_laws.sound_log_begins_soundly.Goals as goal

pub returns : goal.returns
returns c = sound_front
