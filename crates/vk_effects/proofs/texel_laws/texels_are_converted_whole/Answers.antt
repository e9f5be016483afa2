use Rattle.vk_effects.proofs.Words.{converted_defined, converted_undefined}
use Rattle.vk_effects.proofs.texel_laws.texels_are_converted_whole.Goals as goal

pub returns : goal.returns
returns c = record { defined = converted_defined; undefined = converted_undefined }
