use Rattle.vk_effects.proofs.Blitting.{blit_nearest, blit_of_none}
use Rattle.vk_effects.proofs.image_laws.blit_reads_the_nearest_texel.Goals as goal

pub returns : goal.returns
returns c = record { nearest = blit_nearest; none = blit_of_none }
