use Rattle.vk_effects.proofs.Scaling.{one_size, one_size_turned}
use Rattle.vk_effects.proofs.blit_columns.blit_of_one_size_moves_columns.Goals as goal

pub returns : goal.returns
returns c = record { upright = one_size; turned = one_size_turned }
