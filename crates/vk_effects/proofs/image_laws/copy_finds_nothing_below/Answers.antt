use Rattle.vk_effects.proofs.Blitting.{copy_from_below}
use Rattle.vk_effects.proofs.image_laws.copy_finds_nothing_below.Goals as goal

pub returns : goal.returns
returns c = copy_from_below
