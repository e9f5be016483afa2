use Rattle.vk_effects.proofs.Columns.{inside_or_outside}
use Rattle.vk_effects.proofs.image_places.places_are_inside_or_outside.Goals as goal

pub returns : goal.returns
returns c = inside_or_outside
