use Rattle.vk_effects.proofs.Unwritten.{others_stay, far_places_stay, unwritten_stays}
use Rattle.vk_effects.proofs.targets.only_the_target_changes.Goals as goal

pub returns : goal.returns
returns c = record { others = others_stay; past_the_end = far_places_stay; unwritten = unwritten_stays }
