use Rattle.vk_ready.proofs.Places.{exact}
use Rattle.vk_ready.proofs.laws.ready_places_are_exact.Goals as goal

pub returns : goal.returns
returns c = exact
