use Rattle.vk_model.specs.Log.{Command, HostWrite}
use Rattle.vk_model.proofs.Order.{neighbours}
use Rattle.vk_model.proofs.Swap.{sound_write_passed, write_apart}
use Rattle.vk_model.proofs.swap_laws.writes_come_first.Goals as goal

pub returns : goal.returns
returns c = record {
  sound = sound_write_passed;
  contents = λ kinds front back q n id at bytes untouched. neighbours kinds front back (Command q n) (HostWrite id at bytes) (write_apart q n id at bytes untouched);
}
