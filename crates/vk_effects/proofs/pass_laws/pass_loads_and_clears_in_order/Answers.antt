use Rattle.vk_effects.proofs.Passing.{last_clear, loaded_stays, load_clears, load_stays_past, not_loaded, not_kept}
use Rattle.vk_effects.proofs.pass_laws.pass_loads_and_clears_in_order.Goals as goal

pub returns : goal.returns
returns c = record {
  last_clear = last_clear;
  loaded = loaded_stays;
  cleared_by_the_load = load_clears;
  not_loaded = not_loaded;
  not_kept = not_kept;
  past_the_image = load_stays_past;
}
