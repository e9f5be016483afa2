use Rattle.vk_effects.proofs.Words.{four_words, words_of_expanded, no_green, no_blue, no_alpha}
use Rattle.vk_effects.proofs.texel_laws.expanded_texel_is_four_words.Goals as goal

pub returns : goal.returns
returns c = record { words = four_words; bytes = words_of_expanded; green = no_green; blue = no_blue; alpha = no_alpha }
