use Rattle.std.proofs.Common.{refl}
use Rattle.vk_effects.proofs.PastEnds.{nothing_after_a_node, nothing_after_a_write}
use Rattle.vk_effects.proofs.ends.nothing_lies_past_the_ends.Goals as goal

pub returns : goal.returns
returns c = record { at_first = λ kinds id i past. refl; nodes = nothing_after_a_node; host_writes = nothing_after_a_write }
