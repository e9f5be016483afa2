use Rattle.vk_effects.proofs.RowsDown.{in_the_range, comes_up}
use Rattle.vk_effects.proofs.buffer_laws.rows_come_up_exactly.Goals as goal

pub returns : goal.returns
returns c = record { in_the_range = in_the_range; up = comes_up }
