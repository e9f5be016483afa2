use Rattle.vk_effects.proofs.RowsDown.{down_plain, down_expanded, down_stays, of_a_row_or_none}
use Rattle.vk_effects.proofs.buffer_laws.rows_come_down_exactly.Goals as goal

pub returns : goal.returns
returns c = record {
  plain = down_plain;
  expanded = down_expanded;
  outside = down_stays;
  of_a_row_or_none = of_a_row_or_none;
}
