use Rattle.std.proofs.Common.{◌+◌, ◌*◌, ◌/◌, ◌%◌, true}
use Rattle.cells.specs.Contents.{cell_at}
use Rattle.vk_model.specs.Cells.{texel_to_buffer}
use Rattle.vk_objects.specs.Images.{kind_of_shape}
use Rattle.vk_objects.specs.Rows.{HasRow}
use Rattle.vk_objects.proofs.texels.expand_row.Given as goal

abbrev pub invariant-loop-x : goal.invariant-loop-x
invariant-loop-x l = HasRow l.initial.bytes l.bytes l.at (l.x * 16) (λ j. texel_to_buffer (kind_of_shape l.shape) (cell_at l.image) true (l.left + j / 16) l.row (j % 16))
