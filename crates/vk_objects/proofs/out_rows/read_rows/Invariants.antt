use Rattle.std.proofs.Common.{◌*◌, false}
use Rattle.vk_model.specs.Cells.{texel_size}
use Rattle.vk_objects.specs.Images.{kind_of_shape, rect_of}
use Rattle.vk_objects.specs.Rows.{row_byte, HasOutRows}
use Rattle.vk_objects.proofs.out_rows.read_rows.Given as goal

abbrev pub invariant-loop-k : goal.invariant-loop-k
invariant-loop-k l = HasOutRows l.initial.bytes l.bytes l.at (l.area.width * texel_size (kind_of_shape l.shape)) l.stride l.k (row_byte (kind_of_shape l.shape) l.image (rect_of l.area) (texel_size (kind_of_shape l.shape)) false)
