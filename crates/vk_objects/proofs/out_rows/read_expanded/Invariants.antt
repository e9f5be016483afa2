use Rattle.std.proofs.Common.{◌*◌, true}
use Rattle.vk_objects.specs.Images.{kind_of_shape, rect_of}
use Rattle.vk_objects.specs.Rows.{row_byte, HasOutRows}
use Rattle.vk_objects.proofs.out_rows.read_expanded.Given as goal

abbrev pub invariant-loop-k : goal.invariant-loop-k
invariant-loop-k l = HasOutRows l.initial.bytes l.bytes l.at (l.area.width * 16) l.stride l.k (row_byte (kind_of_shape l.shape) l.image (rect_of l.area) 16 true)
