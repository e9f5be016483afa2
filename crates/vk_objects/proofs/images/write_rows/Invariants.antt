use Rattle.vk_objects.specs.Images.{kind_of_shape, rect_of, AreWritten}
use Rattle.vk_objects.proofs.RowSteps.{first_rows}
use Rattle.vk_objects.proofs.images.write_rows.Given as goal

abbrev pub invariant-loop-k : goal.invariant-loop-k
invariant-loop-k l = AreWritten l.initial.bytes l.bytes (kind_of_shape l.shape) (first_rows (rect_of l.area) l.k) l.from l.at l.stride
