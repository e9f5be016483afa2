use Rattle.vk_objects.specs.Images.{kind_of_shape, rect_of}
use Rattle.vk_objects.specs.Blits.{IsBlitted}
use Rattle.vk_objects.proofs.RowSteps.{first_rows}
use Rattle.vk_objects.proofs.blits.blit.Given as goal

abbrev pub invariant-loop-k : goal.invariant-loop-k
invariant-loop-k l = IsBlitted l.initial.bytes l.bytes (kind_of_shape l.source) (kind_of_shape l.shape) l.from l.coords (first_rows (rect_of l.area) l.k)
