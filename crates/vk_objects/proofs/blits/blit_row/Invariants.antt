use Rattle.vk_objects.specs.Images.{kind_of_shape}
use Rattle.vk_objects.specs.Blits.{HasTexels}
use Rattle.vk_objects.proofs.blits.blit_row.Given as goal

abbrev pub invariant-loop-x : goal.invariant-loop-x
invariant-loop-x l = HasTexels l.initial.bytes l.bytes (kind_of_shape l.source) (kind_of_shape l.shape) l.from l.coords l.area.left l.row l.x
