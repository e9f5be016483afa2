use Rattle.std.proofs.Common.{take}
use Rattle.vk_objects.specs.Images.{kind_of_shape, AreClearedBy}
use Rattle.vk_objects.proofs.passes.clear_all.Given as goal

abbrev pub invariant-loop-one : goal.invariant-loop-one
invariant-loop-one l = AreClearedBy l.initial.bytes l.bytes (kind_of_shape l.shape) (take l.one-index l.clears)
