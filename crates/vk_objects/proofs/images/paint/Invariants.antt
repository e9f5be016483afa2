use Rattle.vk_objects.specs.Images.{IsPainted}
use Rattle.vk_objects.proofs.images.paint.Given as goal

abbrev pub invariant-loop-x : goal.invariant-loop-x
invariant-loop-x l = IsPainted l.initial.bytes l.bytes l.at l.x l.texel
