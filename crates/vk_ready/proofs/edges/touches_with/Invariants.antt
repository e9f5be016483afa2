use Rattle.std.proofs.Common.{◌≡◌, take, false, eqb}
use Rattle.std.specs.Prelude.{◌&&◌}
use Rattle.std.specs.List.{list_any}
use Rattle.vk_types.specs.Accesses.{in_common}
use Rattle.vk_types.specs.Touches.{touches}
use Rattle.vk_ready.proofs.edges.touches_with.Given as goal

-- no touch so far is of the object with one of the kinds
abbrev pub invariant-loop-i : goal.invariant-loop-i
invariant-loop-i l = list_any (λ t. eqb t.id.0 l.id.0 && in_common t.access l.kinds) (take l.i (touches l.node)) ≡ false
