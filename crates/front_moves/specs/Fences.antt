-- Barriers among nodes.
use Rattle.std.specs.Prelude.{ℕ, Bool, List, false, ◌==◌}
use Rattle.std.specs.List.{list_any}
use Rattle.std.specs.Option.{option_map_or}
use Rattle.vk_types.specs.declared.ops.Node.{Node}
use Rattle.vk_types.specs.Touches.{barrier_of}

-- the node is a barrier of the object
abbrev pub is_barrier_of : ℕ → Node → Bool
is_barrier_of id n = option_map_or (λ barrier. barrier.id.0 == id) (barrier_of n) false

-- there is a barrier of the object among the nodes
abbrev pub has_barrier : List Node → ℕ → Bool
has_barrier nodes id = list_any (is_barrier_of id) nodes
