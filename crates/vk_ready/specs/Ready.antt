-- The waiting nodes, and which of them are ready.
use Rattle.std.specs.Prelude.{ℕ, Bool, false, not, List, length, take, slice_get, slice_index, Option, Some, None}
use Rattle.std.specs.List.{filter, list_any, range_with_len}
use Rattle.vk_model.specs.Log.{Command, item_edge}
use Rattle.vk_ready.specs.declared.nodes.WaitingNode.{WaitingNode}

-- the waiting nodes, and how many can be pushed without memory
pub record NodesAndRoom : Type 0 where
  pub nodes : List WaitingNode
  pub room : ℕ

-- the later node waits for the earlier one
abbrev pub edge : WaitingNode → WaitingNode → Bool
edge earlier later = item_edge (Command earlier.queue earlier.command) (Command later.queue later.command)

-- there is a node, and none of the earlier ones has an edge to it
abbrev pub is_free : List WaitingNode → Option WaitingNode → Bool
is_free earlier None = false
is_free earlier (Some later) = not (list_any (λ x. edge x later) earlier)

-- a node is ready where no earlier one of the list has an edge to it
abbrev pub is_ready : List WaitingNode → ℕ → Bool
is_ready list place = is_free (take place list) (slice_get list place)

-- the places of the ready nodes in rising order
abbrev pub ready_places : List WaitingNode → List ℕ
ready_places list = filter (is_ready list) (range_with_len 0 (length list))

-- the place of the ready node of this number
abbrev pub ready_place : List WaitingNode → ℕ → ℕ
ready_place list number = slice_index (ready_places list) number
