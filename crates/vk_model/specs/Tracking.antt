-- What a tracker of an object knows of a log of one queue: where its last barrier is, and what it guards.
use Rattle.std.specs.Prelude.{◌≡◌, ℕ, ◌<◌, true, List, slice_get, Option, Some, None}
use Rattle.vk_types.specs.declared.regions.Barrier.{Barrier}
use Rattle.vk_types.specs.declared.ops.Node.{Node}
use Rattle.vk_types.specs.Touches.{barrier_of}
use Rattle.vk_model.specs.Log.{Item, Command, touches_object, touches_with, Reaches}

-- The object's last barrier is at this place: all that touch the object before it reach it, and all after it wait for it.
pub record IsLastBarrier (log : List Item) (id place : ℕ) : Type 0 where
  pub queue : ℕ
  pub node : Node
  pub barrier : Barrier
  pub at : slice_get log place ≡ Some (Command queue node)
  pub is : barrier_of node ≡ Some barrier
  pub of : barrier.id.0 ≡ id
  pub before : (k q : ℕ) (n : Node) → k < place → slice_get log k ≡ Some (Command q n) → touches_object n id ≡ true → Reaches log k place
  pub after : (k q : ℕ) (n : Node) → place < k → slice_get log k ≡ Some (Command q n) → touches_object n id ≡ true → (barrier_of n ≡ None) × (touches_with n id barrier.second ≡ true)

-- the object has no barrier, or this is its last one
abbrev pub IsTracked : List Item → ℕ → Option ℕ → Type 0
IsTracked log id None = (k q : ℕ) (n : Node) → slice_get log k ≡ Some (Command q n) → touches_object n id ≡ true → barrier_of n ≡ None
IsTracked log id (Some place) = IsLastBarrier log id place

-- after the last barrier, or anywhere where there is none
abbrev pub IsSince : Option ℕ → ℕ → Type 0
IsSince None k = Unit {0}
IsSince (Some place) k = place < k

-- a node on the object since its last barrier
pub record TouchesSince (log : List Item) (id : ℕ) (last : Option ℕ) : Type 0 where
  pub place : ℕ
  pub queue : ℕ
  pub node : Node
  pub since : IsSince last place
  pub at : slice_get log place ≡ Some (Command queue node)
  pub touches : touches_object node id ≡ true
