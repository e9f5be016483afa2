-- Two queues that wait for one another, and the lists of groups that share no object.
use Rattle.std.specs.Prelude.{◌≡◌, ℕ, ◌<◌, ◌==◌, true, List, slice_get, Option, Some, None, if◌then◌else◌}
use Rattle.std.specs.List.{list_any, filter_map}
use Rattle.vk_types.specs.declared.ops.Node.{Node}
use Rattle.vk_types.specs.Touches.{touches}
use Rattle.vk_model.specs.Log.{Item, Command, HostWrite, Wait, Signal, touches_object}

-- between two places stand a signal of the queue p and the wait for it of the queue q
pub record HandsOver (log : List Item) (p q j k : ℕ) : Type 0 where
  pub signal_at : ℕ
  pub wait_at : ℕ
  pub number : ℕ
  pub after : j < signal_at
  pub between : signal_at < wait_at
  pub before : wait_at < k
  pub signals : slice_get log signal_at ≡ Some (Signal p number)
  pub waits : slice_get log wait_at ≡ Some (Wait q number)

-- the queues hand over each object that nodes of both touch
abbrev pub IsHandedOver : List Item → Type 0
IsHandedOver log = (j k p q id : ℕ) (a b : Node) → j < k → slice_get log j ≡ Some (Command p a) → slice_get log k ≡ Some (Command q b) → (p ≡ q → ⊥) → touches_object a id ≡ true → touches_object b id ≡ true → HandsOver log p q j k

-- an item as the list of a group has it, where it touches an object of the group: of one queue
abbrev pub in_group : (ℕ → ℕ) → ℕ → Item → Option Item
in_group group_of g (Command queue n) = if list_any (λ t. group_of t.id.0 == g) (touches n) then Some (Command 0 n) else None
in_group group_of g (HostWrite id at bytes) = if group_of id == g then Some (HostWrite id at bytes) else None
in_group group_of g (Wait _ _) = None
in_group group_of g (Signal _ _) = None

-- the items of a group, in the log's order
abbrev pub group_list : (ℕ → ℕ) → ℕ → List Item → List Item
group_list group_of g log = filter_map (in_group group_of g) log

-- all that a node touches is of one group
abbrev pub IsInOneGroup : (ℕ → ℕ) → Node → Type 0
IsInOneGroup group_of n = (i j : ℕ) → touches_object n i ≡ true → touches_object n j ≡ true → group_of i ≡ group_of j

abbrev pub HasGroups : (ℕ → ℕ) → List Item → Type 0
HasGroups group_of log = (k q : ℕ) (n : Node) → slice_get log k ≡ Some (Command q n) → IsInOneGroup group_of n
