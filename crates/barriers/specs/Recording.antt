-- What holds of the uses of an object by what was recorded, and what is recorded before a node.
use Rattle.std.specs.Prelude.{◌≡◌, ◌≢◌, ℕ, ◌<◌, ◌==◌, Bool, true, List, [], ◌∷◌, ◌++◌, map, is_some, slice_get, Option, Some, None, IfSome, All}
use Rattle.std.specs.Prelude.{Contains, not, ◌⊎◌}
use Rattle.std.specs.List.{filter, flat_map}
use Rattle.vk_types.specs.Accesses.{no_access, in_common, host_read}
use Rattle.vk_types.specs.declared.accesses.Layout.TheVariants.{Undefined}
use Rattle.vk_types.specs.declared.handles.HandleId.{HandleId}
use Rattle.vk_types.specs.declared.regions.Touch.{Touch}
use Rattle.vk_types.specs.declared.regions.Barrier.{Barrier}
use Rattle.vk_types.specs.declared.ops.Op.{Op}
use Rattle.vk_types.specs.declared.ops.Node.{Node}
use Rattle.vk_types.specs.Touches.{touches, barrier_of}
use Rattle.vk_model.specs.Log.{Item, Command, NoneEmpty}
use Rattle.barriers.specs.Licence.{Use, Accessed, Fenced, last_barrier, since, barrier_due}
use Rattle.barriers.specs.Trackers.{IsTouchOf}
use Rattle.barriers.specs.Logs.{jointly, AreUsesIn}

-- the object of a number
abbrev pub handle : ℕ → HandleId
handle id = record { 0 = id }

-- The uses of an object

-- each barrier among the uses was licensed where it stands: it is the one that is due there before some touch of the object
abbrev pub AreLicensed : HandleId → Bool → List Use → Type 0
AreLicensed id is_image uses = (front back : List Use) (barrier : Barrier) → uses ≡ front ++ Fenced barrier ∷ back →
    (touch : Touch) × IsTouchOf id is_image touch × (barrier_due id is_image front touch ≡ Some barrier)

-- Each barrier was licensed. The last one lets some kind of access through, and some kind of each access after it.
pub record AreFenced (id : HandleId) (is_image : Bool) (uses : List Use) : Type 0 where
  pub licensed : AreLicensed id is_image uses
  pub some : IfSome (last_barrier uses) (λ barrier. barrier.second ≢ no_access)
  pub let_through : IfSome (last_barrier uses) (λ barrier. All (λ access. in_common access barrier.second ≡ true) (since uses))

-- no barrier is among them
abbrev pub NoFence : List Use → Type 0
NoFence [] = Unit {0}
NoFence (Accessed access ∷ uses) = NoFence uses
NoFence (Fenced barrier ∷ uses) = ⊥

-- Two parts of the uses that may stand in either order: there is only one, or neither has a barrier.
abbrev pub MayChangePlaces : List Use → List Use → Type 0
MayChangePlaces xs ys = (xs ≡ []) ⊎ ((ys ≡ []) ⊎ (NoFence xs × NoFence ys))

-- Before a node

-- the first touch of each object
abbrev pub firsts : List Touch → List Touch
firsts [] = []
firsts (t ∷ ts) = t ∷ filter (λ u. not (u.id.0 == t.id.0)) (firsts ts)

-- a touch of each object that the node touches, with its joint access of it
abbrev pub joint_touches : Node → List Touch
joint_touches n = map (jointly n) (firsts (touches n))

abbrev pub barrier_node : Barrier → Node
barrier_node barrier = record { op = Op.Barrier barrier }

abbrev pub node_for : Option Barrier → List Node
node_for None = []
node_for (Some barrier) = barrier_node barrier ∷ []

-- the barriers that are due before some touches
abbrev pub due_before : (ℕ → Bool) → (ℕ → List Use) → List Touch → List Node
due_before is_image uses ts = flat_map (λ t. node_for (barrier_due t.id (is_image t.id.0) (uses t.id.0) t)) ts

-- a node behind the barriers that are due before it
abbrev pub with_due : (ℕ → Bool) → (ℕ → List Use) → Node → List Node
with_due is_image uses n = due_before is_image uses (joint_touches n) ++ n ∷ []

-- The node touches images with layouts, none of which is Undefined, and buffers without; and each image with one layout.
pub record HasLayouts (is_image : ℕ → Bool) (n : Node) : Type 0 where
  pub images : (t : Touch) → Contains (touches n) t → is_some t.layout ≡ is_image t.id.0
  pub defined : (t : Touch) → Contains (touches n) t → t.layout ≢ Some Undefined
  pub one : (t u : Touch) → Contains (touches n) t → Contains (touches n) u → t.id.0 ≡ u.id.0 → t.layout ≡ u.layout

-- no range that a node of the log touches is empty
abbrev pub AreNoneEmpty : List Item → Type 0
AreNoneEmpty log = (k queue : ℕ) (n : Node) → slice_get log k ≡ Some (Command queue n) → NoneEmpty n

-- these are the uses of all objects in a log, and each barrier among them was licensed
pub record AreUsed (is_image : ℕ → Bool) (log : List Item) (uses : ℕ → List Use) : Type 0 where
  pub in_log : (id : ℕ) → AreUsesIn log id (uses id)
  pub licensed : (id : ℕ) → AreLicensed (handle id) (is_image id) (uses id)

-- behind a place of the log stands a barrier of the object to reads by the host
pub record IsMadeKnown (log : List Item) (id place : ℕ) : Type 0 where
  pub later : ℕ
  pub queue : ℕ
  pub node : Node
  pub barrier : Barrier
  pub behind : place < later
  pub at : slice_get log later ≡ Some (Command queue node)
  pub is : barrier_of node ≡ Some barrier
  pub of_object : barrier.id.0 ≡ id
  pub to_host : in_common barrier.second host_read ≡ true
