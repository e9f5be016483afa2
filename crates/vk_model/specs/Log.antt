-- Logs of the device's commands: conflicts, dependencies, permitted orders and sound logs.
use Rattle.std.specs.Prelude.{◌≡◌, ℕ, ◌<◌, ◌==◌, nat_lt, min, max, ◌&&◌, ◌||◌, Bool, true, false, List, [], ◌∷◌, ◌++◌, map, length, take, slice_get, Option, Some, None, is_some, IfSome, Contains, All, if◌then◌else◌, ◌⊎◌}
use Rattle.std.specs.List.{list_any, AllByRecursion}
use Rattle.vk_types.specs.declared.accesses.Access.{Access}
use Rattle.vk_types.specs.declared.accesses.Layout.{Layout}
use Rattle.vk_types.specs.declared.accesses.Layout.TheVariants.{Undefined}
use Rattle.vk_types.specs.declared.regions.Touch.{Touch}
use Rattle.vk_types.specs.declared.regions.Barrier.{Barrier}
use Rattle.vk_types.specs.declared.ops.Node.{Node}
use Rattle.vk_types.specs.Accesses.{in_common, transfer_write, color_write}
use Rattle.vk_types.specs.Touches.{touches, barrier_of, the_end}

-- Items

-- What a log lists, each with its queue but for a write by the host, which is done at once.
-- Queues wait for one another's signals by their numbers.
pub data Item : Type 0 where
  Command : (queue : ℕ) → Node → Item
  HostWrite : (id at : ℕ) (bytes : List ℕ) → Item
  Wait : (queue signal : ℕ) → Item
  Signal : (queue signal : ℕ) → Item

-- Ranges and conflicts

-- a range of an object, and whether it is written
pub record Range : Type 0 where
  pub id : ℕ
  pub start : ℕ
  pub end : ℕ
  pub written : Bool

-- a barrier writes what it touches, since it may discard the contents
abbrev pub node_range : Node → Touch → Range
node_range n t = record { id = t.id.0; start = t.start; end = t.end; written = in_common t.access transfer_write || in_common t.access color_write || is_some (barrier_of n) }

abbrev pub node_ranges : Node → List Range
node_ranges n = map (node_range n) (touches n)

-- the host's writes to an object are in order with all that touches it
abbrev pub ranges : Item → List Range
ranges (Command queue n) = node_ranges n
ranges (HostWrite id at bytes) = record { id = id; start = 0; end = the_end; written = true } ∷ []
ranges (Wait queue signal) = []
ranges (Signal queue signal) = []

-- a place in common, which one of the two writes
abbrev pub clash : Range → Range → Bool
clash r s = (r.id == s.id) && nat_lt (max r.start s.start) (min r.end s.end) && (r.written || s.written)

abbrev pub some_clash : List Range → List Range → Bool
some_clash rs ss = list_any (λ r. list_any (clash r) ss) rs

abbrev pub conflict : Node → Node → Bool
conflict a b = some_clash (node_ranges a) (node_ranges b)

-- overlapping ranges of one object, of which one node writes one
abbrev pub Conflicts : Node → Node → Type 0
Conflicts a b = conflict a b ≡ true

-- so with a range of this object
abbrev pub conflict_on : ℕ → Node → Node → Bool
conflict_on id a b = list_any (λ r. (r.id == id) && list_any (clash r) (node_ranges b)) (node_ranges a)

abbrev pub items_clash : Item → Item → Bool
items_clash x y = some_clash (ranges x) (ranges y)

-- Dependencies

-- the node touches the object with one of these kinds
abbrev pub touches_with : Node → ℕ → Access → Bool
touches_with n id kinds = list_any (λ t. (t.id.0 == id) && in_common t.access kinds) (touches n)

abbrev pub touches_object : Node → ℕ → Bool
touches_object n id = list_any (λ t. t.id.0 == id) (touches n)

-- the barrier waits for the node before it
abbrev pub waits_for : Node → Option Barrier → Bool
waits_for a None = false
waits_for a (Some y) = touches_with a y.id.0 y.first

-- the node after it waits for the barrier
abbrev pub holds_back : Option Barrier → Node → Bool
holds_back None b = false
holds_back (Some x) b = touches_with b x.id.0 x.second

-- two barriers of one object, of which the later one waits for the earlier
abbrev pub chained : Option Barrier → Option Barrier → Bool
chained None y = false
chained (Some x) None = false
chained (Some x) (Some y) = (x.id.0 == y.id.0) && in_common x.second y.first

-- the order that barriers give to two nodes of one queue
abbrev pub node_edge : Node → Node → Bool
node_edge a b = waits_for a (barrier_of b) || holds_back (barrier_of a) b || chained (barrier_of a) (barrier_of b)

-- the later item waits for the earlier one
abbrev pub item_edge : Item → Item → Bool
item_edge (Command p a) (Command q b) = (p == q) && node_edge a b
item_edge (Command p a) (HostWrite id at bytes) = touches_object a id
item_edge (Command p a) (Wait q n) = false
item_edge (Command p a) (Signal q n) = p == q
item_edge (HostWrite id at bytes) (Command q b) = touches_object b id
item_edge (HostWrite id at bytes) (HostWrite id' at' bytes') = id == id'
item_edge (HostWrite id at bytes) (Wait q n) = false
item_edge (HostWrite id at bytes) (Signal q n) = false
item_edge (Wait p m) (Command q b) = p == q
item_edge (Wait p m) (HostWrite id at bytes) = false
item_edge (Wait p m) (Wait q n) = p == q
item_edge (Wait p m) (Signal q n) = p == q
item_edge (Signal p m) (Command q b) = false
item_edge (Signal p m) (HostWrite id at bytes) = false
item_edge (Signal p m) (Wait q n) = m == n
item_edge (Signal p m) (Signal q n) = p == q

-- the item at k waits for the item at j
pub record HasEdge (log : List Item) (j k : ℕ) : Type 0 where
  pub earlier : j < k
  pub a : Item
  pub b : Item
  pub a_at : slice_get log j ≡ Some a
  pub b_at : slice_get log k ≡ Some b
  pub waits : item_edge a b ≡ true

-- a chain of edges
pub data Reaches (log : List Item) : ℕ → ℕ → Type 0 where
  direct : {j k : ℕ} → HasEdge log j k → Reaches log j k
  further : {j m k : ℕ} → HasEdge log j m → Reaches log m k → Reaches log j k

-- Orders

-- the item at k may run after those at the places of done
pub record IsReady (log : List Item) (done : List ℕ) (k : ℕ) : Type 0 where
  pub inside : k < length log
  pub new : Contains done k → ⊥
  pub preceded : (j : ℕ) → Reaches log j k → Contains done j

-- each item of the order may run when it comes, after those of done
abbrev pub MayFollow : List Item → List ℕ → List ℕ → Type 0
MayFollow log done [] = Unit {0}
MayFollow log done (k ∷ order) = IsReady log done k × MayFollow log (done ++ k ∷ []) order

-- The order has items of the log, each at most once and after all that reach it. It may be a part of them.
abbrev pub IsPermitted : List Item → List ℕ → Type 0
IsPermitted log order = MayFollow log [] order

-- no range that the node touches is empty
abbrev pub NoneEmpty : Node → Type 0
NoneEmpty n = All (λ t. t.start < t.end) (touches n)

-- Layouts

abbrev pub layout_set : Option (Layout × Layout) → Layout → Layout
layout_set None layout = layout
layout_set (Some both) layout = both.1

abbrev pub layout_by : Option Barrier → ℕ → Layout → Layout
layout_by None id layout = layout
layout_by (Some b) id layout = if b.id.0 == id then layout_set b.layouts layout else layout

abbrev pub layout_step : Item → ℕ → Layout → Layout
layout_step (Command queue n) id layout = layout_by (barrier_of n) id layout
layout_step (HostWrite _ _ _) id layout = layout
layout_step (Wait _ _) id layout = layout
layout_step (Signal _ _) id layout = layout

abbrev pub layout_from : Layout → List Item → ℕ → Layout
layout_from layout [] id = layout
layout_from layout (x ∷ log) id = layout_from (layout_step x id layout) log id

-- the layout of an image after a log; a new image is in layout Undefined
abbrev pub layout_after : List Item → ℕ → Layout
layout_after log id = layout_from Undefined log id

-- the layouts that a node names are those that it finds
pub record FindsLayouts (log : List Item) (n : Node) : Type 0 where
  pub touched : All (λ t. IfSome t.layout (λ layout. layout ≡ layout_after log t.id.0)) (touches n)
  pub old : IfSome (barrier_of n) (λ b. IfSome b.layouts (λ both. both.0 ≡ layout_after log b.id.0))

-- Of two conflicting nodes the earlier reaches the later, and each node finds the layouts that it names.
pub record IsSound (log : List Item) : Type 0 where
  pub ordered : (j k p q : ℕ) (a b : Node) → j < k → slice_get log j ≡ Some (Command p a) → slice_get log k ≡ Some (Command q b) → Conflicts a b → Reaches log j k
  pub laid_out : (k q : ℕ) (n : Node) → slice_get log k ≡ Some (Command q n) → FindsLayouts (take k log) n

-- the item at j, or one that it reaches, is waited for by an item that comes next
pub record ReachesNext (log : List Item) (j : ℕ) (x : Item) : Type 0 where
  pub last : ℕ
  pub item : Item
  pub at : slice_get log last ≡ Some item
  pub waits : item_edge item x ≡ true
  pub chain : (j ≡ last) ⊎ Reaches log j last

-- Lists of nodes

abbrev pub commands : ℕ → List Node → List Item
commands queue nodes = map (Command queue) nodes

abbrev pub NoConflict : List Node → List Node → Type 0
NoConflict xs ys = AllByRecursion (λ a. AllByRecursion (λ b. conflict a b ≡ false) ys) xs

-- all commands are of one queue
abbrev pub IsOneQueue : List Item → Type 0
IsOneQueue log = (k q : ℕ) (n : Node) → slice_get log k ≡ Some (Command q n) → q ≡ 0
