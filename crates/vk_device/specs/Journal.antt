-- The journal of a device, and what is known of its objects and batches from it.
use Rattle.std.specs.Prelude.{◌≡◌, ℕ, ◌+◌, ◌<◌, ◌≤◌, ◌==◌, List, [], ◌∷◌, ◌++◌, length, fold, slice_get, All, if◌then◌else◌, Option, Some, None, IsSome, option_and_then}
use Rattle.vk_types.specs.declared.handles.Kind.{Kind}
use Rattle.vk_types.specs.declared.handles.Kind.TheVariants.{Buffer, Image}
use Rattle.vk_types.specs.declared.ops.Node.{Node}
use Rattle.vk_types.specs.declared.batches.Batch.{Batch}
use Rattle.vk_types.specs.Touches.{touches}
use Rattle.vk_device.specs.declared.logged.Logged.{Logged}
use Rattle.vk_device.specs.declared.logged.Logged.TheVariants.{Created, Wrote, Submitted, Ran, Fetched, Destroyed}

-- Objects

-- the live objects by their numbers, each with its kind
abbrev pub Objects : Type 0
Objects = ℕ → Option Kind

-- the live objects after an entry
abbrev pub objects_after : Objects → Logged → Objects
objects_after objects (Created id kind) = λ i. if i == id.0 then Some kind else objects i
objects_after objects (Destroyed id) = λ i. if i == id.0 then None else objects i
objects_after objects (Wrote id at bytes) = objects
objects_after objects (Submitted batch) = objects
objects_after objects (Ran batch node) = objects
objects_after objects (Fetched id at bytes) = objects

-- the kind of a live object after these entries
unfoldable pub kind_of : List Logged → ℕ → Option Kind
kind_of journal = fold objects_after (λ _. None) journal

-- how many creates there were
abbrev pub create_of : Logged → ℕ
create_of (Created id kind) = 1
create_of (Destroyed id) = 0
create_of (Wrote id at bytes) = 0
create_of (Submitted batch) = 0
create_of (Ran batch node) = 0
create_of (Fetched id at bytes) = 0

unfoldable pub creates : List Logged → ℕ
creates journal = fold (λ n entry. n + create_of entry) 0 journal

-- how many of them were of this object
abbrev pub create_of_one : ℕ → Logged → ℕ
create_of_one i (Created id kind) = if i == id.0 then 1 else 0
create_of_one i (Destroyed id) = 0
create_of_one i (Wrote id at bytes) = 0
create_of_one i (Submitted batch) = 0
create_of_one i (Ran batch node) = 0
create_of_one i (Fetched id at bytes) = 0

unfoldable pub creates_of : ℕ → List Logged → ℕ
creates_of i journal = fold (λ n entry. n + create_of_one i entry) 0 journal

-- Batches

-- the batches that an entry accepts
abbrev pub accepts : Logged → List Batch
accepts (Created id kind) = []
accepts (Destroyed id) = []
accepts (Wrote id at bytes) = []
accepts (Submitted batch) = batch ∷ []
accepts (Ran batch node) = []
accepts (Fetched id at bytes) = []

-- the accepted batches in order
unfoldable pub accepted : List Logged → List Batch
accepted journal = fold (λ batches entry. batches ++ accepts entry) [] journal

-- a node by the places of its batch and of itself
abbrev pub node_at : List Batch → ℕ → ℕ → Option Node
node_at batches batch node = option_and_then (λ (b : Batch). slice_get b.nodes node) (slice_get batches batch)

-- What is clean

-- a live buffer that reaches to this place at least
abbrev pub ReachesTo : Option Kind → ℕ → Type 0
ReachesTo (Some (Buffer size)) end = end ≤ size
ReachesTo (Some (Image format width height)) end = ⊥
ReachesTo None end = ⊥

-- each object that the node touches is live
abbrev pub TouchesLive : Objects → Node → Type 0
TouchesLive objects node = All (λ t. IsSome (objects t.id.0)) (touches node)

-- there is such a node, and what it touches is live
abbrev pub IsLiveNode : Objects → Option Node → Type 0
IsLiveNode objects None = ⊥
IsLiveNode objects (Some node) = TouchesLive objects node

-- an entry that may come after these: an object is created once, and it is touched and destroyed while it is live
abbrev pub MayFollow : List Logged → Logged → Type 0
MayFollow before (Created id kind) = creates_of id.0 before ≡ 0
MayFollow before (Destroyed id) = IsSome (kind_of before id.0)
MayFollow before (Wrote id at bytes) = ReachesTo (kind_of before id.0) (at + length bytes)
MayFollow before (Submitted batch) = All (TouchesLive (kind_of before)) batch.nodes
MayFollow before (Ran batch node) = IsLiveNode (kind_of before) (node_at (accepted before) batch node)
MayFollow before (Fetched id at bytes) = ReachesTo (kind_of before id.0) (at + length bytes)

-- each of these entries may follow those before it
abbrev pub MayFollowAll : List Logged → List Logged → Type 0
MayFollowAll before [] = Unit {0}
MayFollowAll before (entry ∷ entries) = MayFollow before entry × MayFollowAll (before ++ entry ∷ []) entries

-- each object is created once and destroyed once at most, and touched only in between
abbrev pub IsClean : List Logged → Type 0
IsClean journal = MayFollowAll [] journal
