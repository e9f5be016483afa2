-- When a front stands on what its group sees of the back.
use Rattle.std.specs.Prelude.{◌≡◌, ◌≢◌, ℕ, ◌+◌, ◌<◌, ◌≤◌, ◌⊎◌, ◌==◌, Bool, true, false, if◌then◌else◌, Option, Some, None, IfSome, IsSome, List, [], ◌∷◌, ◌++◌, length, slice_get, All}
use Rattle.std.specs.List.{flat_map, AllByRecursion}
use Rattle.vk_types.specs.declared.batches.QueueSerial.{QueueSerial}
use Rattle.vk_types.specs.declared.handles.Kind.{Kind}
use Rattle.vk_types.specs.declared.handles.Kind.TheVariants as kinds
use Rattle.vk_types.specs.declared.ops.Op.{Op}
use Rattle.vk_types.specs.declared.ops.Op.TheVariants as op
use Rattle.vk_types.specs.declared.ops.Node.{Node}
use Rattle.vk_types.specs.declared.regions.Touch.{Touch}
use Rattle.vk_types.specs.Accesses.{host_read}
use Rattle.vk_types.specs.Touches.{whole}
use Rattle.vk_model.specs.Log.{Item, Command, HostWrite, Wait, Signal, commands, IsSound, NoneEmpty, NoConflict}
use Rattle.vk_model.specs.Fitting.{NodeFits}
use Rattle.resource_use.specs.Uses.{number_of}
use Rattle.submit_queue.specs.Histories.{last_number}
use Rattle.barriers.specs.declared.tracker.Tracker.{Tracker}
use Rattle.barriers.specs.Licence.{Use, Accessed, barrier_due}
use Rattle.barriers.specs.Trackers.{Tracks, new_tracker}
use Rattle.barriers.specs.Logs.{uses_in}
use Rattle.barriers.specs.Recording.{handle, AreLicensed, AreFenced}
use Rattle.back_core.specs.Own.{Own, HostWrote, Enqueued, HostRead, log_of, batches_of, last_use, IsReadable}
use Rattle.back_core.specs.Link.{Link, kinds_of}
use Rattle.back_core.specs.Needs.{IsOfGroup, MayTouch}
use Rattle.front_model.specs.declared.object.Object.{Object}
use Rattle.object_helper.specs.Objects.{is_image}
use Rattle.front_model.specs.Face.{Waiting, Slot, Stored, Face, Outline, outline_at, in_order, whole_log, view, nodes_touch, IsUpdate}

-- the handles that are in no object, since a call is making them or is about to give them away
abbrev pub Hands : Type 0
Hands = ℕ → Option Slot

abbrev pub no_hands : Hands
no_hands = λ id. None

-- What a handle is for: no handle is there twice.
pub data Owner : Type 0 where
  -- it is the store of an object
  Store : Object → Owner
  -- it is the staging buffer of what waits on an object at a place
  Staging : Object → (place : ℕ) → Owner
  InHand : Owner

-- whether a handle is that of an image
abbrev pub is_image_of : Link → ℕ → Bool
is_image_of s id = is_image (kinds_of s id)

-- the uses of an object by an item of the group's list: by the nodes of a batch, and a read by the host
abbrev pub own_uses : ℕ → Own → List Use
own_uses id (HostWrote i at bytes) = []
own_uses id (Enqueued batch) = uses_in (commands 0 batch.nodes) id
own_uses id (HostRead i at bytes) = if i == id then Accessed host_read ∷ [] else []

-- the uses of an object by what the group had the back do
abbrev pub uses_at_back : List Own → ℕ → List Use
uses_at_back mine id = flat_map (own_uses id) mine

-- the uses of an object by all that was recorded
abbrev pub uses_of : Face → Link → ℕ → List Use
uses_of f s id = uses_at_back s.mine id ++ uses_in (commands 0 (in_order f)) id

-- each barrier that the group had the back do was licensed where it stands
abbrev pub BarriersAreLicensed : Link → Type 0
BarriersAreLicensed s = (id : ℕ) → AreLicensed (handle id) (is_image_of s id) (uses_at_back s.mine id)

-- what its tracker knows of a handle is what was recorded
abbrev pub IsTrackedBy : Face → Link → Tracker → ℕ → Type 0
IsTrackedBy f s tracker id = Tracks tracker (handle id) (is_image_of s id) (uses_of f s id)

-- the number of the last batch of an index that uses the handle, where the pending nodes are the next batch
abbrev pub use_of : Face → Link → ℕ → ℕ → ℕ
use_of f s id index = if nodes_touch (f.pending index) id then f.last index + 1 else last_use s.mine index id

-- a handle that is held, with its kind, its last uses and its tracker
pub record SlotStands (f : Face) (s : Link) (id : ℕ) (slot : Slot) : Type 0 where
  pub held : s.held id ≡ true
  pub kind : s.kinds id ≡ Some slot.kind
  pub used : (index : ℕ) → slot.used index ≡ use_of f s id index
  pub tracked : IsTrackedBy f s slot.tracker id

-- a staging buffer, which nothing that was recorded uses
pub record StagingStands (f : Face) (s : Link) (owner : ℕ → Owner) (o : Object) (place id : ℕ) : Type 0 where
  pub held : s.held id ≡ true
  pub owned : owner id ≡ Staging o place
  pub unused : (index : ℕ) → use_of f s id index ≡ 0
  pub untracked : IsTrackedBy f s (new_tracker (handle id) (is_image_of s id)) id

-- what waits is an update of its object, and fits it
pub record WaitingStands (f : Face) (s : Link) (owner : ℕ → Owner) (o : Object) (handle place : ℕ) (w : Waiting) : Type 0 where
  pub staging : IfSome w.staging (StagingStands f s owner o place)
  pub fits : NodeFits s.kinds w.node
  pub none_empty : NoneEmpty w.node
  pub update : IsUpdate w.staging handle w.node.op

pub record StoredStands (f : Face) (s : Link) (owner : ℕ → Owner) (o : Object) (b : Stored) : Type 0 where
  pub slot : SlotStands f s b.handle b.slot
  pub owned : owner b.handle ≡ Store o
  pub waiting : (place : ℕ) (w : Waiting) → slice_get b.waiting place ≡ Some w → WaitingStands f s owner o b.handle place w

pub record HandStands (f : Face) (s : Link) (owner : ℕ → Owner) (id : ℕ) (slot : Slot) : Type 0 where
  pub stands : SlotStands f s id slot
  pub owned : owner id ≡ InHand

-- the handle is the store of the object, or the staging buffer of what waits on it
abbrev pub HasHandle : Stored → ℕ → Type 0
HasHandle b id = (b.handle ≡ id) ⊎ ((place : ℕ) × (w : Waiting) × (slice_get b.waiting place ≡ Some w) × (w.staging ≡ Some id))

-- the handle is in hand, or an object has it
abbrev pub IsKnown : Face → Hands → ℕ → Type 0
IsKnown f hands id = IsSome (hands id) ⊎ ((o : Object) × (b : Stored) × (f.objects o ≡ Some b) × HasHandle b id)

-- A number in the uses of a given handle: there is a batch with it, or it is the next one's and a pending node touches the handle.
abbrev pub IsPastUse : Face → Link → ℕ → ℕ → ℕ → Type 0
IsPastUse f s id index number =
    (number ≤ last_number (batches_of s.mine) index)
    ⊎ (IsOfGroup f.group index × (number ≡ f.last index + 1) × (nodes_touch (f.pending index) id ≡ true))

-- The operation writes nothing but what it reads: no constants, by which a front could bring in what it computed on the host.
-- Clears of images, also those of passes, will be counted once they are recorded.
abbrev pub WritesNoConstants : Op → Type 0
WritesNoConstants (op.CopyBuffer src src_at dst dst_at size) = Unit {0}
WritesNoConstants (op.BufferToImage src src_at stride texel_size dst rect) = Unit {0}
WritesNoConstants (op.ImageToBuffer src rect dst dst_at stride texel_size expand) = Unit {0}
WritesNoConstants (op.CopyImage src src_x src_y dst rect) = Unit {0}
WritesNoConstants (op.BlitImage src dst coords clip) = Unit {0}
WritesNoConstants (op.ClearImage image rect texel) = ⊥
WritesNoConstants (op.FillBuffer dst dst_at size byte) = ⊥
WritesNoConstants (op.PassPart _ _ image _ _ _) = ⊥
WritesNoConstants (op.Barrier b) = Unit {0}

-- what a front may record: a node that writes no constants, and touches no empty range
pub record IsRecordable (n : Node) : Type 0 where
  pub plain : WritesNoConstants n.op
  pub some : NoneEmpty n

-- a front may record each command of the log
abbrev pub AreRecordable : List Item → Type 0
AreRecordable log = (k queue : ℕ) (n : Node) → slice_get log k ≡ Some (Command queue n) → IsRecordable n

-- The item of a log fits objects of these kinds: a node does, and the host writes buffers alone.
abbrev pub ItemFits : (ℕ → Option Kind) → Item → Type 0
ItemFits made (Command queue n) = NodeFits made n
ItemFits made (HostWrite id at bytes) = (len : ℕ) × (made id ≡ Some (kinds.Buffer len))
ItemFits made (Wait queue signal) = Unit {0}
ItemFits made (Signal queue signal) = Unit {0}

-- Everything but that the contents are the right ones.
pub record Holds (f : Face) (hands : Hands) (s : Link) : Type 0 where
  -- the log: its nodes are in order, a front may record them, and nodes of two contexts that are pending do not conflict
  pub sound : IsSound (whole_log f s)
  pub recordable : AreRecordable (whole_log f s)
  -- each barrier was licensed, and orders what came before it
  pub fenced : (id : ℕ) → AreFenced (handle id) (is_image_of s id) (uses_of f s id)
  pub apart : (i j : ℕ) → i ≢ j → NoConflict (f.pending i) (f.pending j)
  pub fits : (index : ℕ) → All (NodeFits s.kinds) (f.pending index)
  -- and so does what the group had the back do
  pub fitted : AllByRecursion (ItemFits s.kinds) (log_of s.mine)
  pub none_empty : (index : ℕ) → All NoneEmpty (f.pending index)
  pub few : (index : ℕ) → length (f.pending index) < 4294967294
  pub of_group : (index : ℕ) → (IsOfGroup f.group index → ⊥) → f.pending index ≡ []
  -- the handles
  pub owner : ℕ → Owner
  pub objects : (o : Object) (b : Stored) → f.objects o ≡ Some b → StoredStands f s owner o b
  pub hands_stand : (id : ℕ) (slot : Slot) → hands id ≡ Some slot → HandStands f s owner id slot
  pub no_others : (id : ℕ) → s.held id ≡ true → IsKnown f hands id
  pub none_lost : (id : ℕ) → IsSome (s.kinds id) → (s.held id ≡ true) ⊎ IsSome (s.given id)
  pub touched : (index id : ℕ) → nodes_touch (f.pending index) id ≡ true → MayTouch s index (f.last index + 1) id
  pub given : (id index : ℕ) (uses : List QueueSerial) → s.given id ≡ Some uses → IsPastUse f s id index (number_of uses index)
  -- the numbers
  pub group : s.group ≡ f.group
  pub few_groups : f.group < 8
  pub last : (index : ℕ) → IsOfGroup f.group index → f.last index ≡ last_number (batches_of s.mine) index
  pub room : (index : ℕ) → IsOfGroup f.group index → f.last index < 18446744073709551615
  pub low : (index id : ℕ) → last_use s.mine index id ≤ last_number (batches_of s.mine) index
  pub foreign : (index id : ℕ) → (IsOfGroup f.group index → ⊥) → last_use s.mine index id ≡ 0

-- what a read by the host touches
abbrev pub host_touch : ℕ → Touch
host_touch id = whole (handle id) host_read None

-- no barrier is due before a read by the host
abbrev pub IsKnownToHost : Face → Link → ℕ → Type 0
IsKnownToHost f s id = barrier_due (handle id) (is_image_of s id) (uses_of f s id) (host_touch id) ≡ None

-- Nothing waits on the object, nothing pending touches it, each batch that does is known to be retired, and what nodes wrote
-- was made known to the host. So the host may read and write it.
pub record IsQuiet (f : Face) (s : Link) (o : Object) : Type 0 where
  pub stored : Stored
  pub is : f.objects o ≡ Some stored
  pub clear : stored.waiting ≡ []
  pub untouched : (index : ℕ) → nodes_touch (f.pending index) stored.handle ≡ false
  pub retired : (index : ℕ) → last_use s.mine index stored.handle ≤ s.done index
  pub known : IsKnownToHost f s stored.handle
  pub readable : (at size : ℕ) → IsReadable (log_of s.mine) stored.handle at size

-- What is left when a call ends early: each handle of the front is held, and is there once, so that it can be let go; and each
-- barrier that the group had the back do was licensed.
pub record StoredOwned (s : Link) (owner : ℕ → Owner) (o : Object) (b : Stored) : Type 0 where
  pub held : s.held b.handle ≡ true
  pub owned : owner b.handle ≡ Store o
  pub waiting : (place id : ℕ) (w : Waiting) → slice_get b.waiting place ≡ Some w → w.staging ≡ Some id → (s.held id ≡ true) × (owner id ≡ Staging o place)

pub record Owns (objects : Object → Option Stored) (s : Link) : Type 0 where
  pub owner : ℕ → Owner
  pub each : (o : Object) (b : Stored) → objects o ≡ Some b → StoredOwned s owner o b
  pub licensed : BarriersAreLicensed s

-- A move ended well: the front holds with nothing in hand, has this view and these outlines, and these objects are quiet.
pub record Moved (f : Face) (s : Link) (shown : Object → ℕ → ℕ) (outlined : Object → Option Outline) (stays : Object → Type 0) : Type 0 where
  pub holds : Holds f no_hands s
  pub view_is : view f s ≡ shown
  pub outlines_are : outline_at f ≡ outlined
  pub still : (o : Object) → stays o → IsQuiet f s o

-- a front of a group with nothing in it
abbrev pub new_face : ℕ → Face
new_face group = record { group = group; last = λ index. 0; pending = λ index. []; objects = λ o. None }
