-- The front without its history, as a record of plain values.
use Rattle.std.specs.Prelude.{◌≡◌, ◌≢◌, ℕ, ◌-◌, ◌≤◌, ◌*◌, ◌⊎◌, Bool, true, false, if◌then◌else◌, Option, Some, None, List, [], ◌∷◌, ◌++◌, slice_index_or}
use Rattle.std.specs.Option.{option_map}
use Rattle.cells.specs.Contents.{UNDEFINED, cell_at, in_range}
use Rattle.vk_types.specs.declared.handles.Kind.{Kind}
use Rattle.vk_types.specs.declared.handles.Kind.TheVariants as kind
use Rattle.vk_types.specs.declared.ops.Node.{Node}
use Rattle.vk_types.specs.declared.regions.Touch.{Touch}
use Rattle.vk_types.specs.Accesses.{transfer_read}
use Rattle.vk_types.specs.Touches.{whole}
use Rattle.tables.specs.Table.{Entries}
use Rattle.queue_serials.specs.Indexes.{IndexTable, last_of}
use Rattle.object_helper.specs.Objects.{ObjectStore}
use Rattle.vk_model.specs.Log.{commands}
use Rattle.barriers.specs.Trackers.{due_by}
use Rattle.barriers.specs.Recording.{handle}
use Rattle.back_core.specs.Own.{log_of, last_use}
use Rattle.back_core.specs.Link.{Link, put}
use Rattle.front_model.specs.declared.object.Object.{Object}
use Rattle.front_model.specs.declared.object.Object.TheVariants.{Buffer}
use Rattle.front_model.specs.Face.{Stored, Outline, Face, outline_at, nodes_touch, recorded, view}
use Rattle.front_model.specs.Stands.{Hands, no_hands, Holds, Moved, IsQuiet, host_touch}
use Rattle.front_model.specs.Steps.{fresh_slot}
use Rattle.front_model.specs.Wanted.{buffer_kind}
use Rattle.front_moves.specs.Objects.{objects_of}
use Rattle.front_moves.specs.Fences.{has_barrier}

-- the eight indexes of the group with their last numbers, what is pending in each, and the objects that have a store
pub record CoreParts : Type 0 where
  pub indexes : IndexTable
  pub pending : List (List Node)
  pub stores : Entries ObjectStore

-- the last number of an index of the group
abbrev pub last_in : IndexTable → ℕ → ℕ
last_in indexes i = if in_range (8 * indexes.group) 8 i then last_of indexes i else 0

-- what is pending in an index of the group
abbrev pub pending_in : ℕ → List (List Node) → ℕ → List Node
pending_in group lists i = if in_range (8 * group) 8 i then slice_index_or lists (i - 8 * group) [] else []

-- the front that these make
abbrev pub face : CoreParts → Face
face c = record {
  group = c.indexes.group;
  last = last_in c.indexes;
  pending = pending_in c.indexes.group c.pending;
  objects = objects_of c.stores;
}

-- what a copy touches of an object that it reads
abbrev pub read_touch : ℕ → Touch
read_touch id = whole (handle id) transfer_read None

-- nothing is pending in an index any more, and what is pending in others and the objects are as before
pub record IsFlushed (old new : Face) (index : ℕ) : Type 0 where
  pub pending : new.pending ≡ put old.pending index []
  pub objects : new.objects ≡ old.objects
  pub group : new.group ≡ old.group

-- A context was flushed: what is shown and quiet is as before, and what was pending in it is at the end of the log.
pub record HasFlushed (old new : Face) (before now : Link) (index : ℕ) : Type 0 where
  pub moved : Moved new now (view old before) (outline_at old) (IsQuiet old before)
  pub flushed : IsFlushed old new index
  pub log : log_of now.mine ≡ log_of before.mine ++ commands 0 (old.pending index)

-- some contexts were flushed, and nothing else has changed
pub record OnlyFlushed (old new : Face) : Type 0 where
  pub pending : (i : ℕ) → (new.pending i ≡ old.pending i) ⊎ (new.pending i ≡ [])
  pub objects : new.objects ≡ old.objects
  pub group : new.group ≡ old.group

-- By its tracker no barrier is due before a copy reads the object, and none of it is among the nodes: so those that touch it read it too.
pub record IsReadTogether (nodes : List Node) (x : Stored) : Type 0 where
  pub due : due_by x.slot.tracker (read_touch x.handle) ≡ None
  pub none : has_barrier nodes x.handle ≡ false

-- the nodes do not conflict with a use of the object, which may be known to read alone
abbrev pub NoneConflicts : (reads : Bool) → List Node → Stored → Type 0
NoneConflicts reads nodes x = (nodes_touch nodes x.handle ≡ false) ⊎ ((reads ≡ true) × IsReadTogether nodes x)

-- nothing that is pending in an index conflicts with a use of the object
abbrev pub IsApart : (reads : Bool) → Face → ℕ → Object → Type 0
IsApart reads f index o = (x : Stored) → f.objects o ≡ Some x → NoneConflicts reads (f.pending index) x

-- nothing that is pending in another context conflicts with a use of the object, so that this one may record a node on it
abbrev pub IsParted : (reads : Bool) → Face → ℕ → Object → Type 0
IsParted reads f index o = (i : ℕ) → i ≢ index → IsApart reads f i o

-- Some contexts were flushed: what is shown and quiet is as before.
pub record HasFlushedSome (old new : Face) (before now : Link) : Type 0 where
  pub moved : Moved new now (view old before) (outline_at old) (IsQuiet old before)
  pub flushed : OnlyFlushed old new

-- the object has a store of this kind, and nothing waits on it
abbrev pub HasStore : Face → Object → Kind → Type 0
HasStore f o k = outline_at f o ≡ Some (record { kind = k; waiting = [] })

-- the buffer has a store of this size, and nothing waits on it
abbrev pub HasBytes : Face → ℕ → ℕ → Type 0
HasBytes f b size = HasStore f (Buffer b) (kind.Buffer size)

-- another object is quiet that was so
abbrev pub IsQuietBut : Face → Link → Object → Object → Type 0
IsQuietBut f s changed o = IsQuiet f s o × (o ≢ changed)

-- the outline of an object that has a new store of this kind
abbrev pub new_outline : Kind → Outline
new_outline k = record { kind = k; waiting = [] }

-- the outline of a buffer that has a store of so many bytes, and none of no bytes
abbrev pub outline_of_size : ℕ → Option Outline
outline_of_size size = option_map new_outline (buffer_kind size)

-- the cells of a new store: these bytes, or none that is defined
abbrev pub new_cells : Option (List ℕ) → ℕ → ℕ
new_cells None = λ p. UNDEFINED
new_cells (Some bytes) = cell_at bytes

-- one handle in hand, which nothing has used
abbrev pub in_hand : ℕ → Kind → Hands
in_hand id k = put no_hands id (Some (fresh_slot id k))

-- a handle that was just made is in hand: it has these cells, and all else is as before
pub record HasFresh (f : Face) (s t : Link) (id : ℕ) (k : Kind) (bytes : Option (List ℕ)) : Type 0 where
  pub holds : Holds f (in_hand id k) t
  pub view_is : view f t ≡ view f s
  pub still : (o : Object) → IsQuiet f s o → IsQuiet f t o
  pub has : recorded f t id ≡ new_cells bytes

-- nothing that is pending touches the object
abbrev pub IsUntouched : Face → Object → Type 0
IsUntouched f o = (i : ℕ) (x : Stored) → f.objects o ≡ Some x → nodes_touch (f.pending i) x.handle ≡ false

-- each batch that touches the object is known to be retired
abbrev pub IsRetired : Face → Link → Object → Type 0
IsRetired f s o = (i : ℕ) (x : Stored) → f.objects o ≡ Some x → last_use s.mine i x.handle ≤ s.done i

-- by the object's tracker no barrier is due before a read by the host
abbrev pub IsOpen : Face → Object → Type 0
IsOpen f o = (x : Stored) → f.objects o ≡ Some x → due_by x.slot.tracker (host_touch x.handle) ≡ None
