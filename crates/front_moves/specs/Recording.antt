-- What recording nodes on buffers needs and leaves.
use Rattle.std.specs.Prelude.{◌≡◌, ◌≢◌, ℕ, ◌+◌, ◌*◌, ◌<◌, ◌≤◌, ◌==◌, Bool, if◌then◌else◌, Option, Some, None, IfSome, List, [], ◌∷◌, ◌++◌, length, slice_set, slice_index_or}
use Rattle.std.specs.Option.{option_map}
use Rattle.vk_types.specs.declared.handles.HandleId.{HandleId}
use Rattle.vk_types.specs.declared.ops.Node.{Node}
use Rattle.vk_types.specs.declared.batches.QueueSerial.{QueueSerial}
use Rattle.vk_types.specs.Touches.{the_end}
use Rattle.vk_types.specs.declared.accesses.Access.{Access}
use Rattle.vk_types.specs.declared.regions.Barrier.{Barrier}
use Rattle.vk_types.specs.Accesses.{transfer_read, transfer_write, joined}
use Rattle.tables.specs.Table.{Entries, entry}
use Rattle.barriers.specs.Trackers.{due_by}
use Rattle.barriers.specs.Recording.{node_for, barrier_node}
use Rattle.object_helper.specs.Objects.{ObjectStore, access_of}
use Rattle.back_core.specs.Needs.{IsOfGroup}
use Rattle.front_model.specs.declared.object.Object.TheVariants.{Buffer}
use Rattle.front_moves.specs.Objects.{with_use, used, fenced_in, ChangesOne}
use Rattle.front_moves.specs.Core.{CoreParts, face, HasBytes, IsParted}

-- the serial of the next batch of the index at a place of the group, in which there is room for nodes
pub record IsNextSerial (c : CoreParts) (place : ℕ) (serial : QueueSerial) : Type 0 where
  pub group : IsOfGroup c.indexes.group serial.index
  pub place_is : place + 8 * c.indexes.group ≡ serial.index
  pub next : serial.number ≡ (face c).last serial.index + 1
  pub few : length ((face c).pending serial.index) < 1024

-- the store of a buffer is this object of so many bytes, and nothing that is pending in another context conflicts with a use of it
pub record HasBuffer (reads : Bool) (c : CoreParts) (index b : ℕ) (id : HandleId) (len : ℕ) : Type 0 where
  pub handle : IfSome ((face c).objects (Buffer b)) (λ x. x.handle ≡ id.0)
  pub store : HasBytes (face c) b len
  pub end : len ≤ the_end
  pub parted : IsParted reads (face c) index (Buffer b)

-- nodes were added at a place, and the stores under the keys that pass a test noted their use
pub record IsRecorded (c d : CoreParts) (place : ℕ) (nodes : List Node) (serial : QueueSerial) (touched : ℕ → Bool) : Type 0 where
  pub indexes : d.indexes ≡ c.indexes
  pub eight : length c.pending ≡ 8
  pub pending : d.pending ≡ slice_set c.pending place (slice_index_or c.pending place [] ++ nodes)
  pub stores : (k : ℕ) → entry k d.stores ≡ (if touched k then option_map (with_use serial nodes) (entry k c.stores) else entry k c.stores)

-- a barrier of the object that leaves the layout, or none
abbrev pub IsFence : HandleId → Option Barrier → Type 0
IsFence id due = (barrier : Barrier) → due ≡ Some barrier → (barrier.id ≡ id) × (barrier.layouts ≡ None)

-- a node behind one or two barriers
abbrev pub behind_both : Option Barrier → Option Barrier → Node → List Node
behind_both one other n = node_for one ++ node_for other ++ n ∷ []

-- the kinds of access of a copy within one buffer
abbrev pub read_write : Access
read_write = joined transfer_read transfer_write

-- What is due before a copy from one buffer to another, by the trackers of the stores under their keys.
pub record IsDueBefore (src dst : ℕ) (old : Entries ObjectStore) (one other : Option Barrier) : Type 0 where
  pub within : src ≡ dst → IfSome (entry src old) (λ x. one ≡ due_by x.tracker (access_of x.handle read_write)) × (other ≡ None)
  pub source : src ≢ dst → IfSome (entry src old) (λ x. one ≡ due_by x.tracker (access_of x.handle transfer_read))
  pub target : src ≢ dst → IfSome (entry dst old) (λ x. other ≡ due_by x.tracker (access_of x.handle transfer_write))

-- the access of the store under a key by a copy from one buffer to another
abbrev pub copy_access : ℕ → ℕ → ℕ → Access
copy_access src dst key = if src == dst then read_write else if key == src then transfer_read else transfer_write

-- nodes were added at a place, and the stores under the keys that pass a test took in an access in the batch
pub record IsAccessed (c d : CoreParts) (place : ℕ) (nodes : List Node) (serial : QueueSerial) (touched : ℕ → Bool) (access : ℕ → Access) : Type 0 where
  pub indexes : d.indexes ≡ c.indexes
  pub eight : length c.pending ≡ 8
  pub pending : d.pending ≡ slice_set c.pending place (slice_index_or c.pending place [] ++ nodes)
  pub stores : (k : ℕ) → entry k d.stores ≡ (if touched k then option_map (used (access k) serial) (entry k c.stores) else entry k c.stores)

-- a barrier was added at a place, and the store under a key took it in
pub record IsOpened (c d : CoreParts) (place : ℕ) (barrier : Barrier) (serial : QueueSerial) (key : ℕ) : Type 0 where
  pub indexes : d.indexes ≡ c.indexes
  pub eight : length c.pending ≡ 8
  pub pending : d.pending ≡ slice_set c.pending place (slice_index_or c.pending place [] ++ barrier_node barrier ∷ [])
  pub stores : ChangesOne key (fenced_in serial barrier) c.stores d.stores
