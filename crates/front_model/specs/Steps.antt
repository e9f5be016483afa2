-- The steps of which moves are made.
use Rattle.std.specs.Prelude.{◌≡◌, ◌≢◌, ℕ, zero, suc, ◌+◌, ◌<◌, ◌==◌, ◌&&◌, ◌⊎◌, true, if◌then◌else◌, Option, Some, None, List, [], ◌∷◌, ◌++◌, fold, length, All, IsSome}
use Rattle.std.specs.List.{AllByRecursion}
use Rattle.std.specs.Option.{option_map}
use Rattle.vk_types.specs.declared.handles.HandleId.{HandleId}
use Rattle.vk_types.specs.declared.handles.Kind.{Kind}
use Rattle.vk_types.specs.declared.ops.Op.TheVariants as op
use Rattle.vk_types.specs.declared.ops.Node.{Node}
use Rattle.vk_types.specs.declared.batches.Batch.{Batch}
use Rattle.vk_types.specs.declared.batches.QueueSerial.{QueueSerial}
use Rattle.vk_types.specs.declared.accesses.Access.{Access}
use Rattle.vk_types.specs.declared.regions.Barrier.{Barrier}
use Rattle.vk_types.specs.Accesses.{host_read}
use Rattle.vk_model.specs.Log.{commands, IsSound, NoneEmpty, NoConflict}
use Rattle.vk_model.specs.Fitting.{NodeFits}
use Rattle.vk_device.specs.Order.{IsOfOneQueue}
use Rattle.resource_use.specs.Uses.{number_of}
use Rattle.barriers.specs.Licence.{Accessed}
use Rattle.barriers.specs.Trackers.{new_tracker, taken}
use Rattle.barriers.specs.Logs.{uses_in}
use Rattle.barriers.specs.Recording.{handle, AreFenced, barrier_node}
use Rattle.back_core.specs.Link.{Link, put}
use Rattle.back_core.specs.Needs.{IsOfGroup}
use Rattle.front_model.specs.declared.object.Object.{Object}
use Rattle.object_helper.specs.Objects.{is_image}
use Rattle.front_model.specs.Face.{Waiting, Slot, Stored, Face, put_object, nodes_touch, whole_log}
use Rattle.front_model.specs.Stands.{Hands, IsRecordable, is_image_of, uses_of}

-- Handles

-- a handle that was just made
abbrev pub fresh_slot : ℕ → Kind → Slot
fresh_slot id kind = record { kind = kind; used = λ index. 0; tracker = new_tracker (handle id) (is_image kind) }

-- the uses name for each index the number of the slot
abbrev pub AreUses : List QueueSerial → Slot → Type 0
AreUses uses slot = (index : ℕ) → number_of uses index ≡ slot.used index

-- Recording

-- the slot of a handle after nodes were recorded for the batch of this number
abbrev pub noted : ℕ → ℕ → List Node → ℕ → Slot → Slot
noted index number nodes id slot = record slot {
  used = λ i. if (i == index) && nodes_touch nodes id then number else slot.used i;
  tracker = fold taken slot.tracker (uses_in (commands 0 nodes) id);
}

abbrev pub noted_store : ℕ → ℕ → List Node → Stored → Stored
noted_store index number nodes b = record b { slot = noted index number nodes b.handle b.slot }

-- the front after nodes were recorded in the context of an index
abbrev pub with_nodes : Face → ℕ → List Node → Face
with_nodes f index nodes = record f {
  pending = put f.pending index (f.pending index ++ nodes);
  objects = λ o. option_map (noted_store index (f.last index + 1) nodes) (f.objects o);
}

abbrev pub noted_hands : Hands → ℕ → ℕ → List Node → Hands
noted_hands hands index number nodes = λ id. option_map (noted index number nodes id) (hands id)

-- the handle is in hand, or the store of an object
abbrev pub IsTarget : Face → Hands → ℕ → Type 0
IsTarget f hands id = IsSome (hands id) ⊎ ((o : Object) × (b : Stored) × (f.objects o ≡ Some b) × (b.handle ≡ id))

-- Behind all that was recorded the nodes are in order, and each barrier among them is licensed.
pub record IsOrdered (f : Face) (s : Link) (nodes : List Node) : Type 0 where
  pub sound : IsSound (whole_log f s ++ commands 0 nodes)
  pub fenced : (id : ℕ) → AreFenced (handle id) (is_image_of s id) (uses_of f s id ++ uses_in (commands 0 nodes) id)

-- nodes that may be recorded in the context of an index
pub record MayRecord (f : Face) (hands : Hands) (s : Link) (index : ℕ) (nodes : List Node) : Type 0 where
  pub of_group : IsOfGroup f.group index
  pub ordered : IsOrdered f s nodes
  pub recordable : All IsRecordable nodes
  pub fits : All (NodeFits s.kinds) nodes
  pub none_empty : All NoneEmpty nodes
  pub few : length (f.pending index) + length nodes < 4294967294
  pub apart : (i : ℕ) → i ≢ index → NoConflict nodes (f.pending i)
  pub targets : (id : ℕ) → nodes_touch nodes id ≡ true → IsTarget f hands id

-- a barrier that leaves the layout
abbrev pub plain_barrier : HandleId → Access → Access → Node
plain_barrier id first second = record { op = op.Barrier (record { id = id; first = first; second = second; layouts = None }) }

pub record KeepsContents (n : Node) : Type 0 where
  pub id : HandleId
  pub first : Access
  pub second : Access
  pub is : n ≡ plain_barrier id first second

-- the node behind barriers that leave all contents
pub record IsBehind (nodes : List Node) (n : Node) : Type 0 where
  pub fences : List Node
  pub is : nodes ≡ fences ++ n ∷ []
  pub keep : AllByRecursion KeepsContents fences

-- the node is a barrier
pub record IsBarrier (n : Node) : Type 0 where
  pub barrier : Barrier
  pub is : n ≡ barrier_node barrier

-- Reading by the host

-- the slot of a handle that the host read
abbrev pub heard : Slot → Slot
heard slot = record slot { tracker = taken slot.tracker (Accessed host_read) }

abbrev pub heard_store : ℕ → Stored → Stored
heard_store id b = if b.handle == id then record b { slot = heard b.slot } else b

-- the front after the host read a handle
abbrev pub with_read : Face → ℕ → Face
with_read f id = record f { objects = λ o. option_map (heard_store id) (f.objects o) }

abbrev pub heard_hands : Hands → ℕ → Hands
heard_hands hands id = λ i. if i == id then option_map heard (hands i) else hands i

-- Flushing

-- the batch is the next one of the index, with what is pending there
pub record IsNextBatch (f : Face) (index : ℕ) (batch : Batch) : Type 0 where
  pub one_queue : IsOfOneQueue batch
  pub of_index : batch.index ≡ index
  pub next : batch.number ≡ f.last index + 1
  pub all : batch.nodes ≡ f.pending index

abbrev pub flushed : Face → ℕ → Face
flushed f index = record f { pending = put f.pending index []; last = put f.last index (f.last index + 1) }

-- Objects

abbrev pub with_object : Face → Object → Option Stored → Face
with_object f o b = record f { objects = put_object f.objects o b }

-- the object with a store that is in hand, and nothing that waits
abbrev pub stored_as : ℕ → Slot → Stored
stored_as id slot = record { handle = id; slot = slot; waiting = [] }

-- one more waits
abbrev pub with_waiting : Stored → Waiting → Stored
with_waiting b w = record b { waiting = b.waiting ++ w ∷ [] }

abbrev pub without_place : {A : Type 0} → ℕ → List A → List A
without_place place [] = []
without_place zero (x ∷ xs) = xs
without_place (suc place) (x ∷ xs) = x ∷ without_place place xs

-- what waited at a place was taken out
abbrev pub taken_from : Stored → ℕ → Stored
taken_from b place = record b { waiting = without_place place b.waiting }
