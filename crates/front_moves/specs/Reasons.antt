-- Why batches are handed over.
use Rattle.std.specs.Prelude.{◌≡◌, ◌≢◌, ℕ, ◌+◌, ◌≤◌, Bool, true, false, List, [], ◌∷◌, length, Some, Contains}
use Rattle.vk_types.specs.declared.batches.Batch.{Batch}
use Rattle.vk_types.specs.declared.batches.Reason.{Reason}
use Rattle.vk_types.specs.declared.batches.Reason.TheVariants as reason
use Rattle.back_core.specs.Own.{batch_touches}
use Rattle.front_model.specs.declared.object.Object.{Object}
use Rattle.front_model.specs.Face.{Stored, Face, nodes_touch}
use Rattle.front_moves.specs.Core.{IsReadTogether, IsApart}

-- all that is pending in an index, handed over for a reason as the next batch of the index
pub record IsFlushOf (f : Face) (index : ℕ) (why : Reason) (batch : Batch) : Type 0 where
  pub of_index : batch.index ≡ index
  pub number : batch.number ≡ f.last index + 1
  pub all : batch.nodes ≡ f.pending index
  pub for_reason : batch.reason ≡ why

-- the same, where something is pending
pub record IsFlushOfSome (f : Face) (index : ℕ) (why : Reason) (batch : Batch) : Type 0 where
  pub flush : IsFlushOf f index why batch
  pub some : batch.nodes ≢ []

-- The batch conflicts with a use of the store of an object: it touches the store, and where the use reads alone, a barrier is due before that,
-- or the batch has one of the store.
pub record ReachesObject (f : Face) (o : Object) (reads : Bool) (batch : Batch) : Type 0 where
  pub stored : Stored
  pub is : f.objects o ≡ Some stored
  pub touches : batch_touches batch stored.handle ≡ true
  pub conflicts : reads ≡ true → IsReadTogether batch.nodes stored → ⊥

-- what is pending in an index conflicts with a use of the store of an object
pub record Conflicts (reads : Bool) (f : Face) (index : ℕ) (o : Object) : Type 0 where
  pub stored : Stored
  pub is : f.objects o ≡ Some stored
  pub touches : nodes_touch (f.pending index) stored.handle ≡ true
  pub conflicts : reads ≡ true → IsReadTogether (f.pending index) stored → ⊥

-- a test says whether it does
abbrev pub Decides : (reads : Bool) → Face → (index : ℕ) → Object → (test : Bool) → Type 0
Decides reads f index o true = Conflicts reads f index o
Decides reads f index o false = IsApart reads f index o

-- a batch of an index that conflicts with a use of the store of an object, handed over for a reason
pub record IsTouching (f : Face) (index : ℕ) (o : Object) (reads : Bool) (why : Reason) (batch : Batch) : Type 0 where
  pub of_index : batch.index ≡ index
  pub reaches : ReachesObject f o reads batch
  pub for_reason : batch.reason ≡ why

-- a batch of another index, which conflicts with what this one is about to do with the store of an object
pub record IsCross (f : Face) (index : ℕ) (o : Object) (reads : Bool) (batch : Batch) : Type 0 where
  pub of_other : batch.index ≢ index
  pub reaches : ReachesObject f o reads batch
  pub for_reason : batch.reason ≡ reason.Cross

-- a batch that is as long as one may get before it is handed over
pub record IsFull (batch : Batch) : Type 0 where
  pub full : 1024 ≤ length batch.nodes
  pub for_reason : batch.reason ≡ reason.Full

-- what is handed over before an index records a node that uses some objects, each with whether it reads it alone: what another context has
-- pending that conflicts with the use of one of them, or a full batch
pub data IsParting (f : Face) (index : ℕ) (used : List (Object × Bool)) (batch : Batch) : Type 0 where
  cross : (o : Object) (reads : Bool) → Contains used (o, reads) → IsCross f index o reads batch → IsParting f index used batch
  full : IsFull batch → IsParting f index used batch

-- what is handed over before the host may use an object: also what the own context has pending, which is something
pub data IsSettling (f : Face) (index : ℕ) (o : Object) (batch : Batch) : Type 0 where
  parting : IsParting f index ((o, false) ∷ []) batch → IsSettling f index o batch
  reading : batch.index ≡ index → batch.reason ≡ reason.Read → batch.nodes ≢ [] → IsSettling f index o batch

-- what is handed over as a front ends, where something is pending
pub record IsEnding (batch : Batch) : Type 0 where
  pub for_reason : batch.reason ≡ reason.End
  pub some : batch.nodes ≢ []
