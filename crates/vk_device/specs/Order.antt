-- What a device accepted as one log, and in which order it ran it: functions of its journal.
use Rattle.std.specs.Prelude.{◌≡◌, ℕ, zero, suc, ◌+◌, ◌<◌, ◌==◌, nat_lt, min, max, ◌&&◌, not, is_some, Bool, if◌then◌else◌, List, [], ◌∷◌, ◌++◌, length, map, take, fold, slice_get, Contains, true, Some}
use Rattle.std.specs.List.{list_any}
use Rattle.vk_types.specs.declared.handles.Kind.{Kind}
use Rattle.vk_types.specs.declared.handles.Kind.TheVariants.{Buffer}
use Rattle.vk_types.specs.declared.regions.Barrier.{Barrier}
use Rattle.vk_types.specs.declared.ops.Node.{Node}
use Rattle.vk_types.specs.declared.batches.Batch.{Batch}
use Rattle.vk_types.specs.Touches.{barrier_of}
use Rattle.vk_types.specs.Accesses.{in_common, host_read}
use Rattle.cells.specs.Contents.{cell_at}
use Rattle.vk_model.specs.Cells.{Contents}
use Rattle.vk_model.specs.Log.{Item, Command, node_ranges, FindsLayouts}
use Rattle.vk_model.specs.Batches.{Submit, Write, items_of}
use Rattle.vk_device.specs.declared.logged.Logged.{Logged}
use Rattle.vk_device.specs.declared.logged.Logged.TheVariants.{Created, Wrote, Submitted, Ran, Fetched, Destroyed}

-- The log

-- the items that an entry adds: those of a batch, or a write by the host
abbrev pub entry_items : Logged → List Item
entry_items (Created id kind) = []
entry_items (Wrote id at bytes) = items_of (Write id.0 at bytes)
entry_items (Submitted batch) = items_of (Submit batch.queue batch.waits batch.nodes batch.signals)
entry_items (Ran batch node) = []
entry_items (Fetched id at bytes) = []
entry_items (Destroyed id) = []

-- all that a device accepted, in order
unfoldable pub log_of : List Logged → List Item
log_of journal = fold (λ log entry. log ++ entry_items entry) [] journal

-- The executed order

-- where the nodes of a batch begin in the log; its waits stand before them
abbrev pub batch_start : List Logged → ℕ → ℕ
batch_start [] batch = 0
batch_start (Created id kind ∷ journal) batch = batch_start journal batch
batch_start (Wrote id at bytes ∷ journal) batch = 1 + batch_start journal batch
batch_start (Submitted b ∷ journal) zero = length b.waits
batch_start (Submitted b ∷ journal) (suc batch) = length (entry_items (Submitted b)) + batch_start journal batch
batch_start (Ran _ _ ∷ journal) batch = batch_start journal batch
batch_start (Fetched id at bytes ∷ journal) batch = batch_start journal batch
batch_start (Destroyed id ∷ journal) batch = batch_start journal batch

-- where a node of a batch lies in the log
abbrev pub place_of : List Logged → ℕ → ℕ → ℕ
place_of journal batch node = batch_start journal batch + node

-- the place that an entry executes, after those before it; a write by the host is done at once
abbrev pub executes : List Logged → Logged → List ℕ
executes before (Created id kind) = []
executes before (Wrote id at bytes) = length (log_of before) ∷ []
executes before (Submitted batch) = []
executes before (Ran batch node) = place_of before batch node ∷ []
executes before (Fetched id at bytes) = []
executes before (Destroyed id) = []

abbrev pub order_from : List Logged → List Logged → List ℕ
order_from before [] = []
order_from before (entry ∷ journal) = executes before entry ++ order_from (before ++ entry ∷ []) journal

-- the executed places of the log, in order
unfoldable pub order_of : List Logged → List ℕ
order_of journal = order_from [] journal

-- each item of the log was executed
abbrev pub AllRan : List Logged → Type 0
AllRan journal = (k : ℕ) → k < length (log_of journal) → Contains (order_of journal) k

-- The objects

abbrev pub kinds_after : (ℕ → Kind) → Logged → ℕ → Kind
kinds_after kinds (Created id kind) = λ i. if i == id.0 then kind else kinds i
kinds_after kinds (Wrote id at bytes) = kinds
kinds_after kinds (Submitted batch) = kinds
kinds_after kinds (Ran batch node) = kinds
kinds_after kinds (Fetched id at bytes) = kinds
kinds_after kinds (Destroyed id) = kinds

-- the kind with which each object was created; one that was not has no bytes
unfoldable pub kinds_of : List Logged → ℕ → Kind
kinds_of journal = fold kinds_after (λ _. Buffer 0) journal

-- lists of bytes as contents, which are not defined past their ends
abbrev pub contents : (ℕ → List ℕ) → Contents
contents bytes_of id i = cell_at (bytes_of id) i

-- What calls need

-- a batch for the one queue, which waits for no other
pub record IsOfOneQueue (batch : Batch) : Type 0 where
  pub queue : batch.queue ≡ 0
  pub waits : batch.waits ≡ []
  pub signals : batch.signals ≡ []

-- each node of the batch finds the layouts that it names
abbrev pub FindItsLayouts : List Item → Batch → Type 0
FindItsLayouts log batch = (k : ℕ) (n : Node) → slice_get batch.nodes k ≡ Some n → FindsLayouts (log ++ map (Command batch.queue) (take k batch.nodes)) n

-- the node writes into this range of the object; a barrier writes nothing
abbrev pub writes_into : Node → (id start end : ℕ) → Bool
writes_into n id start end = not (is_some (barrier_of n)) && list_any (λ r. r.written && (r.id == id) && nat_lt (max r.start start) (min r.end end)) (node_ranges n)

-- a barrier on the object, after place k of the log, that makes what was written known to the host
pub record IsHandedOver (log : List Item) (k id : ℕ) : Type 0 where
  pub place : ℕ
  pub later : k < place
  pub queue : ℕ
  pub command : Node
  pub at : slice_get log place ≡ Some (Command queue command)
  pub barrier : Barrier
  pub is : barrier_of command ≡ Some barrier
  pub same : barrier.id.0 ≡ id
  pub to_host : in_common barrier.second host_read ≡ true

-- each node that writes into the range is followed by such a barrier
abbrev pub IsVisible : List Item → (id start end : ℕ) → Type 0
IsVisible log id start end = (k q : ℕ) (n : Node) → slice_get log k ≡ Some (Command q n) → writes_into n id start end ≡ true → IsHandedOver log k id

-- no batch was accepted so far
pub record HasNoBatch (journal : List Logged) : Type 0 where
  pub ran : AllRan journal
  pub none : (k q : ℕ) (n : Node) → slice_get (log_of journal) k ≡ Some (Command q n) → ⊥
