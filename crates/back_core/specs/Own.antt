-- A share group's own list of what it had its back do, and what can be read off it.
use Rattle.std.specs.Prelude.{◌≡◌, ℕ, ◌+◌, ◌<◌, ◌==◌, ◌&&◌, max, Bool, true, false, List, [], ◌∷◌, fold, slice_get, if◌then◌else◌, Some, None}
use Rattle.std.specs.List.{flat_map, list_any}
use Rattle.vk_types.specs.declared.regions.Barrier.{Barrier}
use Rattle.vk_types.specs.declared.ops.Node.{Node}
use Rattle.vk_types.specs.declared.batches.Batch.{Batch}
use Rattle.vk_types.specs.Accesses.{in_common, host_read}
use Rattle.vk_types.specs.Touches.{barrier_of}
use Rattle.vk_model.specs.Log.{Item, Command, HostWrite, commands, touches_object, node_ranges, clash}
use Rattle.submit_queue.specs.Histories.{last_number}

-- an item of the list; objects are named by their numbers
pub data Own : Type 0 where
  -- the host wrote these bytes from a place on
  HostWrote : (id at : ℕ) (bytes : List ℕ) → Own
  -- a batch was handed to the back
  Enqueued : Batch → Own
  -- the host read these bytes from a place on
  HostRead : (id at : ℕ) (bytes : List ℕ) → Own

-- the commands and host writes of an item; the batches of a group count as those of one queue
abbrev pub log_by : Own → List Item
log_by (HostWrote id at bytes) = HostWrite id at bytes ∷ []
log_by (Enqueued batch) = commands 0 batch.nodes
log_by (HostRead id at bytes) = []

-- the log of the list
abbrev pub log_of : List Own → List Item
log_of mine = flat_map log_by mine

abbrev pub batch_by : Own → List Batch
batch_by (HostWrote id at bytes) = []
batch_by (Enqueued batch) = batch ∷ []
batch_by (HostRead id at bytes) = []

-- the batches of the list
abbrev pub batches_of : List Own → List Batch
batches_of mine = flat_map batch_by mine

-- the number that the next batch of an index has
abbrev pub next_number : List Own → ℕ → ℕ
next_number mine index = last_number (batches_of mine) index + 1

-- a node of the batch touches the object
abbrev pub batch_touches : Batch → ℕ → Bool
batch_touches batch id = list_any (λ n. touches_object n id) batch.nodes

-- the item touches the object
abbrev pub own_touches : Own → ℕ → Bool
own_touches (HostWrote i at bytes) id = i == id
own_touches (Enqueued batch) id = batch_touches batch id
own_touches (HostRead i at bytes) id = i == id

-- the greatest number of a batch of the index that touches the object, or 0
abbrev pub last_use : List Own → ℕ → ℕ → ℕ
last_use mine index id = fold (λ n (batch : Batch). if (batch.index == index) && batch_touches batch id then max n batch.number else n) 0 (batches_of mine)

-- the node writes a place of this range
abbrev pub writes_in : Node → ℕ → ℕ → ℕ → Bool
writes_in n id at size = list_any (λ r. clash r (record { id = id; start = at; end = at + size; written = false })) (node_ranges n)

-- behind a place of the log stands a barrier of the object to reads by the host
pub record HasHostBarrier (log : List Item) (id place : ℕ) : Type 0 where
  pub later : ℕ
  pub queue : ℕ
  pub node : Node
  pub barrier : Barrier
  pub behind : place < later
  pub at : slice_get log later ≡ Some (Command queue node)
  pub is : barrier_of node ≡ Some barrier
  pub of_object : barrier.id.0 ≡ id
  pub to_host : in_common barrier.second host_read ≡ true

-- behind each node that writes the range, and is no barrier itself, stands a barrier to reads by the host
abbrev pub IsReadable : List Item → ℕ → ℕ → ℕ → Type 0
IsReadable log id at size = (k queue : ℕ) (n : Node) → slice_get log k ≡ Some (Command queue n) → barrier_of n ≡ None → writes_in n id at size ≡ true → HasHostBarrier log id k
