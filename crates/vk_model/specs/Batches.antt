-- The log of what a device accepts: batches of two queues, and writes by the host.
use Rattle.std.specs.Prelude.{◌≡◌, ℕ, ◌<◌, ◌≤◌, true, List, [], ◌∷◌, ◌++◌, map, slice_get, Some}
use Rattle.std.specs.List.{list_any, flat_map}
use Rattle.vk_types.specs.declared.ops.Node.{Node}
use Rattle.vk_model.specs.Log.{Item, Command, HostWrite, Wait, Signal, touches_object, HasEdge, IsSound}

pub data Accepted : Type 0 where
  Submit : (queue : ℕ) (waits : List ℕ) (nodes : List Node) (signals : List ℕ) → Accepted
  Write : (id at : ℕ) (bytes : List ℕ) → Accepted

-- a batch's waits, its nodes and its signals in order
abbrev pub items_of : Accepted → List Item
items_of (Submit queue waits nodes signals) = map (Wait queue) waits ++ (map (Command queue) nodes ++ map (Signal queue) signals)
items_of (Write id at bytes) = HostWrite id at bytes ∷ []

abbrev pub device_log : List Accepted → List Item
device_log accepted = flat_map items_of accepted

-- the order that the device keeps between two items of its log
abbrev pub HasDeviceEdge : List Accepted → ℕ → ℕ → Type 0
HasDeviceEdge accepted j k = HasEdge (device_log accepted) j k

-- what is accepted is in order: of two conflicting nodes the earlier reaches the later, on whatever queues they are
abbrev pub IsDeviceSound : List Accepted → Type 0
IsDeviceSound accepted = IsSound (device_log accepted)

-- a batch of the queue
pub record BatchAt (accepted : List Accepted) (queue k : ℕ) : Type 0 where
  pub waits : List ℕ
  pub nodes : List Node
  pub signals : List ℕ
  pub is : slice_get accepted k ≡ Some (Submit queue waits nodes signals)

-- from the batch at j on one of its queue gives a signal, for which up to the batch at k one of that one's queue waits
pub record BatchHandsOver (accepted : List Accepted) (p q j k : ℕ) : Type 0 where
  pub giver : ℕ
  pub taker : ℕ
  pub gives : BatchAt accepted p giver
  pub takes : BatchAt accepted q taker
  pub from : j ≤ giver
  pub between : giver < taker
  pub upto : taker ≤ k
  pub number : ℕ
  pub signal : ℕ
  pub signals : slice_get gives.signals signal ≡ Some number
  pub wait : ℕ
  pub waits : slice_get takes.waits wait ≡ Some number

-- batches of different queues that touch one object hand it over
abbrev pub BatchesHandOver : List Accepted → Type 0
BatchesHandOver accepted = (j k p q id : ℕ) (a : BatchAt accepted p j) (b : BatchAt accepted q k) → j < k → (p ≡ q → ⊥) → list_any (λ n. touches_object n id) a.nodes ≡ true → list_any (λ n. touches_object n id) b.nodes ≡ true → BatchHandsOver accepted p q j k
