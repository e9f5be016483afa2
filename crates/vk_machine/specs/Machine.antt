-- What a device in memory keeps.
use Rattle.std.specs.Prelude.{◌≡◌, ℕ, suc, ◌<◌, ◌≤◌, ◌⊎◌, List, [], ◌∷◌, length, slice_get, Contains, Some, map, unwrap_or}
use Rattle.std.specs.Map.{lookup}
use Rattle.std.specs.BTreeMap.{is_at}
use Rattle.std.specs.Ordering.{nat_cmp}
use Rattle.vk_types.specs.declared.ops.Node.{Node}
use Rattle.vk_model.specs.Fitting.{NodeFits}
use Rattle.vk_model.specs.Log.{Command}
use Rattle.vk_model.specs.Meaning.{apply}
use Rattle.vk_objects.specs.declared.objects.Object.{Object}
use Rattle.vk_objects.specs.declared.objects.Objects.{Objects}
use Rattle.vk_objects.specs.Objects.{bytes_of, HaveSizes}
use Rattle.vk_objects.specs.Undefined.{KeepsUndefined}
use Rattle.vk_ready.specs.declared.nodes.WaitingNode.{WaitingNode}
use Rattle.vk_device.specs.declared.logged.Logged.{Logged}
use Rattle.vk_device.specs.Journal.{kind_of, accepted, node_at, creates, creates_of}
use Rattle.vk_device.specs.Order.{log_of, order_of, place_of, kinds_of, contents}
use Rattle.std.specs.List.{remove}
use Rattle.vk_ready.specs.Ready.{ready_place}
use Rattle.vk_device.specs.declared.logged.Turned.{Turned}
use Rattle.vk_device.specs.Effects.{Executes}
use Rattle.vk_device.specs.Running.{IsInOrder}
use Rattle.vk_machine.specs.declared.choice.Choice.{Choice}

-- what contracts see of a device in memory: what it did, its live objects, and the nodes that wait
pub record MachineModel : Type 0 where
  pub choice : Choice
  pub journal : List Logged
  pub stored : List (ℕ × List ℕ)
  pub waiting : List WaitingNode

-- the bytes of each live object, in rising order of their numbers
abbrev pub stored_in : Objects → List (ℕ × List ℕ)
stored_in objects = map (λ (e : ℕ × Object). (e.0, e.1.bytes)) objects.map.entries

-- the bytes of an object, and none where it is not live
abbrev pub bytes_at : List (ℕ × List ℕ) → ℕ → List ℕ
bytes_at stored id = unwrap_or (lookup (is_at (nat_cmp id)) stored) []

abbrev pub journal_of : MachineModel → List Logged
journal_of m = m.journal

abbrev pub bytes_in : MachineModel → ℕ → List ℕ
bytes_in m id = bytes_at m.stored id

-- where a waiting node lies in the log
abbrev pub place_in : List Logged → WaitingNode → ℕ
place_in journal w = place_of journal w.batch w.node

-- a node that was accepted and not executed, and fits the live objects
pub record IsLeft (journal : List Logged) (w : WaitingNode) : Type 0 where
  pub is : node_at (accepted journal) w.batch w.node ≡ Some w.command
  pub at : slice_get (log_of journal) (place_in journal w) ≡ Some (Command w.queue w.command)
  pub left : Contains (order_of journal) (place_in journal w) → ⊥
  pub fits : NodeFits (kind_of journal) w.command

-- a waiting node lies at this place of the log
pub record LiesAt (journal : List Logged) (waiting : List WaitingNode) (place : ℕ) : Type 0 where
  pub k : ℕ
  pub node : WaitingNode
  pub at : slice_get waiting k ≡ Some node
  pub is : place_in journal node ≡ place

-- The waiting nodes are what of the log was not executed, in its order.
pub record AreLeft (journal : List Logged) (waiting : List WaitingNode) : Type 0 where
  pub each : (k : ℕ) (w : WaitingNode) → slice_get waiting k ≡ Some w → IsLeft journal w
  pub all : (place : ℕ) → place < length (log_of journal) → Contains (order_of journal) place ⊎ LiesAt journal waiting place
  pub rising : (j k : ℕ) (v w : WaitingNode) → j < k → slice_get waiting j ≡ Some v → slice_get waiting k ≡ Some w → place_in journal v < place_in journal w

-- The objects are those that live by the journal, the device is in order, and the numbers that it counts are true.
pub record Keeps (journal : List Logged) (objects : Objects) (waiting : List WaitingNode) (made batches : ℕ) : Type 0 where
  pub order : IsInOrder journal (bytes_of objects)
  pub live : (id : ℕ) → Rattle.vk_objects.specs.Objects.kind_of objects id ≡ kind_of journal id
  pub sized : HaveSizes objects
  pub fresh : (id : ℕ) → made ≤ id → creates_of id journal ≡ 0
  pub made_is : made ≡ creates journal
  pub few : made ≤ length journal
  pub batches_is : batches ≡ length (accepted journal)
  pub few_batches : batches ≤ length journal
  pub left : AreLeft journal waiting

-- the nodes of a batch as they wait, from the one of this number on
abbrev pub waiting_from : (batch node queue : ℕ) → List Node → List WaitingNode
waiting_from batch node queue [] = []
waiting_from batch node queue (command ∷ commands) = (record { batch = batch; node = node; queue = queue; command = command }) ∷ waiting_from batch (suc node) queue commands

-- each byte that is not defined after the node is as it was
abbrev pub LeavesUndefined : (old new : MachineModel) → WaitingNode → Type 0
LeavesUndefined old new w = KeepsUndefined (contents (bytes_in old)) (contents (bytes_in new)) (apply (kinds_of old.journal) (Command w.queue w.command) (contents (bytes_in old)))

-- The ready node of this number ran, and is no longer among those that wait.
pub record RunsReady (old new : MachineModel) (number : ℕ) (turned : Turned) : Type 0 where
  pub node : WaitingNode
  pub at : slice_get old.waiting (ready_place old.waiting number) ≡ Some node
  pub turned_is : turned ≡ Turned.Ran node.batch node.node
  pub executes : Executes journal_of bytes_in old new node.batch node.node
  pub kept : LeavesUndefined old new node
  pub waiting : new.waiting ≡ remove old.waiting (ready_place old.waiting number)
