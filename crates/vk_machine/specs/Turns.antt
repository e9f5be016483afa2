-- Which node a turn executes.
use Rattle.std.specs.Prelude.{◌≡◌, ℕ, length, Result, Ok, Err, slice_get, Some}
use Rattle.std.specs.List.{remove}
use Rattle.vk_types.specs.declared.stops.Stop.{Stop}
use Rattle.vk_ready.specs.declared.nodes.WaitingNode.{WaitingNode}
use Rattle.vk_ready.specs.Ready.{ready_places, ready_place}
use Rattle.vk_device.specs.declared.logged.Turned.{Turned}
use Rattle.vk_device.specs.declared.logged.Turned.TheVariants.{Ran, Idle}
use Rattle.vk_machine.specs.Machine.{MachineModel, LeavesUndefined}
use Rattle.vk_machine.specs.Choices.{chosen, next_choice}

-- the ready node that is chosen next, by its number in order of acceptance
abbrev pub next_place : MachineModel → ℕ
next_place m = ready_place m.waiting (chosen m.choice (length (ready_places m.waiting)))

-- The chosen node ran: it is no longer among those that wait, what it leaves undefined is as it was, and the choice drew
-- what it draws for one node.
pub record RunsChosen (old new : MachineModel) (batch node : ℕ) : Type 0 where
  pub waiting_node : WaitingNode
  pub at : slice_get old.waiting (next_place old) ≡ Some waiting_node
  pub batch_is : batch ≡ waiting_node.batch
  pub node_is : node ≡ waiting_node.node
  pub waiting : new.waiting ≡ remove old.waiting (next_place old)
  pub kept : LeavesUndefined old new waiting_node
  pub choice : new.choice ≡ next_choice old.choice

-- a turn executes the node that the choice names, and else leaves all as it is
abbrev pub TurnsByChoice : MachineModel → MachineModel → Result Turned Stop → Type 0
TurnsByChoice old new (Ok (Ran batch node)) = RunsChosen old new batch node
TurnsByChoice old new (Ok Idle) = new ≡ old
TurnsByChoice old new (Err stop) = new ≡ old
