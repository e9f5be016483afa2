use Rattle.std.proofs.Common.{◌≡◌, take}
use Rattle.vk_types.proofs.lists.Nodes.copy.Given as goal

abbrev pub invariant-loop-node : goal.invariant-loop-node
invariant-loop-node l = l.list.items ≡ take l.node-index l.node-items
