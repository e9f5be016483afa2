use Rattle.std.proofs.Common.{◌≡◌, ◌+◌, ◌++◌, length}
use Rattle.vk_machine.specs.Machine.{waiting_from}
use Rattle.vk_machine.proofs.machine.push_all.Given as goal

abbrev pub invariant-loop-command : goal.invariant-loop-command
invariant-loop-command l = record {
  nodes : l.waiting.nodes ≡ l.initial.waiting.nodes ++ waiting_from l.batch 0 l.queue l.yielded;
  number : l.number ≡ length l.yielded;
  room : l.waiting.room + length l.yielded ≡ l.initial.waiting.room;
  rest : l.fn.nodes.items ≡ l.yielded ++ l.command-iterator.rest.items;
}
