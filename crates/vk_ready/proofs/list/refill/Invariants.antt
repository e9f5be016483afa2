use Rattle.std.proofs.Common.{◌≡◌, ◌+◌, ◌++◌, length}
use Rattle.vk_ready.specs.Slots.{waiting_in}
use Rattle.vk_ready.proofs.list.refill.Given as goal

-- what waits in the slots so far was pushed
abbrev pub invariant-loop-slot : goal.invariant-loop-slot
invariant-loop-slot l = record {
  nodes : l.waiting.nodes ≡ l.initial.waiting.nodes ++ waiting_in l.yielded;
  room : l.waiting.room + length (waiting_in l.yielded) ≡ l.initial.waiting.room;
  rest : l.fn.slots.items ≡ l.yielded ++ l.slot-iterator.rest.items;
}
