use Rattle.std.proofs.Common.{◌≡◌, ◌+◌, ◌-◌, length, get_or, remove}
use Rattle.vk_ready.specs.Halves.{count_below}
use Rattle.vk_ready.proofs.Halves.{IsWalked}
use Rattle.vk_ready.proofs.ranks.Ranks.withdraw.Given as goal

-- the slot of that number lies in the part, and the parts that the walk left do not count it any more
abbrev pub invariant-loop-high : goal.invariant-loop-high
invariant-loop-high l = record {
  count : l.self-inside.count ≡ l.initial.self-inside.count;
  rest : count_below l.fn.self.slots l.low + l.rest ≡ l.number;
  walked : IsWalked l.fn.self.slots (remove l.fn.self.slots l.number) (get_or l.fn.self.slots l.number 0) (length l.initial.self-inside.halves.items) l.self-inside.halves.items l.low l.high;
}

abbrev pub decreases-loop-high : goal.decreases-loop-high
decreases-loop-high l = l.high - l.low
