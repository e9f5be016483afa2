use Rattle.std.proofs.Common.{◌≡◌, ◌-◌, length, insert}
use Rattle.vk_ready.specs.Halves.{count_below}
use Rattle.vk_ready.proofs.Halves.{IsWalked}
use Rattle.vk_ready.proofs.ranks.Ranks.offer.Given as goal

-- the parts that the walk left count the slot too
abbrev pub invariant-loop-high : goal.invariant-loop-high
invariant-loop-high l = record {
  count : l.self-inside.count ≡ l.initial.self-inside.count;
  walked : IsWalked l.fn.self.slots (insert l.fn.self.slots (count_below l.fn.self.slots l.slot) l.slot) l.slot (length l.initial.self-inside.halves.items) l.self-inside.halves.items l.low l.high;
}

abbrev pub decreases-loop-high : goal.decreases-loop-high
decreases-loop-high l = l.high - l.low
