use Rattle.vk_ready.specs.Slots.{AreGone}
use Rattle.vk_ready.proofs.list.first_waiting.Given as goal

-- all slots so far are empty
abbrev pub invariant-loop-k : goal.invariant-loop-k
invariant-loop-k l = AreGone l.slots l.k
