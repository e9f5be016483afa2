use Rattle.std.proofs.Common.{length, ap, arith}
use Rattle.vk_machine.proofs.Calls.{keeps_nothing}
use Rattle.vk_machine.proofs.machine.Machine.new.Goals as goal

pub invariant_of-result : goal.invariant_of-result
invariant_of-result c = (
  keeps_nothing _ _ _ c.new-2.ensures.items c.new.ensures.none c.new-3.ensures,
  omega (arith, c.new-2.ensures.len, c.new.ensures.count, ap length c.new-3.ensures),
)
