use Rattle.std.proofs.Common.{arith}
use Rattle.vk_ready.proofs.list.WaitingNodes.room.Goals as goal

pub overflow_sub-result : goal.overflow_sub-result
overflow_sub-result c =
    let i = c.self.invariant in
    let holders = i.0.holders_size in let ends = i.0.ends_size in let starts = i.5.size in let filed = i.6.size in
    omega (arith, holders, ends, starts, filed, i.3, i.7)
