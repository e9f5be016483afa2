use Rattle.std.proofs.Common.{false, arith}
use Rattle.back_core.proofs.Frames.{none_done, within, no_batch}
use Rattle.front_core.specs.Economy.{IsEndingBatch}
use Rattle.group_gpu.proofs.grouped.close_running.Goals as goal

pub returns-then-is_stopped-clause-at_back : goal.returns-then-is_stopped-clause-at_back
returns-then-is_stopped-clause-at_back g c =
    let may = IsEndingBatch c.args.front.now.syncs in
    within 0 false false may (omega arith) (λ on. on) (λ on. on) (no_batch may) (none_done (g.L.BackLink.state c.args.link.now) (g.L.BackLink.told c.args.link.now))
