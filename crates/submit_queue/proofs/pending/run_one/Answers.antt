use Rattle.std.proofs.Common.{sym}
use Rattle.submit_queue.proofs.Counts.{lowered-set, lowered-past}
use Rattle.submit_queue.proofs.pending.run_one.Goals as goal

pub returns-in-Some : goal.returns-in-Some
returns-in-Some c = rw c.saturating_sub-one.ensures (lowered-set c.args.pending.now.items c.args.place c.in-Some.one.now c.in-Some.ensures.value)

pub returns-in_default : goal.returns-in_default
returns-in_default c = sym (lowered-past c.args.pending.now.items c.args.place c.in_default.ensures.item.3)
