use Rattle.front_moves.specs.Core.{face}
use Rattle.front_moves.proofs.Preparing.{none_pending_apart}
use Rattle.front_moves.proofs.group_core.Core.conflicts.Goals as goal

pub returns : goal.returns
returns c s h = none_pending_apart c.args.reads (face c.args.self.now) c.args.index c.args.object (c.has_pending.ensures.none c.if-has_pending.false)
