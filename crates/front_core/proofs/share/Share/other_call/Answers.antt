use Rattle.std.proofs.Common.{arith}
use Rattle.back_core.proofs.Frames.{no_batch}
use Rattle.front_moves.specs.Core.{face}
use Rattle.front_core.specs.Economy.{IsTrueReason, upload_due, may_wait}
use Rattle.front_core.proofs.AtTheBack.{may_hand, at_most}
use Rattle.front_core.proofs.share.Share.other_call.Goals as goal

pub returns-else-reaches_buffers-clause-at_back : goal.returns-else-reaches_buffers-clause-at_back
returns-else-reaches_buffers-clause-at_back g c =
    at_most (upload_due c.args.self.now.state c.args.thread c.args.call.now) (may_wait c.args.call.now) (omega arith)
    (may_hand (IsTrueReason (face c.args.self.now.core) c.args.self.now.state c.args.self.now.serials c.args.thread c.args.call.now) (no_batch (IsTrueReason (face c.args.self.now.core) c.args.self.now.state c.args.self.now.serials c.args.thread c.args.call.now)) c.state_call.ensures.at_back)
