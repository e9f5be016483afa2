use Rattle.front_moves.specs.Core.{face}
use Rattle.front_core.proofs.AnsweredCalls.{along_call}
use Rattle.back_core.proofs.Frames.{no_batch}
use Rattle.front_core.specs.Economy.{IsNeededAnd, IsTrueReason}
use Rattle.front_core.proofs.AtTheBack.{may_hand}
use Rattle.front_core.proofs.share.Share.context_call.Goals as goal

pub returns-in-CreateContext-clause-done : goal.returns-in-CreateContext-clause-done
returns-in-CreateContext-clause-done g c =
    along_call (face c.args.self.now.core) (face c.create_context.new.self.core) (g.L.BackLink.state c.args.link.now) (g.L.BackLink.state c.create_context.new.link)
    c.args.self.now.state c.create_context.new.self.state c.args.thread c.args.call.now _ c.create_context.result c.create_context.ensures.done c.in-CreateContext.is

pub returns-in-DestroyContext-clause-done : goal.returns-in-DestroyContext-clause-done
returns-in-DestroyContext-clause-done g c =
    along_call (face c.args.self.now.core) (face c.destroy_context.new.self.core) (g.L.BackLink.state c.args.link.now) (g.L.BackLink.state c.destroy_context.new.link)
    c.args.self.now.state c.destroy_context.new.self.state c.args.thread c.args.call.now _ c.destroy_context.result c.destroy_context.ensures.done c.in-DestroyContext.is

pub returns-in-MakeCurrent-clause-done : goal.returns-in-MakeCurrent-clause-done
returns-in-MakeCurrent-clause-done g c =
    along_call (face c.args.self.now.core) (face c.make_current.new.self.core) (g.L.BackLink.state c.args.link.now) (g.L.BackLink.state c.make_current.new.link)
    c.args.self.now.state c.make_current.new.self.state c.args.thread c.args.call.now _ c.make_current.result c.make_current.ensures.done c.in-MakeCurrent.is

pub returns-in-CreateContext-clause-at_back : goal.returns-in-CreateContext-clause-at_back
returns-in-CreateContext-clause-at_back g c =
    may_hand (IsNeededAnd c.args.syncs.now (IsTrueReason (face c.args.self.now.core) c.args.self.now.state c.args.self.now.serials c.args.thread c.args.call.now)) (no_batch (IsNeededAnd c.args.syncs.now (IsTrueReason (face c.args.self.now.core) c.args.self.now.state c.args.self.now.serials c.args.thread c.args.call.now))) c.create_context.ensures.at_back

pub returns-in-DestroyContext-clause-at_back : goal.returns-in-DestroyContext-clause-at_back
returns-in-DestroyContext-clause-at_back g c =
    may_hand (IsNeededAnd c.args.syncs.now (IsTrueReason (face c.args.self.now.core) c.args.self.now.state c.args.self.now.serials c.args.thread c.args.call.now)) (no_batch (IsNeededAnd c.args.syncs.now (IsTrueReason (face c.args.self.now.core) c.args.self.now.state c.args.self.now.serials c.args.thread c.args.call.now))) c.destroy_context.ensures.at_back
