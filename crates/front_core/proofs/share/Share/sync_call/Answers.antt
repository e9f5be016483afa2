use Rattle.std.proofs.Common.{sym, subst, arith}
use Rattle.std.specs.Prelude.{IfOk, is_err}
use Rattle.std.proofs.lemmas.Bool.{false≢true}
use Rattle.gl_calls.specs.declared.call.Call.{Call}
use Rattle.back_core.proofs.Frames.{within, no_batch}
use Rattle.front_moves.specs.Core.{face}
use Rattle.front_core.specs.Economy.{IsNeededAnd, IsSyncReason, may_wait}
use Rattle.front_core.specs.Front.{MayServe, IsServed}
use Rattle.front_core.proofs.share.Share.sync_call.Goals as goal

pub returns-in-FenceSync-clause-at_back : goal.returns-in-FenceSync-clause-at_back
returns-in-FenceSync-clause-at_back g c =
    within 0 (may_wait c.args.call.now) (is_err c.make_sync.result) (IsNeededAnd c.args.syncs.now (IsSyncReason c.args.self.now.state c.args.self.now.serials c.args.syncs.now c.args.thread c.args.call.now)) (omega arith)
    (λ on. absurd (false≢true on)) (λ on. on) (no_batch (IsNeededAnd c.args.syncs.now (IsSyncReason c.args.self.now.state c.args.self.now.serials c.args.syncs.now c.args.thread c.args.call.now))) c.make_sync.ensures.at_back

pub returns-in-CreateSync-clause-at_back : goal.returns-in-CreateSync-clause-at_back
returns-in-CreateSync-clause-at_back g c =
    within 0 (may_wait c.args.call.now) (is_err c.make_sync-in-CreateSync.result) (IsNeededAnd c.args.syncs.now (IsSyncReason c.args.self.now.state c.args.self.now.serials c.args.syncs.now c.args.thread c.args.call.now)) (omega arith)
    (λ on. absurd (false≢true on)) (λ on. on) (no_batch (IsNeededAnd c.args.syncs.now (IsSyncReason c.args.self.now.state c.args.self.now.serials c.args.syncs.now c.args.thread c.args.call.now))) c.make_sync-in-CreateSync.ensures.at_back

pub returns-in-DeleteSync-clause-at_back : goal.returns-in-DeleteSync-clause-at_back
returns-in-DeleteSync-clause-at_back g c =
    within 0 (may_wait c.args.call.now) (is_err c.end_sync.result) (IsNeededAnd c.args.syncs.now (IsSyncReason c.args.self.now.state c.args.self.now.serials c.args.syncs.now c.args.thread c.args.call.now)) (omega arith)
    (λ on. absurd (false≢true on)) (λ on. on) (no_batch (IsNeededAnd c.args.syncs.now (IsSyncReason c.args.self.now.state c.args.self.now.serials c.args.syncs.now c.args.thread c.args.call.now))) c.end_sync.ensures.at_back

pub returns-in-DestroySync-clause-at_back : goal.returns-in-DestroySync-clause-at_back
returns-in-DestroySync-clause-at_back g c =
    within 0 (may_wait c.args.call.now) (is_err c.end_sync-in-DestroySync.result) (IsNeededAnd c.args.syncs.now (IsSyncReason c.args.self.now.state c.args.self.now.serials c.args.syncs.now c.args.thread c.args.call.now)) (omega arith)
    (λ on. absurd (false≢true on)) (λ on. on) (no_batch (IsNeededAnd c.args.syncs.now (IsSyncReason c.args.self.now.state c.args.self.now.serials c.args.syncs.now c.args.thread c.args.call.now))) c.end_sync-in-DestroySync.ensures.at_back

pub flush_call-requires-clause-may : goal.flush_call-requires-clause-may
flush_call-requires-clause-may g c =
    subst (λ (a : Call). MayServe (face c.args.self.now.core) (g.L.BackLink.state c.args.link.now) c.args.self.now.state c.args.self.now.serials c.args.syncs.now c.args.thread a) c.in-Flush.is c.requires.may

pub returns-in-Flush-clause-done : goal.returns-in-Flush-clause-done
returns-in-Flush-clause-done g c =
    subst (λ (a : Call). IfOk c.flush_call.result (λ reply. IsServed (face c.args.self.now.core) (face c.flush_call.new.self.core) (g.L.BackLink.state c.args.link.now) (g.L.BackLink.state c.flush_call.new.link) c.args.self.now.state c.flush_call.new.self.state
    c.args.self.now.serials c.flush_call.new.self.serials c.args.syncs.now c.args.syncs.now c.args.thread a reply)) (sym c.in-Flush.is) c.flush_call.ensures.done

pub finish_call-requires-clause-may : goal.finish_call-requires-clause-may
finish_call-requires-clause-may g c =
    subst (λ (a : Call). MayServe (face c.args.self.now.core) (g.L.BackLink.state c.args.link.now) c.args.self.now.state c.args.self.now.serials c.args.syncs.now c.args.thread a) c.in-Finish.is c.requires.may

pub returns-in-Finish-clause-done : goal.returns-in-Finish-clause-done
returns-in-Finish-clause-done g c =
    subst (λ (a : Call). IfOk c.finish_call.result (λ reply. IsServed (face c.args.self.now.core) (face c.finish_call.new.self.core) (g.L.BackLink.state c.args.link.now) (g.L.BackLink.state c.finish_call.new.link) c.args.self.now.state c.finish_call.new.self.state
    c.args.self.now.serials c.finish_call.new.self.serials c.args.syncs.now c.args.syncs.now c.args.thread a reply)) (sym c.in-Finish.is) c.finish_call.ensures.done
