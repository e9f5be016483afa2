use Rattle.std.proofs.Common.{refl, sym, subst, ◌∙◌, ap, true, false}
use Rattle.gl_calls.specs.declared.call.Call.{Call}
use Rattle.gl_calls.specs.declared.call.Call.TheVariants as call
use Rattle.gl_calls.specs.declared.reply.Reply.TheVariants as reply
use Rattle.gl_calls.specs.declared.reply.Waited.{Waited}
use Rattle.back_core.specs.Frame.{AtBack}
use Rattle.front_moves.specs.Core.{face}
use Rattle.sync_serials.specs.declared.serials.SyncName.TheVariants.{Egl}
use Rattle.front_core.specs.Economy.{IsNeededAnd, IsSyncReason, may_wait}
use Rattle.front_core.specs.Front.{IsServed}
use Rattle.front_core.specs.Polls.{Polls, answer_by}
use Rattle.front_core.proofs.AtTheBack.{may_hand, needed_map}
use Rattle.front_core.proofs.Serving.{poll_reason}
use Rattle.front_core.proofs.share.Share.egl_client_wait.Goals as goal

pub returns-in-Ok-clause-done : goal.returns-in-Ok-clause-done
returns-in-Ok-clause-done g c =
    subst (λ (w : Waited). IsServed (face c.args.self.now.core) (face c.wait_call.new.self.core) (g.L.BackLink.state c.args.link.now) (g.L.BackLink.state c.wait_call.new.link) c.args.self.now.state c.wait_call.new.self.state
    c.args.self.now.serials c.wait_call.new.self.serials c.args.syncs.now c.args.syncs.now c.args.thread c.args.call.now (reply.Waited w))
    (ap (λ (a : Call). answer_by a c.in-Ok.signalled) c.requires.which ∙ sym c.egl_answer.ensures) c.in-Ok.ensures.done

pub returns-in-Ok-clause-polls : goal.returns-in-Ok-clause-polls
returns-in-Ok-clause-polls g c =
    subst (λ (a : Call). Polls c.args.syncs.now (g.L.BackLink.state c.args.link.now) (g.L.BackLink.state c.wait_call.new.link) a (reply.Waited c.egl_answer.result)) (sym c.requires.which)
    (record {
      polled = c.in-Ok.ensures.polled.polled;
      answers = ap reply.Waited (c.egl_answer.ensures ∙ ap (answer_by (call.EglClientWaitSync c.args.number c.args.flush c.args.timeout)) c.in-Ok.ensures.polled.is_signalled);
    })

pub returns-in-Ok-clause-at_back : goal.returns-in-Ok-clause-at_back
returns-in-Ok-clause-at_back g c =
    subst (λ (a : Call). AtBack (g.L.BackLink.state c.args.link.now) (g.L.BackLink.state c.wait_call.new.link) (g.L.BackLink.told c.args.link.now) (g.L.BackLink.told c.wait_call.new.link) 0 (may_wait a) false (IsNeededAnd c.args.syncs.now (IsSyncReason c.args.self.now.state c.args.self.now.serials c.args.syncs.now c.args.thread a))) (sym c.requires.which)
    (may_hand (IsNeededAnd c.args.syncs.now (IsSyncReason c.args.self.now.state c.args.self.now.serials c.args.syncs.now c.args.thread (call.EglClientWaitSync c.args.number c.args.flush c.args.timeout)))
    (needed_map c.args.syncs.now (poll_reason c.args.self.now.state c.args.self.now.serials c.args.syncs.now c.args.thread (call.EglClientWaitSync c.args.number c.args.flush c.args.timeout) (Egl c.args.number) refl)) c.in-Ok.ensures.at_back)

pub returns-in-Err-clause-at_back : goal.returns-in-Err-clause-at_back
returns-in-Err-clause-at_back g c =
    subst (λ (a : Call). AtBack (g.L.BackLink.state c.args.link.now) (g.L.BackLink.state c.wait_call.new.link) (g.L.BackLink.told c.args.link.now) (g.L.BackLink.told c.wait_call.new.link) 0 (may_wait a) true (IsNeededAnd c.args.syncs.now (IsSyncReason c.args.self.now.state c.args.self.now.serials c.args.syncs.now c.args.thread a))) (sym c.requires.which)
    (may_hand (IsNeededAnd c.args.syncs.now (IsSyncReason c.args.self.now.state c.args.self.now.serials c.args.syncs.now c.args.thread (call.EglClientWaitSync c.args.number c.args.flush c.args.timeout)))
    (needed_map c.args.syncs.now (poll_reason c.args.self.now.state c.args.self.now.serials c.args.syncs.now c.args.thread (call.EglClientWaitSync c.args.number c.args.flush c.args.timeout) (Egl c.args.number) refl)) c.in-Err.ensures.at_back)
