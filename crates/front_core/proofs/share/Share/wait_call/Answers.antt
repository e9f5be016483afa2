use Rattle.std.proofs.Common.{ℕ, true, false, refl, sym, subst, ◌∙◌, arith, not, ◌==◌}
use Rattle.std.proofs.lemmas.Bool.{false≢true}
use Rattle.gl_calls.specs.declared.reply.Reply.TheVariants as reply
use Rattle.tables.specs.Table.{Entries}
use Rattle.gl_model.specs.declared.state.GroupState.{GroupState}
use Rattle.back_core.proofs.Frames.{then_within, no_batch, within}
use Rattle.front_moves.specs.Core.{face}
use Rattle.sync_serials.specs.Serials.{HasGoneOn}
use Rattle.front_core.specs.Economy.{IsNeededAnd, IsForPoll}
use Rattle.front_core.specs.Front.{IsServed}
use Rattle.front_core.specs.Polls.{IsPoll, answer_by, timeout_of}
use Rattle.front_core.proofs.GoingOn.{gone_on}
use Rattle.front_core.proofs.Serving.{gone_then, poll_from, made_still, poll_batches}
use Rattle.front_core.proofs.AtTheBack.{needed_map}
use Rattle.front_core.proofs.share.Share.wait_call.Goals as goal

pub poll-requires-clause-there : goal.poll-requires-clause-there
poll-requires-clause-there g c =
    c.syncs_are_there.ensures.found (face c.args.self.now.core) (g.L.BackLink.state c.args.link.now) c.args.self.now.state c.args.self.now.serials c.args.syncs.now c.args.thread c.args.call.now c.args.name c.requires.may c.requires.asks

pub poll-requires-clause-made : goal.poll-requires-clause-made
poll-requires-clause-made g c =
    let first : HasGoneOn (face c.args.self.now.core) (face c.change_by_wait.new.self.core) (g.L.BackLink.state c.args.link.now) (g.L.BackLink.state c.change_by_wait.new.link)
    = gone_on c.args.self.now.core c.change_by_wait.new.self.core c.requires.may.may.backs.holds c.in-Ok.ensures.changed.backs.holds c.change_by_wait.ensures.group c.in-Ok.ensures.at_back in
    λ serial at. made_still (face c.args.self.now.core) (face c.change_by_wait.new.self.core) (g.L.BackLink.state c.args.link.now) (g.L.BackLink.state c.change_by_wait.new.link) c.args.syncs.now serial first
    (c.syncs_are_there.ensures.made (face c.args.self.now.core) (g.L.BackLink.state c.args.link.now) c.args.self.now.state c.args.self.now.serials c.args.syncs.now c.args.thread c.args.call.now c.args.name serial c.requires.may at)

pub returns-in-Ok-poll-clause-polled : goal.returns-in-Ok-poll-clause-polled
returns-in-Ok-poll-clause-polled g c =
    poll_from c.args.syncs.now (g.L.BackLink.state c.args.link.now) (g.L.BackLink.state c.change_by_wait.new.link) (g.L.BackLink.state c.poll.new.link) c.args.name c.args.timeout c.in-Ok-poll.signalled
    c.in-Ok.ensures.at_back.known (c.in-Ok.ensures.at_back.still refl) c.in-Ok.ensures.at_back.loaded c.in-Ok-poll.ensures.polled

pub returns-in-Ok-poll-clause-done : goal.returns-in-Ok-poll-clause-done
returns-in-Ok-poll-clause-done g c =
    let f = face c.args.self.now.core in
    let m = face c.change_by_wait.new.self.core in
    let h = face c.poll.new.self.core in
    let s = g.L.BackLink.state c.args.link.now in
    let u = g.L.BackLink.state c.change_by_wait.new.link in
    let t = g.L.BackLink.state c.poll.new.link in
    let first : HasGoneOn f m s u = gone_on c.args.self.now.core c.change_by_wait.new.self.core c.requires.may.may.backs.holds c.in-Ok.ensures.changed.backs.holds c.change_by_wait.ensures.group c.in-Ok.ensures.at_back in
    let second : HasGoneOn m h u t = gone_on c.change_by_wait.new.self.core c.poll.new.self.core c.in-Ok.ensures.changed.backs.holds c.in-Ok-poll.ensures.stays.holds c.poll.ensures.group c.in-Ok-poll.ensures.at_back in
    let polled : IsPoll c.args.syncs.now s t c.args.name (timeout_of c.args.call.now) c.in-Ok-poll.signalled
    = subst (λ n. IsPoll c.args.syncs.now s t c.args.name n c.in-Ok-poll.signalled) c.requires.timeout
    (poll_from c.args.syncs.now s u t c.args.name c.args.timeout c.in-Ok-poll.signalled c.in-Ok.ensures.at_back.known (c.in-Ok.ensures.at_back.still refl) c.in-Ok.ensures.at_back.loaded c.in-Ok-poll.ensures.polled) in
    subst (λ (x : GroupState). IsServed f h s t c.args.self.now.state x c.args.self.now.serials c.poll.new.self.serials c.args.syncs.now c.args.syncs.now c.args.thread c.args.call.now (reply.Waited (answer_by c.args.call.now c.in-Ok-poll.signalled))) (sym c.poll.ensures.state)
    (subst (λ (x : Entries ℕ). IsServed f h s t c.args.self.now.state c.change_by_wait.new.self.state c.args.self.now.serials x c.args.syncs.now c.args.syncs.now c.args.thread c.args.call.now (reply.Waited (answer_by c.args.call.now c.in-Ok-poll.signalled)))
    (sym (c.poll.ensures.serials ∙ c.change_by_wait.ensures.serials))
    (c.waits_come_to.ensures.served f m h s u t c.args.self.now.state c.change_by_wait.new.self.state c.args.self.now.serials c.args.syncs.now c.args.thread c.args.call.now c.args.name c.in-Ok-poll.signalled
    c.requires.may c.requires.asks c.in-Ok.ensures.changed c.in-Ok-poll.ensures.stays (gone_then f m h s u t first second) polled))

pub returns-in-Ok-poll-clause-at_back : goal.returns-in-Ok-poll-clause-at_back
returns-in-Ok-poll-clause-at_back g c =
    then_within 0 (not (c.args.timeout == 0)) false (IsNeededAnd c.args.syncs.now (IsForPoll c.args.self.now.state c.args.self.now.serials c.args.syncs.now c.args.thread c.args.name c.args.flush c.args.timeout)) (omega arith)
    (λ on. absurd (false≢true on)) (λ on. on) (λ on. on) (λ on. on)
    (no_batch (IsNeededAnd c.args.syncs.now (IsForPoll c.args.self.now.state c.args.self.now.serials c.args.syncs.now c.args.thread c.args.name c.args.flush c.args.timeout)))
    (needed_map c.args.syncs.now (poll_batches c.args.self.now.state c.change_by_wait.new.self.state c.args.self.now.serials c.change_by_wait.new.self.serials c.args.syncs.now c.args.thread c.args.call.now c.args.name c.args.flush c.args.timeout c.requires.asks c.in-Ok.ensures.changed.state c.change_by_wait.ensures.serials))
    c.in-Ok.ensures.at_back c.in-Ok-poll.ensures.at_back

pub returns-in-Err-poll-clause-at_back : goal.returns-in-Err-poll-clause-at_back
returns-in-Err-poll-clause-at_back g c =
    then_within 0 (not (c.args.timeout == 0)) true (IsNeededAnd c.args.syncs.now (IsForPoll c.args.self.now.state c.args.self.now.serials c.args.syncs.now c.args.thread c.args.name c.args.flush c.args.timeout)) (omega arith)
    (λ on. absurd (false≢true on)) (λ on. on) (λ on. refl) (λ on. refl)
    (no_batch (IsNeededAnd c.args.syncs.now (IsForPoll c.args.self.now.state c.args.self.now.serials c.args.syncs.now c.args.thread c.args.name c.args.flush c.args.timeout)))
    (needed_map c.args.syncs.now (poll_batches c.args.self.now.state c.change_by_wait.new.self.state c.args.self.now.serials c.change_by_wait.new.self.serials c.args.syncs.now c.args.thread c.args.call.now c.args.name c.args.flush c.args.timeout c.requires.asks c.in-Ok.ensures.changed.state c.change_by_wait.ensures.serials))
    c.in-Ok.ensures.at_back c.poll.ensures.at_back

pub returns-in-Err-clause-at_back : goal.returns-in-Err-clause-at_back
returns-in-Err-clause-at_back g c =
    within 0 (not (c.args.timeout == 0)) true (IsNeededAnd c.args.syncs.now (IsForPoll c.args.self.now.state c.args.self.now.serials c.args.syncs.now c.args.thread c.args.name c.args.flush c.args.timeout)) (omega arith)
    (λ on. absurd (false≢true on)) (λ on. refl) (no_batch (IsNeededAnd c.args.syncs.now (IsForPoll c.args.self.now.state c.args.self.now.serials c.args.syncs.now c.args.thread c.args.name c.args.flush c.args.timeout)))
    c.in-Err.ensures.at_back
