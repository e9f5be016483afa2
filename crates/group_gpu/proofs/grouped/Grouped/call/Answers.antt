use Rattle.std.proofs.Common.{◌≡◌, true, false, sym, ap, ◌∙◌, subst}
use Rattle.std.specs.Prelude.{None, IfOk, OnErr, is_err}
use Rattle.gl_model.specs.Refusal.{refusal}
use Rattle.back_core.specs.Link.{Link}
use Rattle.back_core.specs.Frame.{AtBack}
use Rattle.front_model.specs.Stands.{BarriersAreLicensed}
use Rattle.front_moves.specs.Core.{face}
use Rattle.front_core.specs.Share.{HasOrigin, is_map_read}
use Rattle.front_core.specs.Polls.{Polls, Flushes}
use Rattle.front_core.specs.Economy.{MayHandOver, due_of, waits_of}
use Rattle.front_core.specs.Front.{HasAnswered, HasStopped}
use Rattle.shared_gpu.specs.Views.{SeatModel}
use Rattle.shared_gpu.specs.Seats.{seat_link}
use Rattle.std.specs.Prelude.{Contains}
use Rattle.group_gpu.specs.Views.{GroupedModel}
use Rattle.group_gpu.specs.Groups.{GroupStands}
use Rattle.group_gpu.proofs.Grouping.{stands_after, moved, same_group}
use Rattle.group_gpu.proofs.grouped.Grouped.call.Goals as goal

-- what the group sees in the end is what it saw after the front's call
now_is : (g : _) (c : goal.After-stop_back-seat g) → seat_link c.stop_back-seat.result ≡ seat_link c.call-answer.new.link.seat
now_is g c = c.stop_back-seat.ensures.link ∙ ap seat_link c.into_seat.ensures.seat

was : (g : _) (c : goal.After-stop_back-seat g) → seat_link c.new-link.result.seat ≡ seat_link c.self.inside.seat
was g c = ap seat_link c.new-link.ensures.seat

pub invariant_of-result : goal.invariant_of-result
invariant_of-result g c =
    let x = c.call-answer in
    subst (λ l. GroupStands x.new.self l) (sym (now_is g c))
    (stands_after x.result c.self.inside.front x.new.self (seat_link x.new.link.seat) c.args.thread c.args.line c.args.call.now c.self.invariant.legal c.self.invariant.declared (subst (λ (m : GroupedModel). Contains m.front.threads c.args.thread) (sym c.self.view_is) c.requires.declared) x.ensures.licensed x.ensures.ok x.ensures.err)

pub returns-clause-ok : goal.returns-clause-ok
returns-clause-ok g c =
    let f = c.self.inside.front in
    let x = c.call-answer in
    rw (← c.self.view_is) (subst (λ (l : Link). IfOk x.result (λ reply. HasAnswered f x.new.self l c.args.thread c.args.line c.args.call.now reply)) (sym (now_is g c)) x.ensures.ok)

pub returns-clause-err : goal.returns-clause-err
returns-clause-err g c =
    let f = c.self.inside.front in
    let x = c.call-answer in
    rw (← c.self.view_is) (subst (λ (l : Link). OnErr x.result (HasStopped f x.new.self l)) (sym (now_is g c)) x.ensures.err)

pub returns-clause-origin : goal.returns-clause-origin
returns-clause-origin g c =
    let f = c.self.inside.front in
    let x = c.call-answer in
    rw (← c.self.view_is) (moved (λ a b. IfOk x.result (λ reply. is_map_read c.args.call.now ≡ true → refusal f.state c.args.thread c.args.call.now ≡ None → HasOrigin a b reply)) _ _ _ _ (was g c) (now_is g c) x.ensures.origin)

pub returns-clause-polls : goal.returns-clause-polls
returns-clause-polls g c =
    let f = c.self.inside.front in
    let x = c.call-answer in
    rw (← c.self.view_is) (moved (λ a b. IfOk x.result (λ reply. refusal f.state c.args.thread c.args.call.now ≡ None → Polls f.syncs a b c.args.call.now reply)) _ _ _ _ (was g c) (now_is g c) x.ensures.polls)

pub returns-clause-flushes : goal.returns-clause-flushes
returns-clause-flushes g c =
    let f = c.self.inside.front in
    let x = c.call-answer in
    rw (← c.self.view_is)
    (subst (λ (l : Link). IfOk x.result (λ reply. refusal f.state c.args.thread c.args.call.now ≡ None → Flushes f.state f.serials f.syncs c.args.thread c.args.call.now (face x.new.self.core) l reply)) (sym (now_is g c)) x.ensures.flushes)

pub returns-clause-licensed : goal.returns-clause-licensed
returns-clause-licensed g c = subst (λ (l : Link). BarriersAreLicensed l) (sym (now_is g c)) c.call-answer.ensures.licensed

pub returns-clause-at_back : goal.returns-clause-at_back
returns-clause-at_back g c =
    let f = c.self.inside.front in
    let x = c.call-answer in
    rw (← c.self.view_is)
    (moved (λ a b. AtBack a b None None (due_of f.state c.args.thread c.args.call.now) (waits_of f.state c.args.thread c.args.call.now) (is_err x.result) (MayHandOver (face f.core) f.state f.serials f.syncs c.args.thread c.args.call.now)) _ _ _ _ (was g c) (now_is g c) x.ensures.at_back)

pub returns-clause-group : goal.returns-clause-group
returns-clause-group g c =
    let link = c.new-link in
    let x = c.call-answer in
    let s = c.into_seat in
    rw (← c.self.view_is)
    (c.stop_back-seat.ensures.group ∙ (ap (λ (m : SeatModel). m.group) s.ensures.seat ∙ (same_group link.result.seat x.new.link.seat x.ensures.at_back.group ∙ ap (λ (m : SeatModel). m.group) link.ensures.seat)))
