use Rattle.std.proofs.Common.{◌≡◌, false, sym, ap, ◌∙◌, arith, subst}
use Rattle.std.specs.Prelude.{None, is_err, Contains}
use Rattle.std.specs.List.{All}
use Rattle.std.proofs.lemmas.Bool.{false≢true}
use Rattle.back_core.specs.Frame.{AtBack}
use Rattle.back_core.proofs.Frames.{then_within, no_batch}
use Rattle.front_core.specs.Economy.{IsEndingBatch}
use Rattle.shared_gpu.specs.Views.{SeatModel}
use Rattle.shared_gpu.specs.Seats.{seat_link}
use Rattle.group_gpu.proofs.Grouping.{moved, same_group, same_rest, closed_then, licensed_still}
use Rattle.back_core.specs.Link.{Link}
use Rattle.group_gpu.proofs.grouped.Grouped.end.Goals as goal

pub returns-clause-at_back : goal.returns-clause-at_back
returns-clause-at_back g c =
    let x = c.close_running-answer in
    let y = c.abandon-history in
    let u = c.stop_back-seat in
    let may = IsEndingBatch c.self.inside.front.syncs in
    rw (← c.self.view_is)
    (moved (λ a b. AtBack a b None None 0 false (is_err x.result) may) _ _ _ _ (ap seat_link c.new-link.ensures.seat) (u.ensures.link ∙ ap seat_link c.into_seat.ensures.seat)
    (then_within 0 false (is_err x.result) may (omega arith) (λ on. on) (λ on. on) (λ on. on) (λ on. absurd (false≢true on)) (λ batch ends. ends) (no_batch may) x.ensures.at_back y.ensures.at_back))

pub returns-clause-group : goal.returns-clause-group
returns-clause-group g c =
    let link = c.new-link in
    let x = c.close_running-answer in
    let y = c.abandon-history in
    let s = c.into_seat in
    rw (← c.self.view_is)
    (c.stop_back-seat.ensures.group ∙ (ap (λ (m : SeatModel). m.group) s.ensures.seat ∙ (same_group link.result.seat y.new.link.seat (y.ensures.at_back.group ∙ x.ensures.at_back.group) ∙ ap (λ (m : SeatModel). m.group) link.ensures.seat)))

-- what the group sees in the end is what it saw after it was closed, but for the handles that were let go
rest_is : (g : _) (c : goal.After-stop_back-seat g) → seat_link c.stop_back-seat.result ≡ record (seat_link c.close_running-answer.new.link.seat) { held = (seat_link c.stop_back-seat.result).held }
rest_is g c =
    let y = c.abandon-history in
    same_rest (seat_link c.close_running-answer.new.link.seat) (seat_link y.new.link.seat) (seat_link c.stop_back-seat.result) y.ensures.rest (c.stop_back-seat.ensures.link ∙ ap seat_link c.into_seat.ensures.seat)

pub returns-clause-closed : goal.returns-clause-closed
returns-clause-closed g c =
    let x = c.close_running-answer in
    rw (← c.self.view_is) (closed_then x.result c.self.inside.front x.new.front (seat_link x.new.link.seat) (seat_link c.stop_back-seat.result) (rest_is g c) x.ensures.closed)

pub returns-clause-licensed : goal.returns-clause-licensed
returns-clause-licensed g c =
    let x = c.close_running-answer in
    licensed_still (seat_link x.new.link.seat) (seat_link c.stop_back-seat.result) (rest_is g c) x.ensures.licensed

pub returns-clause-declared : goal.returns-clause-declared
returns-clause-declared g c =
    let f = c.self.inside.front in
    rw (← c.self.view_is) (subst (λ h. All (λ e. Contains f.threads e.thread) h) (sym (c.abandon-history.ensures.history ∙ c.close_running-answer.ensures.history)) c.self.invariant.declared)
