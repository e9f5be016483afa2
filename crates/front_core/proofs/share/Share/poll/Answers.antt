use Rattle.std.proofs.Common.{◌≡◌, ◌<◌, ◌≤◌, rules, true, false, refl, arith, not, ◌==◌, nat_le, Some}
use Rattle.std.proofs.lemmas.Bool.{false≢true}
use Rattle.back_core.proofs.Frames.{within, then_within, no_batch}
use Rattle.front_moves.specs.Core.{face}
use Rattle.sync_serials.specs.Serials.{serial_at}
use Rattle.front_core.specs.Economy.{IsNeededAnd, IsForPoll}
use Rattle.front_core.proofs.SyncMoves.{stays_then, found_signalled, found_unsignalled, for_poll}
use Rattle.front_core.proofs.AtTheBack.{needed_map}
use Rattle.front_core.proofs.share.Share.poll.Goals as goal

pub returns-then-serial-completed-clause-polled : goal.returns-then-serial-completed-clause-polled
returns-then-serial-completed-clause-polled g c =
    let at : serial_at c.args.syncs.now c.args.name ≡ Some c.in-Some.serial = search rules in
    let low : c.in-Some.serial.number ≤ c.completed-completed.result = search rules in
    let is : nat_le c.in-Some.serial.number c.completed-completed.result ≡ true = search rules in
    found_signalled c.args.syncs.now (g.L.BackLink.state c.args.link.now) (g.L.BackLink.state c.completed-completed.new.link) c.args.name c.args.timeout c.in-Some.serial c.completed-completed.result at c.completed-completed.ensures.answer low is

pub returns-then-serial-completed-clause-at_back : goal.returns-then-serial-completed-clause-at_back
returns-then-serial-completed-clause-at_back g c =
    within 0 (not (c.args.timeout == 0)) false (IsNeededAnd c.args.syncs.now (IsForPoll c.args.self.now.state c.args.self.now.serials c.args.syncs.now c.args.thread c.args.name c.args.flush c.args.timeout)) (omega arith)
    (λ on. absurd (false≢true on)) (λ on. on) (no_batch (IsNeededAnd c.args.syncs.now (IsForPoll c.args.self.now.state c.args.self.now.serials c.args.syncs.now c.args.thread c.args.name c.args.flush c.args.timeout))) c.completed-completed.ensures.at_back

pub unsignalled-requires-clause-made : goal.unsignalled-requires-clause-made
unsignalled-requires-clause-made g c =
    let at : serial_at c.args.syncs.now c.args.name ≡ Some c.in-Some.serial = search rules in
    c.requires.made c.in-Some.serial at

pub returns-in-Ok-clause-stays : goal.returns-in-Ok-clause-stays
returns-in-Ok-clause-stays g c =
    stays_then (face c.args.self.now.core) (face c.args.self.now.core) (face c.unsignalled.new.self.core) (g.L.BackLink.state c.args.link.now) (g.L.BackLink.state c.completed-completed.new.link) (g.L.BackLink.state c.unsignalled.new.link)
    c.completed-completed.ensures.moved c.in-Ok.ensures.stays

pub returns-in-Ok-clause-polled : goal.returns-in-Ok-clause-polled
returns-in-Ok-clause-polled g c =
    let at : serial_at c.args.syncs.now c.args.name ≡ Some c.in-Some.serial = search rules in
    let above : c.completed-completed.result < c.in-Some.serial.number = search rules in
    let is : nat_le c.in-Some.serial.number c.completed-completed.result ≡ false = search rules in
    found_unsignalled c.args.syncs.now (g.L.BackLink.state c.args.link.now) (g.L.BackLink.state c.completed-completed.new.link) (g.L.BackLink.state c.unsignalled.new.link) c.args.name c.args.timeout c.in-Some.serial c.completed-completed.result
    at c.completed-completed.ensures.answer is above c.in-Ok.ensures.at_back.loaded c.in-Ok.ensures.retired c.in-Ok.ensures.known c.in-Ok.ensures.asked

pub returns-in-Ok-clause-at_back : goal.returns-in-Ok-clause-at_back
returns-in-Ok-clause-at_back g c =
    let at : serial_at c.args.syncs.now c.args.name ≡ Some c.in-Some.serial = search rules in
    then_within 0 (not (c.args.timeout == 0)) false (IsNeededAnd c.args.syncs.now (IsForPoll c.args.self.now.state c.args.self.now.serials c.args.syncs.now c.args.thread c.args.name c.args.flush c.args.timeout)) (omega arith)
    (λ on. absurd (false≢true on)) (λ on. on) (λ on. on) (λ on. on)
    (no_batch (IsNeededAnd c.args.syncs.now (IsForPoll c.args.self.now.state c.args.self.now.serials c.args.syncs.now c.args.thread c.args.name c.args.flush c.args.timeout)))
    (needed_map c.args.syncs.now (for_poll c.args.self.now.state c.args.self.now.serials c.args.syncs.now c.args.thread c.args.name c.in-Some.serial c.args.flush c.args.timeout at))
    c.completed-completed.ensures.at_back c.in-Ok.ensures.at_back

pub returns-in-Err-clause-at_back : goal.returns-in-Err-clause-at_back
returns-in-Err-clause-at_back g c =
    let at : serial_at c.args.syncs.now c.args.name ≡ Some c.in-Some.serial = search rules in
    then_within 0 (not (c.args.timeout == 0)) true (IsNeededAnd c.args.syncs.now (IsForPoll c.args.self.now.state c.args.self.now.serials c.args.syncs.now c.args.thread c.args.name c.args.flush c.args.timeout)) (omega arith)
    (λ on. absurd (false≢true on)) (λ on. on) (λ on. refl) (λ on. refl)
    (no_batch (IsNeededAnd c.args.syncs.now (IsForPoll c.args.self.now.state c.args.self.now.serials c.args.syncs.now c.args.thread c.args.name c.args.flush c.args.timeout)))
    (needed_map c.args.syncs.now (for_poll c.args.self.now.state c.args.self.now.serials c.args.syncs.now c.args.thread c.args.name c.in-Some.serial c.args.flush c.args.timeout at))
    c.completed-completed.ensures.at_back c.unsignalled.ensures.at_back
