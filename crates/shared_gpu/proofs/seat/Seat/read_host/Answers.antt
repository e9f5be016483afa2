use Rattle.std.proofs.Common.{sym, subst}
use Rattle.turnstile.proofs.Beginnings.{prefix_trans}
use Rattle.back_core.specs.declared.back_event.BackEvent.TheVariants.{Fetched}
use Rattle.back_core.specs.Link.{fetched}
use Rattle.shared_gpu.proofs.Replies.{adds_reply, link_ok, link_err, stopped_seen, host_may, readable_too, bytes_too}
use Rattle.shared_gpu.proofs.Steps.{mine_fetched}
use Rattle.shared_gpu.proofs.seat.Seat.read_host.Goals as goal
use Rattle.back_core.specs.Needs.{HostMay}
use Rattle.std.specs.Prelude.{length}
use Rattle.shared_gpu.specs.Seats.{seat_link}
use Rattle.shared_gpu.specs.Views.{SeatModel}
use Rattle.back_core.specs.Own.{log_of, IsReadable}

pub put-requires-clause-adds : goal.put-requires-clause-adds
put-requires-clause-adds g c =
    let s = c.self.inside in
    let t = c.take-turn in
    let x = c.read_host-answer in
    let h = t.result.value.history in
    adds_reply s.group t.result.value.opened x.new.self.opened s.pass t.new.pass h x.new.self.history t.ensures.taken x.ensures.opened c.what_a_group_sees.ensures.others x.result (λ u. Fetched s.group c.args.id c.args.at x.new.out) (λ u l. fetched l c.args.id.0 c.args.at x.new.out) (λ u. mine_fetched s.group h c.args.id c.args.at x.new.out) x.ensures.ok x.ensures.err

pub returns-clause-ok : goal.returns-clause-ok
returns-clause-ok g c =
    let s = c.self.inside in
    let t = c.take-turn in
    let x = c.read_host-answer in
    let h = t.result.value.history in
    rw (← c.self.view_is) (link_ok s.group t.result.value.opened x.new.self.opened s.pass t.new.pass c.put.new.pass h x.new.self.history t.ensures.taken x.ensures.opened c.put.ensures.given x.result (λ u. Fetched s.group c.args.id c.args.at x.new.out) (λ u l. fetched l c.args.id.0 c.args.at x.new.out) (λ u. mine_fetched s.group h c.args.id c.args.at x.new.out) x.ensures.ok)

pub returns-clause-err : goal.returns-clause-err
returns-clause-err g c =
    let s = c.self.inside in
    let t = c.take-turn in
    let x = c.read_host-answer in
    let h = t.result.value.history in
    rw (← c.self.view_is) (link_err s.group t.result.value.opened x.new.self.opened s.pass t.new.pass c.put.new.pass h x.new.self.history t.ensures.taken x.ensures.opened c.put.ensures.given c.what_a_group_sees.ensures.others x.result x.ensures.err)

pub returns-clause-stopped : goal.returns-clause-stopped
returns-clause-stopped g c =
    let s = c.self.inside in
    let t = c.take-turn in
    let x = c.read_host-answer in
    let h = t.result.value.history in
    stopped_seen s.group t.result.value.opened x.new.self.opened s.pass t.new.pass c.put.new.pass h x.new.self.history t.ensures.taken x.ensures.opened c.put.ensures.given x.result x.ensures.first

pub returns-clause-begins : goal.returns-clause-begins
returns-clause-begins g c =
    let s = c.self.inside in
    rw (← c.self.view_is) (prefix_trans s.pass.seen c.take-turn.new.pass.seen c.put.new.pass.seen c.take-turn.ensures.begins c.put.ensures.begins)

pub returns-clause-bytes : goal.returns-clause-bytes
returns-clause-bytes g c =
    let s = c.self.inside in
    let t = c.take-turn in
    let x = c.read_host-answer in
    rw (← c.self.view_is) (bytes_too s.group t.result.value.opened s.pass t.new.pass t.result.value.history t.ensures.taken x.result c.args.id.0 c.args.at (length c.args.out.now) x.new.out x.ensures.bytes)

pub read_host-answer-requires-clause-may : goal.read_host-answer-requires-clause-may
read_host-answer-requires-clause-may g c =
    let s = c.self.inside in
    let t = c.take-turn in
    host_may s.group t.result.value.opened s.pass t.new.pass t.result.value.history t.ensures.taken c.args.id.0 c.args.at (length c.args.out.now)
    (subst (λ (m : SeatModel). HostMay (seat_link m) c.args.id.0 c.args.at (length c.args.out.now)) (sym c.self.view_is) c.requires.may)

pub read_host-answer-requires-clause-readable : goal.read_host-answer-requires-clause-readable
read_host-answer-requires-clause-readable g c =
    let s = c.self.inside in
    let t = c.take-turn in
    readable_too s.group t.result.value.opened s.pass t.new.pass t.result.value.history t.ensures.taken c.args.id.0 c.args.at (length c.args.out.now)
    (subst (λ (m : SeatModel). IsReadable (log_of (seat_link m).mine) c.args.id.0 c.args.at (length c.args.out.now)) (sym c.self.view_is) c.requires.readable)
