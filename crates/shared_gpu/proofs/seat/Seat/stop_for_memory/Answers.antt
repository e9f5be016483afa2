use Rattle.std.proofs.Common.{sym, ap, ◌∙◌}
use Rattle.turnstile.proofs.Beginnings.{prefix_trans}
use Rattle.vk_types.specs.declared.stops.Stop.TheVariants.{Memory}
use Rattle.back_core.specs.Back.{ending_of, is_stopped}
use Rattle.shared_gpu.proofs.Endings.{stopped_after}
use Rattle.shared_gpu.proofs.Replies.{adds_stopped, link_stop, events_after}
use Rattle.shared_gpu.proofs.seat.Seat.stop_for_memory.Goals as goal

pub put-requires-clause-adds : goal.put-requires-clause-adds
put-requires-clause-adds g c =
    let s = c.self.inside in
    let t = c.take-turn in
    let x = c.stop_for_memory in
    adds_stopped s.group t.result.value.opened x.new.self.opened s.pass t.new.pass t.result.value.history x.new.self.history t.ensures.taken x.ensures.rest.1 c.what_a_group_sees.ensures.others Memory x.ensures.history

pub returns-clause-link : goal.returns-clause-link
returns-clause-link g c =
    let s = c.self.inside in
    let t = c.take-turn in
    let x = c.stop_for_memory in
    rw (← c.self.view_is) (link_stop s.group t.result.value.opened x.new.self.opened s.pass t.new.pass c.put.new.pass t.result.value.history x.new.self.history t.ensures.taken x.ensures.rest.1 c.put.ensures.given c.what_a_group_sees.ensures.others Memory x.ensures.history)

pub returns-clause-stopped : goal.returns-clause-stopped
returns-clause-stopped g c =
    let s = c.self.inside in
    let t = c.take-turn in
    let x = c.stop_for_memory in
    let h = t.result.value.history in
    ap (λ l. is_stopped (ending_of l)) (events_after s.group t.result.value.opened x.new.self.opened s.pass t.new.pass c.put.new.pass h x.new.self.history t.ensures.taken x.ensures.rest.1 c.put.ensures.given ∙ x.ensures.history) ∙ stopped_after h Memory

pub returns-clause-begins : goal.returns-clause-begins
returns-clause-begins g c =
    let s = c.self.inside in
    rw (← c.self.view_is) (prefix_trans s.pass.seen c.take-turn.new.pass.seen c.put.new.pass.seen c.take-turn.ensures.begins c.put.ensures.begins)
