use Rattle.std.proofs.Common.{◌≡◌, List, [], length, map, sym, ap, subst, arith, ◌∙◌}
use Rattle.trace_text.specs.declared.trace.ThreadPlan.{ThreadPlan}
use Rattle.trace_text.specs.Reading.{plan}
use Rattle.trace_text.specs.Orders.{IsLineOf}
use Rattle.back_core.specs.Back.{BackModel}
use Rattle.play_model.specs.Plays.{none_done}
use Rattle.world_core.specs.World.{AreNew}
use Rattle.world_core.proofs.Starts.{new_own, begins, is_new_world, ok_of}
use Rattle.world_core.proofs.world.World.new.Goals as goal

pub abandon_all-requires-clause-owns : goal.abandon_all-requires-clause-owns
abandon_all-requires-clause-owns g c =
    new_own c.what_a_group_sees.ensures.new (map plan c.deref-3.result.now) c.open_fronts.new.fronts.items c.new-link.result.back.history
    (ap (λ (b : BackModel g.row.D.Denot). b.history) (c.new-link.ensures.back ∙ c.in_ok-back.ensures.ok)) c.open_fronts.ensures.new

pub invariant_of-result : goal.invariant_of-result
invariant_of-result g c = (
  begins c.what_a_group_sees.ensures.new c.cleanups_stay_whole.ensures.starts c.backs_keep_going.ensures.starts c.runs_go_on.ensures.opening
      c.plays_go_on.ensures.starts (map plan c.args.trace.threads.items) c.in-Ok.done.items c.in-Ok-none_answered.answered.items
      c.open_fronts.new.fronts.items c.new-link.result.back.history
      (ap (λ (b : BackModel g.row.D.Denot). b.history) (c.new-link.ensures.back ∙ c.in_ok-back.ensures.ok)) c.requires.served
      (c.in-Ok.ensures ∙ ap (λ (l : List ThreadPlan). none_done (map plan l)) c.deref.ensures.value)
      (λ thread place line is. c.in-Ok-none_answered.ensures thread place line
      (subst (λ (l : List ThreadPlan). IsLineOf (map plan l) thread place line) (sym c.deref-2.ensures.value) is))
      (ok_of c.open_fronts.result (sym c.is_err-2.ensures.value ∙ c.if-is_err-2.false) c.open_fronts.ensures.eight)
      (subst (λ (l : List ThreadPlan). AreNew (map plan l) c.open_fronts.new.fronts.items) c.deref-3.ensures.value c.open_fronts.ensures.new),
  c.reserve.ensures.items ∙ c.new-ended.ensures.items,
  (let room = ok_of c.reserve.result (sym c.is_err.ensures.value ∙ c.if-is_err.false) c.reserve.ensures.ok in omega (arith, room, c.from.ensures)),
)

pub returns-clause-ok : goal.returns-clause-ok
returns-clause-ok g c =
    is_new_world (map plan c.args.trace.threads.items) c.in-Ok.done.items c.open_fronts.new.fronts.items c.new-link.result.back c.args.device
    (c.in-Ok.ensures ∙ ap (λ (l : List ThreadPlan). none_done (map plan l)) c.deref.ensures.value)
    (ok_of c.open_fronts.result (sym c.is_err-2.ensures.value ∙ c.if-is_err-2.false) c.open_fronts.ensures.eight)
    (subst (λ (l : List ThreadPlan). AreNew (map plan l) c.open_fronts.new.fronts.items) c.deref-3.ensures.value c.open_fronts.ensures.new)
    (c.new-link.ensures.back ∙ c.in_ok-back.ensures.ok)
