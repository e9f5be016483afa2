use Rattle.std.proofs.Common.{Bool, map, sym, subst}
use Rattle.std.specs.Prelude.{IfOk, IfErr, OnErr}
use Rattle.trace_text.specs.Reading.{plan}
use Rattle.world_core.specs.declared.event.Event.TheVariants as event
use Rattle.world_core.specs.Steps.{IsStep, IsHalt, HasHalted}
use Rattle.world_core.specs.Inside.{Keeps, world_of}
use Rattle.world_core.proofs.Fronts.{keeps_step}
use Rattle.world_core.proofs.Worlds.{turn_step, turn_halt, halted_back, running_on, cause_step}
use Rattle.world_core.proofs.world.World.turn.Goals as goal

pub invariant_of-self : goal.invariant_of-self
invariant_of-self g c = (
  subst (λ (b : Bool). Keeps
      (map plan c.self.inside.threads.items) c.self.inside.done.items c.self.inside.answered.items c.self.inside.fronts.items
      c.turn_next-answer.new.back.history b) (sym c.is_ok-self-inside.ensures.value)
      (keeps_step (map plan c.self.inside.threads.items) c.self.inside.done.items c.self.inside.answered.items c.self.inside.fronts.items
      c.self.inside.link.back.history c.turn_next-answer.new.back.history c.turn_next-answer.result
      c.fronts_go_on_standing.ensures c.turn_next-answer.ensures.leaves c.turn_next-answer.ensures.well
      (subst (λ (b : Bool). Keeps
      (map plan c.self.inside.threads.items) c.self.inside.done.items c.self.inside.answered.items c.self.inside.fronts.items
      c.self.inside.link.back.history b)
      (running_on g.D.Device.journal
      (map plan c.self.inside.threads.items) c.self.inside.done.items c.self.inside.fronts.items c.self.inside.link.back
      c.turn_next-answer.new.back c.self.inside.running c.args.self.now c.self.view_is c.requires.running) c.self.invariant.0)),
  c.self.invariant.1,
  c.self.invariant.2,
)

pub returns-clause-ok : goal.returns-clause-ok
returns-clause-ok g c =
    subst (λ (b : Bool). IfOk c.turn_next-answer.result
    (λ s. IsStep g.D.Device.journal c.args.self.now
    (world_of (map plan c.self.inside.threads.items) c.self.inside.done.items c.self.inside.fronts.items c.turn_next-answer.new.back
    b) event.Turn s)) (sym c.is_ok-self-inside.ensures.value)
    (turn_step g.D.Device.journal
    (map plan c.self.inside.threads.items) c.self.inside.done.items c.self.inside.fronts.items c.self.inside.link.back
    c.turn_next-answer.new.back c.self.inside.running c.args.self.now c.self.view_is c.turn_next-answer.result
    c.turn_next-answer.ensures.ok)

pub returns-clause-err : goal.returns-clause-err
returns-clause-err g c =
    subst (λ (b : Bool). OnErr c.turn_next-answer.result
    (HasHalted c.args.self.now
    (world_of (map plan c.self.inside.threads.items) c.self.inside.done.items c.self.inside.fronts.items c.turn_next-answer.new.back
    b))) (sym c.is_ok-self-inside.ensures.value)
    (halted_back g.D.Device.journal
    (map plan c.self.inside.threads.items) c.self.inside.done.items c.self.inside.fronts.items c.self.inside.link.back
    c.turn_next-answer.new.back c.self.inside.running c.args.self.now c.self.view_is c.turn_next-answer.result)

pub returns-clause-halt : goal.returns-clause-halt
returns-clause-halt g c =
    subst (λ (b : Bool). IfErr c.turn_next-answer.result
    (λ stop. IsHalt g.D.Device.journal c.args.self.now
    (world_of (map plan c.self.inside.threads.items) c.self.inside.done.items c.self.inside.fronts.items c.turn_next-answer.new.back
    b) event.Turn stop)) (sym c.is_ok-self-inside.ensures.value)
    (turn_halt g.D.Device.journal
    (map plan c.self.inside.threads.items) c.self.inside.done.items c.self.inside.fronts.items c.self.inside.link.back
    c.turn_next-answer.new.back c.self.inside.running c.args.self.now c.self.view_is c.turn_next-answer.result
    c.turn_next-answer.ensures.lost c.turn_next-answer.ensures.err)

pub returns-clause-cause : goal.returns-clause-cause
returns-clause-cause g c = cause_step g.D.Device.journal
    (map plan c.self.inside.threads.items) c.self.inside.done.items c.self.inside.fronts.items c.self.inside.link.back
    c.turn_next-answer.new.back c.self.inside.running c.args.self.now c.self.view_is g.D.Device.faults
    (g.D.Device.faults c.turn_next-answer.new.back.device) c.turn_next-answer.result c.turn_next-answer.ensures.cause
