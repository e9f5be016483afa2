use Rattle.std.proofs.Common.{Bool, true, List, length, map, sym, subst, ap, arith, ◌<◌}
use Rattle.std.specs.Prelude.{IfOk, IfErr, OnErr, is_ok}
use Rattle.std.proofs.lemmas.List.{length-map}
use Rattle.trace_text.specs.declared.trace.ThreadPlan.{ThreadPlan}
use Rattle.trace_text.specs.Reading.{plan}
use Rattle.world_core.specs.declared.event.Event.TheVariants as event
use Rattle.world_core.specs.Steps.{IsStep, IsHalt, HasHalted, HasFailed}
use Rattle.world_core.specs.Inside.{Keeps, world_of}
use Rattle.world_core.proofs.Worlds.{call_step, call_halt, halted, running_on, cause_step, threads_step}
use Rattle.world_core.proofs.world.World.call.Goals as goal

pub call_next-answer-requires-clause-keeps : goal.call_next-answer-requires-clause-keeps
call_next-answer-requires-clause-keeps g c =
    subst (λ (l : List ThreadPlan). Keeps
    (map plan l) c.self.inside.done.items c.self.inside.answered.items c.self.inside.fronts.items c.self.inside.link.back.history
    true) (sym c.deref.ensures.value)
    (subst (λ (b : Bool). Keeps
    (map plan c.self.inside.threads.items) c.self.inside.done.items c.self.inside.answered.items c.self.inside.fronts.items
    c.self.inside.link.back.history b)
    (running_on g.D.Device.journal
    (map plan c.self.inside.threads.items) c.self.inside.done.items c.self.inside.fronts.items c.self.inside.link.back
    c.self.inside.link.back c.self.inside.running c.args.self.now c.self.view_is c.requires.running) c.self.invariant.0)

pub call_next-answer-requires-clause-thread : goal.call_next-answer-requires-clause-thread
call_next-answer-requires-clause-thread g c =
    let low = threads_step g.D.Device.journal
    (map plan c.self.inside.threads.items) c.self.inside.done.items c.self.inside.fronts.items c.self.inside.link.back
    c.self.inside.link.back c.self.inside.running c.args.self.now c.self.view_is c.args.thread c.requires.may in
    let same = length-map c.self.inside.threads.items plan in
    let read = ap length c.deref.ensures.value in
    omega (arith, low, same, read)

pub invariant_of-self : goal.invariant_of-self
invariant_of-self g c = (
  subst (λ (b : Bool). Keeps
      (map plan c.self.inside.threads.items) c.call_next-answer.new.done.items c.call_next-answer.new.answered.items
      c.call_next-answer.new.fronts.items c.call_next-answer.new.link.back.history b) (sym c.is_ok-self-inside.ensures.value)
      (subst (λ (l : List ThreadPlan). Keeps
      (map plan l) c.call_next-answer.new.done.items c.call_next-answer.new.answered.items c.call_next-answer.new.fronts.items
      c.call_next-answer.new.link.back.history (is_ok c.call_next-answer.result)) c.deref.ensures.value
      c.call_next-answer.ensures.keeps),
  c.self.invariant.1,
  c.self.invariant.2,
)

pub returns-clause-ok : goal.returns-clause-ok
returns-clause-ok g c =
    subst (λ (b : Bool). IfOk c.call_next-answer.result
    (λ s. IsStep g.D.Device.journal c.args.self.now
    (world_of (map plan c.self.inside.threads.items) c.call_next-answer.new.done.items c.call_next-answer.new.fronts.items
    c.call_next-answer.new.link.back b) (event.Call c.args.thread) s)) (sym c.is_ok-self-inside.ensures.value)
    (call_step g.D.Device.journal
    (map plan c.self.inside.threads.items) c.self.inside.done.items c.self.inside.fronts.items c.self.inside.link.back
    c.call_next-answer.new.link.back c.self.inside.running c.args.self.now c.self.view_is
    (running_on g.D.Device.journal
    (map plan c.self.inside.threads.items) c.self.inside.done.items c.self.inside.fronts.items c.self.inside.link.back
    c.call_next-answer.new.link.back c.self.inside.running c.args.self.now c.self.view_is c.requires.running)
    c.call_next-answer.result c.args.thread c.call_next-answer.new.done.items c.call_next-answer.new.fronts.items
    (subst (λ (l : List ThreadPlan). IfOk c.call_next-answer.result
    (λ s. IsStep g.D.Device.journal
    (world_of (map plan l) c.self.inside.done.items c.self.inside.fronts.items c.self.inside.link.back true)
    (world_of (map plan l) c.call_next-answer.new.done.items c.call_next-answer.new.fronts.items c.call_next-answer.new.link.back true)
    (event.Call c.args.thread) s)) c.deref.ensures.value c.call_next-answer.ensures.ok))

pub returns-clause-err : goal.returns-clause-err
returns-clause-err g c =
    subst (λ (b : Bool). OnErr c.call_next-answer.result
    (HasHalted c.args.self.now
    (world_of (map plan c.self.inside.threads.items) c.call_next-answer.new.done.items c.call_next-answer.new.fronts.items
    c.call_next-answer.new.link.back b))) (sym c.is_ok-self-inside.ensures.value)
    (halted g.D.Device.journal
    (map plan c.self.inside.threads.items) c.self.inside.done.items c.self.inside.fronts.items c.self.inside.link.back
    c.call_next-answer.new.link.back c.self.inside.running c.args.self.now c.self.view_is c.call_next-answer.result
    c.call_next-answer.new.done.items c.call_next-answer.new.fronts.items c.call_next-answer.ensures.done
    c.call_next-answer.ensures.histories)

pub returns-clause-halt : goal.returns-clause-halt
returns-clause-halt g c =
    subst (λ (b : Bool). IfErr c.call_next-answer.result
    (λ stop. IsHalt g.D.Device.journal c.args.self.now
    (world_of (map plan c.self.inside.threads.items) c.call_next-answer.new.done.items c.call_next-answer.new.fronts.items
    c.call_next-answer.new.link.back b) (event.Call c.args.thread) stop)) (sym c.is_ok-self-inside.ensures.value)
    (call_halt g.D.Device.journal
    (map plan c.self.inside.threads.items) c.self.inside.done.items c.self.inside.fronts.items c.self.inside.link.back
    c.call_next-answer.new.link.back c.self.inside.running c.args.self.now c.self.view_is c.call_next-answer.result c.args.thread
    c.call_next-answer.new.done.items c.call_next-answer.new.fronts.items
    (subst (λ (l : List ThreadPlan). OnErr c.call_next-answer.result
    (HasFailed (map plan l) c.self.inside.fronts.items c.call_next-answer.new.fronts.items c.self.inside.link.back.history
    c.call_next-answer.new.link.back.history c.args.thread))
    c.deref.ensures.value c.call_next-answer.ensures.halt))

pub returns-clause-cause : goal.returns-clause-cause
returns-clause-cause g c = cause_step g.D.Device.journal
    (map plan c.self.inside.threads.items) c.self.inside.done.items c.self.inside.fronts.items c.self.inside.link.back
    c.call_next-answer.new.link.back c.self.inside.running c.args.self.now c.self.view_is g.D.Device.faults
    (g.D.Device.faults c.call_next-answer.new.link.back.device) c.call_next-answer.result c.call_next-answer.ensures.cause
