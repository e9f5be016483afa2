use Rattle.std.proofs.Common.{map, refl}
use Rattle.trace_text.specs.Reading.{plan}
use Rattle.world_core.proofs.Calls.{keeps_ended}
use Rattle.world_core.proofs.Worlds.{closed_step, halted_off, running_on, cause_step}
use Rattle.world_core.proofs.world.World.close.Goals as goal

pub end_all-answer-requires-clause-eight : goal.end_all-answer-requires-clause-eight
end_all-answer-requires-clause-eight g c = c.self.invariant.0.fronts_are.eight

pub end_all-answer-requires-clause-goes : goal.end_all-answer-requires-clause-goes
end_all-answer-requires-clause-goes g c =
    (c.self.invariant.0.runs
    (running_on g.D.Device.journal
    (map plan c.self.inside.threads.items) c.self.inside.done.items c.self.inside.fronts.items c.self.inside.link.back
    c.self.inside.link.back c.self.inside.running c.args.self.now c.self.view_is c.requires.running)).goes

pub invariant_of-self : goal.invariant_of-self
invariant_of-self g c = (
  keeps_ended (map plan c.self.inside.threads.items) c.self.inside.done.items c.self.inside.answered.items c.self.inside.fronts.items
      c.end_all-answer.new.fronts.items c.self.inside.link.back.history c.end_all-answer.new.link.back.history
      c.self.inside.running c.end_all-answer.ensures.histories
      (c.end_all-answer.ensures.fronts (map plan c.self.inside.threads.items) c.self.invariant.0.fronts_are) c.self.invariant.0,
  c.self.invariant.1,
  c.self.invariant.2,
)

pub returns-clause-ok : goal.returns-clause-ok
returns-clause-ok g c =
    closed_step g.D.Device.journal
    (map plan c.self.inside.threads.items) c.self.inside.done.items c.self.inside.fronts.items c.self.inside.link.back
    c.end_all-answer.new.link.back c.self.inside.running c.args.self.now c.self.view_is c.end_all-answer.result
    c.end_all-answer.new.fronts.items c.end_all-answer.ensures.histories c.end_all-answer.ensures.ends c.end_all-answer.ensures.destroyed
    c.end_all-answer.ensures.going c.end_all-answer.ensures.written
    (c.self.invariant.0.runs
    (running_on g.D.Device.journal
    (map plan c.self.inside.threads.items) c.self.inside.done.items c.self.inside.fronts.items c.self.inside.link.back
    c.end_all-answer.new.link.back c.self.inside.running c.args.self.now c.self.view_is c.requires.running)).uploads

pub returns-clause-err : goal.returns-clause-err
returns-clause-err g c = halted_off g.D.Device.journal
    (map plan c.self.inside.threads.items) c.self.inside.done.items c.self.inside.fronts.items c.self.inside.link.back
    c.end_all-answer.new.link.back c.self.inside.running c.args.self.now c.self.view_is c.end_all-answer.result
    c.end_all-answer.new.fronts.items c.end_all-answer.ensures.histories

pub returns-clause-cause : goal.returns-clause-cause
returns-clause-cause g c = cause_step g.D.Device.journal
    (map plan c.self.inside.threads.items) c.self.inside.done.items c.self.inside.fronts.items c.self.inside.link.back
    c.end_all-answer.new.link.back c.self.inside.running c.args.self.now c.self.view_is g.D.Device.faults
    (g.D.Device.faults c.end_all-answer.new.link.back.device) c.end_all-answer.result c.end_all-answer.ensures.cause
