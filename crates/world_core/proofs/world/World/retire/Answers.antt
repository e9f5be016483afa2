use Rattle.std.proofs.Common.{Bool, map, sym, subst}
use Rattle.trace_text.specs.Reading.{plan}
use Rattle.world_core.specs.Inside.{Keeps}
use Rattle.world_core.proofs.Fronts.{keeps_well}
use Rattle.world_core.proofs.Worlds.{retire_step, running_on, device_step}
use Rattle.world_core.proofs.world.World.retire.Goals as goal

pub invariant_of-self : goal.invariant_of-self
invariant_of-self g c = (
  subst (λ (b : Bool). Keeps
      (map plan c.self.inside.threads.items) c.self.inside.done.items c.self.inside.answered.items c.self.inside.fronts.items
      c.retire_next.new.back.history b)
      (sym (running_on g.D.Device.journal
      (map plan c.self.inside.threads.items) c.self.inside.done.items c.self.inside.fronts.items c.self.inside.link.back
      c.retire_next.new.back c.self.inside.running c.args.self.now c.self.view_is c.requires.running))
      (keeps_well (map plan c.self.inside.threads.items) c.self.inside.done.items c.self.inside.answered.items c.self.inside.fronts.items
      c.self.inside.link.back.history c.retire_next.new.back.history
      c.fronts_go_on_standing.ensures c.retire_next.ensures.leaves c.retire_next.ensures.well
      (subst (λ (b : Bool). Keeps
      (map plan c.self.inside.threads.items) c.self.inside.done.items c.self.inside.answered.items c.self.inside.fronts.items
      c.self.inside.link.back.history b)
      (running_on g.D.Device.journal
      (map plan c.self.inside.threads.items) c.self.inside.done.items c.self.inside.fronts.items c.self.inside.link.back
      c.retire_next.new.back c.self.inside.running c.args.self.now c.self.view_is c.requires.running) c.self.invariant.0)),
  c.self.invariant.1,
  c.self.invariant.2,
)

pub returns-clause-step : goal.returns-clause-step
returns-clause-step g c = retire_step g.D.Device.journal
    (map plan c.self.inside.threads.items) c.self.inside.done.items c.self.inside.fronts.items c.self.inside.link.back
    c.retire_next.new.back c.self.inside.running c.args.self.now c.self.view_is c.retire_next.result
    (running_on g.D.Device.journal
    (map plan c.self.inside.threads.items) c.self.inside.done.items c.self.inside.fronts.items c.self.inside.link.back
    c.retire_next.new.back c.self.inside.running c.args.self.now c.self.view_is c.requires.running) c.retire_next.ensures.done

pub returns-clause-device : goal.returns-clause-device
returns-clause-device g c = device_step g.D.Device.journal
    (map plan c.self.inside.threads.items) c.self.inside.done.items c.self.inside.fronts.items c.self.inside.link.back
    c.retire_next.new.back c.self.inside.running c.args.self.now c.self.view_is c.retire_next.ensures.device
