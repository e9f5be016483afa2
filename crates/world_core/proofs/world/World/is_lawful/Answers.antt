use Rattle.std.proofs.Common.{map}
use Rattle.trace_text.specs.Reading.{plan}
use Rattle.world_core.proofs.Worlds.{lawful}
use Rattle.world_core.proofs.world.World.is_lawful.Goals as goal

pub returns : goal.returns
returns g c = lawful g.D.Device.journal
    (map plan c.self.inside.threads.items) c.self.inside.done.items c.self.inside.fronts.items c.self.inside.link.back
    c.self.inside.link.back c.self.inside.running c.args.self.now c.self.view_is c.self.inside.answered.items c.self.invariant.0
    c.is_in_order.ensures.run c.is_in_order.ensures.journal c.is_in_order.ensures.in_order.clean
