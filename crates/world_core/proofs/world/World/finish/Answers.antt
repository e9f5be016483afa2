use Rattle.std.proofs.Common.{List, map, ap, subst, arith, ◌≡◌}
use Rattle.back_core.specs.Back.{BackModel}
use Rattle.trace_text.specs.declared.trace.ThreadPlan.{ThreadPlan}
use Rattle.trace_text.specs.Reading.{plan}
use Rattle.world_core.specs.World.{declared}
use Rattle.world_core.proofs.Worlds.{finished_step, histories_step, faults_step}
use Rattle.world_core.proofs.world.World.finish.Goals as goal

pub let_all_go-requires-clause-eight : goal.let_all_go-requires-clause-eight
let_all_go-requires-clause-eight g c = c.self.invariant.0.fronts_are.eight

pub let_all_go-requires-clause-owns : goal.let_all_go-requires-clause-owns
let_all_go-requires-clause-owns g c = λ group front at. (c.self.invariant.0.fronts_are.each group front at).owns

pub returns-clause-histories : goal.returns-clause-histories
returns-clause-histories g c =
    histories_step g.D.Device.journal
    (map plan c.self.inside.threads.items) c.self.inside.done.items c.self.inside.fronts.items c.self.inside.link.back
    c.let_all_go.new.link.back c.self.inside.running c.args.self c.self.view_is c.let_all_go.new.ended.items
    (subst (λ (l : List ThreadPlan). map (λ history. history.group) c.let_all_go.new.ended.items ≡ declared (map plan l))
    c.deref.ensures.value c.let_all_go.ensures.groups)
    c.let_all_go.ensures.entries

pub returns-clause-finished : goal.returns-clause-finished
returns-clause-finished g c =
    finished_step g.D.Device.journal
    (map plan c.self.inside.threads.items) c.self.inside.done.items c.self.inside.fronts.items c.self.inside.link.back
    c.let_all_go.new.link.back c.self.inside.running c.args.self c.self.view_is c.into_back.result
    (g.D.Device.journal c.finish.result) c.into_back.ensures c.finish.ensures.run c.finish.ensures.journal c.let_all_go.ensures.lets

pub returns-clause-clean : goal.returns-clause-clean
returns-clause-clean g c = c.finish.ensures.in_order.clean

pub returns-clause-faults : goal.returns-clause-faults
returns-clause-faults g c =
    faults_step g.D.Device.journal
    (map plan c.self.inside.threads.items) c.self.inside.done.items c.self.inside.fronts.items c.self.inside.link.back
    c.let_all_go.new.link.back c.self.inside.running c.args.self c.self.view_is g.D.Device.faults (g.D.Device.faults c.finish.result)
    (let risen = c.let_all_go.ensures.faults in
    let given = c.finish.ensures.faults in
    let same = ap (λ (b : BackModel g.row.D.Denot). g.D.Device.faults b.device) c.into_back.ensures in
    omega (arith, risen, given, same))
