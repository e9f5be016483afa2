use Rattle.std.proofs.Common.{map, length, ap, arith, rules}
use Rattle.std.proofs.lemmas.List.{length-map}
use Rattle.trace_text.specs.Reading.{plan}
use Rattle.world_core.specs.World.{WorldModel}
use Rattle.world_core.proofs.world.World.thread_count.Goals as goal

pub overflow_cast-result : goal.overflow_cast-result
overflow_cast-result g c =
    let few = c.self.invariant.0.served.trace.few in
    let same = length-map c.self.inside.threads.items plan in
    omega (arith, few, same)

pub returns : goal.returns
returns g c =
    let same = length-map c.self.inside.threads.items plan in
    let threads = ap (λ (w : WorldModel g.row.D.Denot). length w.threads) c.self.view_is in
    omega (arith, same, threads)
