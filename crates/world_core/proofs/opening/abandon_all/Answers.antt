use Rattle.std.proofs.Common.{◌≡◌, length, arith, rules}
use Rattle.world_core.proofs.LettingGo.{last_owns, rest_own}
use Rattle.world_core.proofs.opening.abandon_all.Goals as goal

pub let_go-requires : goal.let_go-requires
let_go-requires g c =
    let count : c.len.result ≡ length c.pop.new.self.items = search rules in
    last_owns c.loop-front.fronts.items c.pop.new.self.items c.in-Some.front c.loop-front.link.back.history c.len.result
    c.in-Some.ensures.items count c.loop-front.invariant.owns

pub loop-front-preserved : goal.loop-front-preserved
loop-front-preserved g c =
    let count : c.len.result ≡ length c.pop.new.self.items = search rules in
    record {
      low = let low = c.loop-front.invariant.low in let len = c.in-Some.ensures.len in omega (arith, low, len, count);
      owns = rest_own c.loop-front.fronts.items c.pop.new.self.items c.in-Some.front c.loop-front.link.back.history
          c.let_go.new.link.back.history c.len.result
          c.in-Some.ensures.items count c.loop-front.invariant.owns c.let_go.ensures.others;
      later = let before = c.loop-front.invariant.later in let now = c.let_go.ensures.faults in omega (arith, before, now);
    }
