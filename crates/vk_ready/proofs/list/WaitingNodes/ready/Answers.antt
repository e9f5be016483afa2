use Rattle.std.proofs.Common.{◌≡◌, ◌<◌, length, ◌∙◌, ap, subst, sym, arith}
use Rattle.vk_ready.specs.Ready.{NodesAndRoom, ready_places}
use Rattle.vk_ready.proofs.Readiness.{some_ready}
use Rattle.vk_ready.proofs.Order.{ready_total}
use Rattle.vk_ready.proofs.list.WaitingNodes.ready.Goals as goal

pub returns-clause-count : goal.returns-clause-count
returns-clause-count c =
    let w = c.self.inside in
    let len : c.len.result ≡ length w.watch.ready.slots = omega arith in
    len ∙ ready_total w.slots.items w.watch.holders.items w.watch.ends.items w.watch.ready.slots c.self.invariant.0 ∙ ap (λ (v : NodesAndRoom). length (ready_places v.nodes)) c.self.view_is

pub returns-clause-some : goal.returns-clause-some
returns-clause-some c =
    let w = c.self.inside in
    let len : c.len.result ≡ length w.watch.ready.slots = omega arith in
    let both = some_ready c.args.self.now.nodes in
    let count : c.len.result ≡ length (ready_places c.args.self.now.nodes) = len ∙ ready_total w.slots.items w.watch.holders.items w.watch.ends.items w.watch.ready.slots c.self.invariant.0 ∙ ap (λ (v : NodesAndRoom). length (ready_places v.nodes)) c.self.view_is in
    (λ lt. both.0 (subst (λ n. 0 < n) count lt), λ lt. subst (λ n. 0 < n) (sym count) (both.1 lt))
