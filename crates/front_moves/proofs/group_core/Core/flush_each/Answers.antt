use Rattle.std.proofs.Common.{◌≡◌, ℕ, ◌*◌, ◌+◌, refl, ap, ◌∙◌, arith}
use Rattle.front_moves.specs.Core.{CoreParts, face}
use Rattle.front_moves.proofs.AtBack.{did_nothing, good_then}
use Rattle.front_moves.proofs.Handing.{ends}
use Rattle.front_moves.proofs.ClosedFronts.{flushed_to_none, flushed_one, all_flushed}
use Rattle.front_moves.proofs.group_core.Core.flush_each.Goals as goal

pub loop-place-init : goal.loop-place-init
loop-place-init g c = record { flushed = flushed_to_none (face c.args.self.now) (g.L.BackLink.state c.args.link.now) c.requires.holds; group = refl; faults = omega arith; at_back = did_nothing (g.L.BackLink.state c.args.link.now) (g.L.BackLink.told c.args.link.now) }

pub loop-place-preserved : goal.loop-place-preserved
loop-place-preserved g c =
    let k : CoreParts = c.loop-place.self in
    let d : CoreParts = c.flush.new.self in
    let place : ℕ = c.loop-place.place in
    let group : c.self.inside.group ≡ k.indexes.group = c.self.invariant.0 ∙ ap (λ (x : CoreParts). x.indexes.group) c.self.view_is in
    let at : c.new-index.result ≡ 8 * (face k).group + place = c.new-index.ensures ∙ ap (λ n. 8 * n + place) group in
    record {
      flushed = flushed_one (face k) (face d) (g.L.BackLink.state c.loop-place.link) (g.L.BackLink.state c.flush.new.link) c.new-index.result place c.loop-place.invariant.flushed at
          c.in-Ok.ensures.moved.holds c.in-Ok.ensures.flushed;
      group = c.flush.ensures.group ∙ c.loop-place.invariant.group;
      faults = let low = c.loop-place.invariant.faults in let later = c.flush.ensures.cause.later in omega (arith, low, later);
      at_back = good_then (omega arith) (λ batch may. may) (ends (face k) c.new-index.result) c.loop-place.invariant.at_back c.in-Ok.ensures.at_back;
    }

pub returns-clause-pending : goal.returns-clause-pending
returns-clause-pending g c = all_flushed (face c.loop-place.self) (g.L.BackLink.state c.loop-place.link) c.loop-place.place c.loop-place.invariant.flushed c.loop-place-test.false

pub returns-in-Err-clause-at_back : goal.returns-in-Err-clause-at_back
returns-in-Err-clause-at_back g c = good_then (omega arith) (λ batch may. may) (ends (face c.loop-place.self) c.new-index.result) c.loop-place.invariant.at_back c.in-Err.ensures.at_back
