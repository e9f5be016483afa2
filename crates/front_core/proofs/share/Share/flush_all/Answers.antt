use Rattle.std.proofs.Common.{◌≡◌, ◌≤◌, ◌<◌, ◌+◌, ◌*◌, ℕ, true, false, refl, sym, subst, ◌∙◌, ap, arith, inl, inr}
use Rattle.std.specs.Prelude.{◌⊎◌}
use Rattle.std.proofs.lemmas.Bool.{cases_eq}
use Rattle.back_core.specs.Needs.{IsOfGroup}
use Rattle.back_core.proofs.Frames.{then_within}
use Rattle.front_moves.specs.Core.{face}
use Rattle.sync_serials.specs.Serials.{HasGoneOn}
use Rattle.front_core.specs.Economy.{IsEndingBatch}
use Rattle.front_core.specs.Polls.{HasFlushedAll, FlushedStay}
use Rattle.front_core.proofs.AtTheBack.{nothing_done, flush_ends}
use Rattle.front_core.proofs.GoingOn.{gone_on, stays_put, goes_nowhere}
use Rattle.front_core.proofs.Serving.{gone_then}
use Rattle.front_core.proofs.SyncMoves.{stays_then}
use Rattle.front_core.proofs.share.Share.flush_all.Goals as goal

pub loop-place-init : goal.loop-place-init
loop-place-init g c = record {
  stays = stays_put (face c.args.self.now.core) (g.L.BackLink.state c.args.link.now) c.requires.holds;
  gone = goes_nowhere (face c.args.self.now.core) (g.L.BackLink.state c.args.link.now);
  flushed = λ i low high. let bad : ⊥ = omega (arith, low, high) in absurd bad;
  faults = omega arith;
  at_back = nothing_done (g.L.BackLink.state c.args.link.now) (g.L.BackLink.told c.args.link.now) 0 false false (IsEndingBatch c.args.syncs.now);
}

pub flush_context-requires-clause-holds : goal.flush_context-requires-clause-holds
flush_context-requires-clause-holds g c = c.loop-place.invariant.stays.holds

pub flush_context-requires-clause-tables : goal.flush_context-requires-clause-tables
flush_context-requires-clause-tables g c = c.requires.tables ∙ sym c.loop-place.invariant.gone.group

pub flush_context-requires-clause-group : goal.flush_context-requires-clause-group
flush_context-requires-clause-group g c =
    let at : c.new-index.result ≡ 8 * (face c.loop-place.self.core).group + c.loop-place.place = c.new-index.ensures ∙ ap (λ n. 8 * n + c.loop-place.place) c.group.ensures.value in
    let low = c.loop-place-test.true in
    (omega (arith, at), omega (arith, at, low))

pub flush_context-requires-clause-newest : goal.flush_context-requires-clause-newest
flush_context-requires-clause-newest g c =
    let at : c.new-index.result ≡ 8 * (face c.loop-place.self.core).group + c.loop-place.place = c.new-index.ensures ∙ ap (λ n. 8 * n + c.loop-place.place) c.group.ensures.value in
    let low = c.loop-place-test.true in
    let own : IsOfGroup (face c.args.self.now.core).group c.new-index.result = subst (λ n. IsOfGroup n c.new-index.result) c.loop-place.invariant.gone.group (omega (arith, at), omega (arith, at, low)) in
    let most = c.requires.newest c.new-index.result own in
    let risen = c.loop-place.invariant.gone.last c.new-index.result in
    omega (arith, most, risen)

pub loop-place-preserved : goal.loop-place-preserved
loop-place-preserved g c =
    let f = face c.args.self.now.core in
    let h = face c.loop-place.self.core in
    let d = face c.flush_context.new.self.core in
    let s = g.L.BackLink.state c.args.link.now in
    let u = g.L.BackLink.state c.loop-place.link in
    let t = g.L.BackLink.state c.flush_context.new.link in
    let index : ℕ = c.new-index.result in
    let at : index ≡ 8 * h.group + c.loop-place.place = c.new-index.ensures ∙ ap (λ n. 8 * n + c.loop-place.place) c.group.ensures.value in
    let here : index ≡ 8 * f.group + c.loop-place.place = at ∙ ap (λ n. 8 * n + c.loop-place.place) c.loop-place.invariant.gone.group in
    let step : HasGoneOn h d u t = gone_on c.loop-place.self.core c.flush_context.new.self.core c.loop-place.invariant.stays.holds c.in-Ok.ensures.stays.holds c.flush_context.ensures.group c.in-Ok.ensures.at_back in
    record {
      stays = stays_then f h d s u t c.loop-place.invariant.stays c.in-Ok.ensures.stays;
      gone = gone_then f h d s u t c.loop-place.invariant.gone step;
      flushed = λ i low high. by_place c.args.syncs.now i index c.in-Ok.ensures.still c.in-Ok.ensures.flushed (λ below. c.loop-place.invariant.flushed i low (omega (arith, below, here))) (omega (arith, high, here)) (cases_eq i index);
      faults = let low = c.loop-place.invariant.faults in let later = c.flush_context.ensures.cause.later in omega (arith, low, later);
      at_back = then_within 0 false false (IsEndingBatch c.args.syncs.now) (omega arith) (λ on. on) (λ on. on) (λ on. on) (λ on. on) (λ batch may. may) (flush_ends h c.args.syncs.now index) c.loop-place.invariant.at_back c.in-Ok.ensures.at_back;
    }
  where
    by_place : {h d : _} (tables : _) (i index : ℕ) → FlushedStay h d → HasFlushedAll d tables index → (i < index → HasFlushedAll h tables i) → i ≤ index → (i ≡ index) ⊎ (i ≡ index → ⊥) → HasFlushedAll d tables i
    by_place {h} {d} tables i index still now was low (inl same) = subst (HasFlushedAll d tables) (sym same) now
    by_place {h} {d} tables i index still now was low (inr other) = still tables i (was (omega (arith, low, other)))

pub returns-clause-flushed : goal.returns-clause-flushed
returns-clause-flushed g c = λ i own. let past = c.loop-place-test.false in c.loop-place.invariant.flushed i own.0 (omega (arith, own.1, past))

pub returns-in-Err-clause-at_back : goal.returns-in-Err-clause-at_back
returns-in-Err-clause-at_back g c =
    then_within 0 false true (IsEndingBatch c.args.syncs.now) (omega arith) (λ on. on) (λ on. on) (λ on. refl) (λ on. on) (λ batch may. may) (flush_ends (face c.loop-place.self.core) c.args.syncs.now c.new-index.result) c.loop-place.invariant.at_back c.in-Err.ensures.at_back
