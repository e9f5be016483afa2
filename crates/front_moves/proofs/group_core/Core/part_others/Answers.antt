use Rattle.std.proofs.Common.{◌≡◌, ℕ, ◌*◌, ◌+◌, ◌≤◌, sym, ap, ◌∙◌, arith}
use Rattle.back_core.specs.Link.{Link}
use Rattle.front_moves.specs.Core.{CoreParts, face, HasFlushedSome}
use Rattle.front_moves.proofs.AtBack.{did_nothing, good_then}
use Rattle.front_moves.proofs.Handing.{is_cross}
use Rattle.front_moves.proofs.Preparing.{none_flushed, flushed_more, none_apart, all_apart, apart_kept, apart_then, same_by_test, other_by_test}
use Rattle.front_moves.proofs.group_core.Core.part_others.Goals as goal
use Rattle.front_moves.proofs.group_core.Core.part_others.Goals.{then-ne+in-Ok, else-ne}

pub loop-place-init : goal.loop-place-init
loop-place-init g c = record {
  some = none_flushed (face c.args.self.now) (g.L.BackLink.state c.args.link.now) c.requires.holds;
  apart = none_apart c.args.reads (face c.args.self.now) c.args.index c.args.object;
  faults = omega arith;
  at_back = did_nothing (g.L.BackLink.state c.args.link.now) (g.L.BackLink.told c.args.link.now);
}

pub loop-place-preserved : goal.loop-place-preserved
loop-place-preserved g c =
    let first : CoreParts = c.args.self.now in
    let k : CoreParts = c.loop-place.self in
    let place : ℕ = c.loop-place.place in
    let other : ℕ = c.new-other.result in
    let group : c.self.inside.group ≡ k.indexes.group = c.self.invariant.0 ∙ ap (λ (x : CoreParts). x.indexes.group) c.self.view_is in
    let at : other ≡ 8 * (face k).group + place = c.new-other.ensures ∙ ap (λ n. 8 * n + place) group in
    elim c.if-ne.branch [
      | then-ne+in-Ok w ↦
          let d : CoreParts = w.part.new.self in
          let before : Link = g.L.BackLink.state c.loop-place.link in
          let now : Link = g.L.BackLink.state w.part.new.link in
          let some : HasFlushedSome (face k) (face d) before now = w.in-Ok.ensures.some in
          let also : other ≡ 8 * (face d).group + place = at ∙ ap (λ n. 8 * n + place) (sym some.flushed.group) in
          rw (w.self-is, w.link-is) (record {
            some = flushed_more (face first) (face k) (face d) (g.L.BackLink.state c.args.link.now) before now c.loop-place.invariant.some some;
            apart = apart_then c.args.reads (face d) c.args.index c.args.object place other also (apart_kept c.args.reads (face k) (face d) c.args.index c.args.object place some.flushed c.loop-place.invariant.apart) (λ ne. w.in-Ok.ensures.apart);
            faults = let low = c.loop-place.invariant.faults in let later = w.part.ensures.cause.later in omega (arith, low, later);
            at_back = good_then (omega arith) (λ batch may. may) (is_cross (face first) (face k) c.args.index other c.args.object c.args.reads c.loop-place.invariant.some.flushed.objects (other_by_test other c.args.index c.ne.result c.ne.ensures w.if-ne.true))
                c.loop-place.invariant.at_back w.in-Ok.ensures.at_back;
          })
      | else-ne w ↦
          let same : other ≡ c.args.index = same_by_test other c.args.index c.ne.result c.ne.ensures w.if-ne.false in
          rw (w.self-is, w.link-is) (record {
            some = c.loop-place.invariant.some;
            apart = apart_then c.args.reads (face k) c.args.index c.args.object place other at c.loop-place.invariant.apart (λ ne. absurd (ne same));
            faults = c.loop-place.invariant.faults;
            at_back = c.loop-place.invariant.at_back;
          })
    ]

pub returns-in-Err-clause-at_back : goal.returns-in-Err-clause-at_back
returns-in-Err-clause-at_back g c =
    good_then (omega arith) (λ batch may. may)
    (is_cross (face c.args.self.now) (face c.loop-place.self) c.args.index c.new-other.result c.args.object c.args.reads c.loop-place.invariant.some.flushed.objects (other_by_test c.new-other.result c.args.index c.ne.result c.ne.ensures c.if-ne.true))
    c.loop-place.invariant.at_back c.in-Err.ensures.at_back

pub returns-clause-parted : goal.returns-clause-parted
returns-clause-parted g c =
    let past : 8 ≤ c.loop-place.place = c.loop-place-test.false in
    all_apart c.args.reads (face c.loop-place.self) (g.L.BackLink.state c.loop-place.link) c.args.index c.args.object c.loop-place.invariant.some.moved.holds
    (λ i own below ne. c.loop-place.invariant.apart i own (omega (arith, below, past)) ne)
