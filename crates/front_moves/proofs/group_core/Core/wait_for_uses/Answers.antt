use Rattle.std.proofs.Common.{◌≡◌, ◌≤◌, ◌+◌, ◌*◌, true, false, sym, ap, subst, ◌∙◌, arith}
use Rattle.back_core.specs.Link.{Link}
use Rattle.back_core.specs.Frame.{AtBack, NoBatch}
use Rattle.front_model.specs.Face.{Face}
use Rattle.front_moves.specs.Core.{CoreParts, face}
use Rattle.front_moves.proofs.AtBack.{did_nothing, then_handless}
use Rattle.front_moves.proofs.Waiting.{WaitedTo, waited_to_none, learns_nothing, learns_then, used_by, waited_more}
use Rattle.front_moves.proofs.group_core.Core.wait_for_uses.Goals as goal
use Rattle.front_moves.proofs.group_core.Core.wait_for_uses.Goals.{then-number-gt0+in-Ok, else-number-gt0}

pub wait_for-requires : goal.wait_for-requires
wait_for-requires g c =
    let f : Face = face c.args.self.now in
    let used = used_by (f.objects c.args.object) c.new-index.result c.last_use-number.result c.last_use-number.ensures.used c.last_use-number.ensures.none c.if-number-gt0.true in
    c.waiting_comes_to.ensures.may f (g.L.BackLink.state c.args.link.now) (g.L.BackLink.state c.loop-place.link) c.args.object c.new-index.result c.last_use-number.result used.0
    c.requires.holds c.loop-place.invariant.waited.learns c.requires.untouched used.1 used.2 c.if-number-gt0.true

pub returns-in-Err-clause-err : goal.returns-in-Err-clause-err
returns-in-Err-clause-err g c =
    let s : Link = g.L.BackLink.state c.args.link.now in
    let t : Link = g.L.BackLink.state c.loop-place.link in
    let u : Link = g.L.BackLink.state c.wait_for.new.self in
    c.waiting_comes_to.ensures.owns (face c.args.self.now) s u c.requires.holds (learns_then s t u c.loop-place.invariant.waited.learns c.in-Err.ensures.err)

pub loop-place-init : goal.loop-place-init
loop-place-init g c = record {
  waited = waited_to_none (face c.args.self.now) (g.L.BackLink.state c.args.link.now) c.args.object;
  faults = omega arith;
  at_back = did_nothing (g.L.BackLink.state c.args.link.now) (g.L.BackLink.told c.args.link.now);
}

pub loop-place-preserved : goal.loop-place-preserved
loop-place-preserved g c =
    let f : Face = face c.args.self.now in
    let s : Link = g.L.BackLink.state c.args.link.now in
    let t : Link = g.L.BackLink.state c.loop-place.link in
    let u : Link = g.L.BackLink.state c.if-number-gt0.link in
    let at : c.new-index.result ≡ 8 * f.group + c.loop-place.place =
    c.new-index.ensures ∙ ap (λ n. 8 * n + c.loop-place.place) (c.self.invariant.0 ∙ ap (λ (x : CoreParts). x.indexes.group) c.self.view_is) in
    elim c.if-number-gt0.branch [
      | then-number-gt0+in-Ok w ↦
          let v : Link = g.L.BackLink.state w.wait_for.new.self in
          let same : v ≡ u = ap g.L.BackLink.state (sym w.link-is) in
          record {
            waited = subst (λ x. WaitedTo f s x c.args.object (c.loop-place.place + 1)) same
                (waited_more f s t v c.args.object c.loop-place.place c.new-index.result c.last_use-number.result c.requires.holds c.requires.untouched c.loop-place.invariant.waited
                w.in-Ok.ensures.ok.learns at c.last_use-number.ensures.used w.in-Ok.ensures.ok.reached);
            faults =
                let later : g.L.BackLink.faults c.loop-place.link ≤ g.L.BackLink.faults w.wait_for.new.self = w.wait_for.ensures.cause.later in
                let before : g.L.BackLink.faults c.args.link.now ≤ g.L.BackLink.faults c.loop-place.link = c.loop-place.invariant.faults in
                subst (λ l. g.L.BackLink.faults c.args.link.now ≤ g.L.BackLink.faults l) (sym w.link-is) (omega arith);
            at_back = subst (λ l. AtBack s (g.L.BackLink.state l) (g.L.BackLink.told c.args.link.now) (g.L.BackLink.told l) 0 true false NoBatch) (sym w.link-is)
                (then_handless (omega arith) c.loop-place.invariant.at_back w.in-Ok.ensures.at_back);
          }
      | else-number-gt0 w ↦ record {
        waited = subst (λ l. WaitedTo f s (g.L.BackLink.state l) c.args.object (c.loop-place.place + 1)) (sym w.link-is)
            (waited_more f s t t c.args.object c.loop-place.place c.new-index.result c.last_use-number.result c.requires.holds c.requires.untouched c.loop-place.invariant.waited
            (learns_nothing t) at c.last_use-number.ensures.used (let none : c.last_use-number.result ≤ 0 = w.if-number-gt0.false in omega arith));
        faults = subst (λ l. g.L.BackLink.faults c.args.link.now ≤ g.L.BackLink.faults l) (sym w.link-is) c.loop-place.invariant.faults;
        at_back = subst (λ l. AtBack s (g.L.BackLink.state l) (g.L.BackLink.told c.args.link.now) (g.L.BackLink.told l) 0 true false NoBatch) (sym w.link-is) c.loop-place.invariant.at_back;
      }
    ]

pub returns-clause-moved : goal.returns-clause-moved
returns-clause-moved g c =
    c.waiting_comes_to.ensures.moved (face c.args.self.now) (g.L.BackLink.state c.args.link.now) (g.L.BackLink.state c.loop-place.link) c.requires.holds c.loop-place.invariant.waited.learns

pub returns-in-Err-clause-at_back : goal.returns-in-Err-clause-at_back
returns-in-Err-clause-at_back g c = then_handless (omega arith) c.loop-place.invariant.at_back c.in-Err.ensures.at_back
