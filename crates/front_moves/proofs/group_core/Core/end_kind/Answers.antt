use Rattle.std.proofs.Common.{◌≡◌, List, ℕ, [], ◌∷◌, ◌++◌, refl, sym, ap, subst, ◌∙◌, rules, arith}
use Rattle.std.specs.Prelude.{take, slice_index_or, map}
use Rattle.std.proofs.lemmas.List.{take_more, take_all}
use Rattle.front_model.specs.declared.object.Object.{Object}
use Rattle.front_model.specs.Face.{object_of}
use Rattle.front_moves.specs.Core.{face}
use Rattle.front_moves.specs.Ending.{HasEnded}
use Rattle.front_moves.proofs.AtBack.{did_nothing, handless_then}
use Rattle.front_moves.proofs.EndedObjects.{none_ended, one_more_ended}
use Rattle.front_moves.proofs.group_core.Core.end_kind.Goals as goal

-- one more of a list
map_push : (f : ℕ → Object) (xs : List ℕ) (x : ℕ) → map f (xs ++ x ∷ []) ≡ map f xs ++ f x ∷ []
map_push f [] x = refl
map_push f (y ∷ ys) x = ap (λ l. f y ∷ l) (map_push f ys x)

pub loop-number-init : goal.loop-number-init
loop-number-init g c = record {
  ended = none_ended (face c.args.self.now) (g.L.BackLink.state c.args.link.now) c.requires.holds;
  pending = refl;
  faults = search rules;
  at_back = did_nothing (g.L.BackLink.state c.args.link.now) (g.L.BackLink.told c.args.link.now);
}

pub end-requires : goal.end-requires
end-requires g c = record { holds = c.loop-number.invariant.ended.holds }

pub loop-number-preserved : goal.loop-number-preserved
loop-number-preserved g c =
    let numbers : List ℕ = c.args.numbers.now in
    let k : ℕ = c.loop-number.number-index in
    let next : ℕ = slice_index_or numbers k 0 in
    let f = face c.args.self.now in
    let s = g.L.BackLink.state c.args.link.now in
    record {
      ended = subst (λ xs. HasEnded f (face c.end.new.self) s (g.L.BackLink.state c.end.new.link) xs)
          (sym (ap (map (object_of c.args.kind)) (take_more numbers k 0 c.loop-number-test.true) ∙ map_push (object_of c.args.kind) (take k numbers) next))
          (one_more_ended f (face c.loop-number.self) (face c.end.new.self) s (g.L.BackLink.state c.loop-number.link) (g.L.BackLink.state c.end.new.link)
          (map (object_of c.args.kind) (take k numbers)) (object_of c.args.kind next) c.loop-number.invariant.ended (rw (sym c.of.ensures) c.end.ensures.moved) c.end.ensures.group);
      pending = c.end.ensures.pending ∙ c.loop-number.invariant.pending;
      faults = grind (arith, c.loop-number.invariant.faults, c.end.ensures.faults);
      at_back = handless_then (omega arith) c.loop-number.invariant.at_back c.end.ensures.at_back;
    }

pub returns-clause-ended : goal.returns-clause-ended
returns-clause-ended g c =
    subst (λ xs. HasEnded (face c.args.self.now) (face c.loop-number.self) (g.L.BackLink.state c.args.link.now) (g.L.BackLink.state c.loop-number.link) (map (object_of c.args.kind) xs))
    (take_all c.loop-number.number-index c.args.numbers.now (grind (arith, c.loop-number-test.false)))
    c.loop-number.invariant.ended

pub returns-clause-faults : goal.returns-clause-faults
returns-clause-faults g c = c.loop-number.invariant.faults

pub returns-clause-at_back : goal.returns-clause-at_back
returns-clause-at_back g c = c.loop-number.invariant.at_back
