-- Pass 0 makes passes for threads and joins them.
use Rattle.std.proofs.Common.{◌≡◌, ℕ, ◌+◌, ◌<◌, ◌≤◌, List, [], ◌∷◌, ◌++◌, refl, sym, ap, ◌∙◌, subst, inl, inr, arith, false}
use Rattle.std.specs.Prelude.{◌⊎◌, Contains}
use Rattle.std.proofs.lemmas.Bool.{cases_eq}
use mathlib.Core.List.{IsPrefix}
use Rattle.turnstile.specs.Views.{PassModel}
use Rattle.turnstile.proofs.Beginnings.{prefix_self, prefix_trans}
use Rattle.turnstile.proofs.Laws.{joins_keep, joins_has}
use Rattle.trace_threads.specs.Joins.{HasJoined}

module _ {E : Type 0} where
  pub joined_none : (p : PassModel E) → p.holds ≡ false → HasJoined p p 0
  joined_none p idle = record {
    name = refl;
    number = refl;
    holds = idle;
    made = omega arith;
    theirs = λ k from to. absurd (omega (arith, from, to));
    kept = λ k has. has;
    begins = prefix_self p.seen;
  }

  -- p made one pass, became q, which made and joined the others and became r, into which that pass was joined: s
  pub joined_one : (p q r s : PassModel E) (n count : ℕ) (theirs : List ℕ) (longer : List E) → q ≡ record p { made = p.made + 1 } → HasJoined q r count → n ≡ p.made → s ≡ record r { joined = r.joined ++ n ∷ theirs; seen = longer } → IsPrefix r.seen s.seen → HasJoined p s (count + 1)
  joined_one p q r s n count theirs longer made all number is begins =
      let more : q.made ≡ p.made + 1 = ap (λ (x : PassModel E). x.made) made in
      let done : s.made ≡ r.made = ap (λ (x : PassModel E). x.made) is in
      let joined : s.joined ≡ r.joined ++ n ∷ theirs = ap (λ (x : PassModel E). x.joined) is in
      record {
        name = ap (λ (x : PassModel E). x.name) is ∙ (all.name ∙ ap (λ (x : PassModel E). x.name) made);
        number = ap (λ (x : PassModel E). x.number) is ∙ (all.number ∙ ap (λ (x : PassModel E). x.number) made);
        holds = ap (λ (x : PassModel E). x.holds) is ∙ all.holds;
        made = let rest = all.made in omega (arith, more, done, rest);
        theirs = λ k from to. subst (λ l. Contains l k) (sym joined) (go k from to (cases_eq k n));
        kept = λ k has. subst (λ l. Contains l k) (sym joined) (joins_keep r.joined theirs n k (all.kept k (subst (λ l. Contains l k) (sym (ap (λ (x : PassModel E). x.joined) made)) has)));
        begins = prefix_trans p.seen r.seen s.seen (subst (λ l. IsPrefix l r.seen) (ap (λ (x : PassModel E). x.seen) made) all.begins) begins;
      }
    where
      go : (k : ℕ) → p.made ≤ k → k < s.made → (k ≡ n) ⊎ (k ≡ n → ⊥) → Contains (r.joined ++ n ∷ theirs) k
      go k from to (inl same) = subst (Contains (r.joined ++ n ∷ theirs)) (sym same) (joins_has r.joined theirs n)
      go k from to (inr other) =
          let more : q.made ≡ p.made + 1 = ap (λ (x : PassModel E). x.made) made in
          let done : s.made ≡ r.made = ap (λ (x : PassModel E). x.made) is in
          joins_keep r.joined theirs n k (all.theirs k (omega (arith, more, from, other, number)) (omega (arith, done, to)))
