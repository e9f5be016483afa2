-- A load of a published word, and of the number of entries, keep the rule.
use Rattle.std.proofs.Common.{◌≡◌, ℕ, ◌<◌, ◌≤◌, true, List, [], ◌∷◌, ◌++◌, length, get_or, set, Option, refl, ap, sym, ◌∙◌, subst, ⊎_elim, arith, length-set, le_refl}
use mathlib.Core.Option.{some, none}
use lib.ListN.{get_elem?}
use lib.Seq.{set-get_or}
use Rattle.atomic_table.specs.Table.{State, step, keeps, stepped, Allows}
use Rattle.turnstile.specs.declared.rule.View.{View}
use Rattle.turnstile.specs.Rule.{Below, Home, Out, Kept}
use Rattle.turnstile.specs.Steps.{looked, counted}
use Rattle.turnstile.proofs.Beginnings.{prefix_length}
use Rattle.turnstile.proofs.Words.{rise_none, greatest-append}
use Rattle.turnstile.proofs.Known.{gone_set, each_set, seen_set, below_set}
use Rattle.turnstile.proofs.Places.{with_views, home_noted}

module _ {V E : Type 0} (history : V → List E) (published : V → ℕ → ℕ) (names : E → Option ℕ) where
  abbrev Table : Type 0
  Table = State (Option V) (View E)

  abbrev Rule : Table → Type 0
  Rule = Kept history published names

  -- a step on which only the loads of a pass change
  noted_kept : (s : Table) (kept : Rule s) (id : ℕ) (v : View E) (loads : List (ℕ × ℕ)) (n : ℕ) → get_elem? s.views id ≡ some v → v.live ≡ true
      → Below s.words (record v { loads = loads; counted = n }) → Rule (with_views history published s (set s.views id (record v { loads = loads; counted = n })))
  noted_kept s kept id v loads n at live below =
      let w : View E = record v { loads = loads; counted = n } in
      let f = kept.each id v at live in record {
        log = kept.log;
        wide = kept.wide;
        each = each_set names kept.log kept.log s.views id v w at live (λ j u _ e up. kept.each j u e up) (λ _. record {
          number = f.number;
          made = λ z. f.made z ∙ sym (length-set s.views id w);
          own = f.own;
          aside = f.aside;
          gone = λ k d. gone_set s.views id k v w at live (f.gone k d);
        });
        below = below_set s.words s.words s.views id w (rise_none s.words) kept.below (λ _. below);
        fresh = λ k le. kept.fresh k (subst (λ m. m ≤ k) (length-set s.views id w) le);
        seen = seen_set names kept.log s.views id v w at live (λ e. e) kept.seen;
        place = home_noted history published kept.log s id v loads n at kept.place;
      }

  noted : (s : Table) (kept : Rule s) (i id : ℕ) (c : List (ℕ × Option V)) (v : View E) (loads : List (ℕ × ℕ)) (n : ℕ) → get_elem? s.views id ≡ some v → v.live ≡ true
      → Below s.words (record v { loads = loads; counted = n }) → Rule (stepped s i (get_or s.words i 0) id c (record v { loads = loads; counted = n }) keeps)
  noted s kept i id c v loads n at live below = subst (λ (ws : List ℕ). Rule record { words = ws; homes = s.homes; views = set s.views id (record v { loads = loads; counted = n }) }) (sym (set-get_or s.words i 0)) (noted_kept s kept id v loads n at live below)

  -- a load of a published word
  pub looks : (slots id : ℕ) (v : View E) (c : List (ℕ × Option V)) (i : ℕ) → v.live ≡ true → i < 65 → Allows Rule slots id (v, c) i (λ n. n) (looked (step slots i 0 0 none) (v, c))
  looks slots id v c i live low s kept len at fits =
      let n : ℕ = get_or s.words i 0 in
      let b = kept.below id v at live in (
        record v { loads = v.loads ++ (i, n) ∷ [] },
        keeps,
        tt,
        noted s kept i id c v (v.loads ++ (i, n) ∷ []) v.counted at live record {
          known = b.known;
          counted = b.counted;
          loads = λ word in_range. greatest-append word i n v.loads (get_or s.words word 0) (b.loads word in_range) (λ e. let same : n ≡ get_or s.words word 0 = ap (λ k. get_or s.words k 0) e in omega arith);
        },
        (refl, refl, b.loads i low, b.known i low),
      )

  -- a load of the number of entries
  pub counts : (slots id : ℕ) (v : View E) (c : List (ℕ × Option V)) → v.live ≡ true → Allows Rule slots id (v, c) 0 (λ n. n) (counted (step slots 0 0 0 none) (v, c))
  counts slots id v c live s kept len at fits =
      let n : ℕ = get_or s.words 0 0 in
      let b = kept.below id v at live in
      let begun = prefix_length v.seen kept.log (kept.each id v at live).own.begins in
      let all : length kept.log ≤ n = ⊎_elim (λ (h : Home history published kept.log s). let e = h.count in omega arith) (λ (o : Out history published kept.log s). o.count) kept.place in (
        record v { counted = n },
        keeps,
        tt,
        noted s kept 0 id c v v.loads n at live record { known = b.known; counted = le_refl n; loads = b.loads },
        (refl, refl, b.counted, omega arith),
      )
