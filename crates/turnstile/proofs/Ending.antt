-- The rule holds at the start, and what it says at the end.
use Rattle.std.proofs.Common.{◌≡◌, ℕ, zero, suc, ◌<◌, ◌⊎◌, true, false, List, [], ◌∷◌, length, get_or, Option, Some, refl, ap, sym, ◌∙◌, subst, inl, ⊎_elim, arith}
use Rattle.std.specs.Prelude.{Contains}
use Rattle.std.proofs.lemmas.List.Elements.{Contains-append_left}
use mathlib.Core.Logic.{dite}
use mathlib.Core.Option.{some, some-injective, some-ne-none}
use native.Mathlib.Decide.{ℕ_discrete}
use lib.ListN.{get_elem?}
use Rattle.atomic_table.specs.Seated.{TableId}
use Rattle.atomic_table.specs.Table.{State, opening}
use Rattle.turnstile.specs.declared.rule.View.{View}
use Rattle.turnstile.specs.Histories.{NamesNone}
use Rattle.turnstile.specs.Rule.{opened, IsGone, Fits, Below, Home, Out, Kept}
use Rattle.turnstile.specs.Passes.{known, Closed}
use Rattle.turnstile.proofs.Words.{rise_none}
use Rattle.turnstile.proofs.Lists.{at_inside, at_once, contains_none, not_both}
use Rattle.turnstile.proofs.Known.{gone_apart, knows_all, below_new, seen_itself}

module _ {V E : Type 0} (history : V → List E) (published : V → ℕ → ℕ) (names : E → Option ℕ) where
  abbrev Table : Type 0
  Table = State (Option V) (View E)

  abbrev Rule : Table → Type 0
  Rule = Kept history published names

  -- the table at the start
  pub opens : (words : List ℕ) (x : V) → length words ≡ 66 → get_or words 0 0 ≡ length (history x) → get_or words 65 0 ≡ 0 → ((word : ℕ) → 0 < word → word < 65 → get_or words word 0 ≡ published x word) → NamesNone names (history x)
      → Rule (opening words (Some x ∷ []) (opened (history x) words))
  opens words x wide count free shown unnamed = record {
    log = history x;
    wide = wide;
    each = one;
    below = low;
    fresh = λ k le. unnamed k;
    seen = record { at = 0; view = opened (history x) words; there = refl; live = refl; whole = inl refl };
    place = inl record { value = x; free = free; home = refl; same = refl; count = count; shown = shown; idle = off };
  }
    where
      one : (j : ℕ) (v : View E) → get_elem? (opened (history x) words ∷ []) j ≡ some v → v.live ≡ true → Fits names (history x) (opened (history x) words ∷ []) j v
      one zero v e on = subst (Fits names (history x) (opened (history x) words ∷ []) 0) (some-injective (opened (history x) words) v e) record {
        number = refl;
        made = λ z. refl;
        own = knows_all names (history x) (0 ∷ []);
        aside = record { begins = (history x, refl); same = λ k c. contains_none k c };
        gone = λ k c. contains_none k c;
      }
      one (suc j) v e on = absurd (some-ne-none v (sym e))

      low : (j : ℕ) (v : View E) → get_elem? (opened (history x) words ∷ []) j ≡ some v → v.live ≡ true → Below words v
      low zero v e on = subst (Below words) (some-injective (opened (history x) words) v e) (below_new words (opened (history x) words) (rise_none words) refl refl)
      low (suc j) v e on = absurd (some-ne-none v (sym e))

      off : (j : ℕ) (v : View E) → get_elem? (opened (history x) words ∷ []) j ≡ some v → v.holds ≡ false
      off zero v e = sym (ap (λ (u : View E). u.holds) (some-injective (opened (history x) words) v e))
      off (suc j) v e = absurd (some-ne-none v (sym e))

  pub opens_as : (words key : List ℕ) (slots : List (Option V)) (x y : V) → slots ≡ Some x ∷ [] → y ≡ x → key ≡ words → length words ≡ 66 → get_or words 0 0 ≡ length (history x) → get_or words 65 0 ≡ 0 → ((word : ℕ) → 0 < word → word < 65 → get_or words word 0 ≡ published x word) → NamesNone names (history x)
      → Rule (opening words slots (opened (history y) key))
  opens_as words key slots x y only same copied wide count free shown unnamed = subst (λ (l : List (Option V) × V × List ℕ). Rule (opening words l.0 (opened (history l.1) l.2))) (λ i. (sym only i, sym same i, sym copied i)) (opens words x wide count free shown unnamed)

  -- where every other pass was joined, the value is home, and its history is what the pass has seen
  pub ends : (s : Table) (kept : Rule s) (id : ℕ) (v : View E) → get_elem? s.views id ≡ some v → v.live ≡ true → v.holds ≡ false → v.number ≡ 0 → v.aside ≡ []
      → ((k : ℕ) → 0 < k → k < v.made → Contains v.joined k) → (x : V) × (s.homes ≡ some (Some x) ∷ []) × ((name : TableId) → Closed history published (known name v) x)
  ends s kept id v at live idle is_first bare joined =
      let f = kept.each id v at live in
      let made : v.made ≡ length s.views = f.made is_first in
      let alone : (j : ℕ) (u : View E) → get_elem? s.views j ≡ some u → u.live ≡ true → u ≡ v = λ j u e on. dite (ℕ_discrete j id)
      (λ is. at_once s.views id u v (subst (λ i. get_elem? s.views i ≡ some u) is e) at)
      (λ apart.
      let inside = at_inside s.views j u e in
      let here : id ≡ 0 = sym f.number ∙ is_first in
      let gone : IsGone s.views j = f.gone j (Contains-append_left v.joined v.guests j (joined j (omega arith) (omega arith))) in
      absurd (gone_apart s.views j j u e on gone refl)) in
      let r = kept.seen in
      let whole : v.seen ≡ kept.log = seen_itself kept.log v bare f.own.begins (subst (λ (x : View E). (x.seen ≡ kept.log) ⊎ (x.aside ≡ kept.log)) (alone r.at r.view r.there r.live) r.whole) in
      ⊎_elim
      (λ (h : Home history published kept.log s). (
        h.value,
        h.home,
        λ name. record {
          whole = h.same ∙ sym whole;
          known = λ word some_word low. let e = h.shown word some_word low in let b = (kept.below id v at live).known word low in omega arith;
          loads = λ word some_word low. let e = h.shown word some_word low in let b = (kept.below id v at live).loads word low in omega arith;
          counted = let e = h.count ∙ ap length (sym h.same) in let b = (kept.below id v at live).counted in omega arith;
        },
      ))
      (λ (o : Out history published kept.log s). absurd (not_both o.view.holds o.holds (ap (λ (x : View E). x.holds) (alone o.holder o.view o.there o.live) ∙ idle)))
      kept.place
