-- A turn keeps the rule: gain, a store by the holder, leave.
use Rattle.std.proofs.Common.{◌≡◌, ◌≢◌, ℕ, ◌<◌, ◌≤◌, true, false, List, [], ◌∷◌, length, get_or, set, Option, Some, refl, ap, sym, ◌∙◌, subst, inl, inr, ⊎_elim, arith, length-set, get_or-set_other, get_or-set_same, eqb}
use Rattle.std.proofs.lemmas.List.Elements.{Contains-append_right}
use mathlib.Core.Option.{some, none}
use mathlib.Core.List.{IsPrefix}
use lib.ListN.{get_elem?}
use prog.Atomic.{either}
use Rattle.atomic_table.specs.Table.{State, Act, step, keeps, takes, gives, carried_after, Valid, stepped, Allows}
use Rattle.atomic_table.proofs.Lists.{at_set, set_here}
use Rattle.turnstile.specs.declared.rule.View.{View}
use Rattle.turnstile.specs.Histories.{own, added, NamesOnly}
use Rattle.turnstile.specs.Rule.{Knows, Home, Out, Kept}
use Rattle.turnstile.specs.Steps.{Seating, stored, left, Gains, gained}
use Rattle.turnstile.proofs.Beginnings.{others_same}
use Rattle.turnstile.proofs.Words.{Rise, rise_above, rise_set}
use Rattle.turnstile.proofs.Lists.{at_inside, one_value, not_true, not_both}
use Rattle.turnstile.proofs.Known.{gone_apart, gone_set, knows_all, knows_more, fits_more, each_set, seen_set, below_more, below_set, below_same, below_exact}
use Rattle.turnstile.proofs.Places.{out_of, holder_is, same_state}

module _ {V E : Type 0} (history : V → List E) (published : V → ℕ → ℕ) (names : E → Option ℕ) where
  abbrev Table : Type 0
  Table = State (Option V) (View E)

  abbrev Rule : Table → Type 0
  Rule = Kept history published names

  -- what a pass that gains the value learns
  gains_from : (s : Table) (kept : Rule s) (h : Home history published kept.log s) (id : ℕ) (v : View E) → get_elem? s.views id ≡ some v → v.live ≡ true
      → Gains history published names v (record v { seen = history h.value; holds = true; words = set s.words 65 1 }) h.value
  gains_from s kept h id v at live =
      let f = kept.each id v at live in
      let log = h.same in record {
        begins = subst (λ l. IsPrefix v.seen l) (sym log) f.own.begins;
        same = λ k c. ap (own names k) log ∙ f.own.same k c;
        fresh = λ z k le. ap (own names k) log ∙ kept.fresh k (subst (λ m. m ≤ k) (f.made z) le);
        view = refl;
        wide = length-set s.words 65 1 ∙ kept.wide;
        known = λ word low. let r = rise_above s.words 1 word low in let b = (kept.below id v at live).known word low in omega arith;
        count = get_or-set_other s.words 65 0 1 0 (λ e. omega arith) ∙ (h.count ∙ ap length (sym log));
        shown = λ word some_word low. get_or-set_other s.words 65 word 1 0 (λ e. omega arith) ∙ h.shown word some_word low;
        loads = λ word some_word low. let b = (kept.below id v at live).loads word low in let e = h.shown word some_word low in omega arith;
        counted = let b = (kept.below id v at live).counted in let e = h.count ∙ ap length (sym log) in omega arith;
      }

  gains_kept : (s : Table) (kept : Rule s) (h : Home history published kept.log s) (id : ℕ) (v : View E) → get_elem? s.views id ≡ some v → v.live ≡ true
      → Rule (stepped s 65 1 id [] (record v { seen = history h.value; holds = true; words = set s.words 65 1 }) (takes 0 (Some h.value)))
  gains_kept s kept h id v at live =
      let w : View E = record v { seen = history h.value; holds = true; words = set s.words 65 1 } in
      let f = kept.each id v at live in
      let wide = kept.wide in record {
        log = kept.log;
        wide = length-set s.words 65 1 ∙ kept.wide;
        each = each_set names kept.log kept.log s.views id v w at live (λ j u _ e on. kept.each j u e on) (λ _. record {
          number = f.number;
          made = λ z. f.made z ∙ sym (length-set s.views id w);
          own = subst (λ l. Knows names kept.log l (v.number ∷ v.joined)) (sym h.same) (knows_all names kept.log (v.number ∷ v.joined));
          aside = f.aside;
          gone = λ k c. gone_set s.views id k v w at live (f.gone k c);
        });
        below = below_set s.words (set s.words 65 1) s.views id w (rise_above s.words 1) kept.below (λ _. below_exact (set s.words 65 1) v w refl refl refl (below_more s.words (set s.words 65 1) v (rise_above s.words 1) (kept.below id v at live)));
        fresh = λ k le. kept.fresh k (subst (λ m. m ≤ k) (length-set s.views id w) le);
        seen = seen_set names kept.log s.views id v w at live (λ _. inl h.same) kept.seen;
        place = inr record {
          holder = id;
          view = w;
          taken = get_or-set_same s.words 65 1 0 (omega arith);
          home = ap (λ l. set l 0 none) h.home;
          there = set_here s.views id w (at_inside s.views id v at);
          live = live;
          holds = refl;
          seen = h.same;
          words = refl;
          count = let e = get_or-set_other s.words 65 0 1 0 (λ e. omega arith) in let c = h.count in omega arith;
          only = λ j u e on. ⊎_elim
              (λ (t : (j ≡ id) × (w ≡ u)). t.0)
              (λ (t : (j ≢ id) × (get_elem? s.views j ≡ some u)). absurd (not_both u.holds on (h.idle j u t.1)))
              (at_set s.views id j w u e);
        };
      }

  pub gains : (slots id : ℕ) (v : View E) → v.live ≡ true → Allows Rule slots id (v, []) 65 (λ n. either (eqb n 0) 1 n) (gained history published names (step slots 65 0 1 none) (v, []))
  gains slots id v live s kept len at fits =
      let Found : ℕ → Type 0 = λ n. (w : View E) × (a : Act (Option V)) × Valid s.homes [] a × Rule (stepped s 65 (either (eqb n 0) 1 n) id [] w a) × gained history published names (step slots 65 0 1 none) (v, []) n (w, carried_after [] a) in
      ⊎_elim
      (λ (h : Home history published kept.log s). subst Found (sym h.free) (
        record v { seen = history h.value; holds = true; words = set s.words 65 1 },
        takes 0 (Some h.value),
        ap (λ l. get_elem? l 0) h.home,
        gains_kept s kept h id v at live,
        ((λ _. (h.value, refl, gains_from s kept h id v at live)), (λ ne. absurd (ne refl))),
      ))
      (λ (o : Out history published kept.log s). subst Found (sym o.taken) (
        v,
        keeps,
        tt,
        subst Rule (sym (same_state history published s 65 1 id [] v at o.taken)) kept,
        ((λ e. absurd (omega arith)), (λ _. refl)),
      ))
      kept.place

  pub gains_as : (slots id : ℕ) (me : Seating V E) → me.1 ≡ [] → me.0.live ≡ true → Allows Rule slots id me 65 (λ n. either (eqb n 0) 1 n) (gained history published names (step slots 65 0 1 none) me)
  gains_as slots id me empty live = subst (λ (c : List (ℕ × Option V)). Allows Rule slots id (me.0, c) 65 (λ n. either (eqb n 0) 1 n) (gained history published names (step slots 65 0 1 none) (me.0, c))) (sym empty) (gains slots id me.0 live)

  -- the holder stores a number in a word
  stores_kept : (s : Table) (kept : Rule s) (id : ℕ) (v : View E) (c : List (ℕ × Option V)) (i n : ℕ) → get_elem? s.views id ≡ some v → v.live ≡ true → v.holds ≡ true → i < 65 → get_or v.words i 0 ≤ n
      → Rule (stepped s i n id c (record v { words = set v.words i n }) keeps)
  stores_kept s kept id v c i n at live on low more =
      let w : View E = record v { words = set v.words i n } in
      let f = kept.each id v at live in
      let o = out_of history published kept.log s id v at on kept.place in
      let is : o.view ≡ v = holder_is history published kept.log s o id v at on in
      let same : v.words ≡ s.words = subst (λ (x : View E). x.words ≡ s.words) is o.words in
      let wide = kept.wide in
      let rise : Rise s.words (set s.words i n) = rise_set s.words i n (omega arith) (subst (λ ws. get_or ws i 0 ≤ n) same more) in record {
        log = kept.log;
        wide = length-set s.words i n ∙ kept.wide;
        each = each_set names kept.log kept.log s.views id v w at live (λ j u _ e up. kept.each j u e up) (λ _. record {
          number = f.number;
          made = λ z. f.made z ∙ sym (length-set s.views id w);
          own = f.own;
          aside = f.aside;
          gone = λ k d. gone_set s.views id k v w at live (f.gone k d);
        });
        below = below_set s.words (set s.words i n) s.views id w rise kept.below (λ _. below_exact (set s.words i n) v w (ap (λ ws. set ws i n) same) refl refl (below_more s.words (set s.words i n) v rise (kept.below id v at live)));
        fresh = λ k le. kept.fresh k (subst (λ m. m ≤ k) (length-set s.views id w) le);
        seen = seen_set names kept.log s.views id v w at live (λ e. e) kept.seen;
        place = inr record {
          holder = id;
          view = w;
          taken = get_or-set_other s.words i 65 n 0 (λ e. omega arith) ∙ o.taken;
          home = o.home;
          there = set_here s.views id w (at_inside s.views id v at);
          live = live;
          holds = on;
          seen = subst (λ (x : View E). x.seen ≡ kept.log) is o.seen;
          words = ap (λ ws. set ws i n) same;
          count = let r = rise 0 (omega arith) in let c = o.count in omega arith;
          only = λ j u e up. ⊎_elim
              (λ (t : (j ≡ id) × (w ≡ u)). t.0)
              (λ (t : (j ≢ id) × (get_elem? s.views j ≡ some u)). o.only j u t.1 up ∙ sym (o.only id v at on))
              (at_set s.views id j w u e);
        };
      }

  pub stores : (slots id : ℕ) (v : View E) (c : List (ℕ × Option V)) (i n : ℕ) → v.live ≡ true → v.holds ≡ true → i < 65 → get_or v.words i 0 ≤ n
      → Allows Rule slots id (v, c) i (λ _. n) (λ _. stored (step slots i n 0 none) (v, c) n)
  stores slots id v c i n live on low more s kept len at fits = (record v { words = set v.words i n }, keeps, tt, stores_kept s kept id v c i n at live on low more, (refl, refl))

  -- the holder gives the value back
  leaves_kept : (s : Table) (kept : Rule s) (id : ℕ) (v : View E) (x : V) → get_elem? s.views id ≡ some v → v.live ≡ true → v.holds ≡ true
      → IsPrefix v.seen (history x) → NamesOnly names v.number (added v.seen (history x)) → get_or v.words 0 0 ≡ length (history x) → ((word : ℕ) → 0 < word → word < 65 → get_or v.words word 0 ≡ published x word)
      → Rule (stepped s 65 0 id ((0, Some x) ∷ []) (record v { seen = history x; holds = false }) gives)
  leaves_kept s kept id v x at live on begins only count shown =
      let w : View E = record v { seen = history x; holds = false } in
      let f = kept.each id v at live in
      let o = out_of history published kept.log s id v at on kept.place in
      let is : o.view ≡ v = holder_is history published kept.log s o id v at on in
      let whole : v.seen ≡ kept.log = subst (λ (y : View E). y.seen ≡ kept.log) is o.seen in
      let words : v.words ≡ s.words = subst (λ (y : View E). y.words ≡ s.words) is o.words in
      let more : IsPrefix kept.log (history x) = subst (λ l. IsPrefix l (history x)) whole begins in
      let others : (k : ℕ) → k ≢ id → own names k (history x) ≡ own names k kept.log = λ k apart.
      others_same names v.number k v.seen (history x) begins only (λ e. apart (e ∙ f.number)) ∙ ap (own names k) whole in
      let wide = kept.wide in
      let inside = at_inside s.views id v at in record {
        log = history x;
        wide = length-set s.words 65 0 ∙ kept.wide;
        each = each_set names kept.log (history x) s.views id v w at live
            (λ j u apart e up. fits_more names kept.log (history x) s.views id v at live more others j u apart (kept.each j u e up))
            (λ _. record {
              number = f.number;
              made = λ z. f.made z ∙ sym (length-set s.views id w);
              own = knows_all names (history x) (v.number ∷ v.joined);
              aside = knows_more names kept.log (history x) v.aside v.guests more
                  (λ k d. others k (gone_apart s.views id k v at live (f.gone k (Contains-append_right v.joined v.guests k d)))) f.aside;
              gone = λ k d. gone_set s.views id k v w at live (f.gone k d);
            });
        below = below_set s.words (set s.words 65 0) s.views id w (rise_above s.words 0) kept.below (λ _. below_same (set s.words 65 0) v w refl refl refl (below_more s.words (set s.words 65 0) v (rise_above s.words 0) (kept.below id v at live)));
        fresh = λ k le. let far : length s.views ≤ k = subst (λ m. m ≤ k) (length-set s.views id w) le in others k (λ e. omega arith) ∙ kept.fresh k far;
        seen = record { at = id; view = w; there = set_here s.views id w inside; live = live; whole = inl refl };
        place = inl record {
          value = x;
          free = get_or-set_same s.words 65 0 0 (omega arith);
          home = ap (λ l. set l 0 (some (Some x))) o.home;
          same = refl;
          count = get_or-set_other s.words 65 0 0 0 (λ e. omega arith) ∙ (ap (λ ws. get_or ws 0 0) (sym words) ∙ count);
          shown = λ word some_word low. get_or-set_other s.words 65 word 0 0 (λ e. omega arith) ∙ (ap (λ ws. get_or ws word 0) (sym words) ∙ shown word some_word low);
          idle = λ j u e. ⊎_elim
              (λ (t : (j ≡ id) × (w ≡ u)). ap (λ (y : View E). y.holds) (sym t.1))
              (λ (t : (j ≢ id) × (get_elem? s.views j ≡ some u)). not_true u.holds (λ up. t.0 (o.only j u t.1 up ∙ sym (o.only id v at on))))
              (at_set s.views id j w u e);
        };
      }

  pub leaves : (slots id : ℕ) (v : View E) (x : V) → v.live ≡ true → v.holds ≡ true
      → IsPrefix v.seen (history x) → NamesOnly names v.number (added v.seen (history x)) → get_or v.words 0 0 ≡ length (history x) → ((word : ℕ) → 0 < word → word < 65 → get_or v.words word 0 ≡ published x word)
      → Allows Rule slots id (v, (0, Some x) ∷ []) 65 (λ _. 0) (λ _. left history (step slots 65 0 0 none) (v, (0, Some x) ∷ []) 0)
  leaves slots id v x live on begins only count shown s kept len at fits = (
    record v { seen = history x; holds = false },
    gives,
    tt,
    leaves_kept s kept id v x at live on begins only count shown,
    λ y e. let same : x ≡ y = one_value x y e in (ap (λ (z : V). record v { seen = history z; holds = false }) same, refl),
  )
