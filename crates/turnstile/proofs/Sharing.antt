-- Split and join keep the rule.
use Rattle.std.proofs.Common.{◌≡◌, ◌≢◌, ℕ, ◌+◌, ◌≤◌, ◌⊎◌, true, false, List, [], ◌∷◌, ◌++◌, length, set, Option, refl, ap, sym, ◌∙◌, subst, inl, inr, ⊎_elim, arith, length-append, length-set}
use Rattle.std.specs.Prelude.{Contains}
use Rattle.std.proofs.lemmas.List.{append-nil}
use Rattle.std.proofs.lemmas.List.Elements.{Contains-append_left, Contains-append_cases}
use mathlib.Core.Logic.{dite}
use mathlib.Core.Option.{some, none}
use mathlib.Core.List.{IsPrefix}
use native.Mathlib.Decide.{ℕ_discrete}
use lib.ListN.{get_elem?}
use lib.Seq.{set-get_or}
use Rattle.atomic_table.specs.Table.{State, step, keeps, Allows, Splits, Joins}
use Rattle.atomic_table.proofs.Lists.{at_set, set_here, set_else, at_longer}
use Rattle.turnstile.specs.declared.rule.View.{View}
use Rattle.turnstile.specs.Histories.{own, longer}
use Rattle.turnstile.specs.Rule.{spent, counting_one_more, next_pass, beside, merge_of, IsGone, Fits, IsSeen, Below, Kept}
use Rattle.turnstile.specs.Steps.{Merges, merged}
use Rattle.turnstile.proofs.Beginnings.{own_between, own_none}
use Rattle.turnstile.proofs.Words.{rise_none}
use Rattle.turnstile.proofs.Lists.{at_inside, at_once, at_end, contains_none, contains_cases, not_both}
use Rattle.turnstile.proofs.Known.{gone_set, longer_begins, longer_whole, knows_longer, fits_set, EachFits, each_set, seen_set, below_set, below_same, below_new, seen_itself}
use Rattle.turnstile.proofs.Places.{with_views, home_set, home_longer}

module _ {V E : Type 0} (history : V → List E) (published : V → ℕ → ℕ) (names : E → Option ℕ) where
  abbrev Table : Type 0
  Table = State (Option V) (View E)

  abbrev Rule : Table → Type 0
  Rule = Kept history published names

  -- what was set aside is taken in
  merges_from : (s : Table) (kept : Rule s) (id : ℕ) (v : View E) → get_elem? s.views id ≡ some v → v.live ≡ true → Merges names v (merge_of v)
  merges_from s kept id v at live =
      let f = kept.each id v at live in
      let l = longer_begins names kept.log v.seen v.aside f.own.begins f.aside.begins in record {
        view = refl;
        begins = l.1;
        aside = l.2;
        same = λ k c. own_between names k v.seen (longer v.seen v.aside) kept.log l.1 l.0 (f.own.same k c);
        guests = λ k c. own_between names k v.aside (longer v.seen v.aside) kept.log l.2 l.0 (f.aside.same k c);
        fresh = λ z k le. own_none names k (longer v.seen v.aside) kept.log l.0 (kept.fresh k (subst (λ m. m ≤ k) (f.made z) le));
      }

  merges_kept : (s : Table) (kept : Rule s) (id : ℕ) (v : View E) → get_elem? s.views id ≡ some v → v.live ≡ true → v.holds ≡ false → Rule (with_views history published s (set s.views id (merge_of v)))
  merges_kept s kept id v at live idle =
      let w : View E = merge_of v in
      let f = kept.each id v at live in record {
        log = kept.log;
        wide = kept.wide;
        each = each_set names kept.log kept.log s.views id v w at live (λ j u _ e up. kept.each j u e up) (λ _. record {
          number = f.number;
          made = λ z. f.made z ∙ sym (length-set s.views id w);
          own = knows_longer names kept.log v.seen v.aside (v.number ∷ v.joined) v.guests f.own f.aside;
          aside = record { begins = (kept.log, refl); same = λ k c. contains_none k c };
          gone = λ k d. gone_set s.views id k v w at live (f.gone k (subst (λ l. Contains l k) (append-nil (v.joined ++ v.guests)) d));
        });
        below = below_set s.words s.words s.views id w (rise_none s.words) kept.below (λ _. below_same s.words v w refl refl refl (kept.below id v at live));
        fresh = λ k le. kept.fresh k (subst (λ m. m ≤ k) (length-set s.views id w) le);
        seen = seen_set names kept.log s.views id v w at live (λ all. inl (longer_whole names kept.log v.seen v.aside f.own.begins f.aside.begins all)) kept.seen;
        place = home_set history published kept.log s id v w at idle idle kept.place;
      }

  pub merges : (slots id : ℕ) (v : View E) (c : List (ℕ × Option V)) → v.live ≡ true → v.holds ≡ false
      → Allows Rule slots id (v, c) 0 (λ n. n) (merged names (step slots 0 0 0 none) (v, c))
  merges slots id v c live idle s kept len at fits = (
    merge_of v,
    keeps,
    tt,
    subst (λ (ws : List ℕ). Rule record { words = ws; homes = s.homes; views = set s.views id (merge_of v) }) (sym (set-get_or s.words 0 0)) (merges_kept s kept id v at live idle),
    (refl, merges_from s kept id v at live),
  )

  -- a new pass comes
  splits_fit : (log : List E) (views : List (View E)) (id : ℕ) (v : View E) → get_elem? views id ≡ some v → v.live ≡ true → v.number ≡ 0
      → EachFits names log views → ((k : ℕ) → length views ≤ k → own names k log ≡ []) → EachFits names log (set views id (counting_one_more v) ++ next_pass v ∷ [])
  splits_fit log views id v at live is_first each fresh j u e on =
      let f = each id v at live in
      let lefts : List (View E) = set views id (counting_one_more v) in
      let all : List (View E) = lefts ++ next_pass v ∷ [] in
      let n : length lefts ≡ length views = length-set views id (counting_one_more v) in
      let m : length all ≡ length views + 1 = length-append lefts (next_pass v ∷ []) ∙ ap (λ k. k + 1) n in
      let made : v.made ≡ length views = f.made is_first in
      let inside = at_inside views id v at in
      let still : (k : ℕ) → IsGone views k → IsGone all k = λ k gone. at_longer lefts (next_pass v ∷ []) k spent (gone_set views id k v (counting_one_more v) at live gone) in
      let begins : IsPrefix v.seen log = f.own.begins in
      let bare : own names v.made log ≡ [] = fresh v.made (omega arith) in
      ⊎_elim
      (λ (was : get_elem? lefts j ≡ some u). ⊎_elim
      (λ (t : (j ≡ id) × (counting_one_more v ≡ u)). subst (λ (x : ℕ × View E). Fits names log all x.0 x.1) (λ i. (sym t.0 i, t.1 i)) record {
        number = f.number;
        made = λ z. ap (λ k. k + 1) made ∙ sym m;
        own = f.own;
        aside = f.aside;
        gone = λ k c. still k (f.gone k c);
      })
      (λ (t : (j ≢ id) × (get_elem? views j ≡ some u)).
      let g = each j u t.1 on in record {
        number = g.number;
        made = λ z. absurd (t.0 (sym g.number ∙ (z ∙ (sym is_first ∙ f.number))));
        own = g.own;
        aside = g.aside;
        gone = λ k c. still k (g.gone k c);
      })
      (at_set views id j (counting_one_more v) u was))
      (λ (t : (j ≡ length lefts) × (next_pass v ≡ u)). subst (λ (x : ℕ × View E). Fits names log all x.0 x.1) (λ i. (sym t.0 i, t.1 i)) record {
        number = made ∙ sym n;
        made = λ z. absurd (omega arith);
        own = record {
          begins = begins;
          same = λ k c. ⊎_elim
              (λ (is : v.made ≡ k). subst (λ i. own names i log ≡ own names i v.seen) is (bare ∙ sym (own_none names v.made v.seen log begins bare)))
              (λ (c : Contains [] k). contains_none k c)
              (contains_cases v.made k [] c);
        };
        aside = record { begins = (log, refl); same = λ k c. contains_none k c };
        gone = λ k c. contains_none k c;
      })
      (at_end lefts (next_pass v) u j e)

  pub splits : (id : ℕ) (v : View E) → v.live ≡ true → v.holds ≡ false → v.number ≡ 0 → Splits Rule id v (counting_one_more v) (next_pass v)
  splits id v live idle is_first s kept at =
      let lefts : List (View E) = set s.views id (counting_one_more v) in
      let n : length lefts ≡ length s.views = length-set s.views id (counting_one_more v) in
      let m : length (lefts ++ next_pass v ∷ []) ≡ length s.views + 1 = length-append lefts (next_pass v ∷ []) ∙ ap (λ k. k + 1) n in
      let r = seen_set names kept.log s.views id v (counting_one_more v) at live (λ e. e) kept.seen in record {
        log = kept.log;
        wide = kept.wide;
        each = splits_fit kept.log s.views id v at live is_first kept.each kept.fresh;
        below = λ j u e on. ⊎_elim
            (λ (was : get_elem? lefts j ≡ some u). below_set s.words s.words s.views id (counting_one_more v) (rise_none s.words) kept.below (λ _. below_same s.words v (counting_one_more v) refl refl refl (kept.below id v at live)) j u was on)
            (λ (t : (j ≡ length lefts) × (next_pass v ≡ u)). subst (Below s.words) t.1 (below_new s.words (next_pass v) (kept.below id v at live).known refl refl))
            (at_end lefts (next_pass v) u j e);
        fresh = λ k le. kept.fresh k (omega arith);
        seen = record { at = r.at; view = r.view; there = at_longer lefts (next_pass v ∷ []) r.at r.view r.there; live = r.live; whole = r.whole };
        place = home_longer history published kept.log (with_views history published s lefts) (next_pass v) refl (home_set history published kept.log s id v (counting_one_more v) at idle idle kept.place);
      }

  joined_seen : (log : List E) (views : List (View E)) (id : ℕ) (v : View E) (other : ℕ) (w : View E) → get_elem? views id ≡ some v → get_elem? views other ≡ some w → other ≢ id → v.live ≡ true
      → v.aside ≡ [] → w.aside ≡ [] → IsPrefix v.seen log → IsPrefix w.seen log → IsSeen names log views → IsSeen names log (set (set views id (beside v w)) other spent)
  joined_seen log views id v other w at there apart live bare bare' begins begins' r =
      let b : View E = beside v w in
      let firsts : List (View E) = set views id b in
      let kept_there : get_elem? (set firsts other spent) id ≡ some b = set_else firsts other id spent (λ e. apart (sym e)) ∙ set_here views id b (at_inside views id v at) in
      dite (ℕ_discrete r.at id)
      (λ e. record {
        at = id;
        view = b;
        there = kept_there;
        live = live;
        whole = inl (seen_itself log v bare begins (subst (λ (x : View E). (x.seen ≡ log) ⊎ (x.aside ≡ log)) (at_once views id r.view v (subst (λ j. get_elem? views j ≡ some r.view) e r.there) at) r.whole));
      })
      (λ off. dite (ℕ_discrete r.at other)
      (λ e. record {
        at = id;
        view = b;
        there = kept_there;
        live = live;
        whole = inr (seen_itself log w bare' begins' (subst (λ (x : View E). (x.seen ≡ log) ⊎ (x.aside ≡ log)) (at_once views other r.view w (subst (λ j. get_elem? views j ≡ some r.view) e r.there) there) r.whole));
      })
      (λ off'. record { at = r.at; view = r.view; there = set_else firsts other r.at spent off' ∙ (set_else views id r.at b off ∙ r.there); live = r.live; whole = r.whole }))

  -- a pass is joined
  pub joins : (id : ℕ) (v : View E) (other : ℕ) (w : View E) → v.live ≡ true → v.holds ≡ false → v.guests ≡ [] → v.aside ≡ [] → w.live ≡ true → w.holds ≡ false → w.guests ≡ [] → w.aside ≡ []
      → Joins Rule id v other w (beside v w) spent
  joins id v other w live idle no_guests no_aside live' idle' no_guests' no_aside' s kept at apart there =
      let b : View E = beside v w in
      let firsts : List (View E) = set s.views id b in
      let views : List (View E) = set firsts other spent in
      let there' : get_elem? s.views other ≡ some w = sym (set_else s.views id other b apart) ∙ there in
      let f = kept.each id v at live in
      let g = kept.each other w there' live' in
      let n : length firsts ≡ length s.views = length-set s.views id b in
      let m : length views ≡ length s.views = length-set firsts other spent ∙ n in
      let still : (k : ℕ) → IsGone s.views k → IsGone views k = λ k gone. gone_set firsts other k w spent there live' (gone_set s.views id k v b at live gone) in
      let both : Fits names kept.log views id b = record {
        number = f.number;
        made = λ z. f.made z ∙ sym m;
        own = f.own;
        aside = g.own;
        gone = λ k c. ⊎_elim
            (λ (d : Contains v.joined k). still k (f.gone k (Contains-append_left v.joined v.guests k d)))
            (λ (d : Contains (w.number ∷ w.joined) k). ⊎_elim
            (λ (is : w.number ≡ k). subst (IsGone views) (sym g.number ∙ is) (set_here firsts other spent (at_inside firsts other w there)))
            (λ (d : Contains w.joined k). still k (g.gone k (Contains-append_left w.joined w.guests k d)))
            (contains_cases w.number k w.joined d))
            (Contains-append_cases v.joined (w.number ∷ w.joined) k c);
      } in record {
        log = kept.log;
        wide = kept.wide;
        each = λ j u e on. ⊎_elim
            (λ (t : (j ≡ other) × (spent ≡ u)). absurd (not_both u.live on (sym (ap (λ (x : View E). x.live) t.1))))
            (λ (t : (j ≢ other) × (get_elem? firsts j ≡ some u)). ⊎_elim
            (λ (q : (j ≡ id) × (b ≡ u)). subst (λ (x : ℕ × View E). Fits names kept.log views x.0 x.1) (λ i. (sym q.0 i, q.1 i)) both)
            (λ (q : (j ≢ id) × (get_elem? s.views j ≡ some u)). fits_set names kept.log firsts other w spent there live' j u (fits_set names kept.log s.views id v b at live j u (kept.each j u q.1 on)))
            (at_set s.views id j b u t.1))
            (at_set firsts other j spent u e);
        below = below_set s.words s.words firsts other spent (rise_none s.words)
            (below_set s.words s.words s.views id b (rise_none s.words) kept.below (λ _. below_same s.words v b refl refl refl (kept.below id v at live)))
            (λ on. absurd (not_both false on refl));
        fresh = λ k le. kept.fresh k (omega arith);
        seen = joined_seen kept.log s.views id v other w at there' apart live no_aside no_aside' f.own.begins g.own.begins kept.seen;
        place = home_set history published kept.log (with_views history published s firsts) other w spent there idle' refl (home_set history published kept.log s id v b at idle idle kept.place);
      }
