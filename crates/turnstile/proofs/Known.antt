-- What the passes know, where one of them changes its view.
use Rattle.std.proofs.Common.{◌≡◌, ◌≢◌, ℕ, ◌≤◌, ◌⊎◌, true, List, [], ◌∷◌, ◌++◌, length, get_or, set, Option, refl, ap, sym, ◌∙◌, subst, ⊎_elim, arith, length-set, le_refl}
use Rattle.std.specs.Prelude.{Contains}
use Rattle.std.proofs.lemmas.List.Elements.{Contains-append_left, Contains-append_right, Contains-append_cases}
use mathlib.Core.Logic.{dite}
use mathlib.Core.Option.{some}
use mathlib.Core.List.{IsPrefix}
use native.Mathlib.Decide.{ℕ_discrete}
use lib.ListN.{get_elem?}
use Rattle.atomic_table.proofs.Lists.{at_set, set_here, set_else}
use Rattle.turnstile.specs.declared.rule.View.{View}
use Rattle.turnstile.specs.Histories.{own, longer, greatest}
use Rattle.turnstile.specs.Rule.{spent, IsGone, Knows, Fits, IsSeen, Below}
use Rattle.turnstile.specs.Steps.{counted}
use Rattle.turnstile.specs.Passes.{known}
use Rattle.turnstile.proofs.Beginnings.{prefix_self, prefix_trans, prefix_shorter, prefix_whole, prefix_length, longer_is, own_between}
use Rattle.turnstile.proofs.Words.{Rise}
use Rattle.turnstile.proofs.Lists.{at_inside, at_once, contains_cases, not_both}

module _ {E : Type 0} where
  -- a pass that was joined is not a live one
  pub gone_apart : (views : List (View E)) (id k : ℕ) (v : View E) → get_elem? views id ≡ some v → v.live ≡ true → IsGone views k → k ≢ id
  gone_apart views id k v at live gone e =
      let same : spent ≡ v = at_once views id spent v (subst (λ j. get_elem? views j ≡ some spent) e gone) at in
      not_both v.live live (sym (ap (λ (u : View E). u.live) same))

  pub gone_set : (views : List (View E)) (id k : ℕ) (v w : View E) → get_elem? views id ≡ some v → v.live ≡ true → IsGone views k → IsGone (set views id w) k
  gone_set views id k v w at live gone = set_else views id k w (gone_apart views id k v at live gone) ∙ gone

module _ {E : Type 0} (names : E → Option ℕ) where
  pub knows_all : (log : List E) (numbers : List ℕ) → Knows names log log numbers
  knows_all log numbers = record { begins = prefix_self log; same = λ k c. refl }

  -- what was seen still begins a history that has grown by entries of others
  pub knows_more : (log more seen : List E) (numbers : List ℕ) → IsPrefix log more → ((k : ℕ) → Contains numbers k → own names k more ≡ own names k log) → Knows names log seen numbers → Knows names more seen numbers
  knows_more log more seen numbers p same known = record { begins = prefix_trans seen log more known.begins p; same = λ k c. same k c ∙ known.same k c }

  -- of two histories that were seen, the longer one has what is known of both
  pub longer_begins : (log xs ys : List E) → IsPrefix xs log → IsPrefix ys log → IsPrefix (longer xs ys) log × IsPrefix xs (longer xs ys) × IsPrefix ys (longer xs ys)
  longer_begins log xs ys p q = longer_is (λ (l : List E). IsPrefix l log × IsPrefix xs l × IsPrefix ys l) xs ys
      (λ less. (q, prefix_shorter xs ys log p q (omega arith), prefix_self ys))
      (λ less. (p, prefix_self xs, prefix_shorter ys xs log q p less))

  pub longer_whole : (log xs ys : List E) → IsPrefix xs log → IsPrefix ys log → (xs ≡ log) ⊎ (ys ≡ log) → longer xs ys ≡ log
  longer_whole log xs ys p q all =
      let l = longer_begins log xs ys p q in
      let le : length log ≤ length (longer xs ys) = ⊎_elim
      (λ (e : xs ≡ log). let m = prefix_length xs (longer xs ys) l.1 in let n = ap length e in omega arith)
      (λ (e : ys ≡ log). let m = prefix_length ys (longer xs ys) l.2 in let n = ap length e in omega arith) all in
      prefix_whole (longer xs ys) log l.0 le

  pub knows_longer : (log xs ys : List E) (ks ls : List ℕ) → Knows names log xs ks → Knows names log ys ls → Knows names log (longer xs ys) (ks ++ ls)
  knows_longer log xs ys ks ls a b =
      let l = longer_begins log xs ys a.begins b.begins in record {
        begins = l.0;
        same = λ k c. ⊎_elim
            (λ (d : Contains ks k). a.same k d ∙ sym (own_between names k xs (longer xs ys) log l.1 l.0 (a.same k d)))
            (λ (d : Contains ls k). b.same k d ∙ sym (own_between names k ys (longer xs ys) log l.2 l.0 (b.same k d)))
            (Contains-append_cases ks ls k c);
      }

  -- a view still fits where another pass has a new one
  pub fits_set : (log : List E) (views : List (View E)) (id : ℕ) (v w : View E) → get_elem? views id ≡ some v → v.live ≡ true → (j : ℕ) (u : View E) → Fits names log views j u → Fits names log (set views id w) j u
  fits_set log views id v w at live j u f = record {
    number = f.number;
    made = λ z. f.made z ∙ sym (length-set views id w);
    own = f.own;
    aside = f.aside;
    gone = λ k c. gone_set views id k v w at live (f.gone k c);
  }

  -- and where the pass id adds entries of its own
  pub fits_more : (log more : List E) (views : List (View E)) (id : ℕ) (v : View E) → get_elem? views id ≡ some v → v.live ≡ true → IsPrefix log more → ((k : ℕ) → k ≢ id → own names k more ≡ own names k log)
      → (j : ℕ) (u : View E) → j ≢ id → Fits names log views j u → Fits names more views j u
  fits_more log more views id v at live p same j u apart f =
      let joined : (k : ℕ) → Contains (u.joined ++ u.guests) k → own names k more ≡ own names k log = λ k c. same k (gone_apart views id k v at live (f.gone k c)) in record {
        number = f.number;
        made = f.made;
        own = knows_more log more u.seen (u.number ∷ u.joined) p
            (λ k c. ⊎_elim
            (λ (e : u.number ≡ k). same k (λ is. apart (sym f.number ∙ (e ∙ is))))
            (λ (d : Contains u.joined k). joined k (Contains-append_left u.joined u.guests k d))
            (contains_cases u.number k u.joined c))
            f.own;
        aside = knows_more log more u.aside u.guests p (λ k c. joined k (Contains-append_right u.joined u.guests k c)) f.aside;
        gone = f.gone;
      }

  -- the views of all live passes fit
  abbrev pub EachFits : List E → List (View E) → Type 0
  EachFits log views = (j : ℕ) (u : View E) → get_elem? views j ≡ some u → u.live ≡ true → Fits names log views j u

  pub each_set : (log more : List E) (views : List (View E)) (id : ℕ) (v w : View E) → get_elem? views id ≡ some v → v.live ≡ true
      → ((j : ℕ) (u : View E) → j ≢ id → get_elem? views j ≡ some u → u.live ≡ true → Fits names more views j u)
      → (w.live ≡ true → Fits names more (set views id w) id w) → EachFits more (set views id w)
  each_set log more views id v w at live others mine j u e on = ⊎_elim
      (λ (t : (j ≡ id) × (w ≡ u)). subst (λ (x : ℕ × View E). Fits names more (set views id w) x.0 x.1) (λ i. (sym t.0 i, t.1 i)) (mine (ap (λ (x : View E). x.live) t.1 ∙ on)))
      (λ (t : (j ≢ id) × (get_elem? views j ≡ some u)). fits_set more views id v w at live j u (others j u t.0 t.1 on))
      (at_set views id j w u e)

  -- the history was seen whole, also where one view changes and what it has seen does not
  pub seen_set : (log : List E) (views : List (View E)) (id : ℕ) (v w : View E) → get_elem? views id ≡ some v → w.live ≡ true
      → ((v.seen ≡ log) ⊎ (v.aside ≡ log) → (w.seen ≡ log) ⊎ (w.aside ≡ log)) → IsSeen names log views → IsSeen names log (set views id w)
  seen_set log views id v w at live same r = dite (ℕ_discrete r.at id)
      (λ e. record {
        at = id;
        view = w;
        there = set_here views id w (at_inside views id v at);
        live = live;
        whole = same (subst (λ (x : View E). (x.seen ≡ log) ⊎ (x.aside ≡ log)) (at_once views id r.view v (subst (λ j. get_elem? views j ≡ some r.view) e r.there) at) r.whole);
      })
      (λ apart. record { at = r.at; view = r.view; there = set_else views id r.at w apart ∙ r.there; live = r.live; whole = r.whole })

module _ {E : Type 0} where
  abbrev pub EachBelow : List ℕ → List (View E) → Type 0
  EachBelow words views = (j : ℕ) (u : View E) → get_elem? views j ≡ some u → u.live ≡ true → Below words u

  pub below_more : (words more : List ℕ) (u : View E) → Rise words more → Below words u → Below more u
  below_more words more u rise b = record {
    known = λ word low. let r = rise word low in let l = b.known word low in omega arith;
    counted = let r = rise 0 (omega arith) in let c = b.counted in omega arith;
    loads = λ word low. let r = rise word low in let l = b.loads word low in omega arith;
  }

  pub below_set : (words more : List ℕ) (views : List (View E)) (id : ℕ) (w : View E) → Rise words more → EachBelow words views → (w.live ≡ true → Below more w) → EachBelow more (set views id w)
  below_set words more views id w rise each mine j u e on = ⊎_elim
      (λ (t : (j ≡ id) × (w ≡ u)). subst (Below more) t.1 (mine (ap (λ (x : View E). x.live) t.1 ∙ on)))
      (λ (t : (j ≢ id) × (get_elem? views j ≡ some u)). below_more words more u rise (each j u t.1 on))
      (at_set views id j w u e)

  -- a view with the same loads and the same words
  pub below_same : (words : List ℕ) (v w : View E) → w.words ≡ v.words → w.counted ≡ v.counted → w.loads ≡ v.loads → Below words v → Below words w
  below_same words v w known counted loads b = record {
    known = λ word low. subst (λ l. get_or l word 0 ≤ get_or words word 0) (sym known) (b.known word low);
    counted = subst (λ n. n ≤ get_or words 0 0) (sym counted) b.counted;
    loads = λ word low. subst (λ l. greatest word l ≤ get_or words word 0) (sym loads) (b.loads word low);
  }

  -- a view that knows all words as they are
  pub below_exact : (words : List ℕ) (v w : View E) → w.words ≡ words → w.counted ≡ v.counted → w.loads ≡ v.loads → Below words v → Below words w
  below_exact words v w exact counted loads b = record {
    known = λ word low. subst (λ l. get_or l word 0 ≤ get_or words word 0) (sym exact) (le_refl (get_or words word 0));
    counted = subst (λ n. n ≤ get_or words 0 0) (sym counted) b.counted;
    loads = λ word low. subst (λ l. greatest word l ≤ get_or words word 0) (sym loads) (b.loads word low);
  }

  -- a view that has made no load
  pub below_new : (words : List ℕ) (v : View E) → Rise v.words words → v.counted ≡ 0 → v.loads ≡ [] → Below words v
  below_new words v known counted loads = record {
    known = known;
    counted = subst (λ n. n ≤ get_or words 0 0) (sym counted) (omega arith);
    loads = λ word low. subst (λ l. greatest word l ≤ get_or words word 0) (sym loads) (omega arith);
  }

  -- where nothing is set aside, it was the pass that has seen all
  pub seen_itself : (log : List E) (v : View E) → v.aside ≡ [] → IsPrefix v.seen log → (v.seen ≡ log) ⊎ (v.aside ≡ log) → v.seen ≡ log
  seen_itself log v bare begins whole = ⊎_elim
      (λ (e : v.seen ≡ log). e)
      (λ (e : v.aside ≡ log). let empty : log ≡ [] = sym e ∙ bare in prefix_whole v.seen log begins (let n = ap length empty in omega arith))
      whole
