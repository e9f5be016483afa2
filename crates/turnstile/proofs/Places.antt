-- Where the value is, where a pass changes its view.
use Rattle.std.proofs.Common.{◌≡◌, ◌≢◌, ℕ, ◌⊎◌, true, false, List, [], ◌∷◌, ◌++◌, length, get_or, set, Option, ap, sym, ◌∙◌, subst, inl, inr, ⊎_elim}
use mathlib.Core.Logic.{dite}
use mathlib.Core.Option.{some}
use native.Mathlib.Decide.{ℕ_discrete}
use lib.ListN.{get_elem?}
use lib.Seq.{set-get_or}
use Rattle.atomic_table.specs.Table.{State, keeps, stepped}
use Rattle.atomic_table.proofs.Lists.{at_set, set_here, set_else, set_again, at_longer}
use Rattle.turnstile.specs.declared.rule.View.{View}
use Rattle.turnstile.specs.Rule.{Home, Out}
use Rattle.turnstile.proofs.Lists.{at_inside, at_once, at_end, not_true, not_both}

module _ {V E : Type 0} (history : V → List E) (published : V → ℕ → ℕ) where
  abbrev pub St : Type 0
  St = State (Option V) (View E)

  -- the same table with other views
  abbrev pub with_views : St → List (View E) → St
  with_views s views = record { words = s.words; homes = s.homes; views = views }

  -- the value is where it was, where a pass that has no turn out changes its view
  pub home_set : (log : List E) (s : St) (id : ℕ) (v w : View E) → get_elem? s.views id ≡ some v → v.holds ≡ false → w.holds ≡ false → Home history published log s ⊎ Out history published log s
      → Home history published log (with_views s (set s.views id w)) ⊎ Out history published log (with_views s (set s.views id w))
  home_set log s id v w at idle idle' place = ⊎_elim
      (λ (h : Home history published log s). inl record {
        value = h.value;
        free = h.free;
        home = h.home;
        same = h.same;
        count = h.count;
        shown = h.shown;
        idle = λ j u e. ⊎_elim
            (λ (t : (j ≡ id) × (w ≡ u)). ap (λ (x : View E). x.holds) (sym t.1) ∙ idle')
            (λ (t : (j ≢ id) × (get_elem? s.views j ≡ some u)). h.idle j u t.1)
            (at_set s.views id j w u e);
      })
      (λ (o : Out history published log s). inr record {
        holder = o.holder;
        view = o.view;
        taken = o.taken;
        home = o.home;
        there = set_else s.views id o.holder w (λ e. not_both o.view.holds o.holds (ap (λ (x : View E). x.holds) (at_once s.views id o.view v (subst (λ j. get_elem? s.views j ≡ some o.view) e o.there) at) ∙ idle)) ∙ o.there;
        live = o.live;
        holds = o.holds;
        seen = o.seen;
        words = o.words;
        count = o.count;
        only = λ j u e on. ⊎_elim
            (λ (t : (j ≡ id) × (w ≡ u)). absurd (not_both u.holds on (ap (λ (x : View E). x.holds) (sym t.1) ∙ idle')))
            (λ (t : (j ≢ id) × (get_elem? s.views j ≡ some u)). o.only j u t.1 on)
            (at_set s.views id j w u e);
      })
      place

  -- and where only its loads change
  pub home_noted : (log : List E) (s : St) (id : ℕ) (v : View E) (loads : List (ℕ × ℕ)) (n : ℕ) → get_elem? s.views id ≡ some v → Home history published log s ⊎ Out history published log s
      → Home history published log (with_views s (set s.views id (record v { loads = loads; counted = n }))) ⊎ Out history published log (with_views s (set s.views id (record v { loads = loads; counted = n })))
  home_noted log s id v loads n at place =
      let w : View E = record v { loads = loads; counted = n } in ⊎_elim
      (λ (h : Home history published log s). home_set log s id v w at (h.idle id v at) (h.idle id v at) (inl h))
      (λ (o : Out history published log s). dite (ℕ_discrete o.holder id)
      (λ e.
      let is : o.view ≡ v = at_once s.views id o.view v (subst (λ j. get_elem? s.views j ≡ some o.view) e o.there) at in
      let of_view : (P : View E → Type 0) → P o.view → P v = λ P. subst P is in inr record {
        holder = id;
        view = w;
        taken = o.taken;
        home = o.home;
        there = set_here s.views id w (at_inside s.views id v at);
        live = of_view (λ x. x.live ≡ true) o.live;
        holds = of_view (λ x. x.holds ≡ true) o.holds;
        seen = of_view (λ x. x.seen ≡ log) o.seen;
        words = of_view (λ x. x.words ≡ s.words) o.words;
        count = o.count;
        only = λ j u at_j on. ⊎_elim
            (λ (t : (j ≡ id) × (w ≡ u)). t.0)
            (λ (t : (j ≢ id) × (get_elem? s.views j ≡ some u)). o.only j u t.1 on ∙ e)
            (at_set s.views id j w u at_j);
      })
      (λ apart. home_set log s id v w at (not_true v.holds (λ on. apart (sym (o.only id v at on)))) (not_true v.holds (λ on. apart (sym (o.only id v at on)))) (inr o)))
      place

  -- and where a new pass comes
  pub home_longer : (log : List E) (s : St) (w : View E) → w.holds ≡ false → Home history published log s ⊎ Out history published log s
      → Home history published log (with_views s (s.views ++ w ∷ [])) ⊎ Out history published log (with_views s (s.views ++ w ∷ []))
  home_longer log s w idle' place = ⊎_elim
      (λ (h : Home history published log s). inl record {
        value = h.value;
        free = h.free;
        home = h.home;
        same = h.same;
        count = h.count;
        shown = h.shown;
        idle = λ j u e. ⊎_elim
            (λ (t : get_elem? s.views j ≡ some u). h.idle j u t)
            (λ (t : (j ≡ length s.views) × (w ≡ u)). ap (λ (x : View E). x.holds) (sym t.1) ∙ idle')
            (at_end s.views w u j e);
      })
      (λ (o : Out history published log s). inr record {
        holder = o.holder;
        view = o.view;
        taken = o.taken;
        home = o.home;
        there = at_longer s.views (w ∷ []) o.holder o.view o.there;
        live = o.live;
        holds = o.holds;
        seen = o.seen;
        words = o.words;
        count = o.count;
        only = λ j u e on. ⊎_elim
            (λ (t : get_elem? s.views j ≡ some u). o.only j u t on)
            (λ (t : (j ≡ length s.views) × (w ≡ u)). absurd (not_both u.holds on (ap (λ (x : View E). x.holds) (sym t.1) ∙ idle')))
            (at_end s.views w u j e);
      })
      place

  -- only the holder has a turn out
  pub out_of : (log : List E) (s : St) (id : ℕ) (v : View E) → get_elem? s.views id ≡ some v → v.holds ≡ true → Home history published log s ⊎ Out history published log s → Out history published log s
  out_of log s id v at on place = ⊎_elim (λ (h : Home history published log s). absurd (not_both v.holds on (h.idle id v at))) (λ (o : Out history published log s). o) place

  pub holder_is : (log : List E) (s : St) (o : Out history published log s) (id : ℕ) (v : View E) → get_elem? s.views id ≡ some v → v.holds ≡ true → o.view ≡ v
  holder_is log s o id v at on = at_once s.views id o.view v (subst (λ j. get_elem? s.views j ≡ some o.view) (sym (o.only id v at on)) o.there) at

  -- a step that changes nothing
  pub same_state : (s : St) (i n id : ℕ) (c : List (ℕ × Option V)) (v : View E) → get_elem? s.views id ≡ some v → get_or s.words i 0 ≡ n → stepped s i n id c v keeps ≡ s
  same_state s i n id c v at is = λ k. record {
    words = (ap (set s.words i) (sym is) ∙ set-get_or s.words i 0) k;
    homes = s.homes;
    views = set_again s.views id v at k;
  }
