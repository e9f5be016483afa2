-- Over a sound log every permitted order has the contents of log order.
use mathlib.Core.Path.{fun_ext}
use Rattle.std.proofs.Common.{◌≡◌, ℕ, zero, suc, ◌<◌, ◌≤◌, List, [], ◌∷◌, ◌++◌, length, take, Bool, true, false, cond, refl, sym, ◌∙◌, ap, subst, arith, inl, inr}
use Rattle.std.specs.Prelude.{Option, Some, slice_get, Contains, ◌||◌, nat_lt}
use Rattle.std.proofs.lemmas.Bool.{or_cases, or_left, or_right, false_from_ne_true, ltb-true, lt-ltb, cases_eq}
use Rattle.std.proofs.lemmas.List.{take_all}
use Rattle.std.proofs.lemmas.Option.{slice_get_within}
use Rattle.vk_types.specs.declared.handles.Kind.{Kind}
use Rattle.vk_model.specs.Log.{Item, items_clash, IsReady, MayFollow, IsPermitted, IsSound}
use Rattle.vk_model.specs.Cells.{Contents}
use Rattle.vk_model.specs.Meaning.{nothing, found, apply, after_all, eval, after_some, after_places, executed, touches_id, IsSettled}
use Rattle.vk_model.proofs.Free.{run, rising, without_all, AllFree, rising_unseen, rising_unseen_from, frees_first}
use Rattle.vk_model.proofs.Local.{AreApart, apart_by_ranges, after_commutes, found_after, after_unwritten}
use Rattle.vk_model.proofs.Places.{At, item_at, contains_head, contains_tail, marked_outside, outside_marked, without_all_push, is_in, contains_from_in, in_from_contains}
use Rattle.vk_model.proofs.Reaching.{apart_unless_reaches, reached_before, Before, before, flip, not_written}

module _ (kinds : ℕ → Kind) where
  -- one step: the item at a place, if there is one
  abbrev pub act : List Item → ℕ → Contents → Contents
  act log k c = after_some kinds (slice_get log k) c

  pub after_places-run : (log : List Item) (order : List ℕ) (c : Contents) → after_places kinds log order c ≡ run (act log) order c
  after_places-run log [] c = refl
  after_places-run log (k ∷ order) c = after_places-run log order (act log k c)

  pub after_all-append : (xs ys : List Item) (c : Contents) → after_all kinds (xs ++ ys) c ≡ after_all kinds ys (after_all kinds xs c)
  after_all-append [] ys c = refl
  after_all-append (x ∷ xs) ys c = after_all-append xs ys (apply kinds x c)

  -- all places in rising order are the log's order
  pub rising_all : (log : List Item) (n : ℕ) (left : ℕ → Bool) → ((j : ℕ) → j < n → left j ≡ true) → n ≤ length log → (c : Contents) → rising (act log) n left c ≡ after_all kinds (take n log) c
  rising_all log zero left all le c = refl
  rising_all log (suc n) left all le c =
      let at : At log n = item_at log n le in
      let rest : rising (act log) n left c ≡ after_all kinds (take n log) c = rising_all log n left (λ j lt. all j (omega arith)) (omega arith) c in
      let here : act log n (rising (act log) n left c) ≡ apply kinds at.item (rising (act log) n left c) = ap (λ o. after_some kinds o (rising (act log) n left c)) at.is in
      ap (λ b. cond b (act log n (rising (act log) n left c)) (rising (act log) n left c)) (all n (omega arith)) ∙ here ∙ ap (apply kinds at.item) rest ∙ sym (after_all-append (take n log) (at.item ∷ []) c) ∙ sym (ap (λ l. after_all kinds l c) at.next)

  pub eval-rising : (log : List Item) → eval kinds log ≡ rising (act log) (length log) (λ _. true) nothing
  eval-rising log = sym (rising_all log (length log) (λ _. true) (λ j lt. refl) (omega arith) nothing ∙ ap (λ l. after_all kinds l nothing) (take_all (length log) log (omega arith)))

  some_commute : (o o' : Option Item) (x y : Item) → o ≡ Some x → o' ≡ Some y → AreApart x y → (c : Contents) → after_some kinds o (after_some kinds o' c) ≡ after_some kinds o' (after_some kinds o c)
  some_commute o o' x y e e' apart c = ap (λ p. after_some kinds p (after_some kinds o' c)) e ∙ ap (λ p. apply kinds x (after_some kinds p c)) e' ∙ after_commutes kinds x y c apart ∙ sym (ap (λ p. after_some kinds p (apply kinds x c)) e') ∙ sym (ap (λ p. after_some kinds o' (after_some kinds p c)) e)

  -- each item of an order may run before all marked ones that are left
  pub order_free : (log : List Item) → IsSound log → (left : ℕ → Bool) (done order : List ℕ) → MayFollow log done order → ((k : ℕ) → Contains order k → left k ≡ true) → AllFree (act log) (length log) (without_all left done) order
  order_free log sound left done [] follow marked = tt
  order_free log sound left done (k ∷ order) follow marked = (
    ready.inside,
    record {
      marked = outside_marked done left k (marked k (contains_head k order)) ready.new;
      commutes = λ j lt e c. some_commute (slice_get log j) (slice_get log k) (x j lt).item y.item (x j lt).is y.is (apart_unless_reaches log sound j k (x j lt).item y.item lt (x j lt).is y.is (λ r. (marked_outside done left j e).1 (ready.preceded j r))) c;
    },
    subst (λ l. AllFree (act log) (length log) l order) (without_all_push done left k) (order_free log sound left (done ++ k ∷ []) order follow.1 (λ i c. marked i (contains_tail k order i c))),
  )
    where
      ready : IsReady log done k
      ready = follow.0

      y : At log k
      y = item_at log k ready.inside

      x : (j : ℕ) → j < k → At log j
      x j lt = item_at log j (omega (arith, ready.inside))

  -- What is left of the log leads from what was executed kinds to what the log evaluates to.
  pub caught_up : (log : List Item) (order : List ℕ) → IsSound log → IsPermitted log order → eval kinds log ≡ rising (act log) (length log) (without_all (λ _. true) order) (executed kinds log order)
  caught_up log order sound permitted =
      eval-rising log
      ∙ frees_first (act log) (length log) (λ _. true) order (order_free log sound (λ _. true) [] order permitted (λ k c. refl)) nothing
      ∙ ap (rising (act log) (length log) (without_all (λ _. true) order)) (sym (after_places-run log order nothing))

  -- Each item finds what it finds in log order

  unseen_at : (o : Option Item) (x y : Item) → o ≡ Some y → AreApart x y → (c : Contents) → found x (after_some kinds o c) ≡ found x c
  unseen_at o x y e apart c = ap (λ p. found x (after_some kinds p c)) e ∙ found_after kinds x y c apart

  -- An item that may run next finds in what was executed kinds what it finds in log order.
  pub ready_finds : (log : List Item) (front : List ℕ) (k : ℕ) (x : Item) → IsSound log → IsPermitted log front → IsReady log front k → slice_get log k ≡ Some x → found x (executed kinds log front) ≡ found x (eval kinds (take k log))
  ready_finds log front k x sound permitted ready is = sym left_unseen ∙ ap (found x) (sym first) ∙ later_unseen ∙ ap (found x) rise
    where
      first : rising (act log) (length log) (λ j. nat_lt j k || is_in front j) nothing ≡ rising (act log) (length log) (without_all (λ j. nat_lt j k || is_in front j) front) (executed kinds log front)
      first =
          frees_first (act log) (length log) (λ j. nat_lt j k || is_in front j) front (order_free log sound (λ j. nat_lt j k || is_in front j) [] front permitted (λ j c. or_right (nat_lt j k) (is_in front j) (in_from_contains front j c))) nothing
          ∙ ap (rising (act log) (length log) (without_all (λ j. nat_lt j k || is_in front j) front)) (sym (after_places-run log front nothing))

      rise : rising (act log) k (λ j. nat_lt j k || is_in front j) nothing ≡ eval kinds (take k log)
      rise = rising_all log k (λ j. nat_lt j k || is_in front j) (λ j lt. or_left (nat_lt j k) (is_in front j) (lt-ltb j k lt)) (omega (arith, ready.inside)) nothing

      later : (j : ℕ) → k ≤ j → j < length log → (nat_lt j k || is_in front j) ≡ true → (c : Contents) → found x (act log j c) ≡ found x c
      later j from lt e c =
          let y : At log j = item_at log j lt in
          let ran : Contains front j = elim (or_cases (nat_lt j k) (is_in front j) e) [ inl f ↦ absurd (omega (arith, ltb-true j k f)) | inr f ↦ contains_from_in front j f ] in
          let other : k < j = elim (cases_eq k j) [ inl f ↦ absurd (ready.new (subst (Contains front) (sym f) ran)) | inr f ↦ omega arith ] in
          unseen_at (slice_get log j) x y.item y.is (apart_unless_reaches log sound k j x y.item other is y.is (λ r. ready.new (reached_before log [] front k j permitted ran r))) c

      later_unseen : found x (rising (act log) (length log) (λ j. nat_lt j k || is_in front j) nothing) ≡ found x (rising (act log) k (λ j. nat_lt j k || is_in front j) nothing)
      later_unseen = rising_unseen_from (act log) (found x) k (length log) (λ j. nat_lt j k || is_in front j) (omega (arith, ready.inside)) later nothing

      earlier : (j : ℕ) → j < length log → without_all (λ j. nat_lt j k || is_in front j) front j ≡ true → (c : Contents) → found x (act log j c) ≡ found x c
      earlier j lt e c =
          let out : ((nat_lt j k || is_in front j) ≡ true) × (Contains front j → ⊥) = marked_outside front (λ j. nat_lt j k || is_in front j) j e in
          let below : j < k = elim (or_cases (nat_lt j k) (is_in front j) out.0) [ inl f ↦ ltb-true j k f | inr f ↦ absurd (out.1 (contains_from_in front j f)) ] in
          let y : At log j = item_at log j lt in
          unseen_at (slice_get log j) x y.item y.is (flip y.item x (apart_unless_reaches log sound j k y.item x below y.is is (λ r. out.1 (ready.preceded j r)))) c

      left_unseen : found x (rising (act log) (length log) (without_all (λ j. nat_lt j k || is_in front j) front) (executed kinds log front)) ≡ found x (executed kinds log front)
      left_unseen = rising_unseen (act log) (found x) (length log) (without_all (λ j. nat_lt j k || is_in front j) front) earlier (executed kinds log front)

  -- the same at each item of a permitted order
  pub each_finds : (log : List Item) (front : List ℕ) (k : ℕ) (back : List ℕ) (x : Item) → IsSound log → IsPermitted log (front ++ k ∷ back) → slice_get log k ≡ Some x → found x (executed kinds log front) ≡ found x (eval kinds (take k log))
  each_finds log front k back x sound permitted is = let b : Before log [] front k = before log [] front k back permitted in ready_finds log front k x sound b.follow b.ready is

  -- An object is as in log order where all items that touch it were executed kinds

  pub after_untouched : (x : Item) (id : ℕ) → touches_id x id ≡ false → (c : Contents) → apply kinds x c id ≡ c id
  after_untouched x id e c = fun_ext (λ i. after_unwritten kinds x c id i (not_written x id i e))

  pub settled : (log : List Item) (order : List ℕ) (id : ℕ) → IsSound log → IsPermitted log order → IsSettled log order id → executed kinds log order id ≡ eval kinds log id
  settled log order id sound permitted all = sym (ap (λ c. c id) (caught_up log order sound permitted) ∙ rising_unseen (act log) (λ c. c id) (length log) (without_all (λ _. true) order) unseen (executed kinds log order))
    where
      unseen : (j : ℕ) → j < length log → without_all (λ _. true) order j ≡ true → (c : Contents) → act log j c id ≡ c id
      unseen j lt e c =
          let x : At log j = item_at log j lt in
          ap (λ o. after_some kinds o c id) x.is ∙ after_untouched x.item id (false_from_ne_true (touches_id x.item id) (λ t. (marked_outside order (λ _. true) j e).1 (all j x.item x.is t))) c

  -- the contents are those of log order where all items were executed kinds
  pub whole : (log : List Item) (order : List ℕ) → IsSound log → IsPermitted log order → ((k : ℕ) → k < length log → Contains order k) → executed kinds log order ≡ eval kinds log
  whole log order sound permitted all = fun_ext (λ id. settled log order id sound permitted (λ k x is t. all k (slice_get_within log k x is)))

  -- neighbours without a clash commute
  pub neighbours : (front back : List Item) (x y : Item) → items_clash x y ≡ false → eval kinds (front ++ x ∷ y ∷ back) ≡ eval kinds (front ++ y ∷ x ∷ back)
  neighbours front back x y none =
      after_all-append front (x ∷ y ∷ back) nothing
      ∙ ap (after_all kinds back) (sym (after_commutes kinds x y (after_all kinds front nothing) (apart_by_ranges x y none)))
      ∙ sym (after_all-append front (y ∷ x ∷ back) nothing)
