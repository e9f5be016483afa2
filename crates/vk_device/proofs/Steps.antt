-- A device stays in order as its log grows and its nodes run.
use Rattle.std.proofs.Common.{◌≡◌, ◌≢◌, ℕ, zero, suc, ◌+◌, ◌-◌, ◌<◌, ◌≤◌, ◌==◌, nat_lt, nat_le, ◌&&◌, List, [], ◌∷◌, ◌++◌, length, map, Bool, true, false, cond, eqb, get_or, refl, sym, ◌∙◌, ap, subst, arith, inl, inr, eq-eqb}
use Rattle.std.specs.Prelude.{◌⊎◌, ◌||◌, Option, Some, None, slice_get, slice_index, IsSome, All, option_map}
use Rattle.std.specs.List.{list_any}
use Rattle.std.proofs.lemmas.Bool.{or_cases, or_right, cases_eq, cases_Bool, ne_eqb, eqb-true, ltb-true, leb-true, lt-ltb, le-leb, and_parts, and_from, or_left, cond-true, cond-false, false≢true, false_from_ne_true}
use Rattle.std.proofs.lemmas.Option.{slice_get-map, slice_get_within, get_or_from_slice_get}
use Rattle.vk_types.specs.declared.handles.HandleId.{HandleId}
use Rattle.vk_types.specs.declared.handles.Kind.{Kind}
use Rattle.vk_types.specs.declared.handles.Kind.TheVariants.{Buffer, Image}
use Rattle.vk_types.specs.declared.ops.Node.{Node}
use Rattle.vk_types.specs.declared.batches.Batch.{Batch}
use Rattle.vk_types.specs.Touches.{the_end}
use Rattle.cells.specs.Contents.{UNDEFINED, cell_at, overwritten}
use Rattle.vk_model.specs.Cells.{Contents}
use Rattle.vk_model.specs.Fitting.{NodeFits, size_of}
use Rattle.vk_model.specs.Log.{Item, Command, HostWrite, Wait, Signal, Range, node_ranges, IsReady, IsPermitted, IsSound}
use Rattle.vk_model.specs.Meaning.{covers, found, is_touched, is_written, item_cell, apply, executed, eval, touches_id, IsSettled, ContentsAgree}
use Rattle.vk_model.proofs.Local.{found_same, after_written, after_unwritten}
use Rattle.vk_model.proofs.Agreement.{agrees_after}
use Rattle.vk_model.proofs.Order.{after_untouched, settled}
use Rattle.vk_model.proofs.Parts.{overwritten-inside, overwritten-outside, length-overwritten}
use Rattle.vk_model.proofs.Device.{permitted_push, executed_push, permitted_longer, executed_longer, write_ready, get_next}
use Rattle.vk_device.specs.declared.logged.Logged.{Logged}
use Rattle.vk_device.specs.declared.logged.Logged.TheVariants.{Wrote, Submitted, Ran}
use Rattle.vk_device.specs.Journal.{kind_of, creates_of, accepted, node_at, ReachesTo, TouchesLive, IsLiveNode, IsClean}
use Rattle.vk_device.specs.Order.{entry_items, log_of, order_of, executes, kinds_of, kinds_after, contents, place_of}
use Rattle.vk_device.specs.Running.{made, IsInOrder}
use Rattle.vk_device.proofs.Laws.{kind_of-push, IsClean-push}
use Rattle.vk_device.proofs.Orders.{log_of-push, order_of-push, kinds_of-push}
use Rattle.vk_device.proofs.Fitting.{fits_lives, touched_lives}
use Rattle.vk_device.proofs.Running.{InOne, first, second, in_one, kind_after, was_created, lives_created}

made_from : (journal : List Logged) (entry : Logged) (log : List Item) (order : List ℕ) → kinds_after (kinds_of journal) entry ≡ kinds_of journal → log_of (journal ++ entry ∷ []) ≡ log → order_of (journal ++ entry ∷ []) ≡ order → made (journal ++ entry ∷ []) ≡ executed (kinds_of journal) log order
made_from journal entry log order same_kinds log_is order_is =
    ap (λ k. executed k (log_of (journal ++ entry ∷ [])) (order_of (journal ++ entry ∷ []))) (kinds_of-push journal entry ∙ same_kinds)
    ∙ ap (λ l. executed (kinds_of journal) l (order_of (journal ++ entry ∷ []))) log_is
    ∙ ap (λ o. executed (kinds_of journal) log o) order_is

-- Writes by the host

module _ (journal : List Logged) (old new : ℕ → List ℕ) (id : HandleId) (at : ℕ) (bytes : List ℕ) where
  abbrev W : Item
  W = HostWrite id.0 at bytes

  abbrev log' : List Item
  log' = log_of journal ++ W ∷ []

  abbrev order' : List ℕ
  order' = order_of journal ++ length (log_of journal) ∷ []

  log_is : log_of (journal ++ Wrote id at bytes ∷ []) ≡ log'
  log_is = log_of-push journal (Wrote id at bytes)

  order_is : order_of (journal ++ Wrote id at bytes ∷ []) ≡ order'
  order_is = order_of-push journal (Wrote id at bytes)

  module _ (has : IsInOrder journal old) (reaches : ReachesTo (kind_of journal id.0) (at + length bytes)) (small : at + length bytes ≤ the_end) (written : new id.0 ≡ overwritten (old id.0) at bytes) (others : (other : ℕ) → other ≢ id.0 → new other ≡ old other) where
    reach : (o : Option Kind) (len : ℕ) → ReachesTo o (at + length bytes) → ((kind : Kind) → o ≡ Some kind → len ≡ size_of kind) → at + length bytes ≤ len
    reach None len to size = absurd to
    reach (Some (Image format width height)) len to size = absurd to
    reach (Some (Buffer n)) len to size = omega (arith, to, size (Buffer n) refl)

    inside : at + length bytes ≤ length (old id.0)
    inside = reach (kind_of journal id.0) (length (old id.0)) reaches (has.sizes id.0)

    lives : IsSome (kind_of journal id.0)
    lives = some_reached (kind_of journal id.0) reaches
      where
        some_reached : (o : Option Kind) → ReachesTo o (at + length bytes) → IsSome o
        some_reached None to = absurd to
        some_reached (Some kind) to = refl

    made_is : made (journal ++ Wrote id at bytes ∷ []) ≡ apply (kinds_of journal) W (made journal)
    made_is =
        made_from journal (Wrote id at bytes) log' order' refl log_is order_is
        ∙ executed_push (kinds_of journal) log' (order_of journal) (length (log_of journal)) W (get_next (log_of journal) W [])
        ∙ ap (apply (kinds_of journal) W) (executed_longer (kinds_of journal) (log_of journal) (W ∷ []) (order_of journal) has.permitted)

    abbrev in_range : ℕ → Bool
    in_range i = nat_le at i && nat_lt i (at + length bytes)

    -- what the write leaves at a place of its buffer
    new_cell : (i : ℕ) → apply (kinds_of journal) W (made journal) id.0 i < 256 → cell_at (overwritten (old id.0) at bytes) i ≡ apply (kinds_of journal) W (made journal) id.0 i
    new_cell i below = elim (cases_Bool (in_range i)) [
      | inl within ↦
          let parts = and_parts (nat_le at i) (nat_lt i (at + length bytes)) within in
          let from : at ≤ i = leb-true at i parts.0 in
          let to : i < at + length bytes = ltb-true i (at + length bytes) parts.1 in
          let back : at + (i - at) ≡ i = omega (arith, from) in
          let covered : is_written W id.0 i ≡ true = or_left _ false (and_from true _ refl (and_from _ _ (and_from _ _ (eq-eqb id.0 id.0 refl) (le-leb 0 i (omega arith))) (lt-ltb i the_end (omega (arith, to, small))))) in
          let is : apply (kinds_of journal) W (made journal) id.0 i ≡ slice_index bytes (i - at) = after_written (kinds_of journal) W (made journal) id.0 i covered ∙ cond-true (in_range i) (slice_index bytes (i - at)) (found W (made journal) id.0 i) within in
          let cell : cell_at (overwritten (old id.0) at bytes) i ≡ cell_at bytes (i - at) = subst (λ k. cell_at (overwritten (old id.0) at bytes) k ≡ cell_at bytes (i - at)) back (overwritten-inside (old id.0) at bytes inside (i - at) (omega (arith, from, to))) in
          cell ∙ cell_index bytes (i - at) (omega (arith, from, to)) ∙ sym is
      | inr out ↦
          let is : apply (kinds_of journal) W (made journal) id.0 i ≡ made journal id.0 i = unchanged i below out in
          let outside : (i < at) ⊎ (at + length bytes ≤ i) = apart i out in
          overwritten-outside (old id.0) at bytes inside i outside ∙ has.agree id.0 i lives (subst (λ v. v < 256) is below) ∙ sym is
    ]
      where
        cell_index : (xs : List ℕ) (k : ℕ) → k < length xs → cell_at xs k ≡ slice_index xs k
        cell_index [] k lt = absurd (omega (arith, lt))
        cell_index (x ∷ xs) zero lt = refl
        cell_index (x ∷ xs) (suc k) lt = cell_index xs k (omega (arith, lt))

        apart : (i : ℕ) → in_range i ≡ false → (i < at) ⊎ (at + length bytes ≤ i)
        apart i out = elim (cases_Bool (nat_le at i)) [
          | inl from ↦ inr (elim (cases_Bool (nat_lt i (at + length bytes))) [
            | inl to ↦ absurd (false≢true (sym out ∙ and_from (nat_le at i) (nat_lt i (at + length bytes)) from to))
            | inr past ↦ grind (arith)
          ])
          | inr before ↦ inl (grind (arith))
        ]

        unchanged : (i : ℕ) → apply (kinds_of journal) W (made journal) id.0 i < 256 → in_range i ≡ false → apply (kinds_of journal) W (made journal) id.0 i ≡ made journal id.0 i
        unchanged i below out = elim (cases_Bool (is_written W id.0 i)) [
          | inl covered ↦
              after_written (kinds_of journal) W (made journal) id.0 i covered
              ∙ cond-false (in_range i) (slice_index bytes (i - at)) (found W (made journal) id.0 i) out
              ∙ cond-true (is_touched W id.0 i) (made journal id.0 i) UNDEFINED covered
          | inr other ↦ after_unwritten (kinds_of journal) W (made journal) id.0 i other
        ]

    no_other : (other : ℕ) → other ≢ id.0 → touches_id W other ≡ false
    no_other other differs = ap (λ b. b || false) (ne_eqb id.0 other (λ e. differs (sym e)))

    pub in_order_wrote : IsSettled (log_of journal) (order_of journal) id.0 → IsInOrder (journal ++ Wrote id at bytes ∷ []) new
    in_order_wrote still = record {
      clean = IsClean-push journal (Wrote id at bytes) has.clean reaches;
      known = λ k x other here touched. was_created journal (Wrote id at bytes) other (known x other (in_one (log_of journal) (W ∷ []) k x (subst (λ (l : List Item). slice_get l k ≡ Some x) log_is here)) touched);
      permitted = subst (λ l. IsPermitted l (order_of (journal ++ Wrote id at bytes ∷ []))) (sym log_is) (subst (IsPermitted log') (sym order_is) permitted);
      sizes = λ other kind at_kind. size other kind (sym (kind_after journal (Wrote id at bytes) other) ∙ at_kind);
      agree = λ other i live below. agree other i (subst IsSome (kind_after journal (Wrote id at bytes) other) live) below;
    }
      where
        permitted : IsPermitted log' order'
        permitted = permitted_push log' (order_of journal) (length (log_of journal)) (permitted_longer (log_of journal) (W ∷ []) (order_of journal) has.permitted) (write_ready (log_of journal) (order_of journal) id.0 at bytes has.permitted still)

        size : (other : ℕ) (kind : Kind) → kind_of journal other ≡ Some kind → length (new other) ≡ size_of kind
        size other kind is = elim (cases_eq other id.0) [
          | inl same ↦ ap (λ o. length (new o)) same ∙ ap length written ∙ length-overwritten (old id.0) at bytes inside ∙ ap (λ o. length (old o)) (sym same) ∙ has.sizes other kind is
          | inr differs ↦ ap length (others other differs) ∙ has.sizes other kind is
        ]

        the_write : (k : ℕ) (x : Item) → slice_get (W ∷ []) k ≡ Some x → x ≡ W
        the_write zero x is = let both : ◌≡◌ {A = Option Item} (Some W) (Some x) = is in cc
        the_write (suc k) x is = let none : ◌≡◌ {A = Option Item} None (Some x) = is in absurd (cc)

        same_object : (x : Item) (other : ℕ) → x ≡ W → touches_id x other ≡ true → id.0 ≡ other
        same_object x other is touched = elim (cases_eq id.0 other) [
          | inl same ↦ same
          | inr differs ↦ absurd (false≢true (sym (no_other other (λ e. differs (sym e))) ∙ subst (λ y. touches_id y other ≡ true) is touched))
        ]

        known : (x : Item) (other : ℕ) → InOne (log_of journal) (W ∷ []) x → touches_id x other ≡ true → creates_of other journal ≢ 0
        known x other (first k here) touched = has.known k x other here touched
        known x other (second k here) touched = subst (λ o. creates_of o journal ≢ 0) (same_object x other (the_write k x here) touched) (lives_created journal id.0 lives)

        agree : (other i : ℕ) → IsSome (kind_of journal other) → made (journal ++ Wrote id at bytes ∷ []) other i < 256 → contents new other i ≡ made (journal ++ Wrote id at bytes ∷ []) other i
        agree other i live below = elim (cases_eq other id.0) [
          | inl same ↦
              let is : made (journal ++ Wrote id at bytes ∷ []) other i ≡ apply (kinds_of journal) W (made journal) id.0 i = ap (λ c. c other i) made_is ∙ ap (λ o. apply (kinds_of journal) W (made journal) o i) same in
              ap (λ o. cell_at (new o) i) same ∙ ap (λ b. cell_at b i) written ∙ new_cell i (subst (λ v. v < 256) is below) ∙ sym is
          | inr differs ↦
              let is : made (journal ++ Wrote id at bytes ∷ []) other i ≡ made journal other i = ap (λ c. c other i) made_is ∙ ap (λ f. f i) (after_untouched (kinds_of journal) W other (no_other other differs) (made journal)) in
              ap (λ b. cell_at b i) (others other differs) ∙ has.agree other i live (subst (λ v. v < 256) is below) ∙ sym is
        ]

-- Batches

module _ (journal : List Logged) (old new : ℕ → List ℕ) (batch : Batch) (has : IsInOrder journal old) (fits : All (NodeFits (kind_of journal)) batch.nodes) (others : (id : ℕ) → new id ≡ old id) where
  abbrev items : List Item
  items = entry_items (Submitted batch)

  longer : log_of (journal ++ Submitted batch ∷ []) ≡ log_of journal ++ items
  longer = log_of-push journal (Submitted batch)

  same_order : order_of (journal ++ Submitted batch ∷ []) ≡ order_of journal
  same_order = order_of-push journal (Submitted batch) ∙ Rattle.std.proofs.lemmas.List.append-nil (order_of journal)

  no_object : (xs : List ℕ) (f : ℕ → Item) → ((n id : ℕ) → touches_id (f n) id ≡ false) → (k : ℕ) (x : Item) (id : ℕ) → slice_get (map f xs) k ≡ Some x → touches_id x id ≡ true → ⊥
  no_object [] f none k x id at touched = let nothing : ◌≡◌ {A = Option Item} None (Some x) = at in absurd (cc)
  no_object (n ∷ xs) f none zero x id at touched = let both : ◌≡◌ {A = Option Item} (Some (f n)) (Some x) = at in let same : x ≡ f n = cc in false≢true (sym (none n id) ∙ subst (λ y. touches_id y id ≡ true) same touched)
  no_object (n ∷ xs) f none (suc k) x id at touched = no_object xs f none k x id at touched

  node_known : (ns : List Node) → All (NodeFits (kind_of journal)) ns → (k : ℕ) (x : Item) (id : ℕ) → slice_get (map (Command batch.queue) ns) k ≡ Some x → touches_id x id ≡ true → IsSome (kind_of journal id)
  node_known [] fit k x id at touched = let nothing : ◌≡◌ {A = Option Item} None (Some x) = at in absurd (cc)
  node_known (n ∷ ns) fit zero x id at touched =
      let both : ◌≡◌ {A = Option Item} (Some (Command batch.queue n)) (Some x) = at in
      let same : x ≡ Command batch.queue n = cc in
      touched_lives (kind_of journal) n batch.queue id (fits_lives (kind_of journal) n (fit 0 n (omega arith))) (subst (λ y. touches_id y id ≡ true) same touched)
  node_known (n ∷ ns) fit (suc k) x id at touched = node_known ns (λ j d lt. fit (suc j) d (omega (arith, lt))) k x id at touched

  item_known : (x : Item) (id : ℕ) → InOne (log_of journal) items x → touches_id x id ≡ true → creates_of id journal ≢ 0
  item_known x id (first k at) touched = has.known k x id at touched
  item_known x id (second k at) touched = waited (in_one (map (Wait batch.queue) batch.waits) (map (Command batch.queue) batch.nodes ++ map (Signal batch.queue) batch.signals) k x at)
    where
      rest : InOne (map (Command batch.queue) batch.nodes) (map (Signal batch.queue) batch.signals) x → creates_of id journal ≢ 0
      rest (first j here) = lives_created journal id (node_known batch.nodes fits j x id here touched)
      rest (second j here) = absurd (no_object batch.signals (Signal batch.queue) (λ n i. refl) j x id here touched)

      waited : InOne (map (Wait batch.queue) batch.waits) (map (Command batch.queue) batch.nodes ++ map (Signal batch.queue) batch.signals) x → creates_of id journal ≢ 0
      waited (first j here) = absurd (no_object batch.waits (Wait batch.queue) (λ n i. refl) j x id here touched)
      waited (second j here) = rest (in_one (map (Command batch.queue) batch.nodes) (map (Signal batch.queue) batch.signals) j x here)

  pub in_order_submitted : IsInOrder (journal ++ Submitted batch ∷ []) new
  in_order_submitted = record {
    clean = IsClean-push journal (Submitted batch) has.clean (λ k d lt. fits_lives (kind_of journal) (get_or batch.nodes k d) (fits k d lt));
    known = λ k x id at touched. was_created journal (Submitted batch) id (item_known x id (in_one (log_of journal) items k x (subst (λ (l : List Item). slice_get l k ≡ Some x) longer at)) touched);
    permitted = subst (λ l. IsPermitted l (order_of (journal ++ Submitted batch ∷ []))) (sym longer) (subst (IsPermitted (log_of journal ++ items)) (sym same_order) (permitted_longer (log_of journal) items (order_of journal) has.permitted));
    sizes = λ id kind is. ap length (others id) ∙ has.sizes id kind (sym (kind_after journal (Submitted batch) id) ∙ is);
    agree = λ id i live below.
        let is : made (journal ++ Submitted batch ∷ []) id i ≡ made journal id i =
        ap (λ c. c id i) (made_from journal (Submitted batch) (log_of journal ++ items) (order_of journal) refl longer same_order ∙ executed_longer (kinds_of journal) (log_of journal) items (order_of journal) has.permitted)
        in
        ap (λ b. cell_at b i) (others id) ∙ has.agree id i (subst IsSome (kind_after journal (Submitted batch) id) live) (subst (λ v. v < 256) is below) ∙ sym is;
  }

-- Turns

covers_touches : (rs : List Range) (id i : ℕ) → list_any (covers id i) rs ≡ true → list_any (λ r. eqb r.id id) rs ≡ true
covers_touches [] id i e = e
covers_touches (r ∷ rs) id i e = elim (or_cases (covers id i r) (list_any (covers id i) rs) e) [
  | inl here ↦ or_left (eqb r.id id) (list_any (λ r. eqb r.id id) rs) (and_parts (eqb r.id id) (nat_le r.start i) (and_parts ((eqb r.id id) && nat_le r.start i) (nat_lt i r.end) here).0).0
  | inr more ↦ or_right (eqb r.id id) (list_any (λ r. eqb r.id id) rs) (covers_touches rs id i more)
]

-- an item makes of contents what it makes of what it finds in them
found_again : (kinds : ℕ → Kind) (x : Item) (c : Contents) (id i : ℕ) → is_written x id i ≡ true → apply kinds x c id i ≡ apply kinds x (found x c) id i
found_again kinds x c id i w =
    after_written kinds x c id i w
    ∙ ap (λ f. item_cell kinds x f id i) (sym (found_same x (found x c) c (λ other j t. cond-true (is_touched x other j) (c other j) UNDEFINED t)))
    ∙ sym (after_written kinds x (found x c) id i w)

module _ (journal : List Logged) (old new : ℕ → List ℕ) (batch node : ℕ) (queue : ℕ) (command : Node) (has : IsInOrder journal old)
    (is : node_at (accepted journal) batch node ≡ Some command)
    (at : slice_get (log_of journal) (place_of journal batch node) ≡ Some (Command queue command))
    (live : TouchesLive (kind_of journal) command)
    (ready : IsReady (log_of journal) (order_of journal) (place_of journal batch node))
    (sizes : (id : ℕ) → length (new id) ≡ length (old id))
    (agree : ContentsAgree (contents new) (apply (kinds_of journal) (Command queue command) (contents old)))
  where
    abbrev C : Item
    C = Command queue command

    same_log : log_of (journal ++ Ran batch node ∷ []) ≡ log_of journal
    same_log = log_of-push journal (Ran batch node) ∙ Rattle.std.proofs.lemmas.List.append-nil (log_of journal)

    one_more : order_of (journal ++ Ran batch node ∷ []) ≡ order_of journal ++ place_of journal batch node ∷ []
    one_more = order_of-push journal (Ran batch node)

    ran_is : made (journal ++ Ran batch node ∷ []) ≡ apply (kinds_of journal) C (made journal)
    ran_is =
        made_from journal (Ran batch node) (log_of journal) (order_of journal ++ place_of journal batch node ∷ []) refl same_log one_more
        ∙ executed_push (kinds_of journal) (log_of journal) (order_of journal) (place_of journal batch node) C at

    -- what the node finds agrees
    finds : ContentsAgree (found C (contents old)) (found C (made journal))
    finds id i below = elim (cases_Bool (is_touched C id i)) [
      | inl t ↦
          let here : found C (made journal) id i ≡ made journal id i = cond-true (is_touched C id i) (made journal id i) UNDEFINED t in
          cond-true (is_touched C id i) (contents old id i) UNDEFINED t
          ∙ has.agree id i (touched_lives (kind_of journal) command queue id live (covers_touches (node_ranges command) id i t)) (subst (λ v. v < 256) here below)
          ∙ sym here
      | inr f ↦ absurd (omega (arith, cond-false (is_touched C id i) (made journal id i) UNDEFINED f, below))
    ]

    -- so what it makes agrees, at each live object
    makes : (id i : ℕ) → IsSome (kind_of journal id) → apply (kinds_of journal) C (made journal) id i < 256 → apply (kinds_of journal) C (contents old) id i ≡ apply (kinds_of journal) C (made journal) id i
    makes id i lives below = elim (cases_Bool (is_written C id i)) [
      | inl w ↦
          let second : apply (kinds_of journal) C (made journal) id i ≡ apply (kinds_of journal) C (found C (made journal)) id i = found_again (kinds_of journal) C (made journal) id i w in
          found_again (kinds_of journal) C (contents old) id i w
          ∙ agrees_after (kinds_of journal) C (found C (contents old)) (found C (made journal)) finds id i (subst (λ v. v < 256) second below)
          ∙ sym second
      | inr u ↦
          let second : apply (kinds_of journal) C (made journal) id i ≡ made journal id i = after_unwritten (kinds_of journal) C (made journal) id i u in
          after_unwritten (kinds_of journal) C (contents old) id i u ∙ has.agree id i lives (subst (λ v. v < 256) second below) ∙ sym second
    ]

    pub in_order_ran : IsInOrder (journal ++ Ran batch node ∷ []) new
    in_order_ran = record {
      clean = IsClean-push journal (Ran batch node) has.clean (subst (λ o. IsLiveNode (kind_of journal) o) (sym is) live);
      known = λ k x id here touched. was_created journal (Ran batch node) id (has.known k x id (subst (λ (l : List Item). slice_get l k ≡ Some x) same_log here) touched);
      permitted = subst (λ l. IsPermitted l (order_of (journal ++ Ran batch node ∷ []))) (sym same_log) (subst (IsPermitted (log_of journal)) (sym one_more) (permitted_push (log_of journal) (order_of journal) (place_of journal batch node) has.permitted ready));
      sizes = λ id kind here. sizes id ∙ has.sizes id kind (sym (kind_after journal (Ran batch node) id) ∙ here);
      agree = λ id i lives below.
          let made_is : made (journal ++ Ran batch node ∷ []) id i ≡ apply (kinds_of journal) C (made journal) id i = ap (λ c. c id i) ran_is in
          let here : apply (kinds_of journal) C (contents old) id i ≡ apply (kinds_of journal) C (made journal) id i = makes id i (subst IsSome (kind_after journal (Ran batch node) id) lives) (subst (λ v. v < 256) made_is below) in
          agree id i (subst (λ v. v < 256) (made_is ∙ sym here) below) ∙ here ∙ sym made_is;
    }

-- Reads

-- over a sound log a settled object has the bytes that the log evaluates to
pub reads_in_order : (journal : List Logged) (bytes_of : ℕ → List ℕ) (id : ℕ) → IsInOrder journal bytes_of → IsSound (log_of journal) → IsSettled (log_of journal) (order_of journal) id → IsSome (kind_of journal id) → (i : ℕ) → eval (kinds_of journal) (log_of journal) id i < 256 → contents bytes_of id i ≡ eval (kinds_of journal) (log_of journal) id i
reads_in_order journal bytes_of id has sound still lives i below =
    let same : made journal id i ≡ eval (kinds_of journal) (log_of journal) id i = ap (λ f. f i) (settled (kinds_of journal) (log_of journal) (order_of journal) id sound has.permitted still) in
    has.agree id i lives (subst (λ v. v < 256) (sym same) below) ∙ same
