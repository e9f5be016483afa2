-- Barriers that may be recorded change nothing that was recorded: each is licensed, and so discards an image only while it is in the layout
-- Undefined, when it has no cell that is defined.
use mathlib.Core.Path.{fun_ext}
use Rattle.std.proofs.Common.{◌≡◌, ℕ, zero, suc, Bool, true, false, eqb, List, [], ◌∷◌, ◌++◌, refl, sym, ◌∙◌, ap, subst, inl, inr, append_assoc}
use Rattle.std.specs.Prelude.{◌⊎◌, Option, Some, None, is_some, slice_get}
use Rattle.std.specs.List.{AllByRecursion}
use Rattle.std.proofs.lemmas.Bool.{false≢true, both_ways, cases_Bool, cond-true, cond-false, or_left, eq-eqb, eqb-true}
use Rattle.std.proofs.lemmas.Option.{none-some, same_Some}
use Rattle.std.proofs.lemmas.List.Sums.{fold-append}
use Rattle.cells.specs.Contents.{UNDEFINED}
use Rattle.vk_types.specs.declared.accesses.Layout.{Layout}
use Rattle.vk_types.specs.declared.accesses.Layout.TheVariants.{Undefined, TransferSrc, TransferDst, ColorAttachment}
use Rattle.vk_types.specs.declared.handles.HandleId.{HandleId}
use Rattle.vk_types.specs.declared.handles.Kind.{Kind}
use Rattle.vk_types.specs.declared.regions.Touch.{Touch}
use Rattle.vk_types.specs.declared.regions.Barrier.{Barrier}
use Rattle.vk_types.specs.declared.ops.Node.{Node}
use Rattle.vk_model.specs.Cells.{Contents, discards}
use Rattle.vk_model.specs.Log.{Item, Command, commands}
use Rattle.vk_model.specs.Meaning.{nothing, is_written, found, apply, after_all}
use Rattle.vk_model.proofs.Local.{after_written, after_unwritten, touched_from_written}
use Rattle.vk_model.proofs.Copies.{found_at}
use Rattle.barriers.specs.Licence.{Use, Fenced, layout_after, layout_now, layouts_of, first_layout, waited_for, is_licensed, barrier_due}
use Rattle.barriers.specs.Logs.{uses_by, uses_in}
use Rattle.barriers.specs.Recording.{handle, AreLicensed, barrier_node, node_for, due_before}
use Rattle.barriers.specs.Trackers.{IsTouchOf}
use Rattle.barriers.proofs.Growing.{due_is}
use Rattle.barriers.proofs.Uses.{use_of_barrier}
use Rattle.front_model.specs.Steps.{IsBarrier}
use Rattle.front_model.proofs.Contents.{touched_object}
use Rattle.front_model.proofs.DueNodes.{DueLayouts}
use Rattle.front_model.proofs.Orders.{each-append}
use Rattle.front_model.proofs.Updates.{only}
use Rattle.front_model.proofs.Unlaid.{DueNew, all_lay, was_unlaid}

-- What was licensed up to a place was licensed

pub licensed_before : (id : HandleId) (image : Bool) (xs ys : List Use) → AreLicensed id image (xs ++ ys) → AreLicensed id image xs
licensed_before id image xs ys licensed before back barrier e =
    licensed before (back ++ ys) barrier (ap (λ us. us ++ ys) e ∙ append_assoc before (Fenced barrier ∷ back) ys)

-- the barriers that are due are barriers
pub one_due : (o : Option Barrier) → AllByRecursion IsBarrier (node_for o)
one_due None = tt
one_due (Some barrier) = (record { barrier = barrier; is = refl }, tt)

pub due_barriers : (image : ℕ → Bool) (uses : ℕ → List Use) (ts : List Touch) → AllByRecursion IsBarrier (due_before image uses ts)
due_barriers image uses [] = tt
due_barriers image uses (t ∷ ts) =
    each-append IsBarrier (node_for (barrier_due t.id (image t.id.0) (uses t.id.0) t)) (due_before image uses ts) (one_due (barrier_due t.id (image t.id.0) (uses t.id.0) t)) (due_barriers image uses ts)

-- A barrier that discards

some_discards : (o : Option (Layout × Layout)) → discards o ≡ true → is_some o ≡ true
some_discards None e = e
some_discards (Some both) e = refl

old_undefined : (now wanted : Option Layout) → discards (layouts_of now wanted) ≡ true → now ≡ Some Undefined
old_undefined None None e = absurd (false≢true e)
old_undefined None (Some wanted) e = absurd (false≢true e)
old_undefined (Some now) None e = absurd (false≢true e)
old_undefined (Some Undefined) (Some wanted) e = refl
old_undefined (Some TransferSrc) (Some wanted) e = absurd (false≢true e)
old_undefined (Some TransferDst) (Some wanted) e = absurd (false≢true e)
old_undefined (Some ColorAttachment) (Some wanted) e = absurd (false≢true e)

module _ (kinds : ℕ → Kind) (image : ℕ → Bool) (c : Contents) (law : DueLayouts) (new : DueNew) where
  -- images that are in the layout Undefined after these uses have no cell that is defined
  abbrev pub AreUnlaid : (ℕ → List Use) → Type 0
  AreUnlaid now = (id : ℕ) → image id ≡ true → layout_now (first_layout true) (now id) ≡ Some Undefined → c id ≡ nothing id

  -- so with one more item, behind which all are licensed
  grown : (now more : ℕ → List Use) (x : Item) → ((id : ℕ) → AreLicensed (handle id) (image id) (now id ++ (uses_by id x ++ more id))) → AreUnlaid now → AreUnlaid (λ id. now id ++ uses_by id x)
  grown now more x licensed unlaid id is e =
      unlaid id is
      (was_unlaid (uses_by id x) (layout_now (first_layout true) (now id))
      (all_lay law new (handle id) (now id) (uses_by id x)
      (licensed_before (handle id) true (now id ++ uses_by id x) (more id)
      (subst (AreLicensed (handle id) true) (sym (append_assoc (now id) (uses_by id x) (more id))) (subst (λ b. AreLicensed (handle id) b (now id ++ (uses_by id x ++ more id))) is (licensed id)))))
      (sym (fold-append layout_after (first_layout true) (now id) (uses_by id x)) ∙ e))

  pub discarded : (now : ℕ → List Use) (barrier : Barrier) (more : List Use) → AreUnlaid now → AreLicensed (handle barrier.id.0) (image barrier.id.0) (now barrier.id.0 ++ Fenced barrier ∷ more) → discards barrier.layouts ≡ true → c barrier.id.0 ≡ nothing barrier.id.0
  discarded now barrier more unlaid licensed e =
      let due = licensed (now barrier.id.0) more barrier refl in
      go due.0 due.1 due.2 (image barrier.id.0) refl
    where
      go : (touch : Touch) → IsTouchOf (handle barrier.id.0) (image barrier.id.0) touch → barrier_due (handle barrier.id.0) (image barrier.id.0) (now barrier.id.0) touch ≡ Some barrier →
          (b : Bool) → image barrier.id.0 ≡ b → c barrier.id.0 ≡ nothing barrier.id.0
      go touch of due false buffer =
          absurd (both_ways (is_some barrier.layouts) (law (handle barrier.id.0) (image barrier.id.0) (now barrier.id.0) touch barrier of due ∙ buffer) (some_discards barrier.layouts e))
      go touch of due true is =
          let named : layouts_of (layout_now (first_layout (image barrier.id.0)) (now barrier.id.0)) touch.layout ≡ barrier.layouts =
          ap (λ (b : Barrier). b.layouts) (due_is (is_licensed (image barrier.id.0) (now barrier.id.0) touch) (record {
            id = handle barrier.id.0;
            first = waited_for (now barrier.id.0);
            second = touch.access;
            layouts = layouts_of (layout_now (first_layout (image barrier.id.0)) (now barrier.id.0)) touch.layout;
          }) barrier due) in
          unlaid barrier.id.0 is
          (ap (λ b. layout_now (first_layout b) (now barrier.id.0)) (sym is)
          ∙ old_undefined (layout_now (first_layout (image barrier.id.0)) (now barrier.id.0)) touch.layout (ap discards named ∙ e))

  -- a licensed barrier leaves all cells
  leaves : (now : ℕ → List Use) (barrier : Barrier) (more : List Use) → AreUnlaid now → AreLicensed (handle barrier.id.0) (image barrier.id.0) (now barrier.id.0 ++ Fenced barrier ∷ more) →
      apply kinds (Command 0 (barrier_node barrier)) c ≡ c
  leaves now barrier more unlaid licensed = fun_ext (λ id. fun_ext (λ i. go id i (cases_Bool (is_written (Command 0 (barrier_node barrier)) id i)) (cases_Bool (discards barrier.layouts))))
    where
      go : (id i : ℕ) → (is_written (Command 0 (barrier_node barrier)) id i ≡ true) ⊎ (is_written (Command 0 (barrier_node barrier)) id i ≡ false) → (discards barrier.layouts ≡ true) ⊎ (discards barrier.layouts ≡ false) →
          apply kinds (Command 0 (barrier_node barrier)) c id i ≡ c id i
      go id i (inr none) d = after_unwritten kinds (Command 0 (barrier_node barrier)) c id i none
      go id i (inl w) (inr kept) =
          after_written kinds (Command 0 (barrier_node barrier)) c id i w
          ∙ cond-false (discards barrier.layouts) UNDEFINED (found (Command 0 (barrier_node barrier)) c id i) kept
          ∙ found_at (Command 0 (barrier_node barrier)) c id i (touched_from_written (Command 0 (barrier_node barrier)) id i w)
      go id i (inl w) (inl d) =
          let same : barrier.id.0 ≡ id = eqb-true barrier.id.0 id (only (eqb barrier.id.0 id) (touched_object (Command 0 (barrier_node barrier)) id i (touched_from_written (Command 0 (barrier_node barrier)) id i w))) in
          after_written kinds (Command 0 (barrier_node barrier)) c id i w
          ∙ cond-true (discards barrier.layouts) UNDEFINED (found (Command 0 (barrier_node barrier)) c id i) d
          ∙ ap (λ (v : ℕ → ℕ). v i) (sym (discarded now barrier more unlaid licensed d) ∙ ap c same)

  -- what was licensed before a barrier, with that barrier
  with_barrier : (now more : ℕ → List Use) (barrier : Barrier) → ((id : ℕ) → AreLicensed (handle id) (image id) (now id ++ (uses_by id (Command 0 (barrier_node barrier)) ++ more id))) →
      AreLicensed (handle barrier.id.0) (image barrier.id.0) (now barrier.id.0 ++ Fenced barrier ∷ more barrier.id.0)
  with_barrier now more barrier licensed =
      subst (λ us. AreLicensed (handle barrier.id.0) (image barrier.id.0) (now barrier.id.0 ++ (us ++ more barrier.id.0)))
      (use_of_barrier 0 (barrier_node barrier) barrier.id.0 barrier (or_left (eqb barrier.id.0 barrier.id.0) false (eq-eqb barrier.id.0 barrier.id.0 refl)) refl) (licensed barrier.id.0)

  -- and so do many
  pub fences_leave : (fences : List Node) (now : ℕ → List Use) → AllByRecursion IsBarrier fences → AreUnlaid now → ((id : ℕ) → AreLicensed (handle id) (image id) (now id ++ uses_in (commands 0 fences) id)) →
      after_all kinds (commands 0 fences) c ≡ c
  fences_leave [] now all unlaid licensed = refl
  fences_leave (n ∷ fences) now all unlaid licensed =
      let more : ℕ → List Use = λ id. uses_in (commands 0 fences) id in
      let first : apply kinds (Command 0 n) c ≡ c =
      ap (λ m. apply kinds (Command 0 m) c) all.0.is
      ∙ leaves now all.0.barrier (more all.0.barrier.id.0) unlaid
      (with_barrier now more all.0.barrier (subst (λ m. (id : ℕ) → AreLicensed (handle id) (image id) (now id ++ (uses_by id (Command 0 m) ++ more id))) all.0.is licensed)) in
      ap (after_all kinds (commands 0 fences)) first
      ∙ fences_leave fences (λ id. now id ++ uses_by id (Command 0 n)) all.1 (grown now more (Command 0 n) licensed unlaid)
      (λ id. subst (AreLicensed (handle id) (image id)) (sym (append_assoc (now id) (uses_by id (Command 0 n)) (uses_in (commands 0 fences) id))) (licensed id))

  -- an image that one of some nodes discards has no cell that is defined before them
  pub blank_before : (nodes : List Node) (place : ℕ) (now : ℕ → List Use) (barrier : Barrier) → slice_get nodes place ≡ Some (barrier_node barrier) → discards barrier.layouts ≡ true → AreUnlaid now →
      ((id : ℕ) → AreLicensed (handle id) (image id) (now id ++ uses_in (commands 0 nodes) id)) → c barrier.id.0 ≡ nothing barrier.id.0
  blank_before [] place now barrier at e unlaid licensed = absurd (none-some (barrier_node barrier) at)
  blank_before (n ∷ nodes) zero now barrier at e unlaid licensed =
      let more : ℕ → List Use = λ id. uses_in (commands 0 nodes) id in
      discarded now barrier (more barrier.id.0) unlaid
      (with_barrier now more barrier (subst (λ m. (id : ℕ) → AreLicensed (handle id) (image id) (now id ++ (uses_by id (Command 0 m) ++ more id))) (same_Some n (barrier_node barrier) at) licensed)) e
  blank_before (n ∷ nodes) (suc place) now barrier at e unlaid licensed =
      blank_before nodes place (λ id. now id ++ uses_by id (Command 0 n)) barrier at e (grown now (λ id. uses_in (commands 0 nodes) id) (Command 0 n) licensed unlaid)
      (λ id. subst (AreLicensed (handle id) (image id)) (sym (append_assoc (now id) (uses_by id (Command 0 n)) (uses_in (commands 0 nodes) id))) (licensed id))
