-- What is recorded at one index stands as if it came first, or last.
use Rattle.std.proofs.Common.{◌≡◌, ◌≢◌, ℕ, zero, suc, ◌+◌, ◌*◌, ◌<◌, ◌≤◌, List, [], ◌∷◌, ◌++◌, false, refl, sym, ◌∙◌, ap, arith, inl, inr}
use Rattle.std.specs.Prelude.{◌⊎◌}
use Rattle.std.specs.List.{flat_map, range_with_len, AllByRecursion}
use Rattle.std.proofs.lemmas.Bool.{cases_eq}
use Rattle.std.proofs.lemmas.List.Concat.{flat_map-append}
use Rattle.vk_types.specs.declared.handles.Kind.{Kind}
use Rattle.vk_types.specs.declared.ops.Node.{Node}
use Rattle.vk_model.specs.Cells.{Contents}
use Rattle.vk_model.specs.Log.{Command, commands, conflict, NoConflict}
use Rattle.vk_model.specs.Meaning.{apply, after_all}
use Rattle.vk_model.proofs.Local.{apart_by_ranges, after_commutes}
use Rattle.back_core.specs.Link.{put}
use Rattle.back_core.specs.Needs.{IsOfGroup}
use Rattle.front_model.specs.Face.{indexes_of}
use Rattle.front_model.proofs.Base.{put-same, put-other}
use Rattle.front_model.proofs.Contents.{nodes-append}

-- Lists of nodes without a conflict change places

module _ (kinds : ℕ → Kind) where
  node_passes : (a : Node) (ys : List Node) → AllByRecursion (λ b. conflict a b ≡ false) ys → (c : Contents) → after_all kinds (commands 0 ys) (apply kinds (Command 0 a) c) ≡ apply kinds (Command 0 a) (after_all kinds (commands 0 ys) c)
  node_passes a [] none c = refl
  node_passes a (b ∷ ys) none c =
      ap (after_all kinds (commands 0 ys)) (sym (after_commutes kinds (Command 0 a) (Command 0 b) c (apart_by_ranges (Command 0 a) (Command 0 b) none.0)))
      ∙ node_passes a ys none.1 (apply kinds (Command 0 b) c)

  pub nodes_pass : (xs ys : List Node) → NoConflict xs ys → (c : Contents) → after_all kinds (commands 0 ys) (after_all kinds (commands 0 xs) c) ≡ after_all kinds (commands 0 xs) (after_all kinds (commands 0 ys) c)
  nodes_pass [] ys none c = refl
  nodes_pass (a ∷ xs) ys none c =
      nodes_pass xs ys none.1 (apply kinds (Command 0 a) c)
      ∙ ap (after_all kinds (commands 0 xs)) (node_passes a ys none.0 c)

-- Several lists

each-append : {X : Type 0} (P : X → Type 0) (xs ys : List X) → AllByRecursion P xs → AllByRecursion P ys → AllByRecursion P (xs ++ ys)
each-append P [] ys a b = b
each-append P (x ∷ xs) ys a b = (a.0, each-append P xs ys a.1 b)

no_conflict-nil : (xs : List Node) → NoConflict xs []
no_conflict-nil [] = tt
no_conflict-nil (x ∷ xs) = (tt, no_conflict-nil xs)

no_conflict-append : (xs ys zs : List Node) → NoConflict xs ys → NoConflict xs zs → NoConflict xs (ys ++ zs)
no_conflict-append [] ys zs a b = tt
no_conflict-append (x ∷ xs) ys zs a b = (each-append (λ z. conflict x z ≡ false) ys zs a.0 b.0, no_conflict-append xs ys zs a.1 b.1)

no_conflict_after : (xs : List Node) (lists : ℕ → List Node) (places : List ℕ) → AllByRecursion (λ i. NoConflict xs (lists i)) places → NoConflict xs (flat_map lists places)
no_conflict_after xs lists [] each = no_conflict-nil xs
no_conflict_after xs lists (i ∷ places) each = no_conflict-append xs (lists i) (flat_map lists places) each.0 (no_conflict_after xs lists places each.1)

no_conflict_before : (lists : ℕ → List Node) (places : List ℕ) (ys : List Node) → AllByRecursion (λ i. NoConflict (lists i) ys) places → NoConflict (flat_map lists places) ys
no_conflict_before lists [] ys each = tt
no_conflict_before lists (i ∷ places) ys each = each-append (λ a. AllByRecursion (λ b. conflict a b ≡ false) ys) (lists i) (flat_map lists places) each.0 (no_conflict_before lists places ys each.1)

weaker : {X : Type 0} (P Q : X → Type 0) → ((x : X) → P x → Q x) → (xs : List X) → AllByRecursion P xs → AllByRecursion Q xs
weaker P Q f [] each = tt
weaker P Q f (x ∷ xs) each = (f x each.0, weaker P Q f xs each.1)

-- An index among those of a group

pub record Split (places : List ℕ) (index : ℕ) : Type 0 where
  front : List ℕ
  back : List ℕ
  is : places ≡ front ++ index ∷ back
  before : AllByRecursion (λ i. i ≢ index) front
  behind : AllByRecursion (λ i. i ≢ index) back

above : (a n index : ℕ) → index < a → AllByRecursion (λ i. i ≢ index) (range_with_len a n)
above a zero index lt = tt
above a (suc n) index lt = ((λ e. omega (arith, e, lt)), above (a + 1) n index (omega arith))

split : (a n index : ℕ) → a ≤ index → index < a + n → Split (range_with_len a n) index
split a zero index le lt = absurd (omega arith)
split a (suc n) index le lt = go (cases_eq a index) (λ ne. split (a + 1) n index (omega arith) (omega arith))
  where
    go : (a ≡ index) ⊎ (a ≢ index) → (a ≢ index → Split (range_with_len (a + 1) n) index) → Split (a ∷ range_with_len (a + 1) n) index
    go (inl e) more = record { front = []; back = range_with_len (a + 1) n; is = ap (λ i. i ∷ range_with_len (a + 1) n) e; before = tt; behind = above (a + 1) n index (omega arith) }
    go (inr ne) more =
        let rest : Split (range_with_len (a + 1) n) index = more ne in
        record { front = a ∷ rest.front; back = rest.back; is = ap (λ l. a ∷ l) rest.is; before = (ne, rest.before); behind = rest.behind }

pub of_group : (group index : ℕ) → IsOfGroup group index → Split (indexes_of group) index
of_group group index own = split (8 * group) 8 index own.0 own.1

-- another list at an index is not in the others
kept : (lists : ℕ → List Node) (index : ℕ) (nodes : List Node) (places : List ℕ) → AllByRecursion (λ i. i ≢ index) places → flat_map (put lists index nodes) places ≡ flat_map lists places
kept lists index nodes [] other = refl
kept lists index nodes (i ∷ places) other = ap (λ l. l ++ flat_map (put lists index nodes) places) (put-other lists index nodes i other.0) ∙ ap (λ l. lists i ++ l) (kept lists index nodes places other.1)

module _ (kinds : ℕ → Kind) (lists : ℕ → List Node) (index : ℕ) where
  -- what nodes of all indexes come to
  parted : (front back : List ℕ) (c : Contents) → after_all kinds (commands 0 (flat_map lists (front ++ index ∷ back))) c
      ≡ after_all kinds (commands 0 (flat_map lists back)) (after_all kinds (commands 0 (lists index)) (after_all kinds (commands 0 (flat_map lists front)) c))
  parted front back c =
      ap (λ l. after_all kinds (commands 0 l) c) (flat_map-append lists front (index ∷ back))
      ∙ nodes-append kinds (flat_map lists front) (lists index ++ flat_map lists back) c
      ∙ nodes-append kinds (lists index) (flat_map lists back) (after_all kinds (commands 0 (flat_map lists front)) c)

module _ (kinds : ℕ → Kind) (lists : ℕ → List Node) (index : ℕ) where
  -- the nodes of one index may come first
  first_in : (front back : List ℕ) → AllByRecursion (λ i. i ≢ index) front → AllByRecursion (λ i. i ≢ index) back → ((i : ℕ) → i ≢ index → NoConflict (lists i) (lists index)) → (c : Contents) →
      after_all kinds (commands 0 (flat_map (put lists index []) (front ++ index ∷ back))) (after_all kinds (commands 0 (lists index)) c)
      ≡ after_all kinds (commands 0 (flat_map lists (front ++ index ∷ back))) c
  first_in front back before behind none c =
      let d : Contents = after_all kinds (commands 0 (lists index)) c in
      parted kinds (put lists index []) index front back d
      ∙ ap (λ l. after_all kinds (commands 0 l) (after_all kinds (commands 0 (put lists index [] index)) (after_all kinds (commands 0 (flat_map (put lists index []) front)) d))) (kept lists index [] back behind)
      ∙ ap (λ l. after_all kinds (commands 0 (flat_map lists back)) (after_all kinds (commands 0 l) (after_all kinds (commands 0 (flat_map (put lists index []) front)) d))) (put-same lists index [])
      ∙ ap (λ l. after_all kinds (commands 0 (flat_map lists back)) (after_all kinds (commands 0 l) d)) (kept lists index [] front before)
      ∙ ap (after_all kinds (commands 0 (flat_map lists back))) (sym (nodes_pass kinds (flat_map lists front) (lists index) (no_conflict_before lists front (lists index) (weaker (λ i. i ≢ index) (λ i. NoConflict (lists i) (lists index)) none front before)) c))
      ∙ sym (parted kinds lists index front back c)

  pub goes_first : (places : List ℕ) → Split places index → ((i : ℕ) → i ≢ index → NoConflict (lists i) (lists index)) → (c : Contents) →
      after_all kinds (commands 0 (flat_map (put lists index []) places)) (after_all kinds (commands 0 (lists index)) c) ≡ after_all kinds (commands 0 (flat_map lists places)) c
  goes_first places at none c =
      ap (λ l. after_all kinds (commands 0 (flat_map (put lists index []) l)) (after_all kinds (commands 0 (lists index)) c)) at.is
      ∙ first_in at.front at.back at.before at.behind none c
      ∙ sym (ap (λ l. after_all kinds (commands 0 (flat_map lists l)) c) at.is)

  -- nodes that are added at one index may come last
  last_in : (front back : List ℕ) → AllByRecursion (λ i. i ≢ index) front → AllByRecursion (λ i. i ≢ index) back → (nodes : List Node) → ((i : ℕ) → i ≢ index → NoConflict nodes (lists i)) → (c : Contents) →
      after_all kinds (commands 0 (flat_map (put lists index (lists index ++ nodes)) (front ++ index ∷ back))) c
      ≡ after_all kinds (commands 0 nodes) (after_all kinds (commands 0 (flat_map lists (front ++ index ∷ back))) c)
  last_in front back before behind nodes none c =
      let d : Contents = after_all kinds (commands 0 (flat_map lists front)) c in
      parted kinds (put lists index (lists index ++ nodes)) index front back c
      ∙ ap (λ l. after_all kinds (commands 0 l) (after_all kinds (commands 0 (put lists index (lists index ++ nodes) index)) (after_all kinds (commands 0 (flat_map (put lists index (lists index ++ nodes)) front)) c))) (kept lists index (lists index ++ nodes) back behind)
      ∙ ap (λ l. after_all kinds (commands 0 (flat_map lists back)) (after_all kinds (commands 0 (put lists index (lists index ++ nodes) index)) (after_all kinds (commands 0 l) c))) (kept lists index (lists index ++ nodes) front before)
      ∙ ap (λ l. after_all kinds (commands 0 (flat_map lists back)) (after_all kinds (commands 0 l) d)) (put-same lists index (lists index ++ nodes))
      ∙ ap (after_all kinds (commands 0 (flat_map lists back))) (nodes-append kinds (lists index) nodes d)
      ∙ nodes_pass kinds nodes (flat_map lists back) (no_conflict_after nodes lists back (weaker (λ i. i ≢ index) (λ i. NoConflict nodes (lists i)) none back behind)) (after_all kinds (commands 0 (lists index)) d)
      ∙ sym (ap (after_all kinds (commands 0 nodes)) (parted kinds lists index front back c))

  pub goes_last : (places : List ℕ) → Split places index → (nodes : List Node) → ((i : ℕ) → i ≢ index → NoConflict nodes (lists i)) → (c : Contents) →
      after_all kinds (commands 0 (flat_map (put lists index (lists index ++ nodes)) places)) c ≡ after_all kinds (commands 0 nodes) (after_all kinds (commands 0 (flat_map lists places)) c)
  goes_last places at nodes none c =
      ap (λ l. after_all kinds (commands 0 (flat_map (put lists index (lists index ++ nodes)) l)) c) at.is
      ∙ last_in at.front at.back at.before at.behind nodes none c
      ∙ sym (ap (λ l. after_all kinds (commands 0 nodes) (after_all kinds (commands 0 (flat_map lists l)) c)) at.is)
