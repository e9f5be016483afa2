-- Soundness is kept where neighbouring items that do not depend on one another change places.
use Rattle.std.proofs.Common.{◌≡◌, ℕ, zero, suc, ◌<◌, List, [], ◌∷◌, ◌++◌, get_or, take, true, false, eqb, refl, sym, ◌∙◌, ap, subst, arith, inl, inr}
use Rattle.std.specs.Prelude.{◌⊎◌, Option, Some, None, slice_get, IfSome}
use Rattle.std.specs.List.{list_any}
use Rattle.std.proofs.lemmas.Bool.{both_ways, cases_Bool, ne_eqb, eq-eqb, and_parts, or_cases, cond-false, false≢true, false_from_ne_true}
use Rattle.std.proofs.lemmas.Option.{IfSome_then, same_Some}
use Rattle.std.proofs.lemmas.List.Folds.{list_any_at}
use Rattle.vk_types.specs.declared.accesses.Layout.{Layout}
use Rattle.vk_types.specs.declared.accesses.Layout.TheVariants.{Undefined}
use Rattle.vk_types.specs.declared.regions.Barrier.{Barrier}
use Rattle.vk_types.specs.declared.ops.Node.{Node}
use Rattle.vk_types.specs.Touches.{touches, barrier_of, the_end}
use Rattle.vk_model.specs.Log.{Item, Command, HostWrite, Range, node_ranges, clash, items_clash, conflict, node_edge, touches_object, item_edge, HasEdge, Reaches, direct, further, NoneEmpty, layout_set, layout_by, layout_step, layout_from, layout_after, FindsLayouts, IsSound, Conflicts}
use Rattle.vk_model.proofs.Clashes.{some_clash_turned, conflict_mutual, clashing_touch, barrier_touches_object, conflict_before_barrier, conflict_after_barrier, edge_conflict}

-- where a place goes when the two items behind the front change places
abbrev pub swapped : List Item → ℕ → ℕ
swapped [] zero = suc zero
swapped [] (suc zero) = zero
swapped [] (suc (suc k)) = suc (suc k)
swapped (f ∷ front) zero = zero
swapped (f ∷ front) (suc k) = suc (swapped front k)

swapped_twice : (front : List Item) (k : ℕ) → swapped front (swapped front k) ≡ k
swapped_twice [] zero = refl
swapped_twice [] (suc zero) = refl
swapped_twice [] (suc (suc k)) = refl
swapped_twice (f ∷ front) zero = refl
swapped_twice (f ∷ front) (suc k) = ap suc (swapped_twice front k)

get_swapped : (front back : List Item) (x y : Item) (k : ℕ) → slice_get (front ++ y ∷ x ∷ back) (swapped front k) ≡ slice_get (front ++ x ∷ y ∷ back) k
get_swapped [] back x y zero = refl
get_swapped [] back x y (suc zero) = refl
get_swapped [] back x y (suc (suc k)) = refl
get_swapped (f ∷ front) back x y zero = refl
get_swapped (f ∷ front) back x y (suc k) = get_swapped front back x y k

-- all places keep their order but those of the two items
swapped_order : (front back : List Item) (x y : Item) (j k : ℕ) → j < k → (swapped front j < swapped front k) ⊎ ((slice_get (front ++ x ∷ y ∷ back) j ≡ Some x) × (slice_get (front ++ x ∷ y ∷ back) k ≡ Some y))
swapped_order [] back x y zero zero lt = absurd (omega arith)
swapped_order [] back x y zero (suc zero) lt = inr (refl, refl)
swapped_order [] back x y zero (suc (suc k)) lt = inl (omega arith)
swapped_order [] back x y (suc zero) zero lt = absurd (omega arith)
swapped_order [] back x y (suc zero) (suc zero) lt = absurd (omega arith)
swapped_order [] back x y (suc zero) (suc (suc k)) lt = inl (omega arith)
swapped_order [] back x y (suc (suc j)) zero lt = absurd (omega arith)
swapped_order [] back x y (suc (suc j)) (suc zero) lt = absurd (omega arith)
swapped_order [] back x y (suc (suc j)) (suc (suc k)) lt = inl lt
swapped_order (f ∷ front) back x y zero zero lt = absurd (omega arith)
swapped_order (f ∷ front) back x y zero (suc k) lt = inl (omega arith)
swapped_order (f ∷ front) back x y (suc j) zero lt = absurd (omega arith)
swapped_order (f ∷ front) back x y (suc j) (suc k) lt = elim (swapped_order front back x y j k (omega arith)) [ inl h ↦ inl (omega (arith, h)) | inr h ↦ inr h ]

-- chains of edges go with the items
module _ (front back : List Item) (x y : Item) (apart : item_edge x y ≡ false) where
  edge_swapped : (j k : ℕ) → HasEdge (front ++ x ∷ y ∷ back) j k → HasEdge (front ++ y ∷ x ∷ back) (swapped front j) (swapped front k)
  edge_swapped j k e = record {
    earlier = elim (swapped_order front back x y j k e.earlier) [
      | inl lt ↦ lt
      | inr both ↦ absurd (both_ways (item_edge x y) apart (subst (λ z. item_edge x z ≡ true) (same_Some e.b y (sym e.b_at ∙ both.1)) (subst (λ z. item_edge z e.b ≡ true) (same_Some e.a x (sym e.a_at ∙ both.0)) e.waits)))
    ];
    a = e.a;
    b = e.b;
    a_at = get_swapped front back x y j ∙ e.a_at;
    b_at = get_swapped front back x y k ∙ e.b_at;
    waits = e.waits;
  }

  reaches_swapped : {j k : ℕ} → Reaches (front ++ x ∷ y ∷ back) j k → Reaches (front ++ y ∷ x ∷ back) (swapped front j) (swapped front k)
  reaches_swapped (direct {j = j} {k = k} e) = direct (edge_swapped j k e)
  reaches_swapped (further {j = j} {m = m} {k = k} e r) = further (edge_swapped j m e) (reaches_swapped r)

-- Layouts

-- the item leaves the layout of the object as it is
abbrev pub Leaves : Item → ℕ → Type 0
Leaves x id = (layout : Layout) → layout_step x id layout ≡ layout

pub leaves_unless : (q : ℕ) (n : Node) (id : ℕ) → ((b : Barrier) → barrier_of n ≡ Some b → b.id.0 ≡ id → ⊥) → Leaves (Command q n) id
leaves_unless q n id other layout = go (barrier_of n) refl
  where
    go : (o : Option Barrier) → barrier_of n ≡ o → layout_by o id layout ≡ layout
    go None e = refl
    go (Some b) e = cond-false (eqb b.id.0 id) (layout_set b.layouts layout) layout (ne_eqb b.id.0 id (other b e))

-- what a node at a place finds in the one log and in the other
layout_swapped : (front back : List Item) (x y : Item) (id : ℕ) (k : ℕ) (layout : Layout) →
    ((layout : Layout) → layout_step y id (layout_step x id layout) ≡ layout_step x id (layout_step y id layout)) →
    (slice_get (front ++ y ∷ x ∷ back) k ≡ Some y → Leaves x id) →
    (slice_get (front ++ y ∷ x ∷ back) k ≡ Some x → Leaves y id) →
    layout_from layout (take (swapped front k) (front ++ x ∷ y ∷ back)) id ≡ layout_from layout (take k (front ++ y ∷ x ∷ back)) id
layout_swapped [] back x y id zero layout commute at_y at_x = at_y refl layout
layout_swapped [] back x y id (suc zero) layout commute at_y at_x = sym (at_x refl layout)
layout_swapped [] back x y id (suc (suc k)) layout commute at_y at_x = ap (λ l. layout_from l (take k back) id) (commute layout)
layout_swapped (f ∷ front) back x y id zero layout commute at_y at_x = refl
layout_swapped (f ∷ front) back x y id (suc k) layout commute at_y at_x = layout_swapped front back x y id k (layout_step f id layout) commute at_y at_x

-- Nodes that find the same layouts

finds_same : (xs ys : List Item) (n : Node) → ((id : ℕ) → touches_object n id ≡ true → layout_after xs id ≡ layout_after ys id) → FindsLayouts xs n → FindsLayouts ys n
finds_same xs ys n same finds = record {
  touched = λ k d lt. IfSome_then (get_or (touches n) k d).layout (finds.touched k d lt) (λ layout e. e ∙ same (get_or (touches n) k d).id.0 (list_any_at (λ t. eqb t.id.0 (get_or (touches n) k d).id.0) (touches n) k d lt (eq-eqb (get_or (touches n) k d).id.0 (get_or (touches n) k d).id.0 refl)));
  old = go (barrier_of n) refl finds.old;
}
  where
    go : (o : Option Barrier) → barrier_of n ≡ o → IfSome o (λ b. IfSome b.layouts (λ both. both.0 ≡ layout_after xs b.id.0)) → IfSome o (λ b. IfSome b.layouts (λ both. both.0 ≡ layout_after ys b.id.0))
    go None is h = h
    go (Some b) is h = IfSome_then b.layouts h (λ both e. e ∙ same b.id.0 (barrier_touches_object n b is))

-- The theorem

same_node : (r s : ℕ) (m n : Node) → Command r m ≡ Command s n → m ≡ n
same_node r s m n e = cc

-- What the first of two neighbours, x, needs to come behind the second, y.
pub record MayPass (x y : Item) : Type 0 where
  pub apart : item_edge x y ≡ false
  pub layouts : (id : ℕ) (layout : Layout) → layout_step y id (layout_step x id layout) ≡ layout_step x id (layout_step y id layout)
  pub x_leaves : (q : ℕ) (n : Node) → y ≡ Command q n → (id : ℕ) → touches_object n id ≡ true → Leaves x id
  pub y_leaves : (q : ℕ) (n : Node) → x ≡ Command q n → (id : ℕ) → touches_object n id ≡ true → Leaves y id
  pub no_conflict : (p q : ℕ) (a b : Node) → x ≡ Command p a → y ≡ Command q b → conflict b a ≡ false

module _ (front back : List Item) (x y : Item) (may : MayPass x y) where
  pub sound_passed : IsSound (front ++ x ∷ y ∷ back) → IsSound (front ++ y ∷ x ∷ back)
  sound_passed sound = record {
    ordered = λ j k r s c d lt c_at d_at clash. ordered j k r s c d c_at d_at clash (swapped_order front back y x j k lt);
    laid_out = λ k r n at. finds_same (take (swapped front k) (front ++ x ∷ y ∷ back)) (take k (front ++ y ∷ x ∷ back)) n
        (λ id t. layout_swapped front back x y id k Undefined (may.layouts id)
        (λ is. may.x_leaves r n (same_Some y (Command r n) (sym is ∙ at)) id t)
        (λ is. may.y_leaves r n (same_Some x (Command r n) (sym is ∙ at)) id t))
        (sound.laid_out (swapped front k) r n (get_swapped front back y x k ∙ at));
  }
    where
      ordered : (j k r s : ℕ) (c d : Node) → slice_get (front ++ y ∷ x ∷ back) j ≡ Some (Command r c) → slice_get (front ++ y ∷ x ∷ back) k ≡ Some (Command s d) → Conflicts c d →
          (swapped front j < swapped front k) ⊎ ((slice_get (front ++ y ∷ x ∷ back) j ≡ Some y) × (slice_get (front ++ y ∷ x ∷ back) k ≡ Some x)) →
          Reaches (front ++ y ∷ x ∷ back) j k
      ordered j k r s c d c_at d_at clash (inl lt) =
          let before : Reaches (front ++ x ∷ y ∷ back) (swapped front j) (swapped front k) = sound.ordered (swapped front j) (swapped front k) r s c d lt (get_swapped front back y x j ∙ c_at) (get_swapped front back y x k ∙ d_at) clash in
          let back_again : Reaches (front ++ y ∷ x ∷ back) (swapped front (swapped front j)) (swapped front (swapped front k)) = reaches_swapped front back x y may.apart before in
          subst (λ m. Reaches (front ++ y ∷ x ∷ back) m k) (swapped_twice front j) (subst (λ m. Reaches (front ++ y ∷ x ∷ back) (swapped front (swapped front j)) m) (swapped_twice front k) back_again)
      ordered j k r s c d c_at d_at clash (inr both) =
          absurd (both_ways (conflict c d) (may.no_conflict s r d c (same_Some x (Command s d) (sym both.1 ∙ d_at)) (same_Some y (Command r c) (sym both.0 ∙ c_at))) clash)

-- Nodes

module _ (p q : ℕ) (a b : Node) (roomy_a : NoneEmpty a) (roomy_b : NoneEmpty b) (none : conflict a b ≡ false) where
  no_edge : item_edge (Command p a) (Command q b) ≡ false
  no_edge = false_from_ne_true (item_edge (Command p a) (Command q b)) (λ e. both_ways (conflict a b) none (edge_conflict a b roomy_a roomy_b (and_parts (eqb p q) (node_edge a b) e).1))

  -- a node leaves the layout of what the other touches
  a_leaves : (id : ℕ) → touches_object b id ≡ true → Leaves (Command p a) id
  a_leaves id t = leaves_unless p a id (λ x is same. both_ways (conflict a b) none (conflict_after_barrier a b x roomy_b is (subst (λ i. touches_object b i ≡ true) (sym same) t)))

  b_leaves : (id : ℕ) → touches_object a id ≡ true → Leaves (Command q b) id
  b_leaves id t = leaves_unless q b id (λ x is same. both_ways (conflict a b) none (conflict_before_barrier a b x roomy_a is (subst (λ i. touches_object a i ≡ true) (sym same) t)))

  steps_commute : (id : ℕ) (layout : Layout) → layout_step (Command q b) id (layout_step (Command p a) id layout) ≡ layout_step (Command p a) id (layout_step (Command q b) id layout)
  steps_commute id layout = go (cases_Bool (touches_object a id))
    where
      go : (touches_object a id ≡ true) ⊎ (touches_object a id ≡ false) → layout_step (Command q b) id (layout_step (Command p a) id layout) ≡ layout_step (Command p a) id (layout_step (Command q b) id layout)
      go (inl t) = b_leaves id t (layout_step (Command p a) id layout) ∙ ap (layout_step (Command p a) id) (sym (b_leaves id t layout))
      go (inr f) =
          let leaves : Leaves (Command p a) id = leaves_unless p a id (λ x is same. both_ways (touches_object a id) f (subst (λ i. touches_object a i ≡ true) same (barrier_touches_object a x is))) in
          ap (layout_step (Command q b) id) (leaves layout) ∙ sym (leaves (layout_step (Command q b) id layout))

  nodes_pass : MayPass (Command p a) (Command q b)
  nodes_pass = record {
    apart = no_edge;
    layouts = steps_commute;
    x_leaves = λ r n is id t. a_leaves id (subst (λ m. touches_object m id ≡ true) (sym (same_node q r b n is)) t);
    y_leaves = λ r n is id t. b_leaves id (subst (λ m. touches_object m id ≡ true) (sym (same_node p r a n is)) t);
    no_conflict = λ r s c d is_c is_d. subst (λ m. conflict m c ≡ false) (same_node q s b d is_d) (subst (λ m. conflict b m ≡ false) (same_node p r a c is_c) (conflict_mutual b a ∙ none));
  }

pub sound_swapped : (front back : List Item) (p q : ℕ) (a b : Node) → NoneEmpty a → NoneEmpty b → conflict a b ≡ false → IsSound (front ++ Command p a ∷ Command q b ∷ back) → IsSound (front ++ Command q b ∷ Command p a ∷ back)
sound_swapped front back p q a b roomy_a roomy_b none = sound_passed front back (Command p a) (Command q b) (nodes_pass p q a b roomy_a roomy_b none)

-- A write by the host to an object that a node does not touch

write_passes : (q : ℕ) (n : Node) (id at : ℕ) (bytes : List ℕ) → touches_object n id ≡ false → MayPass (Command q n) (HostWrite id at bytes)
write_passes q n id at bytes untouched = record {
  apart = untouched;
  layouts = λ other layout. refl;
  x_leaves = λ r m is. absurd (no_command r m is);
  y_leaves = λ r m is other t layout. refl;
  no_conflict = λ r s a b is_a is_b. absurd (no_command s b is_b);
}
  where
    no_command : (r : ℕ) (m : Node) → HostWrite id at bytes ≡ Command r m → ⊥
    no_command r m is = cc

pub sound_write_passed : (front back : List Item) (q : ℕ) (n : Node) (id at : ℕ) (bytes : List ℕ) → touches_object n id ≡ false → IsSound (front ++ Command q n ∷ HostWrite id at bytes ∷ back) → IsSound (front ++ HostWrite id at bytes ∷ Command q n ∷ back)
sound_write_passed front back q n id at bytes untouched = sound_passed front back (Command q n) (HostWrite id at bytes) (write_passes q n id at bytes untouched)

pub write_apart : (q : ℕ) (n : Node) (id at : ℕ) (bytes : List ℕ) → touches_object n id ≡ false → items_clash (Command q n) (HostWrite id at bytes) ≡ false
write_apart q n id at bytes untouched = false_from_ne_true (items_clash (Command q n) (HostWrite id at bytes)) (λ e.
    elim (or_cases (list_any (clash whole) (node_ranges n)) false (some_clash_turned (node_ranges n) (whole ∷ []) e)) [
      | inl c ↦ both_ways (touches_object n id) untouched (clashing_touch n whole (touches n) c)
      | inr f ↦ false≢true f
    ])
  where
    whole : Range
    whole = record { id = id; start = 0; end = the_end; written = true }
