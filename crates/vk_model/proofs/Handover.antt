-- Two queues that hand over what they share are in order where the list of each group is.
use Rattle.std.proofs.Common.{◌≡◌, ℕ, ◌<◌, List, [], ◌∷◌, length, get_or, take, Bool, true, false, cond, eqb, refl, sym, ◌∙◌, ap, subst, inl, inr}
use Rattle.std.specs.Prelude.{◌⊎◌, ◌||◌, Option, Some, None, slice_get, IfSome}
use Rattle.std.specs.List.{list_any, cons_option}
use Rattle.std.proofs.lemmas.Bool.{false≢true, cases_eq, eqb-true, eq-eqb, and_parts, and_from, or_cases, cond-true}
use Rattle.std.proofs.lemmas.Option.{IfSome_then}
use Rattle.std.proofs.lemmas.List.Folds.{list_any_at}
use Rattle.vk_types.specs.declared.accesses.Layout.{Layout}
use Rattle.vk_types.specs.declared.accesses.Layout.TheVariants.{Undefined}
use Rattle.vk_types.specs.declared.regions.Barrier.{Barrier}
use Rattle.vk_types.specs.declared.regions.Touch.{Touch}
use Rattle.vk_types.specs.declared.ops.Node.{Node}
use Rattle.vk_types.specs.Accesses.{in_common}
use Rattle.vk_types.specs.Touches.{touches, barrier_of}
use Rattle.vk_model.specs.Log.{Item, Command, HostWrite, Wait, Signal, touches_object, waits_for, holds_back, chained, node_edge, item_edge, HasEdge, Reaches, direct, further, layout_step, layout_from, layout_after, FindsLayouts, IsSound, Conflicts}
use Rattle.vk_model.specs.Queues.{HandsOver, IsHandedOver, in_group, group_list}
use Rattle.vk_model.proofs.Clashes.{any_weaker, barrier_touches_object, touched_from_with, Shares, shares}
use Rattle.vk_model.proofs.Swap.{Leaves, leaves_unless}
use Rattle.vk_model.proofs.Kept.{place_of, index_of, From, from_kept, place_order, Kept, kept_at, order_by_place}

-- Nodes with an edge touch one object

pub edge_shares : (a b : Node) → node_edge a b ≡ true → Shares a b
edge_shares a b e = go (or_cases (waits_for a (barrier_of b) || holds_back (barrier_of a) b) (chained (barrier_of a) (barrier_of b)) e)
  where
    waited : (o : Option Barrier) → barrier_of b ≡ o → waits_for a o ≡ true → Shares a b
    waited None is f = absurd (false≢true f)
    waited (Some y) is f = record { id = y.id.0; by_a = touched_from_with a y.id.0 y.first f; by_b = barrier_touches_object b y is }

    held : (o : Option Barrier) → barrier_of a ≡ o → holds_back o b ≡ true → Shares a b
    held None is f = absurd (false≢true f)
    held (Some x) is f = record { id = x.id.0; by_a = barrier_touches_object a x is; by_b = touched_from_with b x.id.0 x.second f }

    joined : (o o' : Option Barrier) → barrier_of a ≡ o → barrier_of b ≡ o' → chained o o' ≡ true → Shares a b
    joined None o' is is' f = absurd (false≢true f)
    joined (Some x) None is is' f = absurd (false≢true f)
    joined (Some x) (Some y) is is' f =
        let same : x.id.0 ≡ y.id.0 = eqb-true x.id.0 y.id.0 (and_parts (eqb x.id.0 y.id.0) (in_common x.second y.first) f).0 in
        record { id = y.id.0; by_a = subst (λ id. touches_object a id ≡ true) same (barrier_touches_object a x is); by_b = barrier_touches_object b y is' }

    go : ((waits_for a (barrier_of b) || holds_back (barrier_of a) b) ≡ true) ⊎ (chained (barrier_of a) (barrier_of b) ≡ true) → Shares a b
    go (inl f) = elim (or_cases (waits_for a (barrier_of b)) (holds_back (barrier_of a) b) f) [ inl g ↦ waited (barrier_of b) refl g | inr g ↦ held (barrier_of a) refl g ]
    go (inr f) = joined (barrier_of a) (barrier_of b) refl refl f

-- Items of a group

-- an item that a group's list has is itself, but for its queue
abbrev pub IsPlain : Item → Item → Type 0
IsPlain (Command q n) y = y ≡ Command 0 n
IsPlain (HostWrite id at bytes) y = y ≡ HostWrite id at bytes
IsPlain (Wait _ _) y = ⊥
IsPlain (Signal _ _) y = ⊥

kept_is : {X : Type 0} (t : Bool) (x y : X) → cond t (Some x) None ≡ Some y → y ≡ x
kept_is true x y e = cc
kept_is false x y e = cc

pub plain : (group_of : ℕ → ℕ) (g : ℕ) (x y : Item) → in_group group_of g x ≡ Some y → IsPlain x y
plain group_of g (Command q n) y e = kept_is (list_any (λ t. eqb (group_of t.id.0) g) (touches n)) (Command 0 n) y e
plain group_of g (HostWrite id at bytes) y e = kept_is (eqb (group_of id) g) (HostWrite id at bytes) y e
plain group_of g (Wait q n) y e = let none : ◌≡◌ {A = Option Item} None (Some y) = e in cc
plain group_of g (Signal q n) y e = let none : ◌≡◌ {A = Option Item} None (Some y) = e in cc

pub in_group_of : (group_of : ℕ → ℕ) (q : ℕ) (n : Node) (id : ℕ) → touches_object n id ≡ true → in_group group_of (group_of id) (Command q n) ≡ Some (Command 0 n)
in_group_of group_of q n id t =
    cond-true (list_any (λ t. eqb (group_of t.id.0) (group_of id)) (touches n)) (Some (Command 0 n)) None
    (any_weaker (λ t. eqb t.id.0 id) (λ t. eqb (group_of t.id.0) (group_of id)) (λ t e. eq-eqb (group_of t.id.0) (group_of id) (ap group_of (eqb-true t.id.0 id e))) (touches n) t)

module _ (log : List Item) (handed : IsHandedOver log) where
  -- an edge, or a hand-over
  reaches_between : (j k p q : ℕ) (a b : Node) → j < k → slice_get log j ≡ Some (Command p a) → slice_get log k ≡ Some (Command q b) → node_edge a b ≡ true → Reaches log j k
  reaches_between j k p q a b lt at_j at_k e = go (cases_eq p q)
    where
      s : Shares a b
      s = edge_shares a b e

      over : HandsOver log p q j k → Reaches log j k
      over h =
          further (record { earlier = h.after; a = Command p a; b = Signal p h.number; a_at = at_j; b_at = h.signals; waits = eq-eqb p p refl })
          (further (record { earlier = h.between; a = Signal p h.number; b = Wait q h.number; a_at = h.signals; b_at = h.waits; waits = eq-eqb h.number h.number refl })
          (direct (record { earlier = h.before; a = Wait q h.number; b = Command q b; a_at = h.waits; b_at = at_k; waits = eq-eqb q q refl })))

      go : (p ≡ q) ⊎ (p ≡ q → ⊥) → Reaches log j k
      go (inl same) = direct (record { earlier = lt; a = Command p a; b = Command q b; a_at = at_j; b_at = at_k; waits = and_from (eqb p q) (node_edge a b) (eq-eqb p q same) e })
      go (inr ne) = over (handed j k p q s.id a b lt at_j at_k ne s.by_a s.by_b)

  -- an edge of a group's list
  reaches_plain : (j k : ℕ) (x y x' y' : Item) → j < k → slice_get log j ≡ Some x → slice_get log k ≡ Some y → IsPlain x x' → IsPlain y y' → item_edge x' y' ≡ true → Reaches log j k
  reaches_plain j k (Command p a) (Command q b) x' y' lt at_j at_k px py e =
      let waits : item_edge (Command 0 a) (Command 0 b) ≡ true = subst (λ y. item_edge (Command 0 a) y ≡ true) py (subst (λ x. item_edge x y' ≡ true) px e) in
      reaches_between j k p q a b lt at_j at_k (and_parts (eqb 0 0) (node_edge a b) waits).1
  reaches_plain j k (Command p a) (HostWrite id at bytes) x' y' lt at_j at_k px py e =
      let waits : item_edge (Command 0 a) (HostWrite id at bytes) ≡ true = subst (λ y. item_edge (Command 0 a) y ≡ true) py (subst (λ x. item_edge x y' ≡ true) px e) in
      direct (record { earlier = lt; a = Command p a; b = HostWrite id at bytes; a_at = at_j; b_at = at_k; waits = waits })
  reaches_plain j k (HostWrite id at bytes) (Command q b) x' y' lt at_j at_k px py e =
      let waits : item_edge (HostWrite id at bytes) (Command 0 b) ≡ true = subst (λ y. item_edge (HostWrite id at bytes) y ≡ true) py (subst (λ x. item_edge x y' ≡ true) px e) in
      direct (record { earlier = lt; a = HostWrite id at bytes; b = Command q b; a_at = at_j; b_at = at_k; waits = waits })
  reaches_plain j k (HostWrite id at bytes) (HostWrite id' at' bytes') x' y' lt at_j at_k px py e =
      direct (record { earlier = lt; a = HostWrite id at bytes; b = HostWrite id' at' bytes'; a_at = at_j; b_at = at_k; waits = subst (λ y. item_edge (HostWrite id at bytes) y ≡ true) py (subst (λ x. item_edge x y' ≡ true) px e) })
  reaches_plain j k (Wait _ _) y x' y' lt at_j at_k px py e = absurd px
  reaches_plain j k (Signal _ _) y x' y' lt at_j at_k px py e = absurd px
  reaches_plain j k (Command _ _) (Wait _ _) x' y' lt at_j at_k px py e = absurd py
  reaches_plain j k (Command _ _) (Signal _ _) x' y' lt at_j at_k px py e = absurd py
  reaches_plain j k (HostWrite _ _ _) (Wait _ _) x' y' lt at_j at_k px py e = absurd py
  reaches_plain j k (HostWrite _ _ _) (Signal _ _) x' y' lt at_j at_k px py e = absurd py

  reaches_joined : {j m k : ℕ} → Reaches log j m → Reaches log m k → Reaches log j k
  reaches_joined (direct e) s = further e s
  reaches_joined (further e r) s = further e (reaches_joined r s)

  module _ (group_of : ℕ → ℕ) (g : ℕ) where
    edge_of_group : (i j : ℕ) → HasEdge (group_list group_of g log) i j → Reaches log (place_of (in_group group_of g) log i) (place_of (in_group group_of g) log j)
    edge_of_group i j e =
        let a : From (in_group group_of g) log (place_of (in_group group_of g) log i) e.a = from_kept (in_group group_of g) log i e.a e.a_at in
        let b : From (in_group group_of g) log (place_of (in_group group_of g) log j) e.b = from_kept (in_group group_of g) log j e.b e.b_at in
        reaches_plain (place_of (in_group group_of g) log i) (place_of (in_group group_of g) log j) a.source b.source e.a e.b (place_order (in_group group_of g) log i j e.earlier) a.at b.at (plain group_of g a.source e.a a.gives) (plain group_of g b.source e.b b.gives) e.waits

    reaches_of_group : {i j : ℕ} → Reaches (group_list group_of g log) i j → Reaches log (place_of (in_group group_of g) log i) (place_of (in_group group_of g) log j)
    reaches_of_group (direct {j = i} {k = j} e) = edge_of_group i j e
    reaches_of_group (further {j = i} {m = m} {k = j} e r) = reaches_joined (edge_of_group i m e) (reaches_of_group r)

-- Layouts

group_layout : (group_of : ℕ → ℕ) (id : ℕ) (x : Item) (o : Option Item) → in_group group_of (group_of id) x ≡ o → (layout : Layout) (rest : List Item) → layout_from layout (cons_option o rest) id ≡ layout_from (layout_step x id layout) rest id
group_layout group_of id (Command q n) (Some y) is layout rest = ap (λ z. layout_from (layout_step z id layout) rest id) (plain group_of (group_of id) (Command q n) y is)
group_layout group_of id (HostWrite of at bytes) (Some y) is layout rest = ap (λ z. layout_from (layout_step z id layout) rest id) (plain group_of (group_of id) (HostWrite of at bytes) y is)
group_layout group_of id (Wait q n) (Some y) is layout rest = absurd (plain group_of (group_of id) (Wait q n) y is)
group_layout group_of id (Signal q n) (Some y) is layout rest = absurd (plain group_of (group_of id) (Signal q n) y is)
group_layout group_of id (Command q n) None is layout rest =
    let leaves : Leaves (Command q n) id = leaves_unless q n id (λ b has same. let both : ◌≡◌ {A = Option Item} None (Some (Command 0 n)) = sym is ∙ in_group_of group_of q n id (subst (λ i. touches_object n i ≡ true) same (barrier_touches_object n b has)) in cc) in
    ap (λ l. layout_from l rest id) (sym (leaves layout))
group_layout group_of id (HostWrite of at bytes) None is layout rest = refl
group_layout group_of id (Wait q n) None is layout rest = refl
group_layout group_of id (Signal q n) None is layout rest = refl

group_layouts : (group_of : ℕ → ℕ) (id : ℕ) (log : List Item) (layout : Layout) → layout_from layout (group_list group_of (group_of id) log) id ≡ layout_from layout log id
group_layouts group_of id [] layout = refl
group_layouts group_of id (x ∷ log) layout = group_layout group_of id x (in_group group_of (group_of id) x) refl layout (group_list group_of (group_of id) log) ∙ group_layouts group_of id log (layout_step x id layout)

-- The theorem

pub sound_from_groups : (log : List Item) (group_of : ℕ → ℕ) → IsHandedOver log → ((g : ℕ) → IsSound (group_list group_of g log)) → IsSound log
sound_from_groups log group_of handed sound = record {
  ordered = λ j k p q a b lt at_j at_k e. ordered j k p q a b lt at_j at_k e (shares a b e);
  laid_out = λ k q n at. record {
    touched = λ i d lt. touched k q n at i d lt;
    old = old k q n at (barrier_of n) refl;
  };
}
  where
    ordered : (j k p q : ℕ) (a b : Node) → j < k → slice_get log j ≡ Some (Command p a) → slice_get log k ≡ Some (Command q b) → Conflicts a b → Shares a b → Reaches log j k
    ordered j k p q a b lt at_j at_k e s =
        let i' : Kept (in_group group_of (group_of s.id)) log j (Command 0 a) = kept_at (in_group group_of (group_of s.id)) log j (Command p a) (Command 0 a) at_j (in_group_of group_of p a s.id s.by_a) in
        let k' : Kept (in_group group_of (group_of s.id)) log k (Command 0 b) = kept_at (in_group group_of (group_of s.id)) log k (Command q b) (Command 0 b) at_k (in_group_of group_of q b s.id s.by_b) in
        let below : index_of (in_group group_of (group_of s.id)) log j < index_of (in_group group_of (group_of s.id)) log k = order_by_place (in_group group_of (group_of s.id)) log (index_of (in_group group_of (group_of s.id)) log j) (index_of (in_group group_of (group_of s.id)) log k) (subst (λ m. m < place_of (in_group group_of (group_of s.id)) log (index_of (in_group group_of (group_of s.id)) log k)) (sym i'.place) (subst (λ m. j < m) (sym k'.place) lt)) in
        let r : Reaches log (place_of (in_group group_of (group_of s.id)) log (index_of (in_group group_of (group_of s.id)) log j)) (place_of (in_group group_of (group_of s.id)) log (index_of (in_group group_of (group_of s.id)) log k)) = reaches_of_group log handed group_of (group_of s.id) ((sound (group_of s.id)).ordered (index_of (in_group group_of (group_of s.id)) log j) (index_of (in_group group_of (group_of s.id)) log k) 0 0 a b below i'.at k'.at e) in
        subst (λ m. Reaches log m k) i'.place (subst (λ m. Reaches log (place_of (in_group group_of (group_of s.id)) log (index_of (in_group group_of (group_of s.id)) log j)) m) k'.place r)

    -- what the group's list before the node leaves
    same_layout : (k q : ℕ) (n : Node) (id : ℕ) → slice_get log k ≡ Some (Command q n) → touches_object n id ≡ true → layout_after (take (index_of (in_group group_of (group_of id)) log k) (group_list group_of (group_of id) log)) id ≡ layout_after (take k log) id
    same_layout k q n id at t = ap (λ l. layout_after l id) (kept_at (in_group group_of (group_of id)) log k (Command q n) (Command 0 n) at (in_group_of group_of q n id t)).before ∙ group_layouts group_of id (take k log) Undefined

    finds : (k q : ℕ) (n : Node) (id : ℕ) → slice_get log k ≡ Some (Command q n) → touches_object n id ≡ true → FindsLayouts (take (index_of (in_group group_of (group_of id)) log k) (group_list group_of (group_of id) log)) n
    finds k q n id at t = (sound (group_of id)).laid_out (index_of (in_group group_of (group_of id)) log k) 0 n (kept_at (in_group group_of (group_of id)) log k (Command q n) (Command 0 n) at (in_group_of group_of q n id t)).at

    touched : (k q : ℕ) (n : Node) → slice_get log k ≡ Some (Command q n) → (i : ℕ) (d : Touch) → i < length (touches n) → IfSome (get_or (touches n) i d).layout (λ layout. layout ≡ layout_after (take k log) (get_or (touches n) i d).id.0)
    touched k q n at i d lt =
        let t : touches_object n (get_or (touches n) i d).id.0 ≡ true = list_any_at (λ t. eqb t.id.0 (get_or (touches n) i d).id.0) (touches n) i d lt (eq-eqb (get_or (touches n) i d).id.0 (get_or (touches n) i d).id.0 refl) in
        IfSome_then (get_or (touches n) i d).layout ((finds k q n (get_or (touches n) i d).id.0 at t).touched i d lt) (λ layout e. e ∙ same_layout k q n (get_or (touches n) i d).id.0 at t)

    old : (k q : ℕ) (n : Node) → slice_get log k ≡ Some (Command q n) → (o : Option Barrier) → barrier_of n ≡ o → IfSome o (λ b. IfSome b.layouts (λ both. both.0 ≡ layout_after (take k log) b.id.0))
    old k q n at None is = tt
    old k q n at (Some b) is =
        let t : touches_object n b.id.0 ≡ true = barrier_touches_object n b is in
        IfSome_then b.layouts (subst (λ o. IfSome o (λ b'. IfSome b'.layouts (λ both. both.0 ≡ layout_after (take (index_of (in_group group_of (group_of b.id.0)) log k) (group_list group_of (group_of b.id.0) log)) b'.id.0))) is (finds k q n b.id.0 at t).old) (λ both e. e ∙ same_layout k q n b.id.0 at t)
