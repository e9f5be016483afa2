-- Parts of sound logs, and sound logs with a write by the host.
use Rattle.std.proofs.Common.{◌≡◌, ℕ, ◌+◌, ◌<◌, zero, suc, List, get_or, [], ◌∷◌, ◌++◌, length, take, refl, sym, ◌∙◌, ap, subst, arith, inl, inr}
use Rattle.std.specs.Prelude.{◌⊎◌, Some, None, slice_get, All}
use Rattle.std.proofs.lemmas.List.{take-append-le}
use Rattle.std.proofs.lemmas.Bool.{cases_order}
use Rattle.std.proofs.lemmas.Option.{IfSome_then, slice_get_within, same_Some, slice_get-map, get_or_from_slice_get}
use Rattle.vk_types.specs.declared.accesses.Layout.{Layout}
use Rattle.vk_types.specs.declared.accesses.Layout.TheVariants.{Undefined}
use Rattle.vk_types.specs.declared.ops.Node.{Node}
use Rattle.vk_types.specs.Touches.{touches, barrier_of}
use Rattle.vk_model.specs.Log.{Item, Command, HostWrite, HasEdge, Reaches, direct, further, layout_step, layout_from, layout_after, FindsLayouts, IsSound, Conflicts, commands}
use Rattle.front_model.specs.Stands.{IsRecordable, AreRecordable}
use Rattle.front_model.proofs.Base.{map_is}

-- Places in a list of two parts

pub get_left : {X : Type 0} (xs ys : List X) (k : ℕ) (x : X) → slice_get xs k ≡ Some x → slice_get (xs ++ ys) k ≡ Some x
get_left [] ys k x at = cc
get_left (z ∷ xs) ys zero x at = at
get_left (z ∷ xs) ys (suc k) x at = get_left xs ys k x at

pub get_right : {X : Type 0} (xs ys : List X) (k : ℕ) (x : X) → slice_get ys k ≡ Some x → slice_get (xs ++ ys) (length xs + k) ≡ Some x
get_right [] ys k x at = let e : 0 + k ≡ k = omega arith in rw e at
get_right (z ∷ xs) ys k x at = let e : suc (length xs) + k ≡ suc (length xs + k) = omega arith in rw e (get_right xs ys k x at)

-- where the place lies
pub get_either : {X : Type 0} (xs ys : List X) (k : ℕ) (x : X) → slice_get (xs ++ ys) k ≡ Some x → (slice_get xs k ≡ Some x) ⊎ ((j : ℕ) × (k ≡ length xs + j) × (slice_get ys j ≡ Some x))
get_either [] ys k x at = inr (k, omega arith, at)
get_either (z ∷ xs) ys zero x at = inl at
get_either (z ∷ xs) ys (suc k) x at = elim (get_either xs ys k x at) [
  | inl e ↦ inl e
  | inr e ↦ inr (e.0, (let at : k ≡ length xs + e.0 = e.1 in omega arith), e.2)
]

-- what a node finds depends on the layouts alone
finds_same : (xs ys : List Item) (n : Node) → ((id : ℕ) → layout_after xs id ≡ layout_after ys id) → FindsLayouts xs n → FindsLayouts ys n
finds_same xs ys n same finds = record {
  touched = λ k d lt. IfSome_then (get_or (touches n) k d).layout (finds.touched k d lt) (λ layout e. e ∙ same (get_or (touches n) k d).id.0);
  old = IfSome_then (barrier_of n) finds.old (λ b h. IfSome_then b.layouts h (λ both e. e ∙ same b.id.0));
}

-- A part at the beginning

module _ (log more : List Item) where
  edge_front : (j k : ℕ) → k < length log → HasEdge (log ++ more) j k → HasEdge log j k
  edge_front j k lt e = record {
    earlier = e.earlier;
    a = e.a;
    b = e.b;
    a_at = within j e.a (let before : j < k = e.earlier in omega arith) e.a_at;
    b_at = within k e.b lt e.b_at;
    waits = e.waits;
  }
    where
      within : (i : ℕ) (x : Item) → i < length log → slice_get (log ++ more) i ≡ Some x → slice_get log i ≡ Some x
      within i x lt at = elim (get_either log more i x at) [ inl here ↦ here | inr there ↦ absurd (let past : i ≡ length log + there.0 = there.1 in omega arith) ]

  reaches_rises : {j k : ℕ} → Reaches (log ++ more) j k → j < k
  reaches_rises (direct e) = e.earlier
  reaches_rises (further {j = j} {m = m} {k = k} e r) = let first : j < m = e.earlier in let rest : m < k = reaches_rises r in omega arith

  reaches_front : {j k : ℕ} → k < length log → Reaches (log ++ more) j k → Reaches log j k
  reaches_front lt (direct {j = j} {k = k} e) = direct (edge_front j k lt e)
  reaches_front lt (further {j = j} {m = m} {k = k} e r) = let rest : m < k = reaches_rises r in further (edge_front j m (omega arith) e) (reaches_front lt r)

  pub sound_front : IsSound (log ++ more) → IsSound log
  sound_front sound = record {
    ordered = λ j k p q a b lt at_j at_k clash.
        reaches_front (slice_get_within log k (Command q b) at_k) (sound.ordered j k p q a b lt (get_left log more j (Command p a) at_j) (get_left log more k (Command q b) at_k) clash);
    laid_out = λ k q n at.
        let lt : k < length log = slice_get_within log k (Command q n) at in
        subst (λ l. FindsLayouts l n) (take-append-le k log more (omega arith)) (sound.laid_out k q n (get_left log more k (Command q n) at));
  }

-- A write by the host

-- where a place goes when an item is put behind the front
shifted : List Item → ℕ → ℕ
shifted [] k = suc k
shifted (f ∷ front) zero = zero
shifted (f ∷ front) (suc k) = suc (shifted front k)

module _ (id at : ℕ) (bytes : List ℕ) where
  get_shifted : (front back : List Item) (k : ℕ) → slice_get (front ++ HostWrite id at bytes ∷ back) (shifted front k) ≡ slice_get (front ++ back) k
  unfolding shifted
  get_shifted [] back k = refl
  get_shifted (f ∷ front) back zero = refl
  get_shifted (f ∷ front) back (suc k) = get_shifted front back k

  shifted_order : (front : List Item) (j k : ℕ) → j < k → shifted front j < shifted front k
  unfolding shifted
  shifted_order [] j k lt = omega arith
  shifted_order (f ∷ front) zero zero lt = absurd (omega arith)
  shifted_order (f ∷ front) zero (suc k) lt = omega arith
  shifted_order (f ∷ front) (suc j) zero lt = absurd (omega arith)
  shifted_order (f ∷ front) (suc j) (suc k) lt = let rest : shifted front j < shifted front k = shifted_order front j k (omega arith) in omega arith

  reaches_shifted : (front back : List Item) {j k : ℕ} → Reaches (front ++ back) j k → Reaches (front ++ HostWrite id at bytes ∷ back) (shifted front j) (shifted front k)
  reaches_shifted front back (direct {j = j} {k = k} e) = direct (record {
    earlier = shifted_order front j k e.earlier;
    a = e.a;
    b = e.b;
    a_at = get_shifted front back j ∙ e.a_at;
    b_at = get_shifted front back k ∙ e.b_at;
    waits = e.waits;
  })
  reaches_shifted front back (further {j = j} {m = m} {k = k} e r) = further (record {
    earlier = shifted_order front j m e.earlier;
    a = e.a;
    b = e.b;
    a_at = get_shifted front back j ∙ e.a_at;
    b_at = get_shifted front back m ∙ e.b_at;
    waits = e.waits;
  }) (reaches_shifted front back r)

  -- a command stands at a place that another one went to
  record From (front back : List Item) (k q : ℕ) (n : Node) : Type 0 where
    old : ℕ
    is : k ≡ shifted front old
    at_old : slice_get (front ++ back) old ≡ Some (Command q n)

  from : (front back : List Item) (k q : ℕ) (n : Node) → slice_get (front ++ HostWrite id at bytes ∷ back) k ≡ Some (Command q n) → From front back k q n
  unfolding shifted
  from [] back zero q n e = let both : HostWrite id at bytes ≡ Command q n = same_Some (HostWrite id at bytes) (Command q n) e in cc
  from [] back (suc k) q n e = record { old = k; is = refl; at_old = e }
  from (f ∷ front) back zero q n e = record { old = zero; is = refl; at_old = e }
  from (f ∷ front) back (suc k) q n e = let r = from front back k q n e in record { old = suc r.old; is = ap suc r.is; at_old = r.at_old }

  layout_shifted : (front back : List Item) (k object : ℕ) (layout : Layout) → layout_from layout (take (shifted front k) (front ++ HostWrite id at bytes ∷ back)) object ≡ layout_from layout (take k (front ++ back)) object
  unfolding shifted
  layout_shifted [] back k object layout = refl
  layout_shifted (f ∷ front) back zero object layout = refl
  layout_shifted (f ∷ front) back (suc k) object layout = layout_shifted front back k object (layout_step f object layout)

  pub sound_with_write : (front back : List Item) → IsSound (front ++ back) → IsSound (front ++ HostWrite id at bytes ∷ back)
  sound_with_write front back sound = record {
    ordered = λ j k p q a b lt at_j at_k clash. ordered j k p q a b lt (from front back j p a at_j) (from front back k q b at_k) clash;
    laid_out = λ k q n at_k. laid_out k q n (from front back k q n at_k);
  }
    where
      below : (j k i l : ℕ) → j < k → j ≡ shifted front i → k ≡ shifted front l → (i ≡ l) ⊎ ((i < l) ⊎ (l < i)) → i < l
      below j k i l lt is_j is_k (inl e) = absurd (let same : shifted front i ≡ shifted front l = ap (shifted front) e in omega arith)
      below j k i l lt is_j is_k (inr (inl less)) = less
      below j k i l lt is_j is_k (inr (inr more)) = absurd (let back : shifted front l < shifted front i = shifted_order front l i more in omega arith)

      ordered : (j k p q : ℕ) (a b : Node) → j < k → From front back j p a → From front back k q b → Conflicts a b → Reaches (front ++ HostWrite id at bytes ∷ back) j k
      ordered j k p q a b lt x y clash =
          let less : x.old < y.old = below j k x.old y.old lt x.is y.is (cases_order x.old y.old) in
          subst (λ m. Reaches (front ++ HostWrite id at bytes ∷ back) m k) (sym x.is)
          (subst (λ m. Reaches (front ++ HostWrite id at bytes ∷ back) (shifted front x.old) m) (sym y.is)
          (reaches_shifted front back (sound.ordered x.old y.old p q a b less x.at_old y.at_old clash)))

      laid_out : (k q : ℕ) (n : Node) → From front back k q n → FindsLayouts (take k (front ++ HostWrite id at bytes ∷ back)) n
      laid_out k q n x =
          subst (λ m. FindsLayouts (take m (front ++ HostWrite id at bytes ∷ back)) n) (sym x.is)
          (finds_same (take x.old (front ++ back)) (take (shifted front x.old) (front ++ HostWrite id at bytes ∷ back)) n
          (λ object. sym (layout_shifted front back x.old object Undefined)) (sound.laid_out x.old q n x.at_old))

-- What a front may record

module _ (xs ys : List Item) where
  pub recordable_left : AreRecordable (xs ++ ys) → AreRecordable xs
  recordable_left all k q n at = all k q n (get_left xs ys k (Command q n) at)

  pub recordable_right : AreRecordable (xs ++ ys) → AreRecordable ys
  recordable_right all k q n at = all (length xs + k) q n (get_right xs ys k (Command q n) at)

  pub recordable-append : AreRecordable xs → AreRecordable ys → AreRecordable (xs ++ ys)
  recordable-append left right k q n at = elim (get_either xs ys k (Command q n) at) [ inl e ↦ left k q n e | inr e ↦ right e.0 q n e.2 ]

pub recordable_write : (id at : ℕ) (bytes : List ℕ) → AreRecordable (HostWrite id at bytes ∷ [])
recordable_write id at bytes zero q n e = let both : HostWrite id at bytes ≡ Command q n = same_Some (HostWrite id at bytes) (Command q n) e in cc
recordable_write id at bytes (suc k) q n e = let none : None ≡ Some (Command q n) = e in cc

pub recordable_nodes : (nodes : List Node) → All IsRecordable nodes → AreRecordable (commands 0 nodes)
recordable_nodes nodes all k q n at =
    let found = map_is (Command 0) (slice_get nodes k) (Command q n) (sym (slice_get-map (Command 0) nodes k) ∙ at) in
    let same : found.0 ≡ n = let e : Command 0 found.0 ≡ Command q n = found.2 in cc in
    let here = all k found.0 (slice_get_within nodes k found.0 found.1) in
    subst IsRecordable (get_or_from_slice_get nodes k found.0 found.0 found.1 ∙ same) here
