-- Which nodes conflict with a barrier, and that conflict goes both ways.
use Rattle.std.proofs.Common.{◌≡◌, ℕ, ◌<◌, ◌≤◌, List, [], ◌∷◌, Bool, true, false, eqb, refl, sym, ◌∙◌, ap, subst, arith, inl, inr}
use Rattle.std.specs.Prelude.{◌&&◌, ◌||◌, ◌⊎◌, nat_lt, nat_le, min, max, map, Option, Some, None, is_some, All}
use Rattle.std.specs.List.{list_any}
use Rattle.std.proofs.lemmas.Bool.{false≢true, cases_Bool, eqb-true, eq-eqb, ltb-true, leb-true, le-leb, lt-ltb, and_parts, and_from, or_left, or_right, or_cases}
use Rattle.std.proofs.lemmas.List.Elements.{All-head, All-tail, All-nil, All-cons}
use Rattle.vk_types.specs.declared.accesses.Access.{Access}
use Rattle.vk_types.specs.declared.regions.Touch.{Touch}
use Rattle.vk_types.specs.declared.regions.Barrier.{Barrier}
use Rattle.vk_types.specs.declared.ops.Op.{Op}
use Rattle.vk_types.specs.declared.ops.Op.TheVariants.{CopyBuffer, BufferToImage, ImageToBuffer, CopyImage, BlitImage, ClearImage, FillBuffer, PassPart}
use Rattle.vk_types.specs.declared.ops.Node.{Node}
use Rattle.vk_types.specs.Accesses.{in_common, no_access}
use Rattle.vk_types.specs.Touches.{touches, op_touches, barrier_of, op_barrier, whole, the_end}
use Rattle.vk_model.specs.Log.{Range, node_range, node_ranges, clash, some_clash, conflict, touches_with, touches_object, conflict_on, waits_for, holds_back, chained, node_edge, NoneEmpty, Conflicts}
use Rattle.vk_model.proofs.Local.{any_two, same_object}

pub any_weaker : {X : Type 0} (p q : X → Bool) → ((x : X) → p x ≡ true → q x ≡ true) → (xs : List X) → list_any p xs ≡ true → list_any q xs ≡ true
any_weaker p q weaker [] e = e
any_weaker {X} p q weaker (x ∷ xs) e = go (or_cases (p x) (list_any p xs) e) (any_weaker p q weaker xs)
  where
    go : (p x ≡ true) ⊎ (list_any p xs ≡ true) → (list_any p xs ≡ true → list_any q xs ≡ true) → list_any q (x ∷ xs) ≡ true
    go (inl f) rest = or_left (q x) (list_any q xs) (weaker x f)
    go (inr f) rest = or_right (q x) (list_any q xs) (rest f)

-- two elements that pass a test, taken the other way round
pub any_turned : {X : Type 0} (t u : X → X → Bool) → ((x y : X) → t x y ≡ true → u y x ≡ true) → (xs ys : List X) → list_any (λ x. list_any (t x) ys) xs ≡ true → list_any (λ y. list_any (u y) xs) ys ≡ true
any_turned t u turned [] ys e = absurd (false≢true e)
any_turned {X} t u turned (x ∷ xs) ys e = go (or_cases (list_any (t x) ys) (list_any (λ x. list_any (t x) ys) xs) e) (any_turned t u turned xs ys)
  where
    go : (list_any (t x) ys ≡ true) ⊎ (list_any (λ x. list_any (t x) ys) xs ≡ true) → (list_any (λ x. list_any (t x) ys) xs ≡ true → list_any (λ y. list_any (u y) xs) ys ≡ true) → list_any (λ y. list_any (u y) (x ∷ xs)) ys ≡ true
    go (inl f) rest = any_weaker (t x) (λ y. list_any (u y) (x ∷ xs)) (λ y g. or_left (u y x) (list_any (u y) xs) (turned x y g)) ys f
    go (inr f) rest = any_weaker (λ y. list_any (u y) xs) (λ y. list_any (u y) (x ∷ xs)) (λ y g. or_right (u y x) (list_any (u y) xs) g) ys (rest f)

clash_turned : (r s : Range) → clash r s ≡ true → clash s r ≡ true
clash_turned r s e =
    let parts = and_parts (eqb r.id s.id && nat_lt (max r.start s.start) (min r.end s.end)) (r.written || s.written) e in
    let front = and_parts (eqb r.id s.id) (nat_lt (max r.start s.start) (min r.end s.end)) parts.0 in
    let room : max r.start s.start < min r.end s.end = ltb-true (max r.start s.start) (min r.end s.end) front.1 in
    and_from (eqb s.id r.id && nat_lt (max s.start r.start) (min s.end r.end)) (s.written || r.written)
    (and_from (eqb s.id r.id) (nat_lt (max s.start r.start) (min s.end r.end)) (eq-eqb s.id r.id (sym (eqb-true r.id s.id front.0))) (lt-ltb (max s.start r.start) (min s.end r.end) (omega arith)))
    (elim (or_cases r.written s.written parts.1) [ inl f ↦ or_right s.written r.written f | inr f ↦ or_left s.written r.written f ])

pub some_clash_turned : (rs ss : List Range) → some_clash rs ss ≡ true → some_clash ss rs ≡ true
some_clash_turned rs ss e = any_turned clash clash clash_turned rs ss e

pub conflict_mutual : (a b : Node) → conflict a b ≡ conflict b a
conflict_mutual a b = go (cases_Bool (conflict a b)) (cases_Bool (conflict b a))
  where
    go : (Conflicts a b) ⊎ (conflict a b ≡ false) → (Conflicts b a) ⊎ (conflict b a ≡ false) → conflict a b ≡ conflict b a
    go (inl e) f = e ∙ sym (some_clash_turned (node_ranges a) (node_ranges b) e)
    go (inr e) (inl f) = absurd (false≢true (sym e ∙ some_clash_turned (node_ranges b) (node_ranges a) f))
    go (inr e) (inr f) = e ∙ sym f

-- a range clashes with a node only at an object that the node touches
pub clashing_touch : (n : Node) (r : Range) (ts : List Touch) → list_any (clash r) (map (node_range n) ts) ≡ true → list_any (λ t. eqb t.id.0 r.id) ts ≡ true
clashing_touch n r [] e = e
clashing_touch n r (t ∷ ts) e = go (or_cases (clash r (node_range n t)) (list_any (clash r) (map (node_range n) ts)) e) (clashing_touch n r ts)
  where
    go : (clash r (node_range n t) ≡ true) ⊎ (list_any (clash r) (map (node_range n) ts) ≡ true) → (list_any (clash r) (map (node_range n) ts) ≡ true → list_any (λ t. eqb t.id.0 r.id) ts ≡ true) → list_any (λ t. eqb t.id.0 r.id) (t ∷ ts) ≡ true
    go (inl f) rest = or_left (eqb t.id.0 r.id) (list_any (λ t. eqb t.id.0 r.id) ts) (eq-eqb t.id.0 r.id (sym (same_object r (node_range n t) f)))
    go (inr f) rest = or_right (eqb t.id.0 r.id) (list_any (λ t. eqb t.id.0 r.id) ts) (rest f)

-- two nodes that conflict touch one object
pub record Shares (a b : Node) : Type 0 where
  pub id : ℕ
  pub by_a : touches_object a id ≡ true
  pub by_b : touches_object b id ≡ true

shares_from : (a b : Node) (ts : List Touch) → some_clash (map (node_range a) ts) (node_ranges b) ≡ true → (id : ℕ) × (list_any (λ t. eqb t.id.0 id) ts ≡ true) × (touches_object b id ≡ true)
shares_from a b [] e = absurd (false≢true e)
shares_from a b (t ∷ ts) e = go (or_cases (list_any (clash (node_range a t)) (node_ranges b)) (some_clash (map (node_range a) ts) (node_ranges b)) e) (shares_from a b ts)
  where
    go : (list_any (clash (node_range a t)) (node_ranges b) ≡ true) ⊎ (some_clash (map (node_range a) ts) (node_ranges b) ≡ true) → (some_clash (map (node_range a) ts) (node_ranges b) ≡ true → (id : ℕ) × (list_any (λ t. eqb t.id.0 id) ts ≡ true) × (touches_object b id ≡ true)) → (id : ℕ) × (list_any (λ t. eqb t.id.0 id) (t ∷ ts) ≡ true) × (touches_object b id ≡ true)
    go (inl f) rest = (t.id.0, or_left (eqb t.id.0 t.id.0) (list_any (λ u. eqb u.id.0 t.id.0) ts) (eq-eqb t.id.0 t.id.0 refl), clashing_touch b (node_range a t) (touches b) f)
    go (inr f) rest = let r = rest f in (r.0, or_right (eqb t.id.0 r.0) (list_any (λ u. eqb u.id.0 r.0) ts) r.1, r.2)

pub shares : (a b : Node) → Conflicts a b → Shares a b
shares a b e = let r = shares_from a b (touches a) e in record { id = r.0; by_a = r.1; by_b = r.2 }

-- two nodes that conflict do so on an object that both touch
pub record ConflictsOn (a b : Node) : Type 0 where
  pub id : ℕ
  pub by_a : touches_object a id ≡ true
  pub by_b : touches_object b id ≡ true
  pub on : conflict_on id a b ≡ true

conflicts_on_from : (a b : Node) (ts : List Touch) → some_clash (map (node_range a) ts) (node_ranges b) ≡ true →
    (id : ℕ) × (list_any (λ t. eqb t.id.0 id) ts ≡ true) × (touches_object b id ≡ true) × (list_any (λ r. eqb r.id id && list_any (clash r) (node_ranges b)) (map (node_range a) ts) ≡ true)
conflicts_on_from a b [] e = absurd (false≢true e)
conflicts_on_from a b (t ∷ ts) e = go (or_cases (list_any (clash (node_range a t)) (node_ranges b)) (some_clash (map (node_range a) ts) (node_ranges b)) e) (conflicts_on_from a b ts)
  where
    others : ℕ → Bool
    others id = list_any (λ r. eqb r.id id && list_any (clash r) (node_ranges b)) (map (node_range a) ts)

    go : (list_any (clash (node_range a t)) (node_ranges b) ≡ true) ⊎ (some_clash (map (node_range a) ts) (node_ranges b) ≡ true) →
        (some_clash (map (node_range a) ts) (node_ranges b) ≡ true → (id : ℕ) × (list_any (λ t. eqb t.id.0 id) ts ≡ true) × (touches_object b id ≡ true) × (list_any (λ r. eqb r.id id && list_any (clash r) (node_ranges b)) (map (node_range a) ts) ≡ true)) →
        (id : ℕ) × (list_any (λ t. eqb t.id.0 id) (t ∷ ts) ≡ true) × (touches_object b id ≡ true) × (list_any (λ r. eqb r.id id && list_any (clash r) (node_ranges b)) (map (node_range a) (t ∷ ts)) ≡ true)
    go (inl f) rest = (
      t.id.0,
      or_left (eqb t.id.0 t.id.0) (list_any (λ u. eqb u.id.0 t.id.0) ts) (eq-eqb t.id.0 t.id.0 refl),
      clashing_touch b (node_range a t) (touches b) f,
      or_left (eqb t.id.0 t.id.0 && list_any (clash (node_range a t)) (node_ranges b)) (others t.id.0) (and_from (eqb t.id.0 t.id.0) (list_any (clash (node_range a t)) (node_ranges b)) (eq-eqb t.id.0 t.id.0 refl) f),
    )
    go (inr f) rest =
        let r = rest f in (
          r.0,
          or_right (eqb t.id.0 r.0) (list_any (λ u. eqb u.id.0 r.0) ts) r.1,
          r.2,
          or_right (eqb t.id.0 r.0 && list_any (clash (node_range a t)) (node_ranges b)) (others r.0) r.3,
        )

pub conflicts_on : (a b : Node) → Conflicts a b → ConflictsOn a b
conflicts_on a b e = let r = conflicts_on_from a b (touches a) e in record { id = r.0; by_a = r.1; by_b = r.2; on = r.3 }

-- Barriers

pub none_is_some : {X : Type 0} {x : X} {P : Type 0} → ◌≡◌ {A = Option X} None (Some x) → P
none_is_some e = cc

op_barrier_touches : (o : Op) (b : Barrier) → op_barrier o ≡ Some b → op_touches o ≡ whole b.id no_access None ∷ []
op_barrier_touches (CopyBuffer _ _ _ _ _) b e = none_is_some e
op_barrier_touches (BufferToImage _ _ _ _ _ _) b e = none_is_some e
op_barrier_touches (ImageToBuffer _ _ _ _ _ _ _) b e = none_is_some e
op_barrier_touches (CopyImage _ _ _ _ _) b e = none_is_some e
op_barrier_touches (BlitImage _ _ _ _) b e = none_is_some e
op_barrier_touches (ClearImage _ _ _) b e = none_is_some e
op_barrier_touches (FillBuffer _ _ _ _) b e = none_is_some e
op_barrier_touches (PassPart _ _ _ _ _ _) b e = none_is_some e
op_barrier_touches (Op.Barrier x) b e = let same : x ≡ b = cc in ap (λ y. whole y.id no_access None ∷ []) same

-- a barrier touches its whole object and nothing else
pub barrier_touches : (n : Node) (b : Barrier) → barrier_of n ≡ Some b → touches n ≡ whole b.id no_access None ∷ []
barrier_touches n b e = op_barrier_touches n.op b e

pub barrier_touches_object : (n : Node) (b : Barrier) → barrier_of n ≡ Some b → touches_object n b.id.0 ≡ true
barrier_touches_object n b e = ap (list_any (λ t. eqb t.id.0 b.id.0)) (barrier_touches n b e) ∙ or_left (eqb b.id.0 b.id.0) false (eq-eqb b.id.0 b.id.0 refl)

-- every touched range ends in its object
EndsInside : Touch → Type 0
EndsInside t = t.end ≤ the_end

one_inside : (t : Touch) → t.end ≤ the_end → All (λ t. t.end ≤ the_end) (t ∷ [])
one_inside t a = All-cons (λ t. t.end ≤ the_end) t [] a (All-nil (λ t. t.end ≤ the_end))

two_inside : (t u : Touch) → t.end ≤ the_end → u.end ≤ the_end → All (λ t. t.end ≤ the_end) (t ∷ u ∷ [])
two_inside t u a b = All-cons (λ t. t.end ≤ the_end) t (u ∷ []) a (one_inside u b)

op_ends : (o : Op) → All (λ t. t.end ≤ the_end) (op_touches o)
op_ends (CopyBuffer _ _ _ _ _) = two_inside _ _ (omega arith) (omega arith)
op_ends (BufferToImage _ _ _ _ _ _) = two_inside _ _ (omega arith) (omega arith)
op_ends (ImageToBuffer _ _ _ _ _ _ _) = two_inside _ _ (omega arith) (omega arith)
op_ends (CopyImage _ _ _ _ _) = two_inside _ _ (omega arith) (omega arith)
op_ends (BlitImage _ _ _ _) = two_inside _ _ (omega arith) (omega arith)
op_ends (ClearImage _ _ _) = one_inside _ (omega arith)
op_ends (FillBuffer _ _ _ _) = one_inside _ (omega arith)
op_ends (PassPart _ _ _ _ _ _) = one_inside _ (omega arith)
op_ends (Op.Barrier _) = one_inside _ (omega arith)

-- some range of the object, and the whole object
abbrev is_part : ℕ → Range → Bool
is_part id r = eqb r.id id && (nat_lt r.start r.end && nat_le r.end the_end)

abbrev is_whole : ℕ → Range → Bool
is_whole id r = eqb r.id id && (eqb r.start 0 && (eqb r.end the_end && r.written))

part_and_whole : (id : ℕ) (r s : Range) → is_part id r ≡ true → is_whole id s ≡ true → clash r s ≡ true
part_and_whole id r s e f =
    let p = and_parts (eqb r.id id) (nat_lt r.start r.end && nat_le r.end the_end) e in
    let q = and_parts (nat_lt r.start r.end) (nat_le r.end the_end) p.1 in
    let w = and_parts (eqb s.id id) (eqb s.start 0 && (eqb s.end the_end && s.written)) f in
    let v = and_parts (eqb s.start 0) (eqb s.end the_end && s.written) w.1 in
    let u = and_parts (eqb s.end the_end) s.written v.1 in
    let starts : s.start ≡ 0 = eqb-true s.start 0 v.0 in
    let ends : s.end ≡ the_end = eqb-true s.end the_end u.0 in
    let room : r.start < r.end = ltb-true r.start r.end q.0 in
    let inside : r.end ≤ the_end = leb-true r.end the_end q.1 in
    and_from (eqb r.id s.id && nat_lt (max r.start s.start) (min r.end s.end)) (r.written || s.written)
    (and_from (eqb r.id s.id) (nat_lt (max r.start s.start) (min r.end s.end)) (eq-eqb r.id s.id (eqb-true r.id id p.0 ∙ sym (eqb-true s.id id w.0))) (lt-ltb (max r.start s.start) (min r.end s.end) (omega arith)))
    (or_right r.written s.written u.1)

has_part : (n : Node) (id : ℕ) (ts : List Touch) → All (λ t. t.start < t.end) ts → All (λ t. t.end ≤ the_end) ts → list_any (λ t. eqb t.id.0 id) ts ≡ true → list_any (is_part id) (map (node_range n) ts) ≡ true
has_part n id [] room inside e = e
has_part n id (t ∷ ts) room inside e = go (or_cases (eqb t.id.0 id) (list_any (λ t. eqb t.id.0 id) ts) e) (has_part n id ts (All-tail (λ t. t.start < t.end) t ts room) (All-tail (λ t. t.end ≤ the_end) t ts inside))
  where
    go : (eqb t.id.0 id ≡ true) ⊎ (list_any (λ t. eqb t.id.0 id) ts ≡ true) → (list_any (λ t. eqb t.id.0 id) ts ≡ true → list_any (is_part id) (map (node_range n) ts) ≡ true) → list_any (is_part id) (map (node_range n) (t ∷ ts)) ≡ true
    go (inl f) rest = or_left (is_part id (node_range n t)) (list_any (is_part id) (map (node_range n) ts)) (and_from (eqb t.id.0 id) (nat_lt t.start t.end && nat_le t.end the_end) f (and_from (nat_lt t.start t.end) (nat_le t.end the_end) (lt-ltb t.start t.end (All-head (λ t. t.start < t.end) t ts room)) (le-leb t.end the_end (All-head (λ t. t.end ≤ the_end) t ts inside))))
    go (inr f) rest = or_right (is_part id (node_range n t)) (list_any (is_part id) (map (node_range n) ts)) (rest f)

-- a node has a part of each object that it touches
pub has_part_of : (n : Node) (id : ℕ) → NoneEmpty n → touches_object n id ≡ true → list_any (is_part id) (node_ranges n) ≡ true
has_part_of n id room e = has_part n id (touches n) room (op_ends n.op) e

-- a barrier has its whole object
pub has_whole : (n : Node) (b : Barrier) → barrier_of n ≡ Some b → list_any (is_whole b.id.0) (node_ranges n) ≡ true
has_whole n b e =
    let r : Range = node_range n (whole b.id no_access None) in
    let written : r.written ≡ true = ap is_some e in
    ap (λ ts. list_any (is_whole b.id.0) (map (node_range n) ts)) (barrier_touches n b e)
    ∙ or_left (is_whole b.id.0 r) false (and_from (eqb b.id.0 b.id.0) (eqb r.start 0 && (eqb r.end the_end && r.written)) (eq-eqb b.id.0 b.id.0 refl) written)

-- a node that touches a barrier's object conflicts with it
pub conflict_before_barrier : (a b : Node) (x : Barrier) → NoneEmpty a → barrier_of b ≡ Some x → touches_object a x.id.0 ≡ true → Conflicts a b
conflict_before_barrier a b x room e t = any_two (is_part x.id.0) (is_whole x.id.0) clash (part_and_whole x.id.0) (node_ranges a) (node_ranges b) (has_part_of a x.id.0 room t) (has_whole b x e)

pub conflict_after_barrier : (a b : Node) (x : Barrier) → NoneEmpty b → barrier_of a ≡ Some x → touches_object b x.id.0 ≡ true → Conflicts a b
conflict_after_barrier a b x room e t = some_clash_turned (node_ranges b) (node_ranges a) (conflict_before_barrier b a x room e t)

pub touched_from_with : (n : Node) (id : ℕ) (kinds : Access) → touches_with n id kinds ≡ true → touches_object n id ≡ true
touched_from_with n id kinds e = any_weaker (λ t. eqb t.id.0 id && in_common t.access kinds) (λ t. eqb t.id.0 id) (λ t f. (and_parts (eqb t.id.0 id) (in_common t.access kinds) f).0) (touches n) e

-- nodes with an edge between them conflict
pub edge_conflict : (a b : Node) → NoneEmpty a → NoneEmpty b → node_edge a b ≡ true → Conflicts a b
edge_conflict a b roomy_a roomy_b e = go (or_cases (waits_for a (barrier_of b) || holds_back (barrier_of a) b) (chained (barrier_of a) (barrier_of b)) e)
  where
    waited : (o : Option Barrier) → barrier_of b ≡ o → waits_for a o ≡ true → Conflicts a b
    waited None is f = absurd (false≢true f)
    waited (Some x) is f = conflict_before_barrier a b x roomy_a is (touched_from_with a x.id.0 x.first f)

    held : (o : Option Barrier) → barrier_of a ≡ o → holds_back o b ≡ true → Conflicts a b
    held None is f = absurd (false≢true f)
    held (Some x) is f = conflict_after_barrier a b x roomy_b is (touched_from_with b x.id.0 x.second f)

    joined : (o o' : Option Barrier) → barrier_of a ≡ o → barrier_of b ≡ o' → chained o o' ≡ true → Conflicts a b
    joined None o' is is' f = absurd (false≢true f)
    joined (Some x) None is is' f = absurd (false≢true f)
    joined (Some x) (Some y) is is' f =
        let same : x.id.0 ≡ y.id.0 = eqb-true x.id.0 y.id.0 (and_parts (eqb x.id.0 y.id.0) (in_common x.second y.first) f).0 in
        conflict_before_barrier a b y roomy_a is' (subst (λ id. touches_object a id ≡ true) same (barrier_touches_object a x is))

    go : ((waits_for a (barrier_of b) || holds_back (barrier_of a) b) ≡ true) ⊎ (chained (barrier_of a) (barrier_of b) ≡ true) → Conflicts a b
    go (inl f) = elim (or_cases (waits_for a (barrier_of b)) (holds_back (barrier_of a) b) f) [ inl g ↦ waited (barrier_of b) refl g | inr g ↦ held (barrier_of a) refl g ]
    go (inr f) = joined (barrier_of a) (barrier_of b) refl refl f
