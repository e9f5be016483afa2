-- Uses that may stand in either order.
use Rattle.std.proofs.Common.{◌≡◌, ℕ, List, [], ◌∷◌, ◌++◌, Bool, true, false, refl, sym, ◌∙◌, ap, subst, arith, inl, inr}
use Rattle.std.specs.Prelude.{◌==◌, ◌≢◌, ◌⊎◌, ◌||◌, fold, All, Contains, Option, Some, None, IfSome}
use Rattle.std.specs.List.{AllByRecursion}
use Rattle.std.specs.Int.RustNames.{bit_or}
use Rattle.std.specs.Option.{option_map}
use Rattle.std.proofs.lemmas.Bool.{both_ways, cases_Bool, false_from_ne_true, eqb-true}
use Rattle.std.proofs.lemmas.List.{append-nil, append_assoc}
use Rattle.std.proofs.lemmas.List.Elements.{All-weaker, All-contains, All-contains_itself, Contains-append_left, Contains-append_right, Contains-append_cases}
use Rattle.std.proofs.lemmas.List.Sums.{fold-append}
use Rattle.std.proofs.lemmas.Nat.Bits.{bit_at_or, same_from_bits}
use Rattle.vk_types.specs.Accesses.{no_access, in_common, joined}
use Rattle.vk_types.specs.declared.accesses.Access.{Access}
use Rattle.vk_types.specs.declared.accesses.Layout.{Layout}
use Rattle.vk_types.specs.declared.handles.HandleId.{HandleId}
use Rattle.vk_types.specs.declared.regions.Barrier.{Barrier}
use Rattle.vk_types.specs.declared.regions.Touch.{Touch}
use Rattle.vk_types.specs.declared.ops.Node.{Node}
use Rattle.vk_types.specs.Touches.{barrier_of}
use Rattle.vk_model.specs.Log.{commands, conflict, touches_object, NoneEmpty, NoConflict}
use Rattle.vk_model.proofs.Clashes.{conflict_mutual, conflict_after_barrier, none_is_some}
use Rattle.barriers.specs.declared.tracker.Tracker.{Tracker}
use Rattle.barriers.specs.Licence.{Use, Accessed, Fenced, barrier_after, accesses_after, last_barrier, since, union, layout_after, layout_now, first_layout, barrier_due}
use Rattle.barriers.specs.Trackers.{Tracks, IsTouchOf}
use Rattle.barriers.specs.Logs.{uses_in}
use Rattle.barriers.specs.Recording.{AreFenced, NoFence, MayChangePlaces}
use Rattle.barriers.proofs.Accesses.{same_kinds}
use Rattle.barriers.proofs.Uses.{use_of_none, use_of_access, touches_barrier}

-- Kinds together, in either order

joined_swap : (s a b : Access) → joined (joined s a) b ≡ joined (joined s b) a
joined_swap s a b =
    same_kinds (joined (joined s a) b) (joined (joined s b) a)
    (same_from_bits (bit_or (bit_or s.0 a.0) b.0) (bit_or (bit_or s.0 b.0) a.0)
    (λ i. omega (arith, bit_at_or (bit_or s.0 a.0) b.0 i, bit_at_or s.0 a.0 i, bit_at_or (bit_or s.0 b.0) a.0 i, bit_at_or s.0 b.0 i)))

fold_swap : (xs : List Access) (s a : Access) → fold joined (joined s a) xs ≡ joined (fold joined s xs) a
fold_swap [] s a = refl
fold_swap (x ∷ xs) s a = ap (λ t. fold joined t xs) (joined_swap s a x) ∙ fold_swap xs (joined s x) a

union_places : (xs ys : List Access) (s : Access) → fold joined s (xs ++ ys) ≡ fold joined s (ys ++ xs)
union_places [] ys s = ap (fold joined s) (sym (append-nil ys))
union_places (x ∷ xs) ys s =
    fold-append joined (joined s x) xs ys
    ∙ (sym (fold-append joined (joined s x) xs ys)
    ∙ (union_places xs ys (joined s x)
    ∙ (fold-append joined (joined s x) ys xs
    ∙ (ap (λ t. fold joined t xs) (fold_swap ys s x)
    ∙ sym (fold-append joined s ys (x ∷ xs))))))

-- Uses without a barrier

abbrev accesses : List Use → List Access
accesses [] = []
accesses (Accessed access ∷ uses) = access ∷ accesses uses
accesses (Fenced barrier ∷ uses) = accesses uses

pub last_free : (uses : List Use) (last : Option Barrier) → NoFence uses → fold barrier_after last uses ≡ last
last_free [] last free = refl
last_free (Accessed access ∷ uses) last free = last_free uses last free
last_free (Fenced barrier ∷ uses) last free = absurd free

layout_free : (uses : List Use) (layout : Option Layout) → NoFence uses → fold layout_after layout uses ≡ layout
layout_free [] layout free = refl
layout_free (Accessed access ∷ uses) layout free = layout_free uses layout free
layout_free (Fenced barrier ∷ uses) layout free = absurd free

since_free : (uses : List Use) (so_far : List Access) → NoFence uses → fold accesses_after so_far uses ≡ so_far ++ accesses uses
since_free [] so_far free = sym (append-nil so_far)
since_free (Accessed access ∷ uses) so_far free = since_free uses (so_far ++ access ∷ []) free ∙ append_assoc so_far (access ∷ []) (accesses uses)
since_free (Fenced barrier ∷ uses) so_far free = absurd free

-- a barrier that stands before such uses, or among them, stands before them
record StandsIn (front before : List Use) (barrier : Barrier) : Type 0 where
  rest : List Use
  is : front ≡ before ++ Fenced barrier ∷ rest

no_fence_in : (uses before back : List Use) (barrier : Barrier) → NoFence uses → uses ≡ before ++ Fenced barrier ∷ back → ⊥
no_fence_in [] [] back barrier free e = cc
no_fence_in [] (b ∷ before) back barrier free e = cc
no_fence_in (Fenced b ∷ uses) before back barrier free e = free
no_fence_in (Accessed a ∷ uses) [] back barrier free e = cc
no_fence_in (Accessed a ∷ uses) (b ∷ before) back barrier free e = no_fence_in uses before back barrier free (let same : uses ≡ before ++ Fenced barrier ∷ back = cc in same)

fence_in_front : (front uses before back : List Use) (barrier : Barrier) → NoFence uses → front ++ uses ≡ before ++ Fenced barrier ∷ back → StandsIn front before barrier
fence_in_front [] uses before back barrier free e = absurd (no_fence_in uses before back barrier free e)
fence_in_front (f ∷ front) uses [] back barrier free e = record { rest = front; is = let same : f ≡ Fenced barrier = cc in ap (λ u. u ∷ front) same }
fence_in_front (f ∷ front) uses (b ∷ before) back barrier free e =
    let head : f ≡ b = cc in
    let tail : front ++ uses ≡ before ++ Fenced barrier ∷ back = cc in
    let r : StandsIn front before barrier = fence_in_front front uses before back barrier free tail in
    record { rest = r.rest; is = ap (λ u. u ∷ front) head ∙ ap (λ us. b ∷ us) r.is }

free_both : (xs ys : List Use) → NoFence xs → NoFence ys → NoFence (xs ++ ys)
free_both [] ys a b = b
free_both (Accessed access ∷ xs) ys a b = free_both xs ys a b
free_both (Fenced barrier ∷ xs) ys a b = absurd a

-- Two parts without barriers change places

module _ (front xs ys : List Use) (a : NoFence xs) (b : NoFence ys) where
  last_same : last_barrier (front ++ xs ++ ys) ≡ last_barrier front
  last_same = fold-append barrier_after None (front ++ xs) ys ∙ (last_free ys (last_barrier (front ++ xs)) b ∙ (fold-append barrier_after None front xs ∙ last_free xs (last_barrier front) a))

  layout_same : (is_image : Bool) → layout_now (first_layout is_image) (front ++ xs ++ ys) ≡ layout_now (first_layout is_image) front
  layout_same is_image =
      fold-append layout_after (first_layout is_image) (front ++ xs) ys
      ∙ (layout_free ys (layout_now (first_layout is_image) (front ++ xs)) b
      ∙ (fold-append layout_after (first_layout is_image) front xs ∙ layout_free xs (layout_now (first_layout is_image) front) a))

  since_is : since (front ++ xs ++ ys) ≡ since front ++ (accesses xs ++ accesses ys)
  since_is =
      fold-append accesses_after [] (front ++ xs) ys
      ∙ (since_free ys (since (front ++ xs)) b
      ∙ (ap (λ s. s ++ accesses ys) (fold-append accesses_after [] front xs ∙ since_free xs (since front) a)
      ∙ append_assoc (since front) (accesses xs) (accesses ys)))

module _ (front xs ys : List Use) (a : NoFence xs) (b : NoFence ys) where
  last_placed : last_barrier (front ++ ys ++ xs) ≡ last_barrier (front ++ xs ++ ys)
  last_placed = last_same front ys xs b a ∙ sym (last_same front xs ys a b)

  union_placed : union (since (front ++ ys ++ xs)) ≡ union (since (front ++ xs ++ ys))
  union_placed =
      ap union (since_is front ys xs b a)
      ∙ (fold-append joined no_access (since front) (accesses ys ++ accesses xs)
      ∙ (union_places (accesses ys) (accesses xs) (union (since front))
      ∙ (sym (fold-append joined no_access (since front) (accesses xs ++ accesses ys))
      ∙ ap union (sym (since_is front xs ys a b)))))

  has_placed : (access : Access) → Contains (since (front ++ ys ++ xs)) access → Contains (since (front ++ xs ++ ys)) access
  has_placed access has =
      subst (λ s. Contains s access) (sym (since_is front xs ys a b))
      (go (Contains-append_cases (since front) (accesses ys ++ accesses xs) access (subst (λ s. Contains s access) (since_is front ys xs b a) has)))
    where
      later : Contains (accesses ys) access ⊎ Contains (accesses xs) access → Contains (accesses xs ++ accesses ys) access
      later (inl h) = Contains-append_right (accesses xs) (accesses ys) access h
      later (inr h) = Contains-append_left (accesses xs) (accesses ys) access h

      go : Contains (since front) access ⊎ Contains (accesses ys ++ accesses xs) access → Contains (since front ++ (accesses xs ++ accesses ys)) access
      go (inl h) = Contains-append_left (since front) (accesses xs ++ accesses ys) access h
      go (inr h) = Contains-append_right (since front) (accesses xs ++ accesses ys) access (later (Contains-append_cases (accesses ys) (accesses xs) access h))

  all_placed : (P : Access → Type 0) → All P (since (front ++ xs ++ ys)) → All P (since (front ++ ys ++ xs))
  all_placed P all = All-weaker (Contains (since (front ++ ys ++ xs))) P (λ access has. All-contains P (since (front ++ xs ++ ys)) access all (has_placed access has)) (since (front ++ ys ++ xs)) (All-contains_itself (since (front ++ ys ++ xs)))

  tracks_free : (t : Tracker) (id : HandleId) (is_image : Bool) → Tracks t id is_image (front ++ xs ++ ys) → Tracks t id is_image (front ++ ys ++ xs)
  tracks_free t id is_image k = record {
    of = k.of;
    let_through = k.let_through ∙ ap (option_map (λ barrier. barrier.second)) (sym last_placed);
    accessed = k.accessed ∙ sym union_placed;
    none_empty = all_placed (λ access. access ≢ no_access) k.none_empty;
    layout = k.layout ∙ (layout_same front xs ys a b is_image ∙ sym (layout_same front ys xs b a is_image));
  }

  fenced_free : (id : HandleId) (is_image : Bool) → AreFenced id is_image (front ++ xs ++ ys) → AreFenced id is_image (front ++ ys ++ xs)
  fenced_free id is_image f = record {
    licensed = λ before back barrier e. licensed before back barrier e;
    some = subst (λ o. IfSome o (λ barrier. barrier.second ≢ no_access)) (sym last_placed) f.some;
    let_through = through (last_barrier (front ++ xs ++ ys)) (last_barrier (front ++ ys ++ xs)) (sym last_placed) f.let_through;
  }
    where
      through : (o p : Option Barrier) → o ≡ p → IfSome o (λ barrier. All (λ access. in_common access barrier.second ≡ true) (since (front ++ xs ++ ys))) →
          IfSome p (λ barrier. All (λ access. in_common access barrier.second ≡ true) (since (front ++ ys ++ xs)))
      through o None e all = tt
      through None (Some barrier) e all = none_is_some e
      through (Some c) (Some barrier) e all =
          let same : c ≡ barrier = cc in
          all_placed (λ access. in_common access barrier.second ≡ true) (subst (λ (x : Barrier). All (λ access. in_common access x.second ≡ true) (since (front ++ xs ++ ys))) same all)

      licensed : (before back : List Use) (barrier : Barrier) → front ++ ys ++ xs ≡ before ++ Fenced barrier ∷ back →
          (touch : Touch) × IsTouchOf id is_image touch × (barrier_due id is_image before touch ≡ Some barrier)
      licensed before back barrier e =
          let r : StandsIn front before barrier = fence_in_front front (ys ++ xs) before back barrier (free_both ys xs b a) (sym (append_assoc front ys xs) ∙ e) in
          f.licensed before (r.rest ++ (xs ++ ys)) barrier
          (append_assoc front xs ys ∙ (ap (λ us. us ++ (xs ++ ys)) r.is ∙ append_assoc before (Fenced barrier ∷ r.rest) (xs ++ ys)))

-- Two parts that may stand in either order

places : (P : List Use → Type 0) (front xs ys : List Use) → (NoFence xs → NoFence ys → P (front ++ xs ++ ys) → P (front ++ ys ++ xs)) → MayChangePlaces xs ys → P (front ++ xs ++ ys) → P (front ++ ys ++ xs)
places P front xs ys free (inl e) p = subst P (ap (λ us. front ++ us ++ ys) e ∙ (ap (λ us. us ++ ys) (append-nil front) ∙ (sym (append-nil (front ++ ys)) ∙ ap (λ us. front ++ ys ++ us) (sym e)))) p
places P front xs ys free (inr (inl e)) p = subst P (ap (λ us. front ++ xs ++ us) e ∙ (append-nil (front ++ xs) ∙ (ap (λ us. us ++ xs) (sym (append-nil front)) ∙ ap (λ us. front ++ us ++ xs) (sym e)))) p
places P front xs ys free (inr (inr both)) p = free both.0 both.1 p

pub tracks_placed : (t : Tracker) (id : HandleId) (is_image : Bool) (front xs ys : List Use) → MayChangePlaces xs ys → Tracks t id is_image (front ++ xs ++ ys) → Tracks t id is_image (front ++ ys ++ xs)
tracks_placed t id is_image front xs ys may k = places (Tracks t id is_image) front xs ys (λ a b p. tracks_free front xs ys a b t id is_image p) may k

pub fenced_placed : (id : HandleId) (is_image : Bool) (front xs ys : List Use) → MayChangePlaces xs ys → AreFenced id is_image (front ++ xs ++ ys) → AreFenced id is_image (front ++ ys ++ xs)
fenced_placed id is_image front xs ys may f = places (AreFenced id is_image) front xs ys (λ a b p. fenced_free front xs ys a b id is_image p) may f

-- The uses by nodes

turned_one : (x : Node) (xs ys : List Node) → AllByRecursion (λ y. conflict x y ≡ false) ys → NoConflict ys xs → NoConflict ys (x ∷ xs)
turned_one x xs [] a b = tt
turned_one x xs (y ∷ ys) a b = ((conflict_mutual y x ∙ a.0, b.0), turned_one x xs ys a.1 b.1)

turned : (xs ys : List Node) → NoConflict xs ys → NoConflict ys xs
turned [] [] a = tt
turned [] (y ∷ ys) a = (tt, turned [] ys tt)
turned (x ∷ xs) ys a = turned_one x xs ys a.0 (turned xs ys a.1)

module _ (id : ℕ) where
  -- what does not conflict with a barrier of an object does not touch that
  untouched : (x : Node) (barrier : Barrier) → barrier_of x ≡ Some barrier → barrier.id.0 ≡ id → (ys : List Node) → AllByRecursion (λ y. conflict x y ≡ false) ys → AllByRecursion NoneEmpty ys → uses_in (commands 0 ys) id ≡ []
  untouched x barrier is of [] apart some = refl
  untouched x barrier is of (y ∷ ys) apart some =
      ap (λ us. us ++ uses_in (commands 0 ys) id)
      (use_of_none 0 y id (false_from_ne_true (touches_object y id) (λ on. both_ways (conflict x y) apart.0 (conflict_after_barrier x y barrier some.0 is (subst (λ i. touches_object y i ≡ true) (sym of) on)))))
      ∙ untouched x barrier is of ys apart.1 some.1

  free_or_none : (xs ys : List Node) → NoConflict xs ys → AllByRecursion NoneEmpty ys → NoFence (uses_in (commands 0 xs) id) ⊎ (uses_in (commands 0 ys) id ≡ [])
  free_or_none [] ys apart some = inl tt
  free_or_none (x ∷ xs) ys apart some = go (free_or_none xs ys apart.1 some)
    where
      access : (o : Option Barrier) → barrier_of x ≡ o → touches_object x id ≡ true → NoFence (uses_in (commands 0 xs) id) → NoFence (uses_in (commands 0 (x ∷ xs)) id) ⊎ (uses_in (commands 0 ys) id ≡ [])
      access None is on free = inl (subst (λ us. NoFence (us ++ uses_in (commands 0 xs) id)) (sym (use_of_access 0 x id on is)) free)
      access (Some barrier) is on free = inr (untouched x barrier is (of_object barrier is on) ys apart.0 some)
        where
          of_object : (barrier : Barrier) → barrier_of x ≡ Some barrier → touches_object x id ≡ true → barrier.id.0 ≡ id
          of_object barrier is on = one barrier.id.0 (sym (touches_barrier x id barrier is) ∙ on)
            where
              one : (i : ℕ) → ((i == id) || false) ≡ true → i ≡ id
              one i e = eqb-true i id (only (i == id) e)
                where
                  only : (p : Bool) → (p || false) ≡ true → p ≡ true
                  only true e = refl
                  only false e = e

      touched : (touches_object x id ≡ true) ⊎ (touches_object x id ≡ false) → NoFence (uses_in (commands 0 xs) id) → NoFence (uses_in (commands 0 (x ∷ xs)) id) ⊎ (uses_in (commands 0 ys) id ≡ [])
      touched (inl on) free = access (barrier_of x) refl on free
      touched (inr off) free = inl (subst (λ us. NoFence (us ++ uses_in (commands 0 xs) id)) (sym (use_of_none 0 x id off)) free)

      go : NoFence (uses_in (commands 0 xs) id) ⊎ (uses_in (commands 0 ys) id ≡ []) → NoFence (uses_in (commands 0 (x ∷ xs)) id) ⊎ (uses_in (commands 0 ys) id ≡ [])
      go (inl free) = touched (cases_Bool (touches_object x id)) free
      go (inr none) = inr none

  pub nodes_may : (xs ys : List Node) → AllByRecursion NoneEmpty xs → AllByRecursion NoneEmpty ys → NoConflict xs ys → MayChangePlaces (uses_in (commands 0 xs) id) (uses_in (commands 0 ys) id)
  nodes_may xs ys some_x some_y apart = go (free_or_none xs ys apart some_y) (free_or_none ys xs (turned xs ys apart) some_x)
    where
      go : NoFence (uses_in (commands 0 xs) id) ⊎ (uses_in (commands 0 ys) id ≡ []) → NoFence (uses_in (commands 0 ys) id) ⊎ (uses_in (commands 0 xs) id ≡ []) → MayChangePlaces (uses_in (commands 0 xs) id) (uses_in (commands 0 ys) id)
      go (inr none) other = inr (inl none)
      go (inl a) (inr none) = inl none
      go (inl a) (inl b) = inr (inr (a, b))
