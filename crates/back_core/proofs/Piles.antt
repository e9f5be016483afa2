-- Lists of garbage with distinct objects, and what a cleanup leaves of them.
use Rattle.std.proofs.Common.{◌≡◌, ◌≢◌, ℕ, zero, suc, ◌<◌, ◌≤◌, ◌==◌, Bool, true, false, cond, List, [], ◌∷◌, ◌++◌, length, take, get_or, refl, sym, ap, ◌∙◌, subst, inl, inr, arith}
use Rattle.std.specs.Prelude.{◌⊎◌, Some, slice_get, slice_index, nat_le, Contains}
use Rattle.std.specs.List.{filter}
use Rattle.std.proofs.lemmas.Bool.{cases_Bool, cases_eq, cond-true, cond-false, and_parts, leb-true, ne_eqb, eq-eqb}
use Rattle.std.proofs.lemmas.Option.{same_Some, none-some}
use Rattle.vk_types.specs.declared.batches.QueueSerial.{QueueSerial}
use Rattle.resource_use.specs.Uses.{number_of, are_covered}
use Rattle.garbage.specs.declared.entry.Garbage.{Garbage}
use Rattle.garbage.specs.Collecting.{is_covered}
use Rattle.back_core.specs.Run.{without_covered}

-- Members

abbrev pub IsIn : Garbage → List Garbage → Type 0
IsIn item [] = ⊥
IsIn item (x ∷ xs) = (x ≡ item) ⊎ IsIn item xs

pub in_at : (xs : List Garbage) (k : ℕ) (item : Garbage) → slice_get xs k ≡ Some item → IsIn item xs
in_at [] k item at = absurd (none-some item at)
in_at (x ∷ xs) zero item at = inl (same_Some x item at)
in_at (x ∷ xs) (suc k) item at = inr (in_at xs k item at)

in_place : (xs : List Garbage) (k : ℕ) (item : Garbage) → k < length xs → get_or xs k item ≡ item → IsIn item xs
in_place [] k item lt at = absurd (omega (arith, lt))
in_place (x ∷ xs) zero item lt at = inl at
in_place (x ∷ xs) (suc k) item lt at = inr (in_place xs k item (omega (arith, lt)) at)

pub in_contained : (xs : List Garbage) (item : Garbage) → Contains xs item → IsIn item xs
in_contained xs item c = in_place xs c.0 item c.1 c.2

pub in_front : (xs ys : List Garbage) (item : Garbage) → IsIn item xs → IsIn item (xs ++ ys)
in_front [] ys item is = absurd is
in_front (x ∷ xs) ys item (inl is) = inl is
in_front (x ∷ xs) ys item (inr is) = inr (in_front xs ys item is)

pub in_back : (xs ys : List Garbage) (item : Garbage) → IsIn item ys → IsIn item (xs ++ ys)
in_back [] ys item is = is
in_back (x ∷ xs) ys item is = inr (in_back xs ys item is)

pub in_parts : (xs ys : List Garbage) (item : Garbage) → IsIn item (xs ++ ys) → IsIn item xs ⊎ IsIn item ys
in_parts [] ys item is = inr is
in_parts (x ∷ xs) ys item (inl is) = inl (inl is)
in_parts (x ∷ xs) ys item (inr is) = go (in_parts xs ys item is)
  where
    go : IsIn item xs ⊎ IsIn item ys → IsIn item (x ∷ xs) ⊎ IsIn item ys
    go (inl a) = inl (inr a)
    go (inr b) = inr b

-- what passes a test
pub in_filter : (p : Garbage → Bool) (xs : List Garbage) (item : Garbage) → IsIn item (filter p xs) → IsIn item xs × (p item ≡ true)
in_filter p [] item is = absurd is
in_filter p (x ∷ xs) item is = go (cases_Bool (p x)) (in_filter p xs item)
  where
    here : p x ≡ true → (x ≡ item) ⊎ IsIn item (filter p xs) → (IsIn item (filter p xs) → IsIn item xs × (p item ≡ true)) → IsIn item (x ∷ xs) × (p item ≡ true)
    here t (inl same) rest = (inl same, ap p (sym same) ∙ t)
    here t (inr more) rest = let r = rest more in (inr r.0, r.1)

    go : (p x ≡ true) ⊎ (p x ≡ false) → (IsIn item (filter p xs) → IsIn item xs × (p item ≡ true)) → IsIn item (x ∷ xs) × (p item ≡ true)
    go (inl t) rest = here t (subst (IsIn item) (cond-true (p x) (x ∷ filter p xs) (filter p xs) t) is) rest
    go (inr f) rest = let r = rest (subst (IsIn item) (cond-false (p x) (x ∷ filter p xs) (filter p xs) f) is) in (inr r.0, r.1)

-- Distinct objects

abbrev pub IsAway : ℕ → List Garbage → Type 0
IsAway id xs = (item : Garbage) → IsIn item xs → item.handle.0 ≢ id

abbrev pub AreApart : List Garbage → Type 0
AreApart [] = Unit {0}
AreApart (x ∷ xs) = IsAway x.handle.0 xs × AreApart xs

pub apart_then : (xs : List Garbage) (item : Garbage) → AreApart xs → IsAway item.handle.0 xs → AreApart (xs ++ item ∷ [])
apart_then [] item apart away = ((λ x is. absurd is), tt)
apart_then (x ∷ xs) item apart away = (
  (λ y is. go y (in_parts xs (item ∷ []) y is)),
  apart_then xs item apart.1 (λ y is. away y (inr is)),
)
  where
    go : (y : Garbage) → IsIn y xs ⊎ IsIn y (item ∷ []) → y.handle.0 ≢ x.handle.0
    go y (inl old) = apart.0 y old
    go y (inr (inl new)) = λ same. away x (inl refl) (sym same ∙ ap (λ (g : Garbage). g.handle.0) (sym new))
    go y (inr (inr none)) = absurd none

pub apart_filter : (p : Garbage → Bool) (xs : List Garbage) → AreApart xs → AreApart (filter p xs)
apart_filter p [] apart = tt
apart_filter p (x ∷ xs) apart = go (cases_Bool (p x)) (apart_filter p xs apart.1)
  where
    go : (p x ≡ true) ⊎ (p x ≡ false) → AreApart (filter p xs) → AreApart (cond (p x) (x ∷ filter p xs) (filter p xs))
    go (inl t) rest = subst AreApart (sym (cond-true (p x) (x ∷ filter p xs) (filter p xs) t)) ((λ y is. apart.0 y (in_filter p xs y is).0), rest)
    go (inr f) rest = subst AreApart (sym (cond-false (p x) (x ∷ filter p xs) (filter p xs) f)) rest

in_take : (n : ℕ) (xs : List Garbage) (item : Garbage) → IsIn item (take n xs) → IsIn item xs
in_take zero xs item is = absurd is
in_take (suc n) [] item is = absurd is
in_take (suc n) (x ∷ xs) item (inl same) = inl same
in_take (suc n) (x ∷ xs) item (inr more) = inr (in_take n xs item more)

-- the entries before a place are of other objects
pub away_before : (xs : List Garbage) (k : ℕ) (x : Garbage) → AreApart xs → slice_get xs k ≡ Some x → IsAway x.handle.0 (take k xs)
away_before [] k x apart at = absurd (none-some x at)
away_before (y ∷ xs) zero x apart at = λ item is. absurd is
away_before (y ∷ xs) (suc k) x apart at = λ item is. go item is (away_before xs k x apart.1 at)
  where
    go : (item : Garbage) → (y ≡ item) ⊎ IsIn item (take k xs) → IsAway x.handle.0 (take k xs) → item.handle.0 ≢ x.handle.0
    go item (inl same) rest = λ e. apart.0 x (in_at xs k x at) (sym e ∙ ap (λ (g : Garbage). g.handle.0) (sym same))
    go item (inr more) rest = rest item more

-- what is away from all is away from a part
pub away_part : (id n : ℕ) (p : Garbage → Bool) (xs : List Garbage) → IsAway id xs → IsAway id (take n (filter p xs))
away_part id n p xs away = λ item is. away item (in_filter p xs item (in_take n (filter p xs) item is)).0

-- What a cleanup leaves

abbrev Left : List ℕ → ℕ → Garbage → List Garbage → List Garbage
Left read n x xs = cond (is_covered read x) (without_covered read n xs) (x ∷ without_covered read (suc n) xs)

pub left_in : (read : List ℕ) (n : ℕ) (xs : List Garbage) (item : Garbage) → IsIn item (without_covered read n xs) → IsIn item xs
left_in read zero xs item is = is
left_in read (suc n) [] item is = is
left_in read (suc n) (x ∷ xs) item is = go (cases_Bool (is_covered read x)) (left_in read n xs item) (left_in read (suc n) xs item)
  where
    kept : (x ≡ item) ⊎ IsIn item (without_covered read (suc n) xs) → (IsIn item (without_covered read (suc n) xs) → IsIn item xs) → IsIn item (x ∷ xs)
    kept (inl same) rest = inl same
    kept (inr more) rest = inr (rest more)

    go : (is_covered read x ≡ true) ⊎ (is_covered read x ≡ false) → (IsIn item (without_covered read n xs) → IsIn item xs) → (IsIn item (without_covered read (suc n) xs) → IsIn item xs) → IsIn item (x ∷ xs)
    go (inl t) less rest = inr (less (subst (IsIn item) (cond-true (is_covered read x) (without_covered read n xs) (x ∷ without_covered read (suc n) xs) t) is))
    go (inr f) less rest = kept (subst (IsIn item) (cond-false (is_covered read x) (without_covered read n xs) (x ∷ without_covered read (suc n) xs) f) is) rest

pub apart_left : (read : List ℕ) (n : ℕ) (xs : List Garbage) → AreApart xs → AreApart (without_covered read n xs)
apart_left read zero xs apart = apart
apart_left read (suc n) [] apart = apart
apart_left read (suc n) (x ∷ xs) apart = go (cases_Bool (is_covered read x)) (apart_left read n xs apart.1) (apart_left read (suc n) xs apart.1)
  where
    go : (is_covered read x ≡ true) ⊎ (is_covered read x ≡ false) → AreApart (without_covered read n xs) → AreApart (without_covered read (suc n) xs) → AreApart (Left read n x xs)
    go (inl t) less rest = subst AreApart (sym (cond-true (is_covered read x) (without_covered read n xs) (x ∷ without_covered read (suc n) xs) t)) less
    go (inr f) less rest = subst AreApart (sym (cond-false (is_covered read x) (without_covered read n xs) (x ∷ without_covered read (suc n) xs) f)) ((λ y is. apart.0 y (left_in read (suc n) xs y is)), rest)

-- an entry is left or covered
pub left_or_covered : (read : List ℕ) (n : ℕ) (xs : List Garbage) (item : Garbage) → IsIn item xs → IsIn item (without_covered read n xs) ⊎ (is_covered read item ≡ true)
left_or_covered read zero xs item is = inl is
left_or_covered read (suc n) [] item is = absurd is
left_or_covered read (suc n) (x ∷ xs) item is = go (cases_Bool (is_covered read x)) is (left_or_covered read n xs item) (left_or_covered read (suc n) xs item)
  where
    kept : (f : is_covered read x ≡ false) → IsIn item (x ∷ without_covered read (suc n) xs) → IsIn item (Left read n x xs)
    kept f there = subst (IsIn item) (sym (cond-false (is_covered read x) (without_covered read n xs) (x ∷ without_covered read (suc n) xs) f)) there

    taken : (t : is_covered read x ≡ true) → IsIn item (without_covered read n xs) → IsIn item (Left read n x xs)
    taken t there = subst (IsIn item) (sym (cond-true (is_covered read x) (without_covered read n xs) (x ∷ without_covered read (suc n) xs) t)) there

    after_taken : is_covered read x ≡ true → IsIn item (without_covered read n xs) ⊎ (is_covered read item ≡ true) → IsIn item (Left read n x xs) ⊎ (is_covered read item ≡ true)
    after_taken t (inl there) = inl (taken t there)
    after_taken t (inr c) = inr c

    after_kept : is_covered read x ≡ false → IsIn item (without_covered read (suc n) xs) ⊎ (is_covered read item ≡ true) → IsIn item (Left read n x xs) ⊎ (is_covered read item ≡ true)
    after_kept f (inl there) = inl (kept f (inr there))
    after_kept f (inr c) = inr c

    go : (is_covered read x ≡ true) ⊎ (is_covered read x ≡ false) → (x ≡ item) ⊎ IsIn item xs → (IsIn item xs → IsIn item (without_covered read n xs) ⊎ (is_covered read item ≡ true)) → (IsIn item xs → IsIn item (without_covered read (suc n) xs) ⊎ (is_covered read item ≡ true))
        → IsIn item (Left read n x xs) ⊎ (is_covered read item ≡ true)
    go (inl t) (inl same) less rest = inr (ap (is_covered read) (sym same) ∙ t)
    go (inl t) (inr more) less rest = after_taken t (less more)
    go (inr f) (inl same) less rest = inl (kept f (inl same))
    go (inr f) (inr more) less rest = after_kept f (rest more)

-- what is left is of other objects than what was taken out
pub away_from_taken : (read : List ℕ) (n m : ℕ) (xs : List Garbage) (item : Garbage) → AreApart xs → m ≤ n → IsIn item (without_covered read n xs) → IsAway item.handle.0 (take m (filter (is_covered read) xs))
away_from_taken read n zero xs item apart le is = λ y none. absurd none
away_from_taken read zero (suc m) xs item apart le is = absurd (omega (arith, le))
away_from_taken read (suc n) (suc m) [] item apart le is = absurd is
away_from_taken read (suc n) (suc m) (x ∷ xs) item apart le is =
    go (cases_Bool (is_covered read x)) (away_from_taken read n m xs item apart.1 (omega (arith, le))) (away_from_taken read (suc n) (suc m) xs item apart.1 le)
  where
    kept : (x ≡ item) ⊎ IsIn item (without_covered read (suc n) xs) → (IsIn item (without_covered read (suc n) xs) → IsAway item.handle.0 (take (suc m) (filter (is_covered read) xs))) → IsAway item.handle.0 (take (suc m) (filter (is_covered read) xs))
    kept (inl same) rest = subst (λ (y : Garbage). IsAway y.handle.0 (take (suc m) (filter (is_covered read) xs))) same (away_part x.handle.0 (suc m) (is_covered read) xs apart.0)
    kept (inr more) rest = rest more

    taken : IsIn item (without_covered read n xs) → IsAway item.handle.0 (take m (filter (is_covered read) xs)) → IsAway item.handle.0 (x ∷ take m (filter (is_covered read) xs))
    taken there rest y (inl same) = λ e. apart.0 item (left_in read n xs item there) (sym e ∙ ap (λ (g : Garbage). g.handle.0) (sym same))
    taken there rest y (inr more) = rest y more

    go : (is_covered read x ≡ true) ⊎ (is_covered read x ≡ false) → (IsIn item (without_covered read n xs) → IsAway item.handle.0 (take m (filter (is_covered read) xs)))
        → (IsIn item (without_covered read (suc n) xs) → IsAway item.handle.0 (take (suc m) (filter (is_covered read) xs))) → IsAway item.handle.0 (take (suc m) (cond (is_covered read x) (x ∷ filter (is_covered read) xs) (filter (is_covered read) xs)))
    go (inl t) less rest =
        let there : IsIn item (without_covered read n xs) = subst (IsIn item) (cond-true (is_covered read x) (without_covered read n xs) (x ∷ without_covered read (suc n) xs) t) is in
        subst (λ l. IsAway item.handle.0 (take (suc m) l)) (sym (cond-true (is_covered read x) (x ∷ filter (is_covered read) xs) (filter (is_covered read) xs) t)) (taken there (less there))
    go (inr f) less rest =
        subst (λ l. IsAway item.handle.0 (take (suc m) l)) (sym (cond-false (is_covered read x) (x ∷ filter (is_covered read) xs) (filter (is_covered read) xs) f))
        (kept (subst (IsIn item) (cond-false (is_covered read x) (without_covered read n xs) (x ∷ without_covered read (suc n) xs) f) is) rest)

-- Covered uses

-- the number of an index is no greater than the one that was read
pub covered_number : (read : List ℕ) (uses : List QueueSerial) (i : ℕ) → are_covered read uses ≡ true → number_of uses i ≤ slice_index read i
covered_number read [] i covered = omega arith
covered_number read (u ∷ uses) i covered = go (cases_eq u.index i) (covered_number read uses i)
  where
    both : (nat_le u.number (slice_index read u.index) ≡ true) × (are_covered read uses ≡ true)
    both = and_parts (nat_le u.number (slice_index read u.index)) (are_covered read uses) covered

    go : (u.index ≡ i) ⊎ (u.index ≡ i → ⊥) → (are_covered read uses ≡ true → number_of uses i ≤ slice_index read i) → cond (u.index == i) u.number (number_of uses i) ≤ slice_index read i
    go (inl same) rest =
        let e : cond (u.index == i) u.number (number_of uses i) ≡ u.number = cond-true (u.index == i) u.number (number_of uses i) (eq-eqb u.index i same) in
        let le : u.number ≤ slice_index read u.index = leb-true u.number (slice_index read u.index) both.0 in
        let at : slice_index read u.index ≡ slice_index read i = ap (slice_index read) same in
        omega (arith, e, le, at)
    go (inr other) rest =
        let e : cond (u.index == i) u.number (number_of uses i) ≡ number_of uses i = cond-false (u.index == i) u.number (number_of uses i) (ne_eqb u.index i other) in
        omega (arith, e, rest both.1)
