-- The elements of lists at their places.
use Rattle.std.proofs.Common.{◌≡◌, ℕ, zero, suc, ◌+◌, ◌<◌, List, [], ◌∷◌, ◌++◌, length, take, Bool, true, refl, sym, ap, ◌∙◌, inl, inr, arith}
use Rattle.std.specs.Prelude.{◌⊎◌, Option, Some, None, slice_get}
use Rattle.std.specs.Option.{unwrap_or}
use Rattle.std.specs.List.{list_any}
use Rattle.std.proofs.lemmas.Bool.{false≢true, or_cases, or_left, or_right}

pub same_Some : {X : Type 0} (x y : X) → ◌≡◌ {A = Option X} (Some x) (Some y) → x ≡ y
same_Some x y e = ap (λ o. unwrap_or o x) e

pub not_Some : {X : Type 0} (x : X) → ◌≡◌ {A = Option X} None (Some x) → ⊥
not_Some {X} x e = let both : ◌≡◌ {A = Option X} None (Some x) = e in cc

pub slice_get-left : {X : Type 0} (xs ys : List X) (k : ℕ) (x : X) → slice_get xs k ≡ Some x → slice_get (xs ++ ys) k ≡ Some x
slice_get-left [] ys k x e = absurd (not_Some x e)
slice_get-left (y ∷ xs) ys zero x e = e
slice_get-left (y ∷ xs) ys (suc k) x e = slice_get-left xs ys k x e

pub slice_get-right : {X : Type 0} (xs ys : List X) (k j : ℕ) → k ≡ length xs + j → slice_get (xs ++ ys) k ≡ slice_get ys j
slice_get-right [] ys k j e = let f : k ≡ j = omega (arith, e) in ap (slice_get ys) f
slice_get-right (x ∷ xs) ys zero j e = absurd (omega (arith, e))
slice_get-right (x ∷ xs) ys (suc k) j e = slice_get-right xs ys k j (omega (arith, e))

pub slice_get-before : {X : Type 0} (xs ys : List X) (k : ℕ) → k < length xs → slice_get (xs ++ ys) k ≡ slice_get xs k
slice_get-before [] ys k lt = absurd (omega (arith, lt))
slice_get-before (x ∷ xs) ys zero lt = refl
slice_get-before (x ∷ xs) ys (suc k) lt = slice_get-before xs ys k (omega (arith, lt))

pub slice_get-then : {X : Type 0} (xs : List X) (y : X) (k : ℕ) (x : X) → slice_get (xs ++ y ∷ []) k ≡ Some x
    → (slice_get xs k ≡ Some x) ⊎ ((k ≡ length xs) × (x ≡ y))
slice_get-then [] y zero x e = inr (refl, sym (same_Some y x e))
slice_get-then [] y (suc k) x e = absurd (not_Some x e)
slice_get-then (z ∷ xs) y zero x e = inl e
slice_get-then (z ∷ xs) y (suc k) x e = go (slice_get-then xs y k x e)
  where
    go : (slice_get xs k ≡ Some x) ⊎ ((k ≡ length xs) × (x ≡ y)) → (slice_get xs k ≡ Some x) ⊎ ((suc k ≡ suc (length xs)) × (x ≡ y))
    go (inl a) = inl a
    go (inr b) = inr (ap suc b.0, b.1)

pub some_at : {X : Type 0} (xs : List X) (k : ℕ) → k < length xs → (x : X) × (slice_get xs k ≡ Some x)
some_at [] k lt = absurd (omega (arith, lt))
some_at (x ∷ xs) zero lt = (x, refl)
some_at (x ∷ xs) (suc k) lt = some_at xs k (omega (arith, lt))

pub take-then : {X : Type 0} (xs : List X) (n : ℕ) (x : X) → slice_get xs n ≡ Some x → take (suc n) xs ≡ take n xs ++ x ∷ []
take-then [] n x e = absurd (not_Some x e)
take-then (y ∷ xs) zero x e = ap (λ z. z ∷ []) (same_Some y x e)
take-then (y ∷ xs) (suc n) x e = ap (λ l. y ∷ l) (take-then xs n x e)

-- an element before a place that passes a test
pub any_at : {X : Type 0} (p : X → Bool) (xs : List X) (n : ℕ) → list_any p (take n xs) ≡ true → (j : ℕ) × (x : X) × (j < n) × (slice_get xs j ≡ Some x) × (p x ≡ true)
any_at p xs zero e = absurd (false≢true e)
any_at p [] (suc n) e = absurd (false≢true e)
any_at {X} p (x ∷ xs) (suc n) e = go (or_cases (p x) (list_any p (take n xs)) e) (any_at p xs n)
  where
    go : (p x ≡ true) ⊎ (list_any p (take n xs) ≡ true) → (list_any p (take n xs) ≡ true → (j : ℕ) × (y : X) × (j < n) × (slice_get xs j ≡ Some y) × (p y ≡ true))
        → (j : ℕ) × (y : X) × (j < suc n) × (slice_get (x ∷ xs) j ≡ Some y) × (p y ≡ true)
    go (inl f) rest = (0, x, omega arith, refl, f)
    go (inr f) rest = let r = rest f in (suc r.0, r.1, omega (arith, r.2), r.3, r.4)

pub any_from : {X : Type 0} (p : X → Bool) (xs : List X) (n j : ℕ) (x : X) → j < n → slice_get xs j ≡ Some x → p x ≡ true → list_any p (take n xs) ≡ true
any_from p xs zero j x lt at e = absurd (omega (arith, lt))
any_from p [] (suc n) j x lt at e = absurd (not_Some x at)
any_from p (y ∷ xs) (suc n) zero x lt at e = or_left (p y) (list_any p (take n xs)) (ap p (same_Some y x at) ∙ e)
any_from p (y ∷ xs) (suc n) (suc j) x lt at e = or_right (p y) (list_any p (take n xs)) (any_from p xs n j x (omega (arith, lt)) at e)

pub slice_get-take : {X : Type 0} (xs : List X) (n j : ℕ) (x : X) → j < n → slice_get xs j ≡ Some x → slice_get (take n xs) j ≡ Some x
slice_get-take xs zero j x lt e = absurd (omega (arith, lt))
slice_get-take [] (suc n) j x lt e = e
slice_get-take (y ∷ xs) (suc n) zero x lt e = e
slice_get-take (y ∷ xs) (suc n) (suc j) x lt e = slice_get-take xs n j x (omega (arith, lt)) e
