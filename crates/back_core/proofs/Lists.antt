-- Elements of lists at their places.
use Rattle.std.proofs.Common.{◌≡◌, ℕ, zero, suc, ◌+◌, ◌<◌, List, [], ◌∷◌, ◌++◌, length, take, refl, sym, ap, ◌∙◌, inl, inr, arith}
use Rattle.std.specs.Prelude.{◌⊎◌, Some, slice_get}
use Rattle.std.proofs.lemmas.Option.{same_Some, none-some, slice_get_within}
use Rattle.vk_model.proofs.Device.{get_front}

pub get_left : {X : Type 0} (xs ys : List X) (k : ℕ) (x : X) → slice_get xs k ≡ Some x → slice_get (xs ++ ys) k ≡ Some x
get_left xs ys k x at = get_front xs ys k (slice_get_within xs k x at) ∙ at

pub get_right : {X : Type 0} (xs ys : List X) (j : ℕ) → slice_get (xs ++ ys) (length xs + j) ≡ slice_get ys j
get_right [] ys j = let same : 0 + j ≡ j = omega arith in ap (slice_get ys) same
get_right (x ∷ xs) ys j = let next : length (x ∷ xs) + j ≡ suc (length xs + j) = omega arith in ap (slice_get (x ∷ xs ++ ys)) next ∙ get_right xs ys j

-- an element of two lists is one of the first or one of the second
pub get_parts : {X : Type 0} (xs ys : List X) (k : ℕ) (x : X) → slice_get (xs ++ ys) k ≡ Some x → (slice_get xs k ≡ Some x) ⊎ ((j : ℕ) × (k ≡ length xs + j) × (slice_get ys j ≡ Some x))
get_parts [] ys k x at = inr (k, omega arith, at)
get_parts (y ∷ xs) ys zero x at = inl at
get_parts {X} (y ∷ xs) ys (suc k) x at = go (get_parts xs ys k x at)
  where
    go : (slice_get xs k ≡ Some x) ⊎ ((j : ℕ) × (k ≡ length xs + j) × (slice_get ys j ≡ Some x)) → (slice_get xs k ≡ Some x) ⊎ ((j : ℕ) × (suc k ≡ length (y ∷ xs) + j) × (slice_get ys j ≡ Some x))
    go (inl old) = inl old
    go (inr new) = inr (new.0, omega (arith, new.1), new.2)

pub get_then : {X : Type 0} (xs : List X) (y : X) (k : ℕ) (x : X) → slice_get (xs ++ y ∷ []) k ≡ Some x → (slice_get xs k ≡ Some x) ⊎ ((k ≡ length xs) × (x ≡ y))
get_then xs y k x at = go (get_parts xs (y ∷ []) k x at)
  where
    last : (j : ℕ) → k ≡ length xs + j → slice_get (y ∷ []) j ≡ Some x → (k ≡ length xs) × (x ≡ y)
    last zero e is = (omega (arith, e), sym (same_Some y x is))
    last (suc j) e is = absurd (none-some x is)

    go : (slice_get xs k ≡ Some x) ⊎ ((j : ℕ) × (k ≡ length xs + j) × (slice_get (y ∷ []) j ≡ Some x)) → (slice_get xs k ≡ Some x) ⊎ ((k ≡ length xs) × (x ≡ y))
    go (inl old) = inl old
    go (inr new) = inr (last new.0 new.1 new.2)

pub some_at : {X : Type 0} (xs : List X) (k : ℕ) → k < length xs → (x : X) × (slice_get xs k ≡ Some x)
some_at [] k lt = absurd (omega (arith, lt))
some_at (x ∷ xs) zero lt = (x, refl)
some_at (x ∷ xs) (suc k) lt = some_at xs k (omega (arith, lt))

pub take_then : {X : Type 0} (xs : List X) (n : ℕ) (x : X) → slice_get xs n ≡ Some x → take (suc n) xs ≡ take n xs ++ x ∷ []
take_then [] n x e = absurd (none-some x e)
take_then (y ∷ xs) zero x e = ap (λ z. z ∷ []) (same_Some y x e)
take_then (y ∷ xs) (suc n) x e = ap (λ l. y ∷ l) (take_then xs n x e)

pub get_take : {X : Type 0} (xs : List X) (n k : ℕ) (x : X) → slice_get (take n xs) k ≡ Some x → (k < n) × (slice_get xs k ≡ Some x)
get_take xs zero k x at = absurd (none-some x at)
get_take [] (suc n) k x at = absurd (none-some x at)
get_take (y ∷ xs) (suc n) zero x at = (omega arith, at)
get_take (y ∷ xs) (suc n) (suc k) x at = let rest : (k < n) × (slice_get xs k ≡ Some x) = get_take xs n k x at in (omega (arith, rest.0), rest.1)

pub get_taken : {X : Type 0} (xs : List X) (n k : ℕ) (x : X) → k < n → slice_get xs k ≡ Some x → slice_get (take n xs) k ≡ Some x
get_taken xs zero k x lt at = absurd (omega (arith, lt))
get_taken [] (suc n) k x lt at = at
get_taken (y ∷ xs) (suc n) zero x lt at = at
get_taken (y ∷ xs) (suc n) (suc k) x lt at = get_taken xs n k x (omega (arith, lt)) at
