-- What holds of each element of a list, by its place.
use Rattle.std.proofs.Common.{◌≡◌, ℕ, zero, suc, ◌+◌, Bool, true, false, cond, List, [], ◌∷◌, ◌++◌, length, map, drop, refl, ap, ◌∙◌, subst, inl, inr, arith}
use Rattle.std.specs.Prelude.{All, Some, slice_get}
use Rattle.std.specs.List.{filter, flat_map}
use Rattle.std.proofs.lemmas.Option.{none-some, same_Some, slice_get_within, get_or_from_slice_get}
use Rattle.back_core.proofs.Lists.{get_left, get_right, get_parts}

abbrev pub Each : {X : Type 0} → (X → Type 0) → List X → Type 0
Each {X} P xs = (k : ℕ) (x : X) → slice_get xs k ≡ Some x → P x

pub Each-nil : {X : Type 0} (P : X → Type 0) → Each P []
Each-nil P k x at = absurd (none-some x at)

pub Each-head : {X : Type 0} (P : X → Type 0) (x : X) (xs : List X) → Each P (x ∷ xs) → P x
Each-head P x xs each = each 0 x refl

pub Each-tail : {X : Type 0} (P : X → Type 0) (x : X) (xs : List X) → Each P (x ∷ xs) → Each P xs
Each-tail P x xs each k y at = each (suc k) y at

pub Each-cons : {X : Type 0} (P : X → Type 0) (x : X) (xs : List X) → P x → Each P xs → Each P (x ∷ xs)
Each-cons P x xs p each zero y at = subst P (same_Some x y at) p
Each-cons P x xs p each (suc k) y at = each k y at

pub Each-one : {X : Type 0} (P : X → Type 0) (x : X) → P x → Each P (x ∷ [])
Each-one P x p = Each-cons P x [] p (Each-nil P)

pub Each-append : {X : Type 0} (P : X → Type 0) (xs ys : List X) → Each P xs → Each P ys → Each P (xs ++ ys)
Each-append P xs ys each also k x at = elim (get_parts xs ys k x at) [ inl here ↦ each k x here | inr there ↦ also there.0 x there.2 ]

pub Each-left : {X : Type 0} (P : X → Type 0) (xs ys : List X) → Each P (xs ++ ys) → Each P xs
Each-left P xs ys each k x at = each k x (get_left xs ys k x at)

pub Each-right : {X : Type 0} (P : X → Type 0) (xs ys : List X) → Each P (xs ++ ys) → Each P ys
Each-right P xs ys each k x at = each (length xs + k) x (get_right xs ys k ∙ at)

pub Each-cond : {X : Type 0} (P : X → Type 0) (b : Bool) (xs : List X) → (b ≡ true → Each P xs) → Each P (cond b xs [])
Each-cond P true xs each = each refl
Each-cond P false xs each = Each-nil P

pub Each-weaker : {X : Type 0} (P Q : X → Type 0) (xs : List X) → ((x : X) → P x → Q x) → Each P xs → Each Q xs
Each-weaker P Q xs weaker each k x at = weaker x (each k x at)

pub Each-filter : {X : Type 0} (P : X → Type 0) (p : X → Bool) (xs : List X) → Each P xs → Each P (filter p xs)
Each-filter P p [] each = Each-nil P
Each-filter {X} P p (x ∷ xs) each = go (p x) (Each-filter P p xs (Each-tail P x xs each))
  where
    go : (b : Bool) → Each P (filter p xs) → Each P (cond b (x ∷ filter p xs) (filter p xs))
    go true rest = Each-cons P x (filter p xs) (each 0 x refl) rest
    go false rest = rest

pub Each-flat_map : {X Y : Type 0} (P : Y → Type 0) (f : X → List Y) (xs : List X) → Each (λ x. Each P (f x)) xs → Each P (flat_map f xs)
Each-flat_map P f [] each = Each-nil P
Each-flat_map P f (x ∷ xs) each = Each-append P (f x) (flat_map f xs) (each 0 x refl) (Each-flat_map P f xs (λ k y at. each (suc k) y at))

pub Each-from_All : {X : Type 0} (P : X → Type 0) (xs : List X) → All P xs → Each P xs
Each-from_All P xs all k x at = subst P (get_or_from_slice_get xs k x x at) (all k x (slice_get_within xs k x at))

-- the elements from a place on
pub get_drop : {X : Type 0} (n : ℕ) (xs : List X) (k : ℕ) → slice_get (drop n xs) k ≡ slice_get xs (n + k)
get_drop zero xs k = let same : k ≡ 0 + k = omega arith in ap (slice_get xs) same
get_drop (suc n) [] k = refl
get_drop (suc n) (x ∷ xs) k = let next : suc (n + k) ≡ suc n + k = omega arith in get_drop n xs k ∙ ap (slice_get (x ∷ xs)) next

pub drop_from : {X : Type 0} (n : ℕ) (xs : List X) (x : X) → slice_get xs n ≡ Some x → drop n xs ≡ x ∷ drop (n + 1) xs
drop_from zero [] x at = absurd (none-some x at)
drop_from zero (y ∷ xs) x at = ap (λ z. z ∷ xs) (same_Some y x at)
drop_from (suc n) [] x at = absurd (none-some x at)
drop_from (suc n) (y ∷ xs) x at = let next : suc (n + 1) ≡ suc n + 1 = omega arith in drop_from n xs x at ∙ ap (λ m. x ∷ drop m (y ∷ xs)) next

pub Each-map : {X Y : Type 0} (P : Y → Type 0) (f : X → Y) (xs : List X) → Each (λ x. P (f x)) xs → Each P (map f xs)
Each-map P f [] each = Each-nil P
Each-map P f (x ∷ xs) each = Each-cons P (f x) (map f xs) (each 0 x refl) (Each-map P f xs (λ k y at. each (suc k) y at))
