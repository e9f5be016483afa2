-- Lists with one element more, and elements at their places.
use Rattle.std.proofs.Common.{◌≡◌, ℕ, zero, suc, ◌+◌, ◌<◌, Bool, true, false, refl, sym, ap, ap₂, ◌∙◌, inl, inr, arith}
use Rattle.std.specs.Prelude.{◌⊎◌, List, [], ◌∷◌, ◌++◌, length, map, set, take, slice_get, Contains, Option, Some, None}
use Rattle.std.specs.List.{filter}
use Rattle.std.proofs.lemmas.Bool.{cond-true, cond-false}
use Rattle.std.proofs.lemmas.List.{append-nil, take_more}
use Rattle.std.proofs.lemmas.List.Elements.{filter-append}
use Rattle.std.proofs.lemmas.Option.{same_Some, none-some, slice_get_within, get_or_from_slice_get}

-- An option by its cases

pub none_or_some : {A : Type 0} (o : Option A) → (o ≡ None) ⊎ ((x : A) × (o ≡ Some x))
none_or_some None = inl refl
none_or_some (Some x) = inr (x, refl)

-- Elements at their places

pub some_at : {X : Type 0} (xs : List X) (k : ℕ) → k < length xs → (x : X) × (slice_get xs k ≡ Some x)
some_at [] k lt = absurd (omega (arith, lt))
some_at (x ∷ xs) zero lt = (x, refl)
some_at (x ∷ xs) (suc k) lt = some_at xs k (omega (arith, lt))

pub get_map : {X Y : Type 0} (f : X → Y) (xs : List X) (k : ℕ) (x : X) → slice_get xs k ≡ Some x → slice_get (map f xs) k ≡ Some (f x)
get_map f [] k x at = absurd (none-some x at)
get_map f (y ∷ xs) zero x at = ap (λ z. Some (f z)) (same_Some y x at)
get_map f (y ∷ xs) (suc k) x at = get_map f xs k x at

pub get_taken : {X : Type 0} (xs : List X) (n k : ℕ) (x : X) → k < n → slice_get xs k ≡ Some x →
    slice_get (take n xs) k ≡ Some x
get_taken xs zero k x lt at = absurd (omega (arith, lt))
get_taken [] (suc n) k x lt at = at
get_taken (y ∷ xs) (suc n) zero x lt at = at
get_taken (y ∷ xs) (suc n) (suc k) x lt at = get_taken xs n k x (omega (arith, lt)) at

pub get_set_here : {X : Type 0} (xs : List X) (k : ℕ) (x v : X) → slice_get xs k ≡ Some x → slice_get (set xs k v) k ≡ Some v
get_set_here [] k x v at = absurd (none-some x at)
get_set_here (y ∷ xs) zero x v at = refl
get_set_here (y ∷ xs) (suc k) x v at = get_set_here xs k x v at

pub get_set_other : {X : Type 0} (xs : List X) (k j : ℕ) (v : X) → (j ≡ k → ⊥) → slice_get (set xs k v) j ≡ slice_get xs j
get_set_other [] k j v other = refl
get_set_other (y ∷ xs) zero zero v other = absurd (other refl)
get_set_other (y ∷ xs) zero (suc j) v other = refl
get_set_other (y ∷ xs) (suc k) zero v other = refl
get_set_other (y ∷ xs) (suc k) (suc j) v other = get_set_other xs k j v (λ same. other (ap suc same))

pub take_next : {X : Type 0} (xs : List X) (n : ℕ) (x : X) → slice_get xs n ≡ Some x → take (n + 1) xs ≡ take n xs ++ x ∷ []
take_next xs n x at =
    take_more xs n x (slice_get_within xs n x at) ∙ ap (λ y. take n xs ++ y ∷ []) (get_or_from_slice_get xs n x x at)

pub Contains-cons : {X : Type 0} (y : X) (xs : List X) (x : X) → Contains xs x → Contains (y ∷ xs) x
Contains-cons y xs x has = (suc has.0, omega (arith, has.1), has.2)

-- One element more

pub filter_more : {X : Type 0} (p : X → Bool) (xs : List X) (x : X) → p x ≡ true → filter p (xs ++ x ∷ []) ≡ filter p xs ++ x ∷ []
filter_more p xs x passes = filter-append p xs (x ∷ []) ∙ ap (λ l. filter p xs ++ l) (cond-true (p x) (x ∷ []) [] passes)

pub filter_same : {X : Type 0} (p : X → Bool) (xs : List X) (x : X) → p x ≡ false → filter p (xs ++ x ∷ []) ≡ filter p xs
filter_same p xs x fails =
    filter-append p xs (x ∷ []) ∙ ap (λ l. filter p xs ++ l) (cond-false (p x) (x ∷ []) [] fails) ∙ append-nil (filter p xs)

pub not_nil : {X : Type 0} (before rest : List X) (x : X) → [] ≡ before ++ x ∷ rest → ⊥
not_nil [] rest x same = cc
not_nil (b ∷ before) rest x same = cc

-- a list with one element more, divided at an element: it is the last one, or one of the list
abbrev pub LastOrBefore : {X : Type 0} → List X → List X → X → X → Type 0
LastOrBefore {X} h before e x = ((before ≡ h) × (x ≡ e)) ⊎ ((less : List X) × (h ≡ before ++ x ∷ less))

pub last_or_before : {X : Type 0} (h before rest : List X) (e x : X) → h ++ e ∷ [] ≡ before ++ x ∷ rest → LastOrBefore h before e x
last_or_before [] [] rest e x same = inl (refl, cc)
last_or_before [] (b ∷ before) rest e x same =
    let none : [] ≡ before ++ x ∷ rest = cc in absurd (not_nil before rest x none)
last_or_before (a ∷ h) [] rest e x same = let here : a ≡ x = cc in inr (h, ap (λ y. y ∷ h) here)
last_or_before (a ∷ h) (b ∷ before) rest e x same =
    let here : a ≡ b = cc in
    let others : h ++ e ∷ [] ≡ before ++ x ∷ rest = cc in
    go here (last_or_before h before rest e x others)
  where
    go : a ≡ b → LastOrBefore h before e x → LastOrBefore (a ∷ h) (b ∷ before) e x
    go here (inl last) = inl (ap₂ (λ y l. y ∷ l) (sym here) last.0, last.1)
    go here (inr inner) = inr (inner.0, ap₂ (λ y l. y ∷ l) here inner.1)
