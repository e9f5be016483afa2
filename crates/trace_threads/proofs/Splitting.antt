-- Lists divided at an element.
use Rattle.std.proofs.Common.{◌≡◌, Bool, true, false, List, [], ◌∷◌, ◌++◌, refl, sym, ap, ap₂, ◌∙◌, inl, inr}
use Rattle.std.specs.Prelude.{◌⊎◌}

pub not_nil : {X : Type 0} (before rest : List X) (x : X) → [] ≡ before ++ x ∷ rest → ⊥
not_nil [] rest x same = cc
not_nil (b ∷ before) rest x same = cc

-- two lists divided at an element: it is one of the first list, or of the second
abbrev pub InFirstOrSecond : {X : Type 0} → List X → List X → List X → List X → X → Type 0
InFirstOrSecond {X} xs ys before rest x = ((more : List X) × (xs ≡ before ++ x ∷ more)) ⊎ ((less : List X) × (ys ≡ less ++ x ∷ rest))

pub first_or_second : {X : Type 0} (xs ys before rest : List X) (x : X) → xs ++ ys ≡ before ++ x ∷ rest → InFirstOrSecond xs ys before rest x
first_or_second [] ys before rest x same = inr (before, same)
first_or_second (a ∷ xs) ys [] rest x same = let here : a ≡ x = cc in inl (xs, ap (λ y. y ∷ xs) here)
first_or_second (a ∷ xs) ys (b ∷ before) rest x same =
    let here : a ≡ b = cc in
    let others : xs ++ ys ≡ before ++ x ∷ rest = cc in
    go here (first_or_second xs ys before rest x others)
  where
    go : a ≡ b → InFirstOrSecond xs ys before rest x → InFirstOrSecond (a ∷ xs) ys (b ∷ before) rest x
    go here (inl first) = inl (first.0, ap₂ (λ y l. y ∷ l) here first.1)
    go here (inr second) = inr second

-- a list with one element more, divided at an element: it is the last one, or one of the list
abbrev pub LastOrBefore : {X : Type 0} → List X → List X → X → X → Type 0
LastOrBefore {X} h before e x = ((before ≡ h) × (x ≡ e)) ⊎ ((less : List X) × (h ≡ before ++ x ∷ less))

pub last_or_before : {X : Type 0} (h before rest : List X) (e x : X) → h ++ e ∷ [] ≡ before ++ x ∷ rest → LastOrBefore h before e x
last_or_before [] [] rest e x same = inl (refl, cc)
last_or_before [] (b ∷ before) rest e x same =
    let none : [] ≡ before ++ x ∷ rest = cc in absurd (not_nil before rest x none)
last_or_before (a ∷ h) [] rest e x same = let here : a ≡ x = cc in inr (h, ap (λ y. y ∷ h) here)
last_or_before (a ∷ h) (b ∷ before) rest e x same =
    let here : a ≡ b = cc in
    let others : h ++ e ∷ [] ≡ before ++ x ∷ rest = cc in
    go here (last_or_before h before rest e x others)
  where
    go : a ≡ b → LastOrBefore h before e x → LastOrBefore (a ∷ h) (b ∷ before) e x
    go here (inl last) = inl (ap₂ (λ y l. y ∷ l) (sym here) last.0, last.1)
    go here (inr inner) = inr (inner.0, ap₂ (λ y l. y ∷ l) here inner.1)
