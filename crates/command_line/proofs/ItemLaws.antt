-- The words of a list, from its first item and its last.
use Rattle.std.proofs.Common.{◌≡◌, ℕ, ◌+◌, ◌-◌, ◌<◌, ◌≤◌, List, [], ◌∷◌, ◌++◌, length, get_or, take, drop, sym, ap, ◌∙◌, arith}
use Rattle.std.specs.Prelude.{map}
use Rattle.std.proofs.lemmas.List.{take_all, take_more, map-append, nil_from_length}

pub one_item : {X : Type 0} (f : X → List ℕ) (xs : List X) (x : X) (word : List ℕ) → 1 ≤ length xs → length xs < 2 → x ≡ get_or xs 0 x → word ≡ f x → map f xs ≡ word ∷ []
one_item f [] x word some few is e = absurd (omega arith)
one_item f (y ∷ []) x word some few is e = ap (λ (w : List ℕ). w ∷ []) (ap f (sym is) ∙ sym e)
one_item f (y ∷ z ∷ ys) x word some few is e = absurd (omega arith)

pub first_item : {X : Type 0} (f : X → List ℕ) (xs : List X) (x : X) (word : List ℕ) → 1 ≤ length xs → x ≡ get_or xs 0 x → word ≡ f x → map f xs ≡ word ∷ map f (take (length xs - 1) (drop 1 xs))
first_item f [] x word some is e = absurd (omega arith)
first_item f (y ∷ ys) x word some is e =
    ap (λ (w : List ℕ). w ∷ map f ys) (ap f (sym is) ∙ sym e) ∙ ap (λ (zs : List _). word ∷ map f zs) (sym (take_all (length (y ∷ ys) - 1) ys (omega arith)))

pub last_item : {X : Type 0} (f : X → List ℕ) (xs : List X) (x : X) (word : List ℕ) → 1 ≤ length xs → x ≡ get_or xs (length xs - 1) x → word ≡ f x → map f xs ≡ map f (take (length xs - 1) xs) ++ word ∷ []
last_item f xs x word some is e =
    let whole : take (length xs - 1 + 1) xs ≡ xs = take_all (length xs - 1 + 1) xs (omega arith) in
    let more : take (length xs - 1 + 1) xs ≡ take (length xs - 1) xs ++ get_or xs (length xs - 1) x ∷ [] = take_more xs (length xs - 1) x (omega arith) in
    ap (map f) (sym whole ∙ more) ∙ map-append f (take (length xs - 1) xs) (get_or xs (length xs - 1) x ∷ []) ∙ ap (λ (w : List ℕ). map f (take (length xs - 1) xs) ++ w ∷ []) (ap f (sym is) ∙ sym e)

pub no_items : {X : Type 0} (f : X → List ℕ) (xs : List X) → length xs < 1 → map f xs ≡ []
no_items f xs none = ap (map f) (nil_from_length xs (omega arith))
