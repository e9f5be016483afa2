-- Lists of numbers that rise.
use Rattle.std.proofs.Common.{◌≡◌, ℕ, zero, suc, ◌+◌, ◌<◌, ◌≤◌, List, [], ◌∷◌, length, get_or, refl, sym, ◌∙◌, ap, arith, inl, inr}
use Rattle.std.specs.Prelude.{◌⊎◌, ◌↔◌, Contains}
use Rattle.std.specs.List.{insert, remove}
use Rattle.std.proofs.lemmas.Bool.{cases_eq, cases_lt}
use Rattle.vk_ready.specs.Slots.{Has, Rises}

-- the number at a place is one of the list
pub has_at : (ns : List ℕ) (i : ℕ) → i < length ns → Has ns (get_or ns i 0)
has_at [] i lt = absurd (omega arith)
has_at (n ∷ ns) zero lt = inl refl
has_at (n ∷ ns) (suc i) lt = inr (has_at ns i (omega arith))

pub rises_below : (ns : List ℕ) → Rises ns → (i j : ℕ) → i < j → j < length ns → get_or ns i 0 < get_or ns j 0
rises_below [] r i j lt inside = absurd (omega arith)
rises_below (n ∷ ns) r zero zero lt inside = absurd (omega arith)
rises_below (n ∷ ns) r zero (suc j) lt inside = r.0 (get_or ns j 0) (has_at ns j (omega arith))
rises_below (n ∷ ns) r (suc i) zero lt inside = absurd (omega arith)
rises_below (n ∷ ns) r (suc i) (suc j) lt inside = rises_below ns r.1 i j (omega arith) (omega arith)

-- One more number

pub has_inserted : (ns : List ℕ) (i n k : ℕ) → i ≤ length ns → Has (insert ns i n) k ↔ ((k ≡ n) ⊎ Has ns k)
has_inserted ns zero n k le = (λ h. h, λ h. h)
has_inserted [] (suc i) n k le = absurd (omega arith)
has_inserted (m ∷ ns) (suc i) n k le = let rest : Has (insert ns i n) k ↔ ((k ≡ n) ⊎ Has ns k) = has_inserted ns i n k (omega arith) in (
  λ h. elim h [ inl e ↦ inr (inl e) | inr h' ↦ elim (rest.0 h') [ inl e ↦ inl e | inr h'' ↦ inr (inr h'') ] ],
  λ h. elim h [ inl e ↦ inr (rest.1 (inl e)) | inr h' ↦ elim h' [ inl e ↦ inl e | inr h'' ↦ inr (rest.1 (inr h'')) ] ],
)

-- each number from a place on is above
abbrev pub IsAbove : List ℕ → ℕ → ℕ → Type 0
IsAbove ns i n = (k : ℕ) → i ≤ k → k < length ns → n < get_or ns k 0

abbrev pub IsBelow : List ℕ → ℕ → ℕ → Type 0
IsBelow ns i n = (k : ℕ) → k < i → get_or ns k 0 < n

above_all : (ns : List ℕ) (n : ℕ) → IsAbove ns 0 n → (k : ℕ) → Has ns k → n < k
above_all [] n up k h = absurd h
above_all (m ∷ ns) n up k (inl e) = let lt : n < m = up 0 (omega arith) (omega arith) in omega arith
above_all (m ∷ ns) n up k (inr h) = above_all ns n (λ j le lt. up (suc j) (omega arith) (omega (arith, lt))) k h

pub rises_inserted : (ns : List ℕ) (i n : ℕ) → Rises ns → i ≤ length ns → IsBelow ns i n → IsAbove ns i n → Rises (insert ns i n)
rises_inserted ns zero n r le down up = (above_all ns n up, r)
rises_inserted [] (suc i) n r le down up = absurd (omega arith)
rises_inserted (m ∷ ns) (suc i) n r le down up = (
  λ k h. elim ((has_inserted ns i n k (omega arith)).0 h) [ inl e ↦ let lt : m < n = down 0 (omega arith) in omega (arith, lt, e) | inr h' ↦ r.0 k h' ],
  rises_inserted ns i n r.1 (omega arith) (λ k lt. down (suc k) (omega (arith, lt))) (λ k le' lt. up (suc k) (omega (arith, le')) (omega (arith, lt))),
)

-- One number less

pub has_removed : (ns : List ℕ) (i k : ℕ) → Rises ns → i < length ns → Has (remove ns i) k ↔ ((k ≡ get_or ns i 0 → ⊥) × Has ns k)
has_removed [] i k r lt = absurd (omega arith)
has_removed (m ∷ ns) zero k r lt = (
  λ h. ((λ e. let lt' : m < k = r.0 k h in omega (arith, e, lt')), inr h),
  λ both. elim both.1 [ inl e ↦ absurd (both.0 e) | inr h ↦ h ],
)
has_removed (m ∷ ns) (suc i) k r lt =
    let rest : Has (remove ns i) k ↔ ((k ≡ get_or ns i 0 → ⊥) × Has ns k) = has_removed ns i k r.1 (omega arith) in
    let above : m < get_or ns i 0 = r.0 (get_or ns i 0) (has_at ns i (omega arith)) in (
      λ h. elim h [ inl e ↦ ((λ e'. omega (arith, e, e', above)), inl e) | inr h' ↦ let both = rest.0 h' in (both.0, inr both.1) ],
      λ both. elim both.1 [ inl e ↦ inl e | inr h ↦ inr (rest.1 (both.0, h)) ],
    )

pub rises_removed : (ns : List ℕ) (i : ℕ) → Rises ns → i < length ns → Rises (remove ns i)
rises_removed [] i r lt = absurd (omega arith)
rises_removed (m ∷ ns) zero r lt = r.1
rises_removed (m ∷ ns) (suc i) r lt = ((λ k h. r.0 k ((has_removed ns i k r.1 (omega arith)).0 h).1), rises_removed ns i r.1 (omega arith))

-- Lists that rise

-- numbers that rise between two bounds are no more than fit between
pub few : (ns : List ℕ) (low high : ℕ) → low ≤ high → Rises ns → ((k : ℕ) → Has ns k → (low ≤ k) × (k < high)) → low + length ns ≤ high
few [] low high le r each = omega arith
few (n ∷ ns) low high le r each =
    let here : (low ≤ n) × (n < high) = each n (inl refl) in
    let rest : suc n + length ns ≤ high = few ns (suc n) high (omega arith) r.1 (λ k h. let lt : n < k = r.0 k h in let both = each k (inr h) in (omega (arith, lt), both.1)) in
    omega arith

-- and fewer where one between the bounds is not among them
pub fewer : (ns : List ℕ) (low high n : ℕ) → Rises ns → ((k : ℕ) → Has ns k → (low ≤ k) × (k < high)) → low ≤ n → n < high → (Has ns n → ⊥) → low + length ns < high
fewer [] low high n r each le lt new = omega arith
fewer (m ∷ ns) low high n r each le lt new =
    let here : (low ≤ m) × (m < high) = each m (inl refl) in
    elim (cases_lt m n) [
      | inl less ↦
          let rest : suc m + length ns < high = fewer ns (suc m) high n r.1 (λ k h. let above : m < k = r.0 k h in let both = each k (inr h) in (omega (arith, above), both.1)) (omega (arith, less)) lt (λ h. new (inr h)) in
          omega (arith, here.0, rest)
      | inr more ↦ elim (cases_eq m n) [
        | inl same ↦ absurd (new (inl (sym same)))
        | inr other ↦
            let rest : suc m + length ns ≤ high = few ns (suc m) high (omega (arith, here.1)) r.1 (λ k h. let above : m < k = r.0 k h in let both = each k (inr h) in (omega (arith, above), both.1)) in
            omega (arith, here.0, rest, more, other)
      ]
    ]

-- two of the same numbers are the same list
pub same_rising : (xs ys : List ℕ) → Rises xs → Rises ys → ((k : ℕ) → Has xs k → Has ys k) → ((k : ℕ) → Has ys k → Has xs k) → xs ≡ ys
same_rising [] [] rx ry to from = refl
same_rising [] (y ∷ ys) rx ry to from = absurd (from y (inl refl))
same_rising (x ∷ xs) [] rx ry to from = absurd (to x (inl refl))
same_rising (x ∷ xs) (y ∷ ys) rx ry to from =
    let one : y ≤ x = elim (to x (inl refl)) [ inl e ↦ omega (arith, e) | inr h ↦ let lt : y < x = ry.0 x h in omega (arith, lt) ] in
    let other : x ≤ y = elim (from y (inl refl)) [ inl e ↦ omega (arith, e) | inr h ↦ let lt : x < y = rx.0 y h in omega (arith, lt) ] in
    let head : x ≡ y = omega arith in
    let rest : xs ≡ ys = same_rising xs ys rx.1 ry.1
    (λ k h. elim (to k (inr h)) [ inl e ↦ let lt : x < k = rx.0 k h in absurd (omega (arith, e, lt)) | inr h' ↦ h' ])
    (λ k h. elim (from k (inr h)) [ inl e ↦ let lt : y < k = ry.0 k h in absurd (omega (arith, e, lt)) | inr h' ↦ h' ]) in
    ap (λ l. x ∷ l) rest ∙ ap (λ z. z ∷ ys) head

-- Has and Contains

pub has_contains : (ns : List ℕ) (k : ℕ) → Has ns k → Contains ns k
has_contains [] k h = absurd h
has_contains (n ∷ ns) k (inl e) = (0, omega arith, sym e)
has_contains (n ∷ ns) k (inr h) = let rest : Contains ns k = has_contains ns k h in (suc rest.0, omega (arith, rest.1), rest.2)

pub contains_has : (ns : List ℕ) (k : ℕ) → Contains ns k → Has ns k
contains_has [] k (i, lt, e) = absurd (omega arith)
contains_has (n ∷ ns) k (zero, lt, e) = inl (sym e)
contains_has (n ∷ ns) k (suc i, lt, e) = inr (contains_has ns k (i, omega arith, e))
