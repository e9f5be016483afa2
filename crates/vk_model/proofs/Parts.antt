-- Lists with others in the place of a part of theirs, place by place.
use Rattle.std.proofs.Common.{◌≡◌, ℕ, ◌+◌, ◌-◌, ◌<◌, ◌≤◌, List, ◌++◌, length, take, drop, ◌∙◌, ap, arith, inl, inr, length-append}
use Rattle.std.specs.Prelude.{◌⊎◌}
use Rattle.std.proofs.Math.ListN.{get_or-append}
use Rattle.std.proofs.lemmas.List.{get_or-append_right, get_or-take, get_or-drop, length-take-le}
use Rattle.cells.specs.Contents.{UNDEFINED, cell_at, part, overwritten}

module _ (xs : List ℕ) (at : ℕ) (ys : List ℕ) (inside : at + length ys ≤ length xs) where
  front : length (take at xs) ≡ at
  front = length-take-le at xs (omega (arith, inside))

  both : length (take at xs ++ ys) ≡ at + length ys
  both = length-append (take at xs) ys ∙ ap (λ n. n + length ys) front

  pub overwritten-before : (i : ℕ) → i < at → cell_at (overwritten xs at ys) i ≡ cell_at xs i
  overwritten-before i lt =
      get_or-append (take at xs ++ ys) (drop (at + length ys) xs) UNDEFINED i (omega (arith, both, lt))
      ∙ get_or-append (take at xs) ys UNDEFINED i (omega (arith, front, lt))
      ∙ get_or-take at xs i UNDEFINED lt

  pub overwritten-inside : (j : ℕ) → j < length ys → cell_at (overwritten xs at ys) (at + j) ≡ cell_at ys j
  overwritten-inside j lt =
      let back : at + j - at ≡ j = omega arith in
      get_or-append (take at xs ++ ys) (drop (at + length ys) xs) UNDEFINED (at + j) (omega (arith, both, lt))
      ∙ get_or-append_right (take at xs) ys at (at + j) UNDEFINED front (omega arith)
      ∙ ap (cell_at ys) back

  pub overwritten-after : (i : ℕ) → at + length ys ≤ i → cell_at (overwritten xs at ys) i ≡ cell_at xs i
  overwritten-after i past =
      let back : at + length ys + (i - (at + length ys)) ≡ i = omega (arith, past) in
      get_or-append_right (take at xs ++ ys) (drop (at + length ys) xs) (at + length ys) i UNDEFINED both past
      ∙ get_or-drop (at + length ys) xs (i - (at + length ys)) UNDEFINED
      ∙ ap (cell_at xs) back

  pub overwritten-outside : (i : ℕ) → (i < at) ⊎ (at + length ys ≤ i) → cell_at (overwritten xs at ys) i ≡ cell_at xs i
  overwritten-outside i (inl before) = overwritten-before i before
  overwritten-outside i (inr past) = overwritten-after i past

  pub length-overwritten : length (overwritten xs at ys) ≡ length xs
  length-overwritten =
      length-append (take at xs ++ ys) (drop (at + length ys) xs)
      ∙ ap (λ n. n + length (drop (at + length ys) xs)) both
      ∙ omega (arith, inside, Rattle.std.proofs.lemmas.List.length-drop (at + length ys) xs)

pub part-at : (xs : List ℕ) (at len j : ℕ) → j < len → cell_at (part xs at len) j ≡ cell_at xs (at + j)
part-at xs at len j lt = get_or-take len (drop at xs) j UNDEFINED lt ∙ get_or-drop at xs j UNDEFINED

pub length-part : (xs : List ℕ) (at len : ℕ) → at + len ≤ length xs → length (part xs at len) ≡ len
length-part xs at len inside = length-take-le len (drop at xs) (omega (arith, inside, Rattle.std.proofs.lemmas.List.length-drop at xs))
