-- The last number of a line that passes a test.
use Rattle.std.proofs.Common.{◌≡◌, ℕ, zero, suc, ◌+◌, ◌<◌, Bool, true, false, cond, Option, Some, None, List, [], ◌∷◌, refl, sym, ◌∙◌, ap, subst, arith, inl, inr}
use Rattle.std.specs.Prelude.{◌⊎◌}
use Rattle.std.specs.List.{filter, range_with_len}
use Rattle.std.proofs.lemmas.Bool.{cases_Bool}
use Rattle.gl_model.specs.ImageEffect.{last_of}

-- this number of the line passes, and none after it
pub record IsLastAt (p : ℕ → Bool) (a n r : ℕ) : Type 0 where
  pub place : ℕ
  pub is : r ≡ a + place
  pub below : place < n
  pub passes : p r ≡ true
  pub later : (k : ℕ) → place < k → k < n → p (a + k) ≡ false

abbrev pub NonePasses : (ℕ → Bool) → ℕ → ℕ → Type 0
NonePasses p a n = (k : ℕ) → k < n → p (a + k) ≡ false

abbrev pub IsLast : (ℕ → Bool) → ℕ → ℕ → Option ℕ → Type 0
IsLast p a n None = NonePasses p a n
IsLast p a n (Some r) = IsLastAt p a n r

module _ (p : ℕ → Bool) (a n : ℕ) where
  none_before : p a ≡ false → NonePasses p (a + 1) n → NonePasses p a (suc n)
  none_before first none zero lt = let e : a + 0 ≡ a = omega arith in ap p e ∙ first
  none_before first none (suc k) lt = let e : a + suc k ≡ a + 1 + k = omega arith in ap p e ∙ none k (omega (arith, lt))

  last_before : (r : ℕ) → IsLastAt p (a + 1) n r → IsLastAt p a (suc n) r
  last_before r last =
      let is = last.is in
      let below = last.below in
      record {
        place = suc last.place;
        is = omega (arith, is);
        below = omega (arith, below);
        passes = last.passes;
        later = λ k after lt. later k after lt;
      }
    where
      later : (k : ℕ) → suc last.place < k → k < suc n → p (a + k) ≡ false
      later zero after lt = absurd (omega (arith, after))
      later (suc k) after lt = let e : a + suc k ≡ a + 1 + k = omega arith in ap p e ∙ last.later k (omega (arith, after)) (omega (arith, lt))

  alone : p a ≡ true → NonePasses p (a + 1) n → IsLastAt p a (suc n) a
  alone first none = record { place = 0; is = omega arith; below = omega arith; passes = first; later = λ k after lt. later k after lt }
    where
      later : (k : ℕ) → 0 < k → k < suc n → p (a + k) ≡ false
      later zero after lt = absurd (omega (arith, after))
      later (suc k) after lt = let e : a + suc k ≡ a + 1 + k = omega arith in ap p e ∙ none k (omega (arith, lt))

  -- one more at the head
  headed : (xs : List ℕ) → p a ≡ true → IsLast p (a + 1) n (last_of xs) → IsLast p a (suc n) (last_of (a ∷ xs))
  headed [] first none = alone first none
  headed (m ∷ xs) first last = shifted (last_of (m ∷ xs)) (found m xs) last
    where
      found : (m : ℕ) (xs : List ℕ) → (r : ℕ) × (last_of (m ∷ xs) ≡ Some r)
      found m [] = (m, refl)
      found m (k ∷ xs) = found k xs

      shifted : (o : Option ℕ) → (r : ℕ) × (o ≡ Some r) → IsLast p (a + 1) n o → IsLast p a (suc n) o
      shifted (Some r) is last = last_before r last
      shifted None is last = let no : ⊥ = (let e = is.1 in cc) in absurd no

  unheaded : (o : Option ℕ) → p a ≡ false → IsLast p (a + 1) n o → IsLast p a (suc n) o
  unheaded None first none = none_before first none
  unheaded (Some r) first last = last_before r last

pub last_is : (p : ℕ → Bool) (a n : ℕ) → IsLast p a n (last_of (filter p (range_with_len a n)))
last_is p a zero = λ k lt. absurd (omega arith)
last_is p a (suc n) = go (cases_Bool (p a)) (last_is p (a + 1) n)
  where
    go : (p a ≡ true) ⊎ (p a ≡ false) → IsLast p (a + 1) n (last_of (filter p (range_with_len (a + 1) n))) → IsLast p a (suc n) (last_of (cond (p a) (a ∷ filter p (range_with_len (a + 1) n)) (filter p (range_with_len (a + 1) n))))
    go (inl passes) rest = subst (λ t. IsLast p a (suc n) (last_of (cond t (a ∷ filter p (range_with_len (a + 1) n)) (filter p (range_with_len (a + 1) n))))) (sym passes) (headed p a n (filter p (range_with_len (a + 1) n)) passes rest)
    go (inr fails) rest = subst (λ t. IsLast p a (suc n) (last_of (cond t (a ∷ filter p (range_with_len (a + 1) n)) (filter p (range_with_len (a + 1) n))))) (sym fails) (unheaded p a n (last_of (filter p (range_with_len (a + 1) n))) fails rest)
