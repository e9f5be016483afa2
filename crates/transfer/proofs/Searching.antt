-- Whether one of so many numbers passes a test.
use Rattle.std.proofs.Common.{◌≡◌, ℕ, zero, suc, ◌+◌, ◌<◌, Bool, true, false, refl, sym, ◌∙◌, ap, subst, arith}
use Rattle.std.specs.List.{list_any, range_with_len}
use Rattle.std.proofs.lemmas.Bool.{or_left, or_right, or_from, or_parts, false≢true}

pub any_at : (p : ℕ → Bool) (a n k : ℕ) → k < n → p (a + k) ≡ true → list_any p (range_with_len a n) ≡ true
any_at p a zero k lt found = absurd (omega arith)
any_at p a (suc n) zero lt found =
    let e : a + 0 ≡ a = omega arith in
    or_left (p a) (list_any p (range_with_len (a + 1) n)) (sym (ap p e) ∙ found)
any_at p a (suc n) (suc k) lt found =
    let e : a + suc k ≡ a + 1 + k = omega arith in
    or_right (p a) (list_any p (range_with_len (a + 1) n)) (any_at p (a + 1) n k (omega (arith, lt)) (sym (ap p e) ∙ found))

pub none_at : (p : ℕ → Bool) (a n k : ℕ) → list_any p (range_with_len a n) ≡ false → k < n → p (a + k) ≡ false
none_at p a zero k none lt = absurd (omega arith)
none_at p a (suc n) zero none lt =
    let e : a + 0 ≡ a = omega arith in
    ap p e ∙ (or_parts (p a) (list_any p (range_with_len (a + 1) n)) none).0
none_at p a (suc n) (suc k) none lt =
    let e : a + suc k ≡ a + 1 + k = omega arith in
    ap p e ∙ none_at p (a + 1) n k (or_parts (p a) (list_any p (range_with_len (a + 1) n)) none).1 (omega (arith, lt))

pub none_more : (p : ℕ → Bool) (a n : ℕ) → list_any p (range_with_len a n) ≡ false → p (a + n) ≡ false → list_any p (range_with_len a (n + 1)) ≡ false
none_more p a n none last = let e : n + 1 ≡ suc n = omega arith in subst (λ m. list_any p (range_with_len a m) ≡ false) (sym e) (go a n none last)
  where
    go : (a n : ℕ) → list_any p (range_with_len a n) ≡ false → p (a + n) ≡ false → list_any p (range_with_len a (suc n)) ≡ false
    go a zero none last = let e : a + 0 ≡ a = omega arith in or_from (p a) false (sym (ap p e) ∙ last) refl
    go a (suc n) none last =
        let parts = or_parts (p a) (list_any p (range_with_len (a + 1) n)) none in
        let e : a + suc n ≡ a + 1 + n = omega arith in
        or_from (p a) (list_any p (range_with_len (a + 1) (suc n))) parts.0 (go (a + 1) n parts.1 (sym (ap p e) ∙ last))

-- a line with a number that passes has a number
pub some_found : (p : ℕ → Bool) (a n : ℕ) → list_any p (range_with_len a n) ≡ true → 0 < n
some_found p a zero found = absurd (false≢true found)
some_found p a (suc n) found = omega arith
