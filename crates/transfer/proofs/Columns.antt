-- The columns that a blit reads, by what OpenGL ES says and by what the device does.
use Rattle.std.proofs.Common.{◌≡◌, ℕ, suc, ◌+◌, ◌-◌, ◌^◌, ◌<◌, ◌≤◌, Bool, true, false, eqb, refl, sym, ◌∙◌, ap, arith, inl, inr}
use Rattle.std.specs.Prelude.{◌⊎◌, ◌&&◌, min, max, not, ℤ, pos, negsuc, ◌+ℤ◌, ◌-ℤ◌, nat_lt, nat_le, int_lt, int_le, unsigned_abs, FitsSigned, Some, None}
use Rattle.std.specs.Int.{int_min, int_max, w32}
use Rattle.std.proofs.lemmas.Int.{ints, clamps}
use Rattle.std.proofs.lemmas.Bool.{cases_Bool, cases_lt, and_from, and_left, and_right, and_parts, and_cases, not_from_false, not_from_true, ne_eqb, eq-eqb, eqb-true, leb-true, leb-false, ltb-true, ltb-false, le-leb, lt-leb, lt-ltb, le-ltb, cond-true, cond-false, false≢true, true≢false}
use Rattle.gl_model.specs.ImageEffect.{in_int_range, is_between, blit_source}
use Rattle.vk_model.specs.Cells.{origin, moved, scaled, in_source, source_of}
use Rattle.vk_effects.specs.Places.{IsBeside}
use Rattle.transfer.specs.Overlaps.{entered}
use Rattle.transfer.specs.Blits.{begins, count_between}
use Rattle.transfer.proofs.Painting.{IsAmong}
use Rattle.transfer.proofs.Reading.{sub_below, sub_above}
use Rattle.transfer.proofs.Flooring.{differ_up, differ_down, source_is}

-- Between two ends

at_least : (z : ℤ) (x : ℕ) → int_le z (pos x) ≡ true → entered z ≤ x
at_least (pos a) x test = leb-true a x test
at_least (negsuc a) x test = omega arith

not_least : (z : ℤ) (x : ℕ) → int_le z (pos x) ≡ false → x < entered z
not_least (pos a) x test = leb-false a x test
not_least (negsuc a) x test = absurd (true≢false test)

below_it : (z : ℤ) (x : ℕ) → int_lt (pos x) z ≡ true → x < entered z
below_it (pos a) x test = ltb-true x a test
below_it (negsuc a) x test = absurd (false≢true test)

not_below : (z : ℤ) (x : ℕ) → int_lt (pos x) z ≡ false → entered z ≤ x
not_below (pos a) x test = ltb-false x a test
not_below (negsuc a) x test = omega arith

-- a number of the line that is between the ends, and one that is not
pub among_both : (from len : ℕ) (d0 d1 : ℤ) (x : ℕ) → IsAmong from len x → is_between d0 d1 (pos x) ≡ true → IsAmong (begins from d0 d1) (count_between from len d0 d1) x
among_both from len d0 d1 x among between =
    let parts = and_parts (int_le (int_min d0 d1) (pos x)) (int_lt (pos x) (int_max d0 d1)) between in
    let low : entered (int_min d0 d1) ≤ x = at_least (int_min d0 d1) x parts.0 in
    let high : x < entered (int_max d0 d1) = below_it (int_max d0 d1) x parts.1 in
    let start = among.from in
    let end = among.below in
    record { from = omega (arith, low, start); is = omega (arith, low, start); below = omega (arith, low, high, start, end) }

pub beside_ends : (from len : ℕ) (d0 d1 : ℤ) (x : ℕ) → is_between d0 d1 (pos x) ≡ false → IsBeside (pos (begins from d0 d1)) (count_between from len d0 d1) x
beside_ends from len d0 d1 x test = go (and_cases (int_le (int_min d0 d1) (pos x)) (int_lt (pos x) (int_max d0 d1)) test) (cases_lt x (begins from d0 d1))
  where
    go : (int_le (int_min d0 d1) (pos x) ≡ false) ⊎ (int_lt (pos x) (int_max d0 d1) ≡ false) → (x < begins from d0 d1) ⊎ (begins from d0 d1 ≤ x) → (x < begins from d0 d1) ⊎ (begins from d0 d1 + count_between from len d0 d1 ≤ x)
    go ends (inl before) = inl before
    go (inl low) (inr from') = absurd (let before = not_least (int_min d0 d1) x low in omega (arith, before, from'))
    go (inr high) (inr from') = inr (let past = not_below (int_max d0 d1) x high in omega (arith, past, from'))

pub beside_both : (from len : ℕ) (d0 d1 : ℤ) (x : ℕ) → (x < from) ⊎ (from + len ≤ x) → IsBeside (pos (begins from d0 d1)) (count_between from len d0 d1) x
beside_both from len d0 d1 x (inl before) = inl (omega (arith, before))
beside_both from len d0 d1 x (inr past) = go (cases_lt x (begins from d0 d1))
  where
    go : (x < begins from d0 d1) ⊎ (begins from d0 d1 ≤ x) → (x < begins from d0 d1) ⊎ (begins from d0 d1 + count_between from len d0 d1 ≤ x)
    go (inl before) = inl before
    go (inr from') = inr (omega (arith, past, from'))

pub nothing_between : (from len : ℕ) (d0 d1 : ℤ) → len ≡ 0 → count_between from len d0 d1 ≡ 0
nothing_between from len d0 d1 none = omega (arith, none)

-- Moved up

pub moved_is : (z : ℤ) → FitsSigned w32 z → z +ℤ pos origin ≡ pos (moved z)
moved_is (pos a) fits = refl
moved_is (negsuc a) fits = let low : a < 2 ^ 31 = fits.sfits in sub_below origin (suc a) (omega (arith, low))

min_moved : (d0 d1 : ℤ) (m0 m1 up : ℕ) → d0 +ℤ pos up ≡ pos m0 → d1 +ℤ pos up ≡ pos m1 → int_min d0 d1 +ℤ pos up ≡ pos (min m0 m1)
min_moved d0 d1 m0 m1 up is0 is1 = omega (arith, ints, clamps)

max_moved : (d0 d1 : ℤ) (m0 m1 up : ℕ) → d0 +ℤ pos up ≡ pos m0 → d1 +ℤ pos up ≡ pos m1 → int_max d0 d1 +ℤ pos up ≡ pos (max m0 m1)
max_moved d0 d1 m0 m1 up is0 is1 = omega (arith, ints, clamps)

le_moved : (z : ℤ) (x k up : ℕ) → z +ℤ pos up ≡ pos k → int_le z (pos x) ≡ true → k ≤ x + up
le_moved z x k up is test = grind (arith, ints)

lt_moved : (z : ℤ) (x k up : ℕ) → z +ℤ pos up ≡ pos k → int_lt (pos x) z ≡ true → x + up < k
lt_moved z x k up is test = grind (arith, ints)

-- The column that is read

pub read_at : (size : ℕ) (z : ℤ) (s : ℕ) → z +ℤ pos origin ≡ pos s → in_int_range (pos 0) size z ≡ true → in_source size s ≡ Some (unsigned_abs z)
read_at size (pos b) s is test =
    let value : b + origin ≡ s = cc in
    let below : b < 0 + size = ltb-true b (0 + size) (and_parts (nat_le 0 b) (nat_lt b (0 + size)) test).1 in
    let back : s - origin ≡ b = omega (arith, value) in
    cond-true (nat_le origin s && nat_lt s (origin + size)) (Some (s - origin)) None
    (and_from (nat_le origin s) (nat_lt s (origin + size)) (le-leb origin s (omega (arith, value))) (lt-ltb s (origin + size) (omega (arith, value, below))))
    ∙ ap (λ n. Some n) back
read_at size (negsuc b) s is test = absurd (false≢true test)

pub not_read_at : (size : ℕ) (z : ℤ) (s : ℕ) → z +ℤ pos origin ≡ pos s → in_int_range (pos 0) size z ≡ false → in_source size s ≡ None
not_read_at size (pos b) s is test =
    let value : b + origin ≡ s = cc in
    let past : 0 + size ≤ b = elim (and_cases (nat_le 0 b) (nat_lt b (0 + size)) test) [ inl low ↦ absurd (let no = leb-false 0 b low in omega (arith, no)) | inr high ↦ ltb-false b (0 + size) high ] in
    cond-false (nat_le origin s && nat_lt s (origin + size)) (Some (s - origin)) None
    (and_right (nat_le origin s) (nat_lt s (origin + size)) (le-ltb s (origin + size) (omega (arith, value, past))))
not_read_at size (negsuc b) s is test = go (cases_lt origin (suc b))
  where
    go : (origin < suc b) ⊎ (suc b ≤ origin) → in_source size s ≡ None
    go (inl far) = let no : negsuc (suc b - suc origin) ≡ pos s = sym (sub_above origin (suc b) far) ∙ is in absurd (let bad : ⊥ = cc in bad)
    go (inr near) =
        let here : pos (origin - suc b) ≡ pos s = sym (sub_below origin (suc b) near) ∙ is in
        let value : origin - suc b ≡ s = cc in
        cond-false (nat_le origin s && nat_lt s (origin + size)) (Some (s - origin)) None
        (and_left (nat_le origin s) (nat_lt s (origin + size)) (lt-leb origin s (omega (arith, value, near))))

module _ (size : ℕ) (s0 s1 d0 d1 : ℤ) (x : ℕ) (fits_s0 : FitsSigned w32 s0) (fits_s1 : FitsSigned w32 s1) (fits_d0 : FitsSigned w32 d0) (fits_d1 : FitsSigned w32 d1) where
  abbrev test : Bool
  test = not (eqb (moved s0) (moved s1)) && nat_le (min (moved d0) (moved d1)) (x + origin) && nat_lt (x + origin) (max (moved d0) (moved d1))

  abbrev column : ℕ
  column = scaled (moved s0) (moved s1) (moved d0) (moved d1) (x + origin)

  column_is : min (moved d0) (moved d1) ≤ x + origin → x + origin < max (moved d0) (moved d1) → blit_source s0 s1 d0 d1 (pos x) +ℤ pos origin ≡ pos column
  column_is from below = source_is s0 s1 d0 d1 (moved s0) (moved s1) (moved d0) (moved d1) origin x (moved_is s0 fits_s0) (moved_is s1 fits_s1) (moved_is d0 fits_d0) (moved_is d1 fits_d1) from below

  differ_nothing : moved s0 ≡ moved s1 → unsigned_abs (s1 -ℤ s0) ≡ 0
  differ_nothing same = ap unsigned_abs (differ_up s0 s1 (moved s0) (moved s1) origin (moved_is s0 fits_s0) (moved_is s1 fits_s1) (omega (arith, same))) ∙ omega (arith, same)

  moved_alike : unsigned_abs (s1 -ℤ s0) ≡ 0 → moved s0 ≡ moved s1
  moved_alike none = go (cases_lt (moved s1) (moved s0))
    where
      go : (moved s1 < moved s0) ⊎ (moved s0 ≤ moved s1) → moved s0 ≡ moved s1
      go (inl lt) =
          let gap : suc (moved s0 - moved s1 - 1) ≡ 0 = sym (ap unsigned_abs (differ_down s0 s1 (moved s0) (moved s1) origin (moved_is s0 fits_s0) (moved_is s1 fits_s1) lt)) ∙ none in
          absurd (omega (arith, gap))
      go (inr le) =
          let gap : moved s1 - moved s0 ≡ 0 = sym (ap unsigned_abs (differ_up s0 s1 (moved s0) (moved s1) origin (moved_is s0 fits_s0) (moved_is s1 fits_s1) le)) ∙ none in
          omega (arith, gap, le)

  pub column_reads : eqb (unsigned_abs (s1 -ℤ s0)) 0 ≡ false → is_between d0 d1 (pos x) ≡ true → in_int_range (pos 0) size (blit_source s0 s1 d0 d1 (pos x)) ≡ true → source_of size s0 s1 d0 d1 x ≡ Some (unsigned_abs (blit_source s0 s1 d0 d1 (pos x)))
  column_reads apart between inside =
      let parts = and_parts (int_le (int_min d0 d1) (pos x)) (int_lt (pos x) (int_max d0 d1)) between in
      let from : min (moved d0) (moved d1) ≤ x + origin = le_moved (int_min d0 d1) x (min (moved d0) (moved d1)) origin (min_moved d0 d1 (moved d0) (moved d1) origin (moved_is d0 fits_d0) (moved_is d1 fits_d1)) parts.0 in
      let below : x + origin < max (moved d0) (moved d1) = lt_moved (int_max d0 d1) x (max (moved d0) (moved d1)) origin (max_moved d0 d1 (moved d0) (moved d1) origin (moved_is d0 fits_d0) (moved_is d1 fits_d1)) parts.1 in
      let differ : eqb (moved s0) (moved s1) ≡ false = ne_eqb (moved s0) (moved s1) (λ same. false≢true (sym apart ∙ eq-eqb (unsigned_abs (s1 -ℤ s0)) 0 (differ_nothing same))) in
      let is : test ≡ true =
      and_from (not (eqb (moved s0) (moved s1)) && nat_le (min (moved d0) (moved d1)) (x + origin)) (nat_lt (x + origin) (max (moved d0) (moved d1)))
      (and_from (not (eqb (moved s0) (moved s1))) (nat_le (min (moved d0) (moved d1)) (x + origin)) (not_from_false (eqb (moved s0) (moved s1)) differ) (le-leb (min (moved d0) (moved d1)) (x + origin) from))
      (lt-ltb (x + origin) (max (moved d0) (moved d1)) below) in
      cond-true test (in_source size column) None is
      ∙ read_at size (blit_source s0 s1 d0 d1 (pos x)) column (column_is from below) inside

  pub column_same : eqb (unsigned_abs (s1 -ℤ s0)) 0 ≡ true → source_of size s0 s1 d0 d1 x ≡ None
  column_same same =
      let alike : moved s0 ≡ moved s1 = moved_alike (eqb-true (unsigned_abs (s1 -ℤ s0)) 0 same) in
      cond-false test (in_source size column) None
      (and_left (not (eqb (moved s0) (moved s1)) && nat_le (min (moved d0) (moved d1)) (x + origin)) (nat_lt (x + origin) (max (moved d0) (moved d1)))
      (and_left (not (eqb (moved s0) (moved s1))) (nat_le (min (moved d0) (moved d1)) (x + origin)) (not_from_true (eqb (moved s0) (moved s1)) (eq-eqb (moved s0) (moved s1) alike))))

  pub column_misses : in_int_range (pos 0) size (blit_source s0 s1 d0 d1 (pos x)) ≡ false → source_of size s0 s1 d0 d1 x ≡ None
  column_misses outside = go (cases_Bool test)
    where
      go : (test ≡ true) ⊎ (test ≡ false) → source_of size s0 s1 d0 d1 x ≡ None
      go (inr fails) = cond-false test (in_source size column) None fails
      go (inl passes) =
          let parts = and_parts (not (eqb (moved s0) (moved s1)) && nat_le (min (moved d0) (moved d1)) (x + origin)) (nat_lt (x + origin) (max (moved d0) (moved d1))) passes in
          let front = and_parts (not (eqb (moved s0) (moved s1))) (nat_le (min (moved d0) (moved d1)) (x + origin)) parts.0 in
          let from : min (moved d0) (moved d1) ≤ x + origin = leb-true (min (moved d0) (moved d1)) (x + origin) front.1 in
          let below : x + origin < max (moved d0) (moved d1) = ltb-true (x + origin) (max (moved d0) (moved d1)) parts.1 in
          cond-true test (in_source size column) None passes
          ∙ not_read_at size (blit_source s0 s1 d0 d1 (pos x)) column (column_is from below) outside
