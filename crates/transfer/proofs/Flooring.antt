-- The column that a blit reads, exactly and by coordinates that are moved up.
use Rattle.std.proofs.Common.{◌≡◌, ℕ, zero, suc, ◌+◌, ◌-◌, ◌*◌, ◌/◌, ◌%◌, ◌<◌, ◌≤◌, refl, sym, ◌∙◌, ap, arith, inl, inr}
use Rattle.std.specs.Prelude.{◌⊎◌, min, max, ℤ, pos, negsuc, neg_ℤ, ◌+ℤ◌, ◌-ℤ◌, ◌*ℤ◌, nat_lt, nat_le}
use Rattle.std.specs.Int.{int_div_euclid}
use Rattle.std.proofs.Math.Nat.{mul_comm, mul-le-mul_right}
use Rattle.std.proofs.lemmas.Int.{ints}
use Rattle.std.proofs.lemmas.Bool.{le-ltb, cond-false, cond-true, cases_lt, le-leb, lt-leb, lt-ltb}
use Rattle.std.proofs.lemmas.Nat.{mul-le, div_below, div-add-mod', mod_below, div-mul-add}
use Rattle.gl_model.specs.ImageEffect.{floor_div, blit_source}
use Rattle.vk_model.specs.Cells.{middle, scaled}

-- Quotients to the lower number

neg_neg : (n : ℕ) → neg_ℤ (neg_ℤ (pos n)) ≡ pos n
neg_neg zero = refl
neg_neg (suc n) = refl

neg_pos : (n : ℕ) → 0 < n → neg_ℤ (pos n) ≡ negsuc (n - 1)
neg_pos zero some = absurd (omega arith)
neg_pos (suc n) some = let e : n ≡ suc n - 1 = omega arith in ap negsuc e

pub floor_up : (m s v : ℕ) → floor_div (pos m *ℤ pos s) (pos v) ≡ pos (m * s / v)
floor_up m s v = cond-false (nat_lt v 0) (int_div_euclid (neg_ℤ (pos (m * s))) (neg_ℤ (pos v))) (pos (m * s / v)) (le-ltb v 0 (omega arith))

some_product : (m n : ℕ) → 0 < m → 0 < n → 0 < m * n
some_product m n one two = let least : 1 * 1 ≤ m * n = mul-le 1 1 m n one two in omega (arith, least)

pub floor_down : (m t v : ℕ) → 0 < m → floor_div (pos m *ℤ negsuc t) (pos v) ≡ negsuc ((m * suc t - 1) / v)
floor_down m t v some =
    ap (λ z. floor_div z (pos v)) (neg_pos (m * suc t) (some_product m (suc t) some (omega arith)))
    ∙ cond-false (nat_lt v 0) (int_div_euclid (neg_ℤ (negsuc (m * suc t - 1))) (neg_ℤ (pos v))) (negsuc ((m * suc t - 1) / v)) (le-ltb v 0 (omega arith))

pub floor_up_turned : (m s v : ℕ) → floor_div (negsuc m *ℤ pos s) (negsuc v) ≡ pos (suc m * s / suc v)
floor_up_turned m s v = ap (λ z. int_div_euclid z (pos (suc v))) (neg_neg (suc m * s))

pub floor_down_turned : (m t v : ℕ) → floor_div (negsuc m *ℤ negsuc t) (negsuc v) ≡ negsuc ((suc m * suc t - 1) / suc v)
floor_down_turned m t v = ap (λ z. int_div_euclid z (pos (suc v))) (neg_pos (suc m * suc t) (some_product (suc m) (suc t) (omega arith) (omega arith)))

-- Coordinates that are moved up by so many

-- what is left of a number after one before it
pub differ_up : (d0 d1 : ℤ) (m0 m1 up : ℕ) → d0 +ℤ pos up ≡ pos m0 → d1 +ℤ pos up ≡ pos m1 → m0 ≤ m1 → d1 -ℤ d0 ≡ pos (m1 - m0)
differ_up d0 d1 m0 m1 up is0 is1 le = omega (arith, ints)

pub differ_down : (d0 d1 : ℤ) (m0 m1 up : ℕ) → d0 +ℤ pos up ≡ pos m0 → d1 +ℤ pos up ≡ pos m1 → m1 < m0 → d1 -ℤ d0 ≡ negsuc (m0 - m1 - 1)
differ_down d0 d1 m0 m1 up is0 is1 lt = omega (arith, ints)

way_up : (d0 : ℤ) (m0 up x : ℕ) → d0 +ℤ pos up ≡ pos m0 → m0 ≤ x + up → (pos 2 *ℤ pos x) +ℤ (pos 1 -ℤ (pos 2 *ℤ d0)) ≡ pos (2 * (x + up) + 1 - 2 * m0)
way_up d0 m0 up x is le = omega (arith, ints)

way_down : (d0 : ℤ) (m0 up x : ℕ) → d0 +ℤ pos up ≡ pos m0 → x + up < m0 → (pos 2 *ℤ pos x) +ℤ (pos 1 -ℤ (pos 2 *ℤ d0)) ≡ negsuc (2 * m0 - (2 * (x + up) + 1) - 1)
way_down d0 m0 up x is lt = omega (arith, ints)

-- a quotient to the greater number
ceiling : (p v : ℕ) → 0 < p → 0 < v → (p + (v - 1)) / v ≡ (p - 1) / v + 1
ceiling p v some wide =
    let whole : (p - 1) / v * v + (p - 1) % v ≡ p - 1 = div-add-mod' (p - 1) v in
    let next : ((p - 1) / v + 1) * v ≡ (p - 1) / v * v + v = grind arith in
    let is : p + (v - 1) ≡ ((p - 1) / v + 1) * v + (p - 1) % v = omega (arith, whole, next, some, wide) in
    ap (λ n. n / v) is ∙ div-mul-add ((p - 1) / v + 1) v ((p - 1) % v) (mod_below (p - 1) v wide)

-- a column of a destination, and coordinates that are moved up by so many
module _ (s0 s1 d0 d1 : ℤ) (n0 n1 m0 m1 up x : ℕ) (is_s0 : s0 +ℤ pos up ≡ pos n0) (is_s1 : s1 +ℤ pos up ≡ pos n1) (is_d0 : d0 +ℤ pos up ≡ pos m0) (is_d1 : d1 +ℤ pos up ≡ pos m1)
    (from : min m0 m1 ≤ x + up) (below : x + up < max m0 m1) where
  abbrev wide : ℕ
  wide = 2 * (max m0 m1 - min m0 m1)

  abbrev way : ℕ
  way = middle m0 m1 (x + up)

  abbrev steps : ℤ
  steps = floor_div (((pos 2 *ℤ pos x) +ℤ (pos 1 -ℤ (pos 2 *ℤ d0))) *ℤ (s1 -ℤ s0)) (pos 2 *ℤ (d1 -ℤ d0))

  way_upright : m0 < m1 → middle m0 m1 (x + up) ≡ 2 * (x + up) + 1 - 2 * m0
  way_upright lt = cond-true (nat_lt m0 m1) (2 * (x + up) + 1 - 2 * m0) (2 * m0 - (2 * (x + up) + 1)) (lt-ltb m0 m1 lt)

  way_turned : m1 ≤ m0 → middle m0 m1 (x + up) ≡ 2 * m0 - (2 * (x + up) + 1)
  way_turned le = cond-false (nat_lt m0 m1) (2 * (x + up) + 1 - 2 * m0) (2 * m0 - (2 * (x + up) + 1)) (le-ltb m0 m1 le)

  some_way : 0 < middle m0 m1 (x + up)
  some_way = go (cases_lt m0 m1)
    where
      go : (m0 < m1) ⊎ (m1 ≤ m0) → 0 < middle m0 m1 (x + up)
      go (inl lt) = let is = way_upright lt in let f = from in omega (arith, is, f, lt)
      go (inr le) = let is = way_turned le in let b = below in omega (arith, is, b, le)

  short_way : middle m0 m1 (x + up) ≤ 2 * (max m0 m1 - min m0 m1)
  short_way = go (cases_lt m0 m1)
    where
      go : (m0 < m1) ⊎ (m1 ≤ m0) → middle m0 m1 (x + up) ≤ 2 * (max m0 m1 - min m0 m1)
      go (inl lt) = let is = way_upright lt in let b = below in omega (arith, is, b, lt)
      go (inr le) = let is = way_turned le in let f = from in omega (arith, is, f, le)

  some_width : 0 < 2 * (max m0 m1 - min m0 m1)
  some_width = let f = from in let b = below in omega (arith, f, b)

  -- the factors
  upright_way : m0 < m1 → (pos 2 *ℤ pos x) +ℤ (pos 1 -ℤ (pos 2 *ℤ d0)) ≡ pos way
  upright_way lt = way_up d0 m0 up x is_d0 (let f = from in omega (arith, f, lt)) ∙ ap pos (sym (way_upright lt))

  upright_wide : m0 < m1 → pos 2 *ℤ (d1 -ℤ d0) ≡ pos wide
  upright_wide lt = ap (λ z. pos 2 *ℤ z) (differ_up d0 d1 m0 m1 up is_d0 is_d1 (omega (arith, lt))) ∙ (let e : 2 * (m1 - m0) ≡ 2 * (max m0 m1 - min m0 m1) = omega (arith, lt) in ap pos e)

  turned_way : m1 ≤ m0 → (pos 2 *ℤ pos x) +ℤ (pos 1 -ℤ (pos 2 *ℤ d0)) ≡ negsuc (way - 1)
  turned_way le = way_down d0 m0 up x is_d0 (let b = below in omega (arith, b, le)) ∙ (let e : 2 * m0 - (2 * (x + up) + 1) - 1 ≡ way - 1 = ap (λ n. n - 1) (sym (way_turned le)) in ap negsuc e)

  turned_wide : m1 ≤ m0 → pos 2 *ℤ (d1 -ℤ d0) ≡ negsuc (wide - 1)
  turned_wide le =
      let lt : m1 < m0 = (let f = from in let b = below in omega (arith, le, f, b)) in
      let e : 2 * suc (m0 - m1 - 1) - 1 ≡ 2 * (max m0 m1 - min m0 m1) - 1 = omega (arith, lt) in
      ap (λ z. pos 2 *ℤ z) (differ_down d0 d1 m0 m1 up is_d0 is_d1 lt)
      ∙ neg_pos (2 * suc (m0 - m1 - 1)) (omega arith)
      ∙ ap negsuc e

  -- the whole steps
  steps_up : n0 ≤ n1 → steps ≡ pos (way * (n1 - n0) / wide)
  steps_up le = ap (λ z. floor_div (((pos 2 *ℤ pos x) +ℤ (pos 1 -ℤ (pos 2 *ℤ d0))) *ℤ z) (pos 2 *ℤ (d1 -ℤ d0))) (differ_up s0 s1 n0 n1 up is_s0 is_s1 le) ∙ go (cases_lt m0 m1)
    where
      go : (m0 < m1) ⊎ (m1 ≤ m0) → floor_div (((pos 2 *ℤ pos x) +ℤ (pos 1 -ℤ (pos 2 *ℤ d0))) *ℤ pos (n1 - n0)) (pos 2 *ℤ (d1 -ℤ d0)) ≡ pos (way * (n1 - n0) / wide)
      go (inl lt) =
          ap (λ z. floor_div (z *ℤ pos (n1 - n0)) (pos 2 *ℤ (d1 -ℤ d0))) (upright_way lt)
          ∙ ap (λ z. floor_div (pos way *ℤ pos (n1 - n0)) z) (upright_wide lt)
          ∙ floor_up way (n1 - n0) wide
      go (inr le) =
          let w : suc (way - 1) ≡ way = (let some = some_way in omega (arith, some)) in
          let v : suc (wide - 1) ≡ wide = (let some = some_width in omega (arith, some)) in
          ap (λ z. floor_div (z *ℤ pos (n1 - n0)) (pos 2 *ℤ (d1 -ℤ d0))) (turned_way le)
          ∙ ap (λ z. floor_div (negsuc (way - 1) *ℤ pos (n1 - n0)) z) (turned_wide le)
          ∙ floor_up_turned (way - 1) (n1 - n0) (wide - 1)
          ∙ ap (λ n. pos (n * (n1 - n0) / suc (wide - 1))) w
          ∙ ap (λ n. pos (way * (n1 - n0) / n)) v

  steps_down : n1 < n0 → steps ≡ negsuc ((way * (n0 - n1) - 1) / wide)
  steps_down lt = ap (λ z. floor_div (((pos 2 *ℤ pos x) +ℤ (pos 1 -ℤ (pos 2 *ℤ d0))) *ℤ z) (pos 2 *ℤ (d1 -ℤ d0))) (differ_down s0 s1 n0 n1 up is_s0 is_s1 lt) ∙ go (cases_lt m0 m1)
    where
      t : suc (n0 - n1 - 1) ≡ n0 - n1
      t = omega (arith, lt)

      go : (m0 < m1) ⊎ (m1 ≤ m0) → floor_div (((pos 2 *ℤ pos x) +ℤ (pos 1 -ℤ (pos 2 *ℤ d0))) *ℤ negsuc (n0 - n1 - 1)) (pos 2 *ℤ (d1 -ℤ d0)) ≡ negsuc ((way * (n0 - n1) - 1) / wide)
      go (inl up_lt) =
          ap (λ z. floor_div (z *ℤ negsuc (n0 - n1 - 1)) (pos 2 *ℤ (d1 -ℤ d0))) (upright_way up_lt)
          ∙ ap (λ z. floor_div (pos way *ℤ negsuc (n0 - n1 - 1)) z) (upright_wide up_lt)
          ∙ floor_down way (n0 - n1 - 1) wide some_way
          ∙ ap (λ n. negsuc ((way * n - 1) / wide)) t
      go (inr le) =
          let w : suc (way - 1) ≡ way = (let some = some_way in omega (arith, some)) in
          let v : suc (wide - 1) ≡ wide = (let some = some_width in omega (arith, some)) in
          ap (λ z. floor_div (z *ℤ negsuc (n0 - n1 - 1)) (pos 2 *ℤ (d1 -ℤ d0))) (turned_way le)
          ∙ ap (λ z. floor_div (negsuc (way - 1) *ℤ negsuc (n0 - n1 - 1)) z) (turned_wide le)
          ∙ floor_down_turned (way - 1) (n0 - n1 - 1) (wide - 1)
          ∙ ap (λ n. negsuc ((n * suc (n0 - n1 - 1) - 1) / suc (wide - 1))) w
          ∙ ap (λ n. negsuc ((way * n - 1) / suc (wide - 1))) t
          ∙ ap (λ n. negsuc ((way * (n0 - n1) - 1) / n)) v

  -- both columns
  add_up : (q : ℕ) → (s0 +ℤ pos q) +ℤ pos up ≡ pos (n0 + q)
  add_up q = let is = is_s0 in omega (arith, ints, is)

  add_down : (q : ℕ) → q + 1 ≤ n0 → (s0 +ℤ negsuc q) +ℤ pos up ≡ pos (n0 - (q + 1))
  add_down q le = let is = is_s0 in omega (arith, ints, is, le)

  pub source_is : blit_source s0 s1 d0 d1 (pos x) +ℤ pos up ≡ pos (scaled n0 n1 m0 m1 (x + up))
  source_is = go (cases_lt n1 n0)
    where
      go : (n1 < n0) ⊎ (n0 ≤ n1) → blit_source s0 s1 d0 d1 (pos x) +ℤ pos up ≡ pos (scaled n0 n1 m0 m1 (x + up))
      go (inr le) =
          ap (λ z. (s0 +ℤ z) +ℤ pos up) (steps_up le)
          ∙ add_up (way * (n1 - n0) / wide)
          ∙ ap pos (sym (cond-true (nat_le n0 n1) (n0 + way * (n1 - n0) / wide) (n0 - (way * (n0 - n1) + (wide - 1)) / wide) (le-leb n0 n1 le)))
      go (inl lt) =
          let some = some_way in
          let wide_enough = some_width in
          let gap : 0 < n0 - n1 = omega (arith, lt) in
          let all : 0 < way * (n0 - n1) = some_product way (n0 - n1) some gap in
          let most : way * (n0 - n1) ≤ wide * (n0 - n1) = mul-le-mul_right (n0 - n1) short_way in
          let turned : wide * (n0 - n1) ≡ (n0 - n1) * wide = mul_comm wide (n0 - n1) in
          let few : (way * (n0 - n1) - 1) / wide < n0 - n1 = div_below (way * (n0 - n1) - 1) wide (n0 - n1) wide_enough (omega (arith, all, most, turned)) in
          let up_to : (way * (n0 - n1) + (wide - 1)) / wide ≡ (way * (n0 - n1) - 1) / wide + 1 = ceiling (way * (n0 - n1)) wide all wide_enough in
          ap (λ z. (s0 +ℤ z) +ℤ pos up) (steps_down lt)
          ∙ add_down ((way * (n0 - n1) - 1) / wide) (omega (arith, few))
          ∙ ap (λ n. pos (n0 - n)) (sym up_to)
          ∙ ap pos (sym (cond-false (nat_le n0 n1) (n0 + way * (n1 - n0) / wide) (n0 - (way * (n0 - n1) + (wide - 1)) / wide) (lt-leb n0 n1 lt)))
