-- The columns that blits read.
use Rattle.std.proofs.Common.{◌≡◌, ℕ, ◌+◌, ◌-◌, ◌*◌, ◌/◌, ◌<◌, ◌≤◌, Bool, true, false, eqb, refl, ◌∙◌, ap, arith, inl, inr}
use Rattle.std.specs.Prelude.{◌⊎◌, ◌&&◌, ℤ, pos, Some, None, not, nat_le, nat_lt, min, max}
use Rattle.std.proofs.lemmas.Nat.{div-mul-add}
use Rattle.std.proofs.lemmas.Bool.{and_from, and_left, and_right, not_from_false, not_from_true, eq-eqb, ne_eqb, le-leb, lt-leb, lt-ltb, le-ltb, cond-true, cond-false}
use Rattle.vk_model.specs.Cells.{origin, moved, middle, scaled, in_source, source_of}
use Rattle.vk_effects.specs.Reads.{IsScaled, upright_column, turned_column}

-- The test that a column is read

is_read : (m0 m1 low high y : ℕ) → (m0 ≡ m1 → ⊥) → low ≤ y → y < high → (not (eqb m0 m1) && nat_le low y && nat_lt y high) ≡ true
is_read m0 m1 low high y apart from below =
    and_from (not (eqb m0 m1) && nat_le low y) (nat_lt y high)
    (and_from (not (eqb m0 m1)) (nat_le low y) (not_from_false (eqb m0 m1) (ne_eqb m0 m1 apart)) (le-leb low y from))
    (lt-ltb y high below)

module _ (size : ℕ) (s0 s1 d0 d1 : ℤ) (x : ℕ) where
  abbrev test : Bool
  test = not (eqb (moved s0) (moved s1)) && nat_le (min (moved d0) (moved d1)) (x + origin) && nat_lt (x + origin) (max (moved d0) (moved d1))

  abbrev source : ℕ
  source = scaled (moved s0) (moved s1) (moved d0) (moved d1) (x + origin)

  read_where : (moved s0 ≡ moved s1 → ⊥) → min (moved d0) (moved d1) ≤ x + origin → x + origin < max (moved d0) (moved d1) → source_of size s0 s1 d0 d1 x ≡ in_source size source
  read_where apart from below = cond-true test (in_source size source) None (is_read (moved s0) (moved s1) (min (moved d0) (moved d1)) (max (moved d0) (moved d1)) (x + origin) apart from below)

  not_read : test ≡ false → source_of size s0 s1 d0 d1 x ≡ None
  not_read no_test = cond-false test (in_source size source) None no_test

read_at : (size v : ℕ) → v < size → in_source size (v + origin) ≡ Some v
read_at size v below =
    let back : v + origin - origin ≡ v = omega arith in
    cond-true (nat_le origin (v + origin) && nat_lt (v + origin) (origin + size)) (Some (v + origin - origin)) None
    (and_from (nat_le origin (v + origin)) (nat_lt (v + origin) (origin + size)) (le-leb origin (v + origin) (omega arith)) (lt-ltb (v + origin) (origin + size) (omega (arith, below))))
    ∙ ap (λ n. Some n) back

read_past : (size v : ℕ) → size ≤ v → in_source size (v + origin) ≡ None
read_past size v past =
    cond-false (nat_le origin (v + origin) && nat_lt (v + origin) (origin + size)) (Some (v + origin - origin)) None
    (and_right (nat_le origin (v + origin)) (nat_lt (v + origin) (origin + size)) (le-ltb (v + origin) (origin + size) (omega (arith, past))))

-- The column that is read

module _ (s0 s1 d0 d1 x : ℕ) (is : IsScaled s0 s1 d0 d1 x) where
  wide : s0 < s1
  wide = is.has_width

  from : d0 ≤ x
  from = is.from

  below : x < d1
  below = is.below

  abbrev source_from : ℕ
  source_from = s0 + origin

  abbrev source_to : ℕ
  source_to = s1 + origin

  abbrev target_from : ℕ
  target_from = d0 + origin

  abbrev target_to : ℕ
  target_to = d1 + origin

  -- by the way to the middle, and the widths of the source and of the destination
  abbrev column : ℕ → ℕ → ℕ → ℕ
  column way source target = source_from + (way * source) / (2 * target)

  by_parts : (way source target way' : ℕ) → way ≡ way' → source ≡ s1 - s0 → target ≡ d1 - d0 → column way source target ≡ s0 + (way' * (s1 - s0)) / (2 * (d1 - d0)) + origin
  by_parts way source target way' e f g =
      ap (λ w. column w source target) e ∙ ap (λ n. column way' n target) f ∙ ap (λ n. column way' (s1 - s0) n) g ∙ omega arith

  scaled_by : (D D' : ℕ) → scaled source_from source_to D D' (x + origin) ≡ column (middle D D' (x + origin)) (source_to - source_from) (max D D' - min D D')
  scaled_by D D' = cond-true (nat_le source_from source_to) (column (middle D D' (x + origin)) (source_to - source_from) (max D D' - min D D')) _ (le-leb source_from source_to (let w = wide in omega (arith, w)))

  upright_middle : middle target_from target_to (x + origin) ≡ 2 * (x - d0) + 1
  upright_middle =
      let f = from in
      let b = below in
      cond-true (nat_lt target_from target_to) (2 * (x + origin) + 1 - 2 * target_from) (2 * target_from - (2 * (x + origin) + 1)) (lt-ltb target_from target_to (omega (arith, f, b)))
      ∙ omega (arith, f)

  turned_middle : middle target_to target_from (x + origin) ≡ 2 * (d1 - 1 - x) + 1
  turned_middle =
      let f = from in
      let b = below in
      cond-false (nat_lt target_to target_from) (2 * (x + origin) + 1 - 2 * target_to) (2 * target_to - (2 * (x + origin) + 1)) (le-ltb target_to target_from (omega (arith, f, b)))
      ∙ omega (arith, b)

  scaled_upright : scaled source_from source_to target_from target_to (x + origin) ≡ upright_column s0 s1 d0 d1 x + origin
  scaled_upright =
      let w = wide in
      let f = from in
      let b = below in
      scaled_by target_from target_to ∙ by_parts (middle target_from target_to (x + origin)) (source_to - source_from) (max target_from target_to - min target_from target_to) (2 * (x - d0) + 1) upright_middle (omega (arith, w)) (omega (arith, f, b))

  scaled_turned : scaled source_from source_to target_to target_from (x + origin) ≡ turned_column s0 s1 d0 d1 x + origin
  scaled_turned =
      let w = wide in
      let f = from in
      let b = below in
      scaled_by target_to target_from ∙ by_parts (middle target_to target_from (x + origin)) (source_to - source_from) (max target_to target_from - min target_to target_from) (2 * (d1 - 1 - x) + 1) turned_middle (omega (arith, w)) (omega (arith, f, b))

  upright_is : (size : ℕ) → source_of size (pos s0) (pos s1) (pos d0) (pos d1) x ≡ in_source size (upright_column s0 s1 d0 d1 x + origin)
  upright_is size =
      let w = wide in
      let f = from in
      let b = below in
      read_where size (pos s0) (pos s1) (pos d0) (pos d1) x (λ e. omega (arith, e, w)) (omega (arith, f)) (omega (arith, b)) ∙ ap (in_source size) scaled_upright

  turned_is : (size : ℕ) → source_of size (pos s0) (pos s1) (pos d1) (pos d0) x ≡ in_source size (turned_column s0 s1 d0 d1 x + origin)
  turned_is size =
      let w = wide in
      let f = from in
      let b = below in
      read_where size (pos s0) (pos s1) (pos d1) (pos d0) x (λ e. omega (arith, e, w)) (omega (arith, f)) (omega (arith, b)) ∙ ap (in_source size) scaled_turned

module _ (size s0 s1 d0 d1 x : ℕ) (is : IsScaled s0 s1 d0 d1 x) where
  pub upright : upright_column s0 s1 d0 d1 x < size → source_of size (pos s0) (pos s1) (pos d0) (pos d1) x ≡ Some (upright_column s0 s1 d0 d1 x)
  upright inside = upright_is s0 s1 d0 d1 x is size ∙ read_at size (upright_column s0 s1 d0 d1 x) inside

  pub turned : turned_column s0 s1 d0 d1 x < size → source_of size (pos s0) (pos s1) (pos d1) (pos d0) x ≡ Some (turned_column s0 s1 d0 d1 x)
  turned inside = turned_is s0 s1 d0 d1 x is size ∙ read_at size (turned_column s0 s1 d0 d1 x) inside

  pub past_the_source : size ≤ upright_column s0 s1 d0 d1 x → source_of size (pos s0) (pos s1) (pos d0) (pos d1) x ≡ None
  past_the_source past = upright_is s0 s1 d0 d1 x is size ∙ read_past size (upright_column s0 s1 d0 d1 x) past

  pub turned_past_the_source : size ≤ turned_column s0 s1 d0 d1 x → source_of size (pos s0) (pos s1) (pos d1) (pos d0) x ≡ None
  turned_past_the_source past = turned_is s0 s1 d0 d1 x is size ∙ read_past size (turned_column s0 s1 d0 d1 x) past

-- Columns that are not read

pub beside : (size : ℕ) (s0 s1 : ℤ) (d0 d1 x : ℕ) → (x < min d0 d1) ⊎ (max d0 d1 ≤ x) → source_of size s0 s1 (pos d0) (pos d1) x ≡ None
beside size s0 s1 d0 d1 x (inl before) =
    not_read size s0 s1 (pos d0) (pos d1) x
    (and_left (not (eqb (moved s0) (moved s1)) && nat_le (min (d0 + origin) (d1 + origin)) (x + origin)) (nat_lt (x + origin) (max (d0 + origin) (d1 + origin)))
    (and_right (not (eqb (moved s0) (moved s1))) (nat_le (min (d0 + origin) (d1 + origin)) (x + origin)) (lt-leb (min (d0 + origin) (d1 + origin)) (x + origin) (omega (arith, before)))))
beside size s0 s1 d0 d1 x (inr past) =
    not_read size s0 s1 (pos d0) (pos d1) x
    (and_right (not (eqb (moved s0) (moved s1)) && nat_le (min (d0 + origin) (d1 + origin)) (x + origin)) (nat_lt (x + origin) (max (d0 + origin) (d1 + origin))) (le-ltb (x + origin) (max (d0 + origin) (d1 + origin)) (omega (arith, past))))

pub no_width : (size : ℕ) (s d0 d1 : ℤ) (x : ℕ) → source_of size s s d0 d1 x ≡ None
no_width size s d0 d1 x =
    not_read size s s d0 d1 x
    (and_left (not (eqb (moved s) (moved s)) && nat_le (min (moved d0) (moved d1)) (x + origin)) (nat_lt (x + origin) (max (moved d0) (moved d1)))
    (and_left (not (eqb (moved s) (moved s))) (nat_le (min (moved d0) (moved d1)) (x + origin)) (not_from_true (eqb (moved s) (moved s)) (eq-eqb (moved s) (moved s) refl))))

-- One size

odd_times : (k n : ℕ) → (2 * k + 1) * n ≡ k * (2 * n) + n
odd_times k n = grind arith

half_of_odd : (k n : ℕ) → 0 < n → (2 * k + 1) * n / (2 * n) ≡ k
half_of_odd k n some = ap (λ m. m / (2 * n)) (odd_times k n) ∙ div-mul-add k (2 * n) n (omega (arith, some))

module _ (s d n k : ℕ) (below : k < n) where
  by_size : (way k' : ℕ) → way ≡ k' → s + ((2 * way + 1) * (s + n - s)) / (2 * (d + n - d)) ≡ s + k'
  by_size way k' e =
      let source : s + n - s ≡ n = omega arith in
      let target : d + n - d ≡ n = omega arith in
      ap (λ w. s + ((2 * w + 1) * (s + n - s)) / (2 * (d + n - d))) e
      ∙ ap (λ m. s + ((2 * k' + 1) * m) / (2 * (d + n - d))) source
      ∙ ap (λ m. s + ((2 * k' + 1) * n) / (2 * m)) target
      ∙ ap (λ m. s + m) (half_of_odd k' n (omega (arith, below)))

  pub one_size : upright_column s (s + n) d (d + n) (d + k) ≡ s + k
  one_size = by_size (d + k - d) k (omega arith)

  pub one_size_turned : turned_column s (s + n) d (d + n) (d + k) ≡ s + (n - 1 - k)
  one_size_turned = by_size (d + n - 1 - (d + k)) (n - 1 - k) (omega (arith, below))
