-- The texels of a picture from a place on, inside it and outside.
use Rattle.std.proofs.Common.{◌≡◌, ℕ, suc, ◌+◌, ◌-◌, ◌<◌, ◌≤◌, true, false, length, ◌∙◌, ap, arith, inl, inr}
use Rattle.std.specs.Prelude.{◌⊎◌, ℤ, pos, negsuc, ◌+ℤ◌, unsigned_abs, nat_lt, nat_le}
use lib.IntN.{sub_ℕ}
use Rattle.std.proofs.lemmas.Bool.{cases_lt, and_from, and_left, and_right, le-leb, lt-ltb, le-ltb, cond-true, cond-false}
use Rattle.cells.specs.Contents.{cell_at, UNDEFINED, undefined_cells}
use Rattle.gl_model.specs.ImageEffect.{Picture, texel_bytes, in_int_range, is_inside, texel_at, undefined_texel, texel_or_undefined}
use Rattle.transfer.specs.Shown.{place_in}
use Rattle.transfer.specs.Overlaps.{skipped, entered, count_inside}
use Rattle.transfer.proofs.Places.{length-cells, cell_at-cells, cell_at-past}

-- Lines

pub sub_below : (a b : ℕ) → b ≤ a → sub_ℕ a b ≡ pos (a - b)
sub_below a b le = cond-false (nat_lt a b) (negsuc (b - suc a)) (pos (a - b)) (le-ltb a b le)

pub sub_above : (a b : ℕ) → a < b → sub_ℕ a b ≡ negsuc (b - suc a)
sub_above a b lt = cond-true (nat_lt a b) (negsuc (b - suc a)) (pos (a - b)) (lt-ltb a b lt)

-- of so many numbers from one on, this one is from 0 on and below a size
pub record IsRead (z : ℤ) (size len i : ℕ) : Type 0 where
  pub from : skipped z ≤ i
  pub below : i - skipped z < count_inside z size len
  pub is : z +ℤ pos i ≡ pos (entered z + (i - skipped z))
  pub inside : entered z + (i - skipped z) < size

past_range : (size n : ℕ) → size ≤ n → in_int_range (pos 0) size (pos n) ≡ false
past_range size n past = and_right (nat_le 0 n) (nat_lt n (0 + size)) (le-ltb n (0 + size) (omega (arith, past)))

pub in_range_at : (size n : ℕ) → n < size → in_int_range (pos 0) size (pos n) ≡ true
in_range_at size n below = and_from (nat_le 0 n) (nat_lt n (0 + size)) (le-leb 0 n (omega arith)) (lt-ltb n (0 + size) (omega (arith, below)))

pub cases_read : (z : ℤ) (size len i : ℕ) → i < len → IsRead z size len i ⊎ (in_int_range (pos 0) size (z +ℤ pos i) ≡ false)
cases_read (pos a) size len i lt = go (cases_lt (a + i) size)
  where
    go : (a + i < size) ⊎ (size ≤ a + i) → IsRead (pos a) size len i ⊎ (in_int_range (pos 0) size (pos a +ℤ pos i) ≡ false)
    go (inl below) = inl (record {
      from = omega arith;
      below = omega (arith, below, lt);
      is = (let e : a + i ≡ a + (i - 0) = omega arith in ap pos e);
      inside = omega (arith, below);
    })
    go (inr past) = inr (past_range size (a + i) past)
cases_read (negsuc a) size len i lt = go (cases_lt i (suc a)) (cases_lt (i - suc a) size)
  where
    go : (i < suc a) ⊎ (suc a ≤ i) → (i - suc a < size) ⊎ (size ≤ i - suc a) → IsRead (negsuc a) size len i ⊎ (in_int_range (pos 0) size (negsuc a +ℤ pos i) ≡ false)
    go (inl before) rest = inr (ap (in_int_range (pos 0) size) (sub_above i (suc a) before))
    go (inr from) (inl below) = inl (record {
      from = from;
      below = omega (arith, below, from, lt);
      is = sub_below i (suc a) from ∙ (let e : i - suc a ≡ 0 + (i - suc a) = omega arith in ap pos e);
      inside = omega (arith, below);
    })
    go (inr from) (inr past) = inr (ap (in_int_range (pos 0) size) (sub_below i (suc a) from) ∙ past_range size (i - suc a) past)

-- Texels

pub no_cell : (n i : ℕ) → cell_at (undefined_cells n) i ≡ UNDEFINED
no_cell n i = go (cases_lt i n)
  where
    go : (i < n) ⊎ (n ≤ i) → cell_at (undefined_cells n) i ≡ UNDEFINED
    go (inl below) = cell_at-cells n (λ _. UNDEFINED) i below
    go (inr past) = let long : length (undefined_cells n) ≡ n = length-cells n (λ _. UNDEFINED) in cell_at-past (undefined_cells n) i (omega (arith, long, past))

pub read_inside : (read : Picture) (x y : ℤ) (m n byte : ℕ) → x ≡ pos m → y ≡ pos n → m < read.info.width → n < read.info.height → byte < texel_bytes read.info → cell_at (texel_or_undefined read x y) byte ≡ cell_at read.cells (place_in read.info m n byte)
read_inside read x y m n byte x_is y_is column row in_texel =
    let test : is_inside read.info (pos m) (pos n) ≡ true = and_from (in_int_range (pos 0) read.info.width (pos m)) (in_int_range (pos 0) read.info.height (pos n)) (in_range_at read.info.width m column) (in_range_at read.info.height n row) in
    ap (λ z. cell_at (texel_or_undefined read z y) byte) x_is
    ∙ ap (λ z. cell_at (texel_or_undefined read (pos m) z) byte) y_is
    ∙ ap (λ t. cell_at t byte) (cond-true (is_inside read.info (pos m) (pos n)) (texel_at read m n) (undefined_texel read.info) test)
    ∙ cell_at-cells (texel_bytes read.info) _ byte in_texel

pub read_outside : (read : Picture) (x y : ℤ) (byte : ℕ) → (in_int_range (pos 0) read.info.width x ≡ false) ⊎ (in_int_range (pos 0) read.info.height y ≡ false) → cell_at (texel_or_undefined read x y) byte ≡ UNDEFINED
read_outside read x y byte out =
    ap (λ t. cell_at t byte) (cond-false (is_inside read.info x y) (texel_at read (unsigned_abs x) (unsigned_abs y)) (undefined_texel read.info) (test out))
    ∙ no_cell (texel_bytes read.info) byte
  where
    test : (in_int_range (pos 0) read.info.width x ≡ false) ⊎ (in_int_range (pos 0) read.info.height y ≡ false) → is_inside read.info x y ≡ false
    test (inl column) = and_left (in_int_range (pos 0) read.info.width x) (in_int_range (pos 0) read.info.height y) column
    test (inr row) = and_right (in_int_range (pos 0) read.info.width x) (in_int_range (pos 0) read.info.height y) row
