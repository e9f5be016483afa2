-- Rows of an image that are written to a buffer one after another.
use Rattle.std.proofs.Common.{◌≡◌, ℕ, zero, suc, ◌+◌, ◌-◌, ◌*◌, ◌/◌, ◌<◌, ◌≤◌, List, length, Bool, true, false, cond, refl, sym, ◌∙◌, ap, arith, inl, inr, add-one}
use Rattle.std.specs.Prelude.{◌⊎◌, ◌&&◌, nat_eq, nat_le, nat_lt, min}
use Rattle.std.proofs.Math.Nat.{mul-le-mul_right}
use Rattle.std.proofs.lemmas.Bool.{cases_Bool, and_from, and_left, and_right, ltb-true, ltb-false, leb-true, leb-false, eqb-true, eqb-false, le-leb, lt-ltb, lt-leb, le-ltb, cond-true, cond-false}
use Rattle.std.proofs.lemmas.Nat.{le-div, div_below}
use Rattle.vk_types.specs.declared.handles.Kind.{Kind}
use Rattle.vk_types.specs.declared.regions.Rect.{Rect}
use Rattle.cells.specs.Contents.{cell_at, part, overwritten}
use Rattle.vk_model.specs.Cells.{last_row, image_to_buffer, place, texel_size}
use Rattle.vk_objects.specs.declared.shapes.Shape.{Shape}
use Rattle.vk_objects.specs.declared.shapes.Area.{Area}
use Rattle.vk_objects.specs.Images.{kind_of_shape, rect_of, IsInside, HasAll}
use Rattle.vk_model.proofs.Parts.{overwritten-before, overwritten-inside, overwritten-after, length-part, part-at}
use Rattle.vk_objects.proofs.RowSteps.{in_row}
use Rattle.vk_objects.proofs.ImageNodes.{row_fits}
use Rattle.vk_objects.specs.Rows.{after_rows, row_byte, HasOutRows, HasRow}

module _ (g : ℕ → ℕ → ℕ) (len stride : ℕ) where
  in_last : (n a old : ℕ) → n * stride ≤ a → a < n * stride + len → after_rows g len stride (suc n) a old ≡ g n (a - n * stride)
  in_last n a old from below = cond-true (nat_le (n * stride) a && nat_lt a (n * stride + len)) (g n (a - n * stride)) (after_rows g len stride n a old) (and_from (nat_le (n * stride) a) (nat_lt a (n * stride + len)) (le-leb (n * stride) a from) (lt-ltb a (n * stride + len) below))

  before_last : (n a old : ℕ) → a < n * stride → after_rows g len stride (suc n) a old ≡ after_rows g len stride n a old
  before_last n a old lt = cond-false (nat_le (n * stride) a && nat_lt a (n * stride + len)) (g n (a - n * stride)) (after_rows g len stride n a old) (and_left (nat_le (n * stride) a) (nat_lt a (n * stride + len)) (lt-leb (n * stride) a lt))

  past_last : (n a old : ℕ) → n * stride + len ≤ a → after_rows g len stride (suc n) a old ≡ after_rows g len stride n a old
  past_last n a old le = cond-false (nat_le (n * stride) a && nat_lt a (n * stride + len)) (g n (a - n * stride)) (after_rows g len stride n a old) (and_right (nat_le (n * stride) a) (nat_lt a (n * stride + len)) (le-ltb a (n * stride + len) le))

  -- past the end of a row no earlier one is
  past_all : (n m a old : ℕ) → n ≤ m → m * stride + len ≤ a → after_rows g len stride n a old ≡ old
  past_all zero m a old le past = refl
  past_all (suc n) m a old le past =
      let lower : n * stride ≤ m * stride = mul-le-mul_right stride (omega (arith, le)) in
      past_last n a old (omega (arith, lower, past)) ∙ past_all n m a old (omega (arith, le)) past

  pub past_rows : (n a old : ℕ) → 0 < n → (n - 1) * stride + len ≤ a → after_rows g len stride n a old ≡ old
  past_rows n a old some past =
      let is : suc (n - 1) ≡ n = omega (arith, some) in
      ap (λ m. after_rows g len stride m a old) (sym is) ∙ past_last (n - 1) a old past ∙ past_all (n - 1) (n - 1) a old (omega arith) past

  -- what the last row at or before a place leaves there
  abbrev pub from_row : ℕ → ℕ → ℕ → ℕ
  from_row a old r = cond (nat_lt (a - r * stride) len) (g r (a - r * stride)) old

  last_is : (n a : ℕ) → n * stride ≤ a → last_row (suc n) stride a ≡ n
  last_is n a le = go (cases_Bool (nat_eq stride 0))
    where
      one_less : suc n - 1 ≡ n
      one_less = omega arith

      go : (nat_eq stride 0 ≡ true) ⊎ (nat_eq stride 0 ≡ false) → last_row (suc n) stride a ≡ n
      go (inl z) = cond-true (nat_eq stride 0) (suc n - 1) (min (a / stride) (suc n - 1)) z ∙ one_less
      go (inr nz) =
          let some : 0 < stride = (let ne = eqb-false stride 0 nz in omega (arith, ne)) in
          let up : n ≤ a / stride = le-div n a stride some le in
          cond-false (nat_eq stride 0) (suc n - 1) (min (a / stride) (suc n - 1)) nz ∙ omega (arith, up, one_less)

  last_same : (n a : ℕ) → a < suc n * stride → last_row (suc (suc n)) stride a ≡ last_row (suc n) stride a
  last_same n a lt = go (cases_Bool (nat_eq stride 0))
    where
      go : (nat_eq stride 0 ≡ true) ⊎ (nat_eq stride 0 ≡ false) → last_row (suc (suc n)) stride a ≡ last_row (suc n) stride a
      go (inl z) =
          let none : stride ≡ 0 = eqb-true stride 0 z in
          let no_place : suc n * stride ≡ 0 = ap (λ s. suc n * s) none ∙ omega arith in
          absurd (omega (arith, lt, no_place))
      go (inr nz) =
          let some : 0 < stride = (let ne = eqb-false stride 0 nz in omega (arith, ne)) in
          let below : a / stride < suc n = div_below a stride (suc n) some lt in
          cond-false (nat_eq stride 0) (suc (suc n) - 1) (min (a / stride) (suc (suc n) - 1)) nz
          ∙ (let e : min (a / stride) (suc (suc n) - 1) ≡ min (a / stride) (suc n - 1) = omega (arith, below) in e)
          ∙ sym (cond-false (nat_eq stride 0) (suc n - 1) (min (a / stride) (suc n - 1)) nz)

  pub rows_are_last : (n a old : ℕ) → after_rows g len stride (suc n) a old ≡ from_row a old (last_row (suc n) stride a)
  rows_are_last n a old = go n (cases_Bool (nat_le (n * stride) a))
    where
      at_row : (n : ℕ) → n * stride ≤ a → (nat_lt a (n * stride + len) ≡ true) ⊎ (nat_lt a (n * stride + len) ≡ false) → after_rows g len stride (suc n) a old ≡ from_row a old n
      at_row n from (inl b) =
          let below : a < n * stride + len = ltb-true a (n * stride + len) b in
          in_last n a old from below ∙ sym (cond-true (nat_lt (a - n * stride) len) (g n (a - n * stride)) old (lt-ltb (a - n * stride) len (omega (arith, from, below))))
      at_row n from (inr nb) =
          let past : n * stride + len ≤ a = ltb-false a (n * stride + len) nb in
          past_last n a old past ∙ past_all n n a old (omega arith) past ∙ sym (cond-false (nat_lt (a - n * stride) len) (g n (a - n * stride)) old (le-ltb (a - n * stride) len (omega (arith, from, past))))

      go : (n : ℕ) → (nat_le (n * stride) a ≡ true) ⊎ (nat_le (n * stride) a ≡ false) → after_rows g len stride (suc n) a old ≡ from_row a old (last_row (suc n) stride a)
      go n (inl l) =
          let from : n * stride ≤ a = leb-true (n * stride) a l in
          at_row n from (cases_Bool (nat_lt a (n * stride + len))) ∙ ap (from_row a old) (sym (last_is n a from))
      go zero (inr nl) = let lt : a < zero * stride = leb-false (zero * stride) a nl in let none : zero * stride ≡ 0 = omega arith in absurd (omega (arith, lt, none))
      go (suc n) (inr nl) =
          let lt : a < suc n * stride = leb-false (suc n * stride) a nl in
          before_last (suc n) a old lt ∙ go n (cases_Bool (nat_le (n * stride) a)) ∙ ap (from_row a old) (sym (last_same n a lt))

  -- one more row
  pub out_row_step : (old now new : List ℕ) (at n : ℕ) → HasOutRows old now at len stride n g → HasRow now new (at + n * stride) len (g n) → HasOutRows old new at len stride (n + 1) g
  out_row_step old now new at n rows row = record {
    before = λ i lt. row.before i (omega (arith, lt)) ∙ rows.before i lt;
    from = λ a. go a (cases_Bool (nat_lt a (n * stride))) (cases_Bool (nat_lt a (n * stride + len))) ∙ ap (λ m. after_rows g len stride m a (cell_at old (at + a))) (sym (add-one n));
  }
    where
      go : (a : ℕ) → (nat_lt a (n * stride) ≡ true) ⊎ (nat_lt a (n * stride) ≡ false) → (nat_lt a (n * stride + len) ≡ true) ⊎ (nat_lt a (n * stride + len) ≡ false) → cell_at new (at + a) ≡ after_rows g len stride (suc n) a (cell_at old (at + a))
      go a (inl b) rest =
          let lt : a < n * stride = ltb-true a (n * stride) b in
          row.before (at + a) (omega (arith, lt)) ∙ rows.from a ∙ sym (before_last n a (cell_at old (at + a)) lt)
      go a (inr nb) (inl b) =
          let from : n * stride ≤ a = ltb-false a (n * stride) nb in
          let below : a < n * stride + len = ltb-true a (n * stride + len) b in
          let place : at + n * stride + (a - n * stride) ≡ at + a = omega (arith, from) in
          ap (cell_at new) (sym place) ∙ row.inside (a - n * stride) (omega (arith, from, below)) ∙ sym (in_last n a (cell_at old (at + a)) from below)
      go a (inr nb) (inr np) =
          let past : n * stride + len ≤ a = ltb-false a (n * stride + len) np in
          let place : at + n * stride + len + (a - (n * stride + len)) ≡ at + a = omega (arith, past) in
          ap (cell_at new) (sym place) ∙ row.after (a - (n * stride + len)) ∙ ap (cell_at now) place ∙ rows.from a ∙ sym (past_last n a (cell_at old (at + a)) past)

pub no_out_rows : (old : List ℕ) (at len stride : ℕ) (g : ℕ → ℕ → ℕ) → HasOutRows old old at len stride 0 g
no_out_rows old at len stride g = record { before = λ i lt. refl; from = λ a. refl }

-- all rows of a rectangle
pub all_out_rows : (kind : Kind) (image : List ℕ) (rect : Rect) (stride size : ℕ) (expand : Bool) (a old : ℕ) → 0 < rect.h
    → after_rows (row_byte kind image rect size expand) (rect.w * size) stride rect.h a old ≡ image_to_buffer kind (cell_at image) rect stride size expand a old
all_out_rows kind image rect stride size expand a old some =
    let g = row_byte kind image rect size expand in
    let n : ℕ = rect.h - 1 in
    let is : suc n ≡ rect.h = omega (arith, some) in
    ap (λ h. after_rows g (rect.w * size) stride h a old) (sym is)
    ∙ rows_are_last g (rect.w * size) stride n a old
    ∙ ap (λ h. from_row g (rect.w * size) stride a old (last_row h stride a)) is

-- a row that is put in its place
pub row_put : (now : List ℕ) (at : ℕ) (row : List ℕ) (len : ℕ) (g : ℕ → ℕ) → length row ≡ len → at + len ≤ length now → ((j : ℕ) → j < len → cell_at row j ≡ g j) → HasRow now (overwritten now at row) at len g
row_put now at row len g is fits same = record {
  inside = λ j lt. overwritten-inside now at row fits' j (omega (arith, is, lt)) ∙ same j lt;
  before = λ i lt. overwritten-before now at row fits' i lt;
  after = λ j. overwritten-after now at row fits' (at + len + j) (omega (arith, is));
}
  where
    fits' : at + length row ≤ length now
    fits' = omega (arith, is, fits)

module _ (s : Shape) (a : Area) (inside : IsInside a s) (some : 0 < texel_size (kind_of_shape s)) where
  pub plain_row : (k : ℕ) (image now : List ℕ) (at : ℕ) → k < a.height → HasAll s (length image) → at + a.width * texel_size (kind_of_shape s) ≤ length now
      → HasRow now (overwritten now at (part image (place (kind_of_shape s) a.left (a.top + k) 0) (a.width * texel_size (kind_of_shape s)))) at (a.width * texel_size (kind_of_shape s)) (row_byte (kind_of_shape s) image (rect_of a) (texel_size (kind_of_shape s)) false k)
  plain_row k image now at below all fits =
      let kind = kind_of_shape s in let t = texel_size kind in let start = place kind a.left (a.top + k) 0 in
      row_put now at (part image start (a.width * t)) (a.width * t) (row_byte kind image (rect_of a) t false k)
      (length-part image start (a.width * t) (row_fits s a inside some k (length image) below all)) fits
      (λ j lt. part-at image start (a.width * t) j lt ∙ ap (cell_at image) (in_row kind (rect_of a) a.left a.top refl refl some inside.columns (λ x y b. 0) k j))
