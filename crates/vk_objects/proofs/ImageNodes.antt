-- Areas of images that are written row by row.
use Rattle.std.proofs.Common.{◌≡◌, ℕ, ◌+◌, ◌*◌, ◌/◌, ◌%◌, ◌<◌, ◌≤◌, List, length, take, refl, sym, ◌∙◌, ap, subst, arith}
use Rattle.std.specs.Prelude.{slice_index, ◌⊎◌, Option, Some, None, pos}
use Rattle.std.proofs.Math.Nat.{mul-le-mul_right}
use Rattle.std.proofs.lemmas.Nat.{mod_below, div-add-mod'}
use Rattle.std.proofs.lemmas.List.{get_or-take}
use Rattle.std.proofs.lemmas.Grind.{get_or_default_zero}
use Rattle.cells.specs.Contents.{UNDEFINED, cell_at, part, overwritten}
use Rattle.vk_types.specs.declared.handles.Kind.{Kind}
use Rattle.vk_types.specs.declared.regions.Rect.{Rect}
use Rattle.vk_model.specs.Cells.{place, texel_size, width_of, column_at, row_at, byte_at, behind, at_both, buffer_to_image, copy_image}
use Rattle.vk_objects.specs.declared.shapes.Shape.{Shape}
use Rattle.vk_objects.specs.declared.shapes.Area.{Area}
use Rattle.vk_objects.specs.Images.{kind_of_shape, rect_of, IsInside, HasAll, IsPainted, IsCleared, HasRows, AreWritten}
use Rattle.vk_model.proofs.Parts.{overwritten-inside, overwritten-outside, part-at, length-part}
use Rattle.vk_objects.proofs.RowSteps.{distributes, first_rows, row_step, no_row}

module _ (s : Shape) (a : Area) (inside : IsInside a s) (some : 0 < texel_size (kind_of_shape s)) where
  -- a row of the area lies in the image's bytes
  pub row_fits : (k len : ℕ) → k < a.height → HasAll s len → place (kind_of_shape s) a.left (a.top + k) 0 + a.width * texel_size (kind_of_shape s) ≤ len
  row_fits k len below all =
      let w = s.width in let t = texel_size (kind_of_shape s) in
      let rows : (a.top + k + 1) * w ≤ s.height * w = mul-le-mul_right w (omega (arith, inside.rows, below)) in
      let split : (a.top + k + 1) * w ≡ (a.top + k) * w + 1 * w = distributes (a.top + k) 1 w in
      let one : 1 * w ≡ w = omega arith in
      let turned : s.height * w ≡ w * s.height = omega arith in
      let line : (a.top + k) * w + a.left + a.width ≤ w * s.height = omega (arith, rows, split, one, turned, inside.columns) in
      let texels : ((a.top + k) * w + a.left + a.width) * t ≤ w * s.height * t = mul-le-mul_right t line in
      let parts : ((a.top + k) * w + a.left + a.width) * t ≡ ((a.top + k) * w + a.left) * t + a.width * t = distributes ((a.top + k) * w + a.left) a.width t in
      omega (arith, texels, parts, all)

  pub clear_starts : (old texel : List ℕ) → IsCleared old old (kind_of_shape s) (first_rows (rect_of a) 0) texel
  clear_starts old texel i = no_row (kind_of_shape s) (rect_of a) a.left a.top refl refl some inside.columns (λ x y b. slice_index texel b) i (cell_at old i)

  pub clear_step : (k : ℕ) (old now new texel start : List ℕ) → length start ≡ texel_size (kind_of_shape s)
      → ((b : ℕ) → b < texel_size (kind_of_shape s) → cell_at start b ≡ slice_index texel b)
      → IsCleared old now (kind_of_shape s) (first_rows (rect_of a) k) texel
      → IsPainted now new (place (kind_of_shape s) a.left (a.top + k) 0) a.width start
      → IsCleared old new (kind_of_shape s) (first_rows (rect_of a) (k + 1)) texel
  clear_step k old now new texel start len is before painted =
      row_step (kind_of_shape s) (rect_of a) a.left a.top refl refl some inside.columns (λ x y b. slice_index texel b) k (cell_at now) (cell_at new) (cell_at old) before
      (λ j lt.
      painted.inside j (subst (λ t. j < a.width * t) (sym len) lt)
      ∙ ap (λ t. cell_at start (j % t)) len
      ∙ is (j % texel_size (kind_of_shape s)) (mod_below j (texel_size (kind_of_shape s)) some))
      (λ i out. painted.outside i (subst (λ t. (i < place (kind_of_shape s) a.left (a.top + k) 0) ⊎ (place (kind_of_shape s) a.left (a.top + k) 0 + a.width * t ≤ i)) (sym len) out))

  pub rows_start : (old from : List ℕ) (at stride : ℕ) → AreWritten old old (kind_of_shape s) (first_rows (rect_of a) 0) from at stride
  rows_start old from at stride i =
      let t = texel_size (kind_of_shape s) in
      no_row (kind_of_shape s) (rect_of a) a.left a.top refl refl some inside.columns (λ x y b. cell_at from (at + y * stride + x * t + b)) i (cell_at old i)

  pub rows_step : (k : ℕ) (old now from : List ℕ) (at stride : ℕ)
      → k < a.height → HasAll s (length now)
      → at + k * stride + a.width * texel_size (kind_of_shape s) ≤ length from
      → AreWritten old now (kind_of_shape s) (first_rows (rect_of a) k) from at stride
      → AreWritten old (overwritten now (place (kind_of_shape s) a.left (a.top + k) 0) (part from (at + k * stride) (a.width * texel_size (kind_of_shape s)))) (kind_of_shape s) (first_rows (rect_of a) (k + 1)) from at stride
  rows_step k old now from at stride below all has before =
      let kind = kind_of_shape s in let t = texel_size kind in let row = part from (at + k * stride) (a.width * t) in let start = place kind a.left (a.top + k) 0 in
      let len : length row ≡ a.width * t = length-part from (at + k * stride) (a.width * t) has in
      let fits : start + length row ≤ length now = subst (λ n. start + n ≤ length now) (sym len) (row_fits k (length now) below all) in
      row_step kind (rect_of a) a.left a.top refl refl some inside.columns (λ x y b. cell_at from (at + y * stride + x * t + b)) k (cell_at now) (cell_at (overwritten now start row)) (cell_at old) before
      (λ j lt.
      let split : j / t * t + j % t ≡ j = div-add-mod' j t in
      let joined : at + k * stride + j ≡ at + k * stride + j / t * t + j % t = omega (arith, split) in
      overwritten-inside now start row fits j (subst (λ n. j < n) (sym len) lt)
      ∙ part-at from (at + k * stride) (a.width * t) j lt
      ∙ ap (cell_at from) joined)
      (λ i out. overwritten-outside now start row fits i (subst (λ n. (i < start) ⊎ (start + n ≤ i)) (sym len) out))

-- the first bytes of a texel
pub texel_start : (n : ℕ) (texel : List ℕ) → n ≤ length texel → (b : ℕ) → b < n → cell_at (take n texel) b ≡ slice_index texel b
texel_start n texel enough b lt = get_or-take n texel b UNDEFINED lt ∙ get_or_default_zero texel b UNDEFINED (omega (arith, enough, lt))

at_both_same : (a b : Option ℕ) (f g : ℕ → ℕ → ℕ) (old : ℕ) → ((x y : ℕ) → f x y ≡ g x y) → at_both a b f old ≡ at_both a b g old
at_both_same None b f g old same = refl
at_both_same (Some x) None f g old same = refl
at_both_same (Some x) (Some y) f g old same = same x y

-- rows of an image are its texels
module _ (from kind : Kind) (x y : ℕ) where
  row_texel : (k column byte w t : ℕ) → (y * w + x) * t + 0 + k * (w * t) + column * t + byte ≡ ((y + k) * w + (x + column)) * t + byte
  row_texel k column byte w t = omega arith

  pub rows_are_copied : (source : ℕ → ℕ) (rect : Rect) (i old : ℕ) → texel_size from ≡ texel_size kind
      → buffer_to_image kind source (place from x y 0) (width_of from * texel_size from) (texel_size kind) rect i old ≡ copy_image from kind source (pos x) (pos y) rect i old
  rows_are_copied source rect i old same =
      at_both_same (behind rect.x rect.w (column_at kind i)) (behind rect.y rect.h (row_at kind i))
      (λ column k. source (place from x y 0 + k * (width_of from * texel_size from) + column * texel_size kind + byte_at kind i))
      (λ column k. source (place from (x + column) (y + k) (byte_at kind i)))
      old
      (λ column k. ap (λ t. source (place from x y 0 + k * (width_of from * texel_size from) + column * t + byte_at kind i)) (sym same) ∙ ap source (row_texel k column (byte_at kind i) (width_of from) (texel_size from)))

module _ (s : Shape) (a : Area) (inside : IsInside a s) (some : 0 < texel_size (kind_of_shape s)) where
  pub source_rows : (len : ℕ) → HasAll s len → HasRows len (place (kind_of_shape s) a.left a.top 0) (s.width * texel_size (kind_of_shape s)) a.height (a.width * texel_size (kind_of_shape s))
  source_rows len all k below =
      let w = s.width in let t = texel_size (kind_of_shape s) in
      let fits : place (kind_of_shape s) a.left (a.top + k) 0 + a.width * t ≤ len = row_fits s a inside some k len below all in
      let same : (a.top * w + a.left) * t + 0 + k * (w * t) + a.width * t ≡ ((a.top + k) * w + a.left) * t + 0 + a.width * t = omega arith in
      subst (λ n. n ≤ len) (sym same) fits

-- a texel lies in the image's bytes
pub texel_fits : (s : Shape) (column row len : ℕ) → 0 < texel_size (kind_of_shape s) → column < s.width → row < s.height → HasAll s len → place (kind_of_shape s) column row 0 + texel_size (kind_of_shape s) ≤ len
texel_fits s column row len some inside below all =
    let one : Area = record { left = column; top = row; width = 1; height = 1 } in
    let t = texel_size (kind_of_shape s) in
    let fits : place (kind_of_shape s) column (row + 0) 0 + 1 * t ≤ len = row_fits s one (record { columns = omega (arith, inside); rows = omega (arith, below) }) some 0 len (omega arith) all in
    let same : place (kind_of_shape s) column (row + 0) 0 + 1 * t ≡ place (kind_of_shape s) column row 0 + t = omega arith in
    subst (λ n. n ≤ len) same fits
