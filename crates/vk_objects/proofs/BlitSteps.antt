-- Texels and rows that a blit writes one after another.
use mathlib.Core.Path.{fun_ext}
use Rattle.std.proofs.lemmas.Grind.{get_or_default_zero}
use Rattle.formats.specs.declared.format.Format.{Format}
use Rattle.formats.specs.declared.format.Format.TheVariants.{R8ui, R8i, R16ui, R16i, R32ui, R32i, Rg8ui, Rgba8ui, Rgba8i, Rgb10A2ui, Rgba32ui, Rgba32i}
use Rattle.formats.specs.Texel.{bytes_per_texel}
use Rattle.formats.specs.Components.{packed, expanded}
use Rattle.vk_model.specs.Texels.{format_at, converted_texel}
use Rattle.vk_model.proofs.Parts.{overwritten-inside, overwritten-outside}
use Rattle.vk_objects.proofs.ImageNodes.{texel_fits}
use Rattle.vk_objects.proofs.PassSteps.{texel_some}
use Rattle.vk_objects.proofs.Expanding.{texel_converted}
use Rattle.std.proofs.Common.{◌≡◌, ℕ, ◌+◌, ◌-◌, ◌*◌, ◌/◌, ◌%◌, ◌<◌, ◌≤◌, List, length, get_or, true, false, refl, sym, ◌∙◌, ap, subst, arith, inl, inr}
use Rattle.std.specs.Prelude.{◌⊎◌, ◌&&◌, ℤ, pos, Option, Some, None, nat_lt, nat_le, slice_index}
use Rattle.std.proofs.lemmas.Bool.{cases_Bool, ltb-true, ltb-false, and_parts, leb-true, cond-true, cond-false}
use Rattle.std.proofs.lemmas.Nat.{div-mul-add, mod-mul-add, div_below, mod_below}
use Rattle.vk_types.specs.declared.handles.Kind.{Kind}
use Rattle.vk_types.specs.declared.regions.Coords.{Coords}
use Rattle.cells.specs.Contents.{UNDEFINED, cell_at, part, overwritten}
use Rattle.vk_model.specs.Cells.{place, texel_size, width_of, column_at, row_at, byte_at, behind, at_both, source_of, converted, nearest_texel}
use Rattle.vk_model.proofs.Images.{in_rect_above}
use Rattle.vk_objects.specs.declared.shapes.Shape.{Shape}
use Rattle.vk_objects.specs.declared.shapes.Area.{Area}
use Rattle.vk_objects.specs.Images.{kind_of_shape, rect_of, IsInside, HasAll}
use Rattle.vk_objects.specs.Blits.{blit_byte, HasTexel, HasTexels, IsBlitted}
use Rattle.vk_objects.proofs.RowSteps.{distributes, first_rows, so_far, in_row, row_step, no_row, place_of}

pub no_texels : (old : List ℕ) (from to : Kind) (source : List ℕ) (coords : Coords) (left row : ℕ) → HasTexels old old from to source coords left row 0
no_texels old from to source coords left row = record { inside = λ j lt. absurd (omega (arith, lt)); outside = λ i out. refl }

-- one texel more in a row
module _ (old now new : List ℕ) (from to : Kind) (source : List ℕ) (coords : Coords) (left row x : ℕ) (texels : HasTexels old now from to source coords left row x) (texel : HasTexel now new from to source coords (left + x) row) where
  more : (x + 1) * texel_size to ≡ x * texel_size to + texel_size to
  more = distributes x 1 (texel_size to) ∙ omega arith

  start : place to (left + x) row 0 ≡ place to left row 0 + x * texel_size to
  start = starts (width_of to) (texel_size to)
    where
      starts : (w t : ℕ) → (row * w + (left + x)) * t + 0 ≡ (row * w + left) * t + 0 + x * t
      starts w t = omega arith

  pub texels_more : HasTexels old new from to source coords left row (x + 1)
  texels_more = record {
    inside = λ j lt. go j lt (cases_Bool (nat_lt j (x * texel_size to)));
    outside = λ i out. elim out [
      | inl before ↦ texel.outside i (inl (omega (arith, before, start))) ∙ texels.outside i (inl before)
      | inr past ↦ texel.outside i (inr (omega (arith, past, start, more))) ∙ texels.outside i (inr (omega (arith, past, more)))
    ];
  }
    where
      go : (j : ℕ) → j < (x + 1) * texel_size to → (nat_lt j (x * texel_size to) ≡ true) ⊎ (nat_lt j (x * texel_size to) ≡ false)
          → cell_at new (place to left row 0 + j) ≡ blit_byte from to (cell_at source) coords (left + j / texel_size to) row (j % texel_size to) (cell_at old (place to left row 0 + j))
      go j lt (inl b) =
          let below : j < x * texel_size to = ltb-true j (x * texel_size to) b in
          texel.outside (place to left row 0 + j) (inl (omega (arith, below, start))) ∙ texels.inside j below
      go j lt (inr nb) =
          let t = texel_size to in
          let from_there : x * t ≤ j = ltb-false j (x * t) nb in
          let b : ℕ = j - x * t in
          let is : x * t + b ≡ j = omega (arith, from_there) in
          let b_lt : b < t = omega (arith, from_there, lt, more) in
          let at : place to (left + x) row 0 + b ≡ place to left row 0 + j = omega (arith, start, is) in
          let column : j / t ≡ x = ap (λ n. n / t) (sym is) ∙ div-mul-add x t b b_lt in
          let byte : j % t ≡ b = ap (λ n. n % t) (sym is) ∙ mod-mul-add x t b b_lt in
          ap (cell_at new) (sym at)
          ∙ texel.inside b b_lt
          ∙ ap (λ p. blit_byte from to (cell_at source) coords (left + x) row b (cell_at now p)) at
          ∙ ap (blit_byte from to (cell_at source) coords (left + x) row b) (texels.outside (place to left row 0 + j) (inr (omega (arith, is))))
          ∙ ap (λ n. blit_byte from to (cell_at source) coords (left + n) row b (cell_at old (place to left row 0 + j))) (sym column)
          ∙ ap (λ n. blit_byte from to (cell_at source) coords (left + j / t) row n (cell_at old (place to left row 0 + j))) (sym byte)

-- where a number lies behind another
behind_is : (a n c x : ℕ) → behind (pos a) n c ≡ Some x → c ≡ a + x
behind_is a n c x e = go (cases_Bool (nat_le a c && nat_lt c (a + n)))
  where
    go : ((nat_le a c && nat_lt c (a + n)) ≡ true) ⊎ ((nat_le a c && nat_lt c (a + n)) ≡ false) → c ≡ a + x
    go (inl t) =
        let le : a ≤ c = leb-true a c (and_parts (nat_le a c) (nat_lt c (a + n)) t).0 in
        let same : c - a ≡ x = ap (λ o. Rattle.std.specs.Prelude.unwrap_or o 0) (sym (cond-true (nat_le a c && nat_lt c (a + n)) (Some (c - a)) None t) ∙ e) in
        omega (arith, le, same)
    go (inr f) = let never : None ≡ Some x = sym (cond-false (nat_le a c && nat_lt c (a + n)) (Some (c - a)) None f) ∙ e in cc

at_both_at : (p q : Option ℕ) (f g : ℕ → ℕ → ℕ) (old : ℕ) → ((x y : ℕ) → p ≡ Some x → q ≡ Some y → f x y ≡ g x y) → at_both p q f old ≡ at_both p q g old
at_both_at None q f g old same = refl
at_both_at (Some x) None f g old same = refl
at_both_at (Some x) (Some y) f g old same = same x y refl refl

module _ (s : Shape) (a : Area) (inside : IsInside a s) (some : 0 < texel_size (kind_of_shape s)) (from : Kind) (source : List ℕ) (coords : Coords) (old : List ℕ) where
  -- the byte that comes to a place of the area
  abbrev coming : ℕ → ℕ → ℕ → ℕ
  coming x y b = blit_byte from (kind_of_shape s) (cell_at source) coords (a.left + x) (a.top + y) b (cell_at old (place (kind_of_shape s) (a.left + x) (a.top + y) b))

  pub blit_so_far : (k i : ℕ) → so_far (kind_of_shape s) (rect_of a) coming k i (cell_at old i) ≡ Rattle.vk_model.specs.Cells.blit_image from (kind_of_shape s) (cell_at source) coords (first_rows (rect_of a) k) i (cell_at old i)
  blit_so_far k i =
      let kind = kind_of_shape s in
      at_both_at (behind (pos a.left) a.width (column_at kind i)) (behind (pos a.top) k (row_at kind i)) (λ x y. coming x y (byte_at kind i)) (λ x y. nearest_texel from kind (cell_at source) coords i (cell_at old i)) (cell_at old i)
      (λ x y ex ey.
      let column : column_at kind i ≡ a.left + x = behind_is a.left a.width (column_at kind i) x ex in
      let row : row_at kind i ≡ a.top + y = behind_is a.top k (row_at kind i) y ey in
      ap (λ c. blit_byte from kind (cell_at source) coords c (a.top + y) (byte_at kind i) (cell_at old (place kind c (a.top + y) (byte_at kind i)))) (sym column)
      ∙ ap (λ r. blit_byte from kind (cell_at source) coords (column_at kind i) r (byte_at kind i) (cell_at old (place kind (column_at kind i) r (byte_at kind i)))) (sym row)
      ∙ ap (λ p. blit_byte from kind (cell_at source) coords (column_at kind i) (row_at kind i) (byte_at kind i) (cell_at old p)) (place_of kind i))

  pub blit_starts : IsBlitted old old from (kind_of_shape s) source coords (first_rows (rect_of a) 0)
  blit_starts i = no_row (kind_of_shape s) (rect_of a) a.left a.top refl refl some inside.columns coming i (cell_at old i) ∙ blit_so_far 0 i

  -- a row that is not written yet
  fresh : (k j : ℕ) (now : List ℕ) → j < a.width * texel_size (kind_of_shape s) → IsBlitted old now from (kind_of_shape s) source coords (first_rows (rect_of a) k)
      → cell_at now (place (kind_of_shape s) a.left (a.top + k) 0 + j) ≡ cell_at old (place (kind_of_shape s) a.left (a.top + k) 0 + j)
  fresh k j now lt before =
      let kind = kind_of_shape s in let t = texel_size kind in let p = place kind a.left (a.top + k) 0 + j in
      let column : j / t < a.width = div_below j t a.width some lt in
      let byte : j % t < t = mod_below j t some in
      let place_is : p ≡ place kind (a.left + j / t) (a.top + k) (j % t) = in_row kind (rect_of a) a.left a.top refl refl some inside.columns coming k j in
      before p ∙ sym (blit_so_far k p)
      ∙ ap (λ i. so_far kind (rect_of a) coming k i (cell_at old p)) place_is
      ∙ in_rect_above kind (first_rows (rect_of a) k) a.left a.top refl refl (a.left + j / t) (a.top + k) (j % t) (omega (arith, column, inside.columns)) byte
      (λ x y. coming x y (byte_at kind (place kind (a.left + j / t) (a.top + k) (j % t)))) (cell_at old p) (inr (omega arith))

  pub blit_step : (k : ℕ) (now new : List ℕ) → IsBlitted old now from (kind_of_shape s) source coords (first_rows (rect_of a) k) → HasTexels now new from (kind_of_shape s) source coords a.left (a.top + k) a.width
      → IsBlitted old new from (kind_of_shape s) source coords (first_rows (rect_of a) (k + 1))
  blit_step k now new before row i =
      let kind = kind_of_shape s in let t = texel_size kind in
      row_step kind (rect_of a) a.left a.top refl refl some inside.columns coming k (cell_at now) (cell_at new) (cell_at old)
      (λ i. before i ∙ sym (blit_so_far k i))
      (λ j lt.
      row.inside j lt
      ∙ ap (blit_byte from kind (cell_at source) coords (a.left + j / t) (a.top + k) (j % t)) (fresh k j now lt before)
      ∙ ap (λ p. blit_byte from kind (cell_at source) coords (a.left + j / t) (a.top + k) (j % t) (cell_at old p)) (in_row kind (rect_of a) a.left a.top refl refl some inside.columns coming k j))
      row.outside i
      ∙ blit_so_far (k + 1) i

packed_len : (f : Format) (v : List ℕ) → length (packed f v) ≡ bytes_per_texel f
packed_len R8ui v = refl
packed_len R8i v = refl
packed_len R16ui v = refl
packed_len R16i v = refl
packed_len R32ui v = refl
packed_len R32i v = refl
packed_len Rg8ui v = refl
packed_len Rgba8ui v = refl
packed_len Rgba8i v = refl
packed_len Rgb10A2ui v = refl
packed_len Rgba32ui v = refl
packed_len Rgba32i v = refl

-- one texel of a blit
module _ (s source : Shape) (image bytes : List ℕ) (coords : Coords) (column row : ℕ) where
  abbrev column_read : Option ℕ
  column_read = source_of source.width coords.sx0 coords.sx1 coords.dx0 coords.dx1 column

  abbrev row_read : Option ℕ
  row_read = source_of source.height coords.sy0 coords.sy1 coords.dy0 coords.dy1 row

  nothing_read : (o : Option ℕ) (f : ℕ → ℕ → ℕ) (old : ℕ) → at_both o None f old ≡ old
  nothing_read None f old = refl
  nothing_read (Some x) f old = refl

  pub no_row_read : row_read ≡ None → HasTexel bytes bytes (kind_of_shape source) (kind_of_shape s) image coords column row
  no_row_read none = record {
    inside = λ b lt. sym (ap (λ o. at_both column_read o (λ x y. converted (converted_texel source.format s.format) (λ b. cell_at image (place (kind_of_shape source) x y b)) (texel_size (kind_of_shape source)) b) (cell_at bytes (place (kind_of_shape s) column row 0 + b))) none
        ∙ nothing_read column_read _ (cell_at bytes (place (kind_of_shape s) column row 0 + b)));
    outside = λ i out. refl;
  }

  pub texel_read : (x y : ℕ) → column_read ≡ Some x → row_read ≡ Some y → x < source.width → y < source.height → HasAll source (length image) → ((i : ℕ) → get_or image i 0 < 256)
      → place (kind_of_shape s) column row 0 + texel_size (kind_of_shape s) ≤ length bytes
      → HasTexel bytes (overwritten bytes (place (kind_of_shape s) column row 0) (converted_texel source.format s.format (part image (place (kind_of_shape source) x y 0) (texel_size (kind_of_shape source))))) (kind_of_shape source) (kind_of_shape s) image coords column row
  texel_read x y ex ey inside below whole small fits = record {
    inside = λ b lt.
        overwritten-inside bytes (place (kind_of_shape s) column row 0) (converted_texel source.format s.format (part image (place (kind_of_shape source) x y 0) (texel_size (kind_of_shape source)))) piece_fits b (omega (arith, len, lt))
        ∙ get_or_default_zero (converted_texel source.format s.format (part image (place (kind_of_shape source) x y 0) (texel_size (kind_of_shape source)))) b UNDEFINED (omega (arith, len, lt))
        ∙ sym (value b);
    outside = λ i out. overwritten-outside bytes (place (kind_of_shape s) column row 0) (converted_texel source.format s.format (part image (place (kind_of_shape source) x y 0) (texel_size (kind_of_shape source)))) piece_fits i (subst (λ n. (i < (place (kind_of_shape s) column row 0)) ⊎ ((place (kind_of_shape s) column row 0) + n ≤ i)) (sym len) out);
  }
    where
      len : length (converted_texel source.format s.format (part image (place (kind_of_shape source) x y 0) (texel_size (kind_of_shape source)))) ≡ texel_size (kind_of_shape s)
      len = packed_len (format_at s.format) (expanded (format_at source.format) (part image (place (kind_of_shape source) x y 0) (texel_size (kind_of_shape source))))

      piece_fits : (place (kind_of_shape s) column row 0) + length (converted_texel source.format s.format (part image (place (kind_of_shape source) x y 0) (texel_size (kind_of_shape source)))) ≤ length bytes
      piece_fits = subst (λ n. (place (kind_of_shape s) column row 0) + n ≤ length bytes) (sym len) fits

      source_fits : place (kind_of_shape source) x y 0 + texel_size (kind_of_shape source) ≤ length image
      source_fits = texel_fits source x y (length image) (texel_some source) inside below whole

      places : (w t b : ℕ) → (y * w + x) * t + b ≡ (y * w + x) * t + 0 + b
      places w t b = omega arith

      value : (b : ℕ) → blit_byte (kind_of_shape source) (kind_of_shape s) (cell_at image) coords column row b (cell_at bytes (place (kind_of_shape s) column row 0 + b)) ≡ slice_index (converted_texel source.format s.format (part image (place (kind_of_shape source) x y 0) (texel_size (kind_of_shape source)))) b
      value b =
          let f : ℕ → ℕ → ℕ = λ x y. converted (converted_texel source.format s.format) (λ b. cell_at image (place (kind_of_shape source) x y b)) (texel_size (kind_of_shape source)) b in
          let old : ℕ = cell_at bytes (place (kind_of_shape s) column row 0 + b) in
          ap (λ o. at_both o row_read f old) ex ∙ ap (λ o. at_both (Some x) o f old) ey
          ∙ ap (λ g. converted (converted_texel source.format s.format) g (texel_size (kind_of_shape source)) b) (fun_ext (λ b. ap (cell_at image) (places source.width (texel_size (kind_of_shape source)) b)))
          ∙ texel_converted image small (place (kind_of_shape source) x y 0) (converted_texel source.format s.format) (texel_size (kind_of_shape source)) b source_fits
