-- Texels as texels of another format, by what OpenGL ES says and by what the device does.
use Rattle.std.proofs.Common.{◌≡◌, ℕ, zero, suc, ◌+◌, ◌<◌, Bool, true, false, cond, eqb, List, length, map, refl, sym, ◌∙◌, ap, arith}
use Rattle.std.specs.Prelude.{◌||◌, not, slice_index}
use Rattle.std.specs.List.{list_any, range_with_len}
use Rattle.std.proofs.lemmas.Bool.{or_parts, eqb-false}
use Rattle.std.proofs.lemmas.List.{get_or_default}
use Rattle.cells.specs.Contents.{Content, cell_at, UNDEFINED}
use Rattle.formats.specs.Components.{expanded, packed, fits_format}
use Rattle.formats.specs.Pairs.{format_number}
use Rattle.gl_model.specs.declared.objects.ImageInfo.{ImageInfo}
use Rattle.gl_model.specs.ImageEffect.{Picture, texel_bytes, texel_at, undefined_texel, is_undefined, converted}
use Rattle.vk_types.specs.declared.handles.Kind.{Kind}
use Rattle.vk_model.specs.Texels.{format_at, converted_texel}
use Rattle.vk_model.specs.Cells.{Contents, place, texel_size, format_of}
use Rattle.vk_model.specs.Cells as device
use Rattle.vk_effects.proofs.Words.{converted_same, converted_defined}
use Rattle.transfer.specs.Shown.{store_kind, place_in, Shows}
use Rattle.transfer.specs.Blits.{AreCells}
use Rattle.transfer.proofs.Places.{format_back, size_is, place_is}
use Rattle.transfer.proofs.Reading.{no_cell}
use Rattle.transfer.proofs.Clearing.{length-packed}

-- where no cell of a texel is undefined, each one is not
none_undefined : (f : ℕ → ℕ) (a n b : ℕ) → list_any (λ c. eqb c UNDEFINED) (map f (range_with_len a n)) ≡ false → b < n → eqb (f (a + b)) UNDEFINED ≡ false
none_undefined f a zero b none lt = absurd (omega arith)
none_undefined f a (suc n) zero none lt =
    let e : a + 0 ≡ a = omega arith in
    ap (λ k. eqb (f k) UNDEFINED) e ∙ (or_parts (eqb (f a) UNDEFINED) (list_any (λ c. eqb c UNDEFINED) (map f (range_with_len (a + 1) n))) none).0
none_undefined f a (suc n) (suc b) none lt =
    let e : a + suc b ≡ a + 1 + b = omega arith in
    ap (λ k. eqb (f k) UNDEFINED) e ∙ none_undefined f (a + 1) n b (or_parts (eqb (f a) UNDEFINED) (list_any (λ c. eqb c UNDEFINED) (map f (range_with_len (a + 1) n))) none).1 (omega (arith, lt))

-- each cell of a texel of a picture that is not undefined is defined
pub each_defined : (read : Picture) (x y b : ℕ) → AreCells read.cells → is_undefined (texel_at read x y) ≡ false → b < texel_bytes read.info → cell_at read.cells (place_in read.info x y b) < UNDEFINED
each_defined read x y b are none lt =
    let e : 0 + b ≡ b = omega arith in
    let differs : eqb (cell_at read.cells (place_in read.info x y b)) UNDEFINED ≡ false =
    sym (ap (λ k. eqb (cell_at read.cells (place_in read.info x y k)) UNDEFINED) e) ∙ none_undefined (λ b. cell_at read.cells (place_in read.info x y b)) 0 (texel_bytes read.info) b none lt in
    let ne = eqb-false (cell_at read.cells (place_in read.info x y b)) UNDEFINED differs in
    let most = are (place_in read.info x y b) in
    omega (arith, ne, most)

-- a conversion on the device of a texel that is shown and has its cells defined
pub shown_converted : (kind : Kind) (seen : ℕ → ℕ) (read : Picture) (h : List ℕ → List ℕ) (x y byte : ℕ) → kind ≡ store_kind read.info → Shows seen read.cells → AreCells read.cells → is_undefined (texel_at read x y) ≡ false →
    device.converted h (λ b. seen (place kind x y b)) (texel_size kind) byte ≡ slice_index (h (texel_at read x y)) byte
shown_converted kind seen read h x y byte is shows are none =
    ap (λ k. device.converted h (λ b. seen (place k x y b)) (texel_size k) byte) is
    ∙ ap (λ n. device.converted h (λ b. seen (place (store_kind read.info) x y b)) n byte) (size_is read.info)
    ∙ converted_same h (λ b. seen (place (store_kind read.info) x y b)) (λ b. cell_at read.cells (place_in read.info x y b)) (texel_bytes read.info) byte
    (λ b lt. ap seen (place_is read.info x y b) ∙ shows (place_in read.info x y b) (each_defined read x y b are none lt))
    ∙ converted_defined h (λ b. cell_at read.cells (place_in read.info x y b)) (texel_bytes read.info) byte (λ b lt. each_defined read x y b are none lt)

-- a texel that is converted and has a cell defined was defined and fits
pub record IsConverted (from to : ImageInfo) (texel : Content) (byte : ℕ) : Type 0 where
  pub whole : is_undefined texel ≡ false
  pub is : cell_at (converted from to texel) byte ≡ cell_at (packed to.format (expanded from.format texel)) byte

pub converted_is : (from to : ImageInfo) (texel : Content) (byte : ℕ) → cell_at (converted from to texel) byte < UNDEFINED → IsConverted from to texel byte
converted_is from to texel byte defined = go (is_undefined texel) (not (fits_format to.format (expanded from.format texel))) refl refl
  where
    pick : (t : Bool) → (is_undefined texel || not (fits_format to.format (expanded from.format texel))) ≡ t → cell_at (converted from to texel) byte ≡ cell_at (cond t (undefined_texel to) (packed to.format (expanded from.format texel))) byte
    pick t is = ap (λ t. cell_at (cond t (undefined_texel to) (packed to.format (expanded from.format texel))) byte) is

    lost : (is_undefined texel || not (fits_format to.format (expanded from.format texel))) ≡ true → ⊥
    lost is = let gone : cell_at (converted from to texel) byte ≡ UNDEFINED = pick true is ∙ no_cell (texel_bytes to) byte in omega (arith, gone, defined)

    go : (u n : Bool) → is_undefined texel ≡ u → not (fits_format to.format (expanded from.format texel)) ≡ n → IsConverted from to texel byte
    go true n whole fits = absurd (lost (ap (λ t. t || not (fits_format to.format (expanded from.format texel))) whole))
    go false true whole fits = absurd (lost (ap (λ t. t || not (fits_format to.format (expanded from.format texel))) whole ∙ fits))
    go false false whole fits = record { whole = whole; is = pick false (ap (λ t. t || not (fits_format to.format (expanded from.format texel))) whole ∙ fits) }

-- both give the same byte
pub conversions_agree : (from_kind to_kind : Kind) (seen : ℕ → ℕ) (read : Picture) (to : ImageInfo) (x y byte : ℕ) → from_kind ≡ store_kind read.info → to_kind ≡ store_kind to → Shows seen read.cells → AreCells read.cells → byte < texel_bytes to →
    cell_at (converted read.info to (texel_at read x y)) byte < UNDEFINED →
    device.converted (converted_texel (format_of from_kind) (format_of to_kind)) (λ b. seen (place from_kind x y b)) (texel_size from_kind) byte ≡ cell_at (converted read.info to (texel_at read x y)) byte
conversions_agree from_kind to_kind seen read to x y byte from_is to_is shows are in_texel defined =
    let is = converted_is read.info to (texel_at read x y) byte defined in
    let texel : Content = texel_at read x y in
    let long : length (packed to.format (expanded read.info.format (texel_at read x y))) ≡ texel_bytes to = length-packed to.format (expanded read.info.format (texel_at read x y)) in
    ap (λ k. device.converted (converted_texel (format_of k) (format_of to_kind)) (λ b. seen (place from_kind x y b)) (texel_size from_kind) byte) from_is
    ∙ ap (λ k. device.converted (converted_texel (format_number read.info.format) (format_of k)) (λ b. seen (place from_kind x y b)) (texel_size from_kind) byte) to_is
    ∙ shown_converted from_kind seen read (converted_texel (format_number read.info.format) (format_number to.format)) x y byte from_is shows are is.whole
    ∙ ap (λ f. slice_index (packed f (expanded (format_at (format_number read.info.format)) (texel_at read x y))) byte) (format_back to.format)
    ∙ ap (λ f. slice_index (packed to.format (expanded f (texel_at read x y))) byte) (format_back read.info.format)
    ∙ get_or_default (packed to.format (expanded read.info.format (texel_at read x y))) byte 0 UNDEFINED (omega (arith, long, in_texel))
    ∙ sym is.is
