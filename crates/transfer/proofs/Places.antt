-- Cells of contents, and places of images under their store's kind.
use Rattle.std.proofs.Common.{◌≡◌, ℕ, ◌+◌, ◌*◌, ◌/◌, ◌%◌, ◌<◌, ◌≤◌, length, refl, sym, ◌∙◌, ap, subst, arith, inl, inr}
use Rattle.std.specs.Prelude.{◌⊎◌, pos}
use Rattle.std.proofs.lemmas.Bool.{cases_lt}
use Rattle.std.proofs.lemmas.Nat.{mul-le, mod_below, div-add-mod', div_below}
use Rattle.std.proofs.lemmas.List.{get_or_past}
use Rattle.std.proofs.lemmas.List.FromFn.{length-map-range_with_len, get_or-map-range_with_len}
use Rattle.cells.specs.Contents.{Content, cells, cell_at, UNDEFINED}
use Rattle.formats.specs.declared.format.Format.{Format}
use Rattle.formats.specs.declared.format.Format.TheVariants.{R8ui, R8i, R16ui, R16i, R32ui, R32i, Rg8ui, Rgba8ui, Rgba8i, Rgb10A2ui, Rgba32ui, Rgba32i}
use Rattle.formats.specs.Pairs.{format_number}
use Rattle.formats.specs.Texel.{bytes_per_texel}
use Rattle.gl_model.specs.declared.objects.ImageInfo.{ImageInfo}
use Rattle.gl_model.specs.ImageEffect.{texel_bytes, content_bytes}
use Rattle.vk_types.specs.declared.handles.Kind.{Kind}
use Rattle.vk_types.specs.declared.regions.Rect.{Rect}
use Rattle.vk_types.specs.Touches.{the_end}
use Rattle.vk_model.specs.Texels.{format_at}
use Rattle.vk_model.specs.Fitting.{size_of}
use Rattle.vk_model.specs.Cells.{place, texel_size}
use Rattle.vk_model.specs.Meaning.{LiesIn}
use Rattle.vk_model.proofs.Images.{column_of_place, row_of_place}
use Rattle.vk_effects.specs.Places.{IsBeside, IsOutside}
use Rattle.vk_effects.proofs.Columns.{has_bytes, before_its_end}
use Rattle.transfer.specs.Shown.{store_kind, place_in, IsStorable}

-- Cells

pub length-cells : (n : ℕ) (f : ℕ → ℕ) → length (cells n f) ≡ n
length-cells n f = length-map-range_with_len f 0 n

pub cell_at-cells : (n : ℕ) (f : ℕ → ℕ) (i : ℕ) → i < n → cell_at (cells n f) i ≡ f i
cell_at-cells n f i low = get_or-map-range_with_len f 0 n i i UNDEFINED low (omega arith)

pub cell_at-past : (content : Content) (i : ℕ) → length content ≤ i → cell_at content i ≡ UNDEFINED
cell_at-past content i past = get_or_past content i UNDEFINED past

-- a cell that is defined is one of the content's
pub record IsCell (n : ℕ) (f : ℕ → ℕ) (i : ℕ) : Type 0 where
  pub below : i < n
  pub is : cell_at (cells n f) i ≡ f i

pub cell_at-defined : (n : ℕ) (f : ℕ → ℕ) (i : ℕ) → cell_at (cells n f) i < UNDEFINED → IsCell n f i
cell_at-defined n f i h = by_side (cases_lt i n)
  where
    by_side : (i < n) ⊎ (n ≤ i) → IsCell n f i
    by_side (inl low) = record { below = low; is = cell_at-cells n f i low }
    by_side (inr past) =
        let long : length (cells n f) ≡ n = length-cells n f in
        let gone : cell_at (cells n f) i ≡ UNDEFINED = cell_at-past (cells n f) i (omega (arith, long, past)) in
        absurd (omega (arith, gone, h))

-- Texels

pub format_back : (format : Format) → format_at (format_number format) ≡ format
format_back R8ui = refl
format_back R8i = refl
format_back R16ui = refl
format_back R16i = refl
format_back R32ui = refl
format_back R32i = refl
format_back Rg8ui = refl
format_back Rgba8ui = refl
format_back Rgba8i = refl
format_back Rgb10A2ui = refl
format_back Rgba32ui = refl
format_back Rgba32i = refl

pub size_is : (info : ImageInfo) → texel_size (store_kind info) ≡ texel_bytes info
size_is info = ap bytes_per_texel (format_back info.format)

pub some_bytes : (info : ImageInfo) → 0 < texel_bytes info
some_bytes info = (has_bytes info.format).some

pub few_bytes : (info : ImageInfo) → texel_bytes info ≤ 16
few_bytes info = (has_bytes info.format).few

-- Places

pub place_is : (info : ImageInfo) (x y byte : ℕ) → place (store_kind info) x y byte ≡ place_in info x y byte
place_is info x y byte = ap (λ n. (y * info.width + x) * n + byte) (size_is info)

pub content_ends : (info : ImageInfo) → IsStorable info → size_of (store_kind info) ≤ the_end
content_ends info storable =
    let area : info.width * info.height ≤ 2048 * 2048 = mul-le info.width info.height 2048 2048 storable.columns storable.rows in
    let few = few_bytes info in
    let size = size_is info in
    let all : info.width * info.height * texel_size (store_kind info) ≤ 2048 * 2048 * 16 = mul-le (info.width * info.height) (texel_size (store_kind info)) (2048 * 2048) 16 area (omega (arith, few, size)) in
    omega (arith, all)

pub before_the_end : (info : ImageInfo) (x y byte : ℕ) → IsStorable info → x < info.width → y < info.height → byte < texel_bytes info → place (store_kind info) x y byte < the_end
before_the_end info x y byte storable column row in_texel =
    let size = size_is info in
    let inside = before_its_end (store_kind info) x y byte column row (omega (arith, in_texel, size)) in
    let ends = content_ends info storable in
    omega (arith, inside, ends)

-- each place of what an image holds is a byte of a texel
pub record IsByteAt (info : ImageInfo) (i : ℕ) : Type 0 where
  pub column : i / texel_bytes info % info.width < info.width
  pub row : i / texel_bytes info / info.width < info.height
  pub in_texel : i % texel_bytes info < texel_bytes info
  pub is : place_in info (i / texel_bytes info % info.width) (i / texel_bytes info / info.width) (i % texel_bytes info) ≡ i

no_texel : (w h size i : ℕ) → w ≤ 0 → i < w * h * size → ⊥
no_texel w h size i none below =
    let zero_area : w * h * size ≤ 0 * h * size = mul-le (w * h) size (0 * h) size (mul-le w h 0 h none (omega arith)) (omega arith) in
    let z : 0 * h * size ≡ 0 = grind arith in
    omega (arith, zero_area, z, below)

pub byte_at_place : (info : ImageInfo) (i : ℕ) → i < content_bytes info → IsByteAt info i
byte_at_place info i below = by_width (cases_lt 0 info.width)
  where
    by_width : (0 < info.width) ⊎ (info.width ≤ 0) → IsByteAt info i
    by_width (inr none) = absurd (no_texel info.width info.height (texel_bytes info) i none below)
    by_width (inl some) =
        let size : 0 < texel_bytes info = some_bytes info in
        let turned : content_bytes info ≡ info.height * info.width * texel_bytes info = grind arith in
        let texel : i / texel_bytes info < info.height * info.width = div_below i (texel_bytes info) (info.height * info.width) size (omega (arith, below, turned)) in
        record {
          column = mod_below (i / texel_bytes info) info.width some;
          row = div_below (i / texel_bytes info) info.width info.height some texel;
          in_texel = mod_below i (texel_bytes info) size;
          is = ap (λ n. n * texel_bytes info + i % texel_bytes info) (div-add-mod' (i / texel_bytes info) info.width) ∙ div-add-mod' i (texel_bytes info);
        }

-- In a rectangle and outside it

pub lies_in : (kind : Kind) (info : ImageInfo) (rect : Rect) (corner_x corner_y x y byte left top : ℕ) → kind ≡ store_kind info → IsStorable info → rect.x ≡ pos corner_x → rect.y ≡ pos corner_y →
    x < info.width → y < info.height → byte < texel_bytes info → x ≡ corner_x + left → left < rect.w → y ≡ corner_y + top → top < rect.h → LiesIn kind rect x y byte left top
lies_in kind info rect corner_x corner_y x y byte left top is storable x_is y_is column row in_texel from_left to_right from_top to_bottom =
    let size = size_is info in
    subst (λ k. LiesIn k rect x y byte left top) (sym is) (record {
      corner_x = corner_x;
      corner_y = corner_y;
      x_is = x_is;
      y_is = y_is;
      column = column;
      in_texel = omega (arith, in_texel, size);
      in_image = before_the_end info x y byte storable column row in_texel;
      from_left = from_left;
      to_right = to_right;
      from_top = from_top;
      to_bottom = to_bottom;
    })

pub lies_outside : (kind : Kind) (info : ImageInfo) (rect : Rect) (x y byte : ℕ) → kind ≡ store_kind info → x < info.width → byte < texel_bytes info → IsBeside rect.x rect.w x ⊎ IsBeside rect.y rect.h y → IsOutside kind rect (place kind x y byte)
lies_outside kind info rect x y byte is column in_texel out = subst (λ k. IsOutside k rect (place k x y byte)) (sym is) (by_side out)
  where
    small : byte < texel_size (store_kind info)
    small = let size = size_is info in omega (arith, in_texel, size)

    by_side : IsBeside rect.x rect.w x ⊎ IsBeside rect.y rect.h y → IsOutside (store_kind info) rect (place (store_kind info) x y byte)
    by_side (inl beside) = inl (subst (λ k. IsBeside rect.x rect.w k) (sym (column_of_place (store_kind info) x y byte column small)) beside)
    by_side (inr above) = inr (subst (λ k. IsBeside rect.y rect.h k) (sym (row_of_place (store_kind info) x y byte column small)) above)
