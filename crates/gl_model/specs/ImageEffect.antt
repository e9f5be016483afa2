-- What an accepted call on images does to what they hold: which cell of the result is which cell of the source.
use Rattle.std.specs.Prelude.{ℕ, ◌+◌, ◌-◌, ◌*◌, ◌/◌, ◌%◌, ◌==◌, ◌||◌, ◌&&◌, ℤ, pos, ◌+ℤ◌, ◌-ℤ◌, ◌*ℤ◌, neg_ℤ, int_lt, int_le, unsigned_abs, Bool, not, Option, Some, None, List, [], ◌∷◌, length, nat_lt, if◌then◌else◌}
use Rattle.std.specs.Int.{int_div_euclid, int_min, int_max}
use Rattle.std.specs.Option.{option_map_or}
use Rattle.std.specs.List.{list_any, list_all, filter, flat_map, range_with_len}
use Rattle.cells.specs.Contents.{Content, cells, cell_at, UNDEFINED, undefined_cells, in_range}
use Rattle.formats.specs.declared.pixel.PixelFormat.{PixelFormat}
use Rattle.formats.specs.declared.pixel.PixelType.{PixelType}
use Rattle.formats.specs.Rows.{PixelStorage}
use Rattle.formats.specs.Texel.{bytes_per_texel, has_signed_components, own_pair_of}
use Rattle.formats.specs.Components.{expanded, fits_format, packed, low_bytes}
use Rattle.formats.specs.Rows.{first_row_place, row_stride}
use Rattle.formats.specs.Pairs.{same_pair}
use Rattle.gl_model.specs.declared.objects.ImageInfo.{ImageInfo}
use Rattle.gl_model.specs.GroupState.{ScissorBox}
use Rattle.gl_model.specs.Bindings.{differs}
use Rattle.gl_model.specs.ImageRows.{pair_texel}

-- an image with what it holds
pub record Picture : Type 0 where
  pub info : ImageInfo
  pub cells : Content

abbrev pub texel_bytes : ImageInfo → ℕ
texel_bytes info = bytes_per_texel info.format

abbrev pub content_bytes : ImageInfo → ℕ
content_bytes info = info.width * info.height * texel_bytes info

-- the cells of the texel of a column and row
abbrev pub texel_at : Picture → ℕ → ℕ → Content
texel_at picture x y =
    let size = texel_bytes picture.info in
    cells size (λ b. cell_at picture.cells ((y * picture.info.width + x) * size + b))

-- what an image holds after a write: f x y is the texel written at a column and row, and None where the old one stays
abbrev pub painted : Picture → (ℕ → ℕ → Option Content) → Content
painted old f =
    let size = texel_bytes old.info in
    cells (content_bytes old.info) (λ k.
    let x = k / size % old.info.width in
    let y = k / size / old.info.width in
    option_map_or (λ texel. cell_at texel (k % size)) (f x y) (cell_at old.cells k))

abbrev pub undefined_texel : ImageInfo → Content
undefined_texel info = undefined_cells (texel_bytes info)

-- a number is in the range of len numbers from at on
abbrev pub in_int_range : ℤ → ℕ → ℤ → Bool
in_int_range at len i = int_le at i && int_lt i (at +ℤ pos len)

-- a place is inside an image
abbrev pub is_inside : ImageInfo → ℤ → ℤ → Bool
is_inside info x y = in_int_range (pos 0) info.width x && in_int_range (pos 0) info.height y

-- the texel of a place, and not defined outside the image
abbrev pub texel_or_undefined : Picture → ℤ → ℤ → Content
texel_or_undefined picture x y =
    if is_inside picture.info x y then texel_at picture (unsigned_abs x) (unsigned_abs y) else undefined_texel picture.info

-- TexSubImage2D: the rectangle's texels from the rows of a source, which begin at base
abbrev pub after_upload : Picture → ℕ → ℕ → ℕ → ℕ → PixelStorage → Content → ℕ → Content
after_upload old x0 y0 width height store source base =
    let size = texel_bytes old.info in
    let first = base + first_row_place store size width in
    let stride = row_stride store size width in
    painted old (λ x y.
    if in_range x0 width x && in_range y0 height y
    then Some (cells size (λ b. cell_at source (first + (y - y0) * stride + (x - x0) * size + b)))
    else None)

-- CopyTexSubImage2D: the rectangle's texels from a rectangle of the read image
abbrev pub after_copy : Picture → Picture → ℕ → ℕ → ℤ → ℤ → ℕ → ℕ → Content
after_copy old read x0 y0 from_x from_y width height =
    painted old (λ x y.
    if in_range x0 width x && in_range y0 height y
    then Some (texel_or_undefined read (from_x +ℤ pos (x - x0)) (from_y +ℤ pos (y - y0)))
    else None)

-- the scissor box, where the test is on
abbrev pub in_scissor : Bool → ScissorBox → ℕ → ℕ → Bool
in_scissor on box x y = not on || (in_int_range box.x box.width (pos x) && in_int_range box.y box.height (pos y))

-- the area that all attached images have in common
abbrev pub in_common : List ImageInfo → ℕ → ℕ → Bool
in_common images x y = list_all (λ i. nat_lt x i.width && nat_lt y i.height) images

-- the texel of a clear: not defined where the signedness is another or the value does not fit
abbrev pub clear_texel : ImageInfo → Bool → List ℕ → Content
clear_texel info signed value =
    if differs signed (has_signed_components info.format) || not (fits_format info.format value) then undefined_texel info
    else packed info.format value

-- ClearBuffer: in the scissor box the value inside the common area, and not defined outside it
abbrev pub after_clear : Picture → (ℕ → ℕ → Bool) → (ℕ → ℕ → Bool) → Content → Content
after_clear old scissored common texel =
    painted old (λ x y. if scissored x y then Some (if common x y then texel else undefined_texel old.info) else None)

-- the greatest whole number that is at most a / b
abbrev pub floor_div : ℤ → ℤ → ℤ
floor_div a b = if int_lt b (pos 0) then int_div_euclid (neg_ℤ a) (neg_ℤ b) else int_div_euclid a b

-- The source column of destination column i, at the middle of the pixel. Rows go likewise.
abbrev pub blit_source : ℤ → ℤ → ℤ → ℤ → ℤ → ℤ
blit_source s0 s1 d0 d1 i = s0 +ℤ floor_div (((pos 2 *ℤ i) +ℤ (pos 1 -ℤ (pos 2 *ℤ d0))) *ℤ (s1 -ℤ s0)) (pos 2 *ℤ (d1 -ℤ d0))

-- a number is between the ends, the lower one counted
abbrev pub is_between : ℤ → ℤ → ℤ → Bool
is_between a b i = int_le (int_min a b) i && int_lt i (int_max a b)

abbrev pub is_undefined : Content → Bool
is_undefined texel = list_any (λ c. c == UNDEFINED) texel

-- a texel of one format as one of another: not defined where a cell is not, or where the value does not fit
abbrev pub converted : ImageInfo → ImageInfo → Content → Content
converted from to texel =
    let value = expanded from.format texel in
    if is_undefined texel || not (fits_format to.format value) then undefined_texel to else packed to.format value

-- the corners of a blit
pub record Corners : Type 0 where
  pub sx0 : ℤ
  pub sy0 : ℤ
  pub sx1 : ℤ
  pub sy1 : ℤ
  pub dx0 : ℤ
  pub dy0 : ℤ
  pub dx1 : ℤ
  pub dy1 : ℤ

-- the source rectangle has an area; the destination has none where no number is between its ends
abbrev pub has_area : Corners → Bool
has_area c = not (unsigned_abs (c.sx1 -ℤ c.sx0) == 0 || unsigned_abs (c.sy1 -ℤ c.sy0) == 0)

-- BlitFramebuffer into one image, by the nearest rule
abbrev pub after_blit : Picture → Picture → Corners → (ℕ → ℕ → Bool) → (ℕ → ℕ → Bool) → Content
after_blit old read c scissored common =
    painted old (λ x y.
    let from_x = blit_source c.sx0 c.sx1 c.dx0 c.dx1 (pos x) in
    let from_y = blit_source c.sy0 c.sy1 c.dy0 c.dy1 (pos y) in
    if has_area c && is_between c.dx0 c.dx1 (pos x) && is_between c.dy0 c.dy1 (pos y) && scissored x y && common x y && is_inside read.info from_x from_y
    then Some (converted read.info old.info (texel_at read (unsigned_abs from_x) (unsigned_abs from_y)))
    else None)

-- ReadPixels: a texel in the pair asked for. In the format's own pair cells are copied.
abbrev pub read_texel : Picture → PixelFormat → PixelType → ℤ → ℤ → Content
read_texel read pixels kind x y =
    let texel = texel_or_undefined read x y in
    if same_pair (pixels, kind) (own_pair_of read.info.format) then texel
    else (if is_undefined texel then undefined_cells 16 else flat_map (λ v. low_bytes 4 v) (expanded read.info.format texel))

-- the rows' texels without padding
abbrev pub read_cells : Picture → PixelFormat → PixelType → ℤ → ℤ → ℕ → ℕ → Content
read_cells read pixels kind x y width height =
    let size = pair_texel read.info.format pixels kind in
    cells (width * height * size) (λ k.
    cell_at (read_texel read pixels kind (x +ℤ pos (k / size % width)) (y +ℤ pos (k / size / width))) (k % size))

-- the last of some numbers
abbrev pub last_of : List ℕ → Option ℕ
last_of [] = None
last_of (n ∷ []) = Some n
last_of (n ∷ m ∷ rest) = last_of (m ∷ rest)

-- A buffer after a read into it: a place has a texel of the last row that covers it, and elsewhere what it had.
abbrev pub after_read : Content → ℕ → Picture → PixelFormat → PixelType → PixelStorage → ℤ → ℤ → ℕ → ℕ → Content
after_read old base read pixels kind store x y width height =
    let size = pair_texel read.info.format pixels kind in
    let stride = row_stride store size width in
    let first = base + first_row_place store size width in
    cells (length old) (λ p.
    option_map_or (λ row.
    let k = p - (first + row * stride) in
    cell_at (read_texel read pixels kind (x +ℤ pos (k / size)) (y +ℤ pos row)) (k % size))
    (last_of (filter (λ row. in_range (first + row * stride) (width * size) p) (range_with_len 0 height)))
    (cell_at old p))
