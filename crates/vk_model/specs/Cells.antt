-- The cell that each operation leaves at a place. 256 stands for a cell that is not defined.
use Rattle.std.specs.Prelude.{ℕ, suc, ◌+◌, ◌-◌, ◌*◌, ◌/◌, ◌%◌, ◌^◌, ◌==◌, nat_lt, nat_le, min, max, ◌&&◌, not, Bool, true, false, ℤ, pos, negsuc, List, [], ◌∷◌, slice_index, Option, Some, None, if◌then◌else◌}
use Rattle.std.specs.List.{list_all}
use Rattle.vk_types.specs.declared.handles.Kind.{Kind}
use Rattle.vk_types.specs.declared.handles.Kind.TheVariants.{Buffer, Image}
use Rattle.vk_types.specs.declared.accesses.Layout.{Layout}
use Rattle.vk_types.specs.declared.accesses.Layout.TheVariants.{Undefined, TransferSrc, TransferDst, ColorAttachment}
use Rattle.vk_types.specs.declared.regions.Rect.{Rect}
use Rattle.vk_types.specs.declared.ops.Load.{Load}
use Rattle.vk_types.specs.declared.ops.Load.TheVariants.{DontCare}
use Rattle.vk_types.specs.declared.regions.Clear.{Clear}
use Rattle.vk_types.specs.declared.regions.Coords.{Coords}
use Rattle.vk_types.specs.declared.ops.Op.{Op}
use Rattle.vk_types.specs.declared.ops.Op.TheVariants.{CopyBuffer, BufferToImage, ImageToBuffer, CopyImage, BlitImage, ClearImage, FillBuffer, PassPart}
use Rattle.cells.specs.Contents.{UNDEFINED, cells}
use Rattle.vk_types.specs.Touches.{buffer_texel}
use Rattle.vk_model.specs.Fitting.{size_of}
use Rattle.vk_model.specs.Texels.{texel_bytes, expanded_texel, converted_texel}

-- the cell of each object at each place: a byte, or UNDEFINED
abbrev pub Contents : Type 0
Contents = ℕ → ℕ → ℕ

-- Places of images

abbrev pub format_of : Kind → ℕ
format_of (Buffer size) = 0
format_of (Image format width height) = format

abbrev pub width_of : Kind → ℕ
width_of (Buffer size) = size
width_of (Image format width height) = width

abbrev pub height_of : Kind → ℕ
height_of (Buffer size) = 1
height_of (Image format width height) = height

abbrev pub texel_size : Kind → ℕ
texel_size kind = texel_bytes (format_of kind)

-- where a byte of a texel lies
abbrev pub place : Kind → ℕ → ℕ → ℕ → ℕ
place kind x y byte = (y * width_of kind + x) * texel_size kind + byte

abbrev pub column_at : Kind → ℕ → ℕ
column_at kind i = (i / texel_size kind) % width_of kind

abbrev pub row_at : Kind → ℕ → ℕ
row_at kind i = (i / texel_size kind) / width_of kind

abbrev pub byte_at : Kind → ℕ → ℕ
byte_at kind i = i % texel_size kind

-- Rectangles

-- how far x lies behind a, where it is one of the n numbers from a on
abbrev pub behind : ℤ → ℕ → ℕ → Option ℕ
behind (pos a) n x = if nat_le a x && nat_lt x (a + n) then Some (x - a) else None
behind (negsuc a) n x = if nat_lt (x + suc a) n then Some (x + suc a) else None

-- the number that lies k behind a
abbrev pub ahead : ℤ → ℕ → ℕ
ahead (pos a) k = a + k
ahead (negsuc a) k = k - suc a

-- f of the column and the row, where there are both
abbrev pub at_both : Option ℕ → Option ℕ → (ℕ → ℕ → ℕ) → ℕ → ℕ
at_both None y f other = other
at_both (Some x) None f other = other
at_both (Some x) (Some y) f other = f x y

-- f of how far the place's column and row lie in the rectangle, where they lie in it
abbrev pub in_rect : Kind → Rect → ℕ → (ℕ → ℕ → ℕ) → ℕ → ℕ
in_rect kind rect i f other = at_both (behind rect.x rect.w (column_at kind i)) (behind rect.y rect.h (row_at kind i)) f other

-- Texels

-- whether each cell of a texel is defined
abbrev pub all_defined : List ℕ → Bool
all_defined texel = list_all (λ cell. nat_lt cell UNDEFINED) texel

-- A byte of what f makes of a texel of so many bytes. One cell that is not defined leaves none defined.
abbrev pub converted : (List ℕ → List ℕ) → (ℕ → ℕ) → ℕ → ℕ → ℕ
converted f texel size byte = if all_defined (cells size texel) then slice_index (f (cells size texel)) byte else UNDEFINED

-- Operations. In each, id and i are the place that is written, and c is what is found.

abbrev pub is_undefined : Layout → Bool
is_undefined Undefined = true
is_undefined TransferSrc = false
is_undefined TransferDst = false
is_undefined ColorAttachment = false

-- a change of layout from Undefined discards what was there
abbrev pub discards : Option (Layout × Layout) → Bool
discards None = false
discards (Some both) = is_undefined both.0

-- rows of a buffer become the rows of a rectangle
abbrev pub buffer_to_image : Kind → (ℕ → ℕ) → ℕ → ℕ → ℕ → Rect → ℕ → ℕ → ℕ
buffer_to_image kind src src_at stride size rect i old = in_rect kind rect i (λ x y. src (src_at + y * stride + x * size + byte_at kind i)) old

-- the last row that begins at or before a byte
abbrev pub last_row : ℕ → ℕ → ℕ → ℕ
last_row rows stride at = if stride == 0 then rows - 1 else min (at / stride) (rows - 1)

-- a byte of a texel as it comes to a buffer
abbrev pub texel_to_buffer : Kind → (ℕ → ℕ) → Bool → ℕ → ℕ → ℕ → ℕ
texel_to_buffer kind src expand x y byte =
    if expand
    then converted (expanded_texel (format_of kind)) (λ b. src (place kind x y b)) (texel_size kind) byte
    else src (place kind x y byte)

-- the rows of a rectangle become rows of a buffer, a later row over an earlier one; at counts from the first row on
abbrev pub image_to_buffer : Kind → (ℕ → ℕ) → Rect → ℕ → ℕ → Bool → ℕ → ℕ → ℕ
image_to_buffer kind src rect stride size expand at old =
    if nat_lt (at - last_row rect.h stride at * stride) (rect.w * size)
    then texel_to_buffer kind src expand (ahead rect.x ((at - last_row rect.h stride at * stride) / size)) (ahead rect.y (last_row rect.h stride at)) ((at - last_row rect.h stride at * stride) % size)
    else old

abbrev pub copy_image : Kind → Kind → (ℕ → ℕ) → ℤ → ℤ → Rect → ℕ → ℕ → ℕ
copy_image from to src src_x src_y rect i old = in_rect to rect i (λ x y. src (place from (ahead src_x x) (ahead src_y y) (byte_at to i))) old

abbrev pub clear_image : Kind → Rect → List ℕ → ℕ → ℕ → ℕ
clear_image kind rect texel i old = in_rect kind rect i (λ x y. slice_index texel (byte_at kind i)) old

-- Coordinates are moved up, so that none is below 0.
abbrev pub origin : ℕ
origin = 2 ^ 31

abbrev pub moved : ℤ → ℕ
moved z = ahead z origin

-- twice the way from d0 to the middle of x
abbrev pub middle : ℕ → ℕ → ℕ → ℕ
middle d0 d1 x = if nat_lt d0 d1 then (2 * x + 1) - 2 * d0 else 2 * d0 - (2 * x + 1)

-- the source column of a destination column, by the middle of the destination's texel
abbrev pub scaled : ℕ → ℕ → ℕ → ℕ → ℕ → ℕ
scaled s0 s1 d0 d1 x =
    if nat_le s0 s1
    then s0 + (middle d0 d1 x * (s1 - s0)) / (2 * (max d0 d1 - min d0 d1))
    else s0 - (middle d0 d1 x * (s0 - s1) + (2 * (max d0 d1 - min d0 d1) - 1)) / (2 * (max d0 d1 - min d0 d1))

abbrev pub in_source : ℕ → ℕ → Option ℕ
in_source size s = if nat_le origin s && nat_lt s (origin + size) then Some (s - origin) else None

-- The column that is read, where the column is in the destination and its source in the read image. A source without
-- width gives none, as a destination without width has no column.
abbrev pub source_of : ℕ → ℤ → ℤ → ℤ → ℤ → ℕ → Option ℕ
source_of size s0 s1 d0 d1 x =
    if not (moved s0 == moved s1) && nat_le (min (moved d0) (moved d1)) (x + origin) && nat_lt (x + origin) (max (moved d0) (moved d1))
    then in_source size (scaled (moved s0) (moved s1) (moved d0) (moved d1) (x + origin))
    else None

-- a byte of the texel that is nearest to a place, as one of the other format; a component keeps its low bits
abbrev pub nearest_texel : Kind → Kind → (ℕ → ℕ) → Coords → ℕ → ℕ → ℕ
nearest_texel from to src coords i old =
    at_both
    (source_of (width_of from) coords.sx0 coords.sx1 coords.dx0 coords.dx1 (column_at to i))
    (source_of (height_of from) coords.sy0 coords.sy1 coords.dy0 coords.dy1 (row_at to i))
    (λ x y. converted (converted_texel (format_of from) (format_of to)) (λ b. src (place from x y b)) (texel_size from) (byte_at to i))
    old

-- so in a clip
abbrev pub blit_image : Kind → Kind → (ℕ → ℕ) → Coords → Rect → ℕ → ℕ → ℕ
blit_image from to src coords clip i old = in_rect to clip i (λ _ _. nearest_texel from to src coords i old) old

-- what a pass finds at a place; a load that clears writes the texel to each place of the image
abbrev pub loaded : Kind → Load → ℕ → ℕ → ℕ
loaded kind Load.Load i old = old
loaded kind (Load.Clear texel) i old = if nat_lt i (size_of kind) then slice_index texel (byte_at kind i) else old
loaded kind DontCare i old = UNDEFINED

-- the clears in order, each over those before it
abbrev pub cleared : Kind → List Clear → ℕ → ℕ → ℕ
cleared kind [] i old = old
cleared kind (clear ∷ clears) i old = cleared kind clears i (clear_image kind clear.rect clear.texel i old)

abbrev pub pass_part : Kind → Load → Bool → List Clear → ℕ → ℕ → ℕ
pass_part kind load keep clears i old = if keep then cleared kind clears i (loaded kind load i old) else UNDEFINED

abbrev pub op_cell : (ℕ → Kind) → Op → Contents → ℕ → ℕ → ℕ
op_cell kinds (CopyBuffer src src_at dst dst_at size) c id i = c src.0 (src_at + (i - dst_at))
op_cell kinds (BufferToImage src src_at stride size dst rect) c id i = buffer_to_image (kinds dst.0) (c src.0) src_at stride size rect i (c id i)
op_cell kinds (ImageToBuffer src rect dst dst_at stride size expand) c id i = image_to_buffer (kinds src.0) (c src.0) rect stride (buffer_texel size expand) expand (i - dst_at) (c id i)
op_cell kinds (CopyImage src src_x src_y dst rect) c id i = copy_image (kinds src.0) (kinds dst.0) (c src.0) src_x src_y rect i (c id i)
op_cell kinds (BlitImage src dst coords clip) c id i = blit_image (kinds src.0) (kinds dst.0) (c src.0) coords clip i (c id i)
op_cell kinds (ClearImage image rect texel) c id i = clear_image (kinds image.0) rect texel i (c id i)
op_cell kinds (FillBuffer dst dst_at size byte) c id i = byte
op_cell kinds (PassPart pass point image load' keep clears) c id i = pass_part (kinds image.0) load' keep clears i (c id i)
op_cell kinds (Op.Barrier b) c id i = if discards b.layouts then UNDEFINED else c id i
