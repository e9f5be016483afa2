-- What the definitions give on small examples, each by computing it.
use Rattle.std.proofs.Common.{◌≡◌, ℕ, [], ◌∷◌, true, false, refl}
use Rattle.std.specs.Prelude.{pos, negsuc, Some, None, map}
use Rattle.vk_types.specs.declared.handles.Kind.{Kind}
use Rattle.vk_types.specs.declared.handles.Kind.TheVariants.{Buffer, Image}
use Rattle.vk_types.specs.declared.ops.Op.TheVariants.{CopyBuffer, ClearImage}
use Rattle.vk_types.specs.declared.ops.Node.{Node}
use Rattle.vk_model.specs.Texels.{texel_bytes, expanded_texel, converted_texel}
use Rattle.vk_model.specs.Cells.{place, column_at, row_at, byte_at, behind, source_of, last_row}
use Rattle.vk_model.specs.Log.{Command, HostWrite, conflict_on}
use Rattle.cells.specs.Contents.{cells}
use Rattle.vk_model.specs.Meaning.{eval}

sizes : map texel_bytes (0 ∷ 1 ∷ 2 ∷ 3 ∷ 4 ∷ 5 ∷ 6 ∷ 7 ∷ 8 ∷ 9 ∷ 10 ∷ 11 ∷ []) ≡ 1 ∷ 1 ∷ 2 ∷ 2 ∷ 4 ∷ 4 ∷ 2 ∷ 4 ∷ 4 ∷ 4 ∷ 16 ∷ 16 ∷ []
sizes = refl

-- a signed byte of -1, red alone
minus_one : expanded_texel 1 (255 ∷ []) ≡ 255 ∷ 255 ∷ 255 ∷ 255 ∷ 0 ∷ 0 ∷ 0 ∷ 0 ∷ 0 ∷ 0 ∷ 0 ∷ 0 ∷ 1 ∷ 0 ∷ 0 ∷ 0 ∷ []
minus_one = refl

-- a blit keeps the low bits of each component
low_bits : converted_texel 4 0 (7 ∷ 1 ∷ 0 ∷ 0 ∷ []) ≡ 7 ∷ []
low_bits = refl

at_place : place (Image 7 5 3) 3 2 1 ≡ 53
at_place = refl

at_column : column_at (Image 7 5 3) 53 ≡ 3
at_column = refl

at_row : row_at (Image 7 5 3) 53 ≡ 2
at_row = refl

at_byte : byte_at (Image 7 5 3) 53 ≡ 1
at_byte = refl

left_of_nought : behind (negsuc 0) 3 1 ≡ Some 2
left_of_nought = refl

past_the_end : behind (negsuc 0) 3 2 ≡ None
past_the_end = refl

-- two columns become four, and so mirrored in the destination and in the source
doubled : map (source_of 2 (pos 0) (pos 2) (pos 0) (pos 4)) (0 ∷ 1 ∷ 2 ∷ 3 ∷ 4 ∷ []) ≡ Some 0 ∷ Some 0 ∷ Some 1 ∷ Some 1 ∷ None ∷ []
doubled = refl

mirrored : map (source_of 2 (pos 0) (pos 2) (pos 4) (pos 0)) (0 ∷ 1 ∷ 2 ∷ 3 ∷ 4 ∷ []) ≡ Some 1 ∷ Some 1 ∷ Some 0 ∷ Some 0 ∷ None ∷ []
mirrored = refl

source_mirrored : map (source_of 2 (pos 2) (pos 0) (pos 0) (pos 4)) (0 ∷ 1 ∷ 2 ∷ 3 ∷ []) ≡ Some 1 ∷ Some 1 ∷ Some 0 ∷ Some 0 ∷ []
source_mirrored = refl

-- a destination that begins left of the image, and a source that ends before the columns that are asked for
cut : map (source_of 3 (pos 0) (pos 4) (negsuc 1) (pos 2)) (0 ∷ 1 ∷ 2 ∷ []) ≡ Some 2 ∷ None ∷ None ∷ []
cut = refl

-- a source or a destination without width gives no column
from_none : map (source_of 3 (pos 1) (pos 1) (pos 0) (pos 3)) (0 ∷ 1 ∷ 2 ∷ []) ≡ None ∷ None ∷ None ∷ []
from_none = refl

to_none : map (source_of 3 (pos 0) (pos 3) (pos 1) (pos 1)) (0 ∷ 1 ∷ 2 ∷ []) ≡ None ∷ None ∷ None ∷ []
to_none = refl

later_rows : map (last_row 3 4) (0 ∷ 3 ∷ 4 ∷ 9 ∷ 20 ∷ []) ≡ 0 ∷ 0 ∷ 1 ∷ 2 ∷ 2 ∷ []
later_rows = refl

abbrev buffers : ℕ → Kind
buffers id = Buffer 4

-- two bytes of a buffer go to another one
copied : cells 4 (eval buffers (HostWrite 1 0 (1 ∷ 2 ∷ 3 ∷ 4 ∷ []) ∷ HostWrite 2 0 (0 ∷ 0 ∷ 0 ∷ 0 ∷ []) ∷ Command 0 (record { op = CopyBuffer (record { 0 = 1 }) 1 (record { 0 = 2 }) 0 2 }) ∷ []) 2) ≡ 2 ∷ 3 ∷ 0 ∷ 0 ∷ []
copied = refl

-- a byte that was never written stays undefined when it is copied
undefined_copied : cells 2 (eval buffers (HostWrite 1 0 (9 ∷ []) ∷ Command 0 (record { op = CopyBuffer (record { 0 = 1 }) 0 (record { 0 = 2 }) 0 2 }) ∷ []) 2) ≡ 9 ∷ 256 ∷ []
undefined_copied = refl

abbrev copied_over : Node
copied_over = record { op = CopyBuffer (record { 0 = 1 }) 0 (record { 0 = 2 }) 0 4 }

-- two copies from one buffer to another conflict on the buffer that they write
on_the_written : conflict_on 2 copied_over copied_over ≡ true
on_the_written = refl

-- and not on the one that both read
off_the_read : conflict_on 1 copied_over copied_over ≡ false
off_the_read = refl

abbrev picture : ℕ → Kind
picture id = Image 0 3 2

-- one texel of an image is cleared
cleared_one : cells 6 (eval picture (Command 0 (record { op = ClearImage (record { 0 = 1 }) (record { x = pos 1; y = pos 1; w = 1; h = 1 }) (5 ∷ 0 ∷ 0 ∷ 0 ∷ 0 ∷ 0 ∷ 0 ∷ 0 ∷ 0 ∷ 0 ∷ 0 ∷ 0 ∷ 0 ∷ 0 ∷ 0 ∷ 0 ∷ []) }) ∷ []) 1) ≡ 256 ∷ 256 ∷ 256 ∷ 256 ∷ 5 ∷ 256 ∷ []
cleared_one = refl
