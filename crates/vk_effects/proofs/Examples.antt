-- What nodes leave in small cases, each by computing it.
use Rattle.std.proofs.Common.{◌≡◌, ℕ, List, [], ◌∷◌, true, false, refl, arith}
use Rattle.std.specs.Prelude.{pos, negsuc, Some, if◌then◌else◌, ◌==◌, replicate}
use Rattle.cells.specs.Contents.{cells, undefined_cells}
use Rattle.vk_types.specs.declared.handles.Kind.{Kind}
use Rattle.vk_types.specs.declared.handles.Kind.TheVariants.{Buffer, Image}
use Rattle.vk_types.specs.declared.handles.HandleId.{HandleId}
use Rattle.vk_types.specs.declared.accesses.Layout.TheVariants.{Undefined, TransferDst}
use Rattle.vk_types.specs.declared.regions.Rect.{Rect}
use Rattle.vk_types.specs.declared.regions.Coords.{Coords}
use Rattle.vk_types.specs.declared.ops.Load.{Load}
use Rattle.vk_types.specs.declared.ops.Op.{Op}
use Rattle.vk_types.specs.declared.ops.Op.TheVariants.{BufferToImage, ImageToBuffer, BlitImage, FillBuffer, PassPart}
use Rattle.vk_types.specs.Accesses.{all_access}
use Rattle.vk_model.specs.Log.{Command, HostWrite}
use Rattle.vk_model.specs.Meaning.{eval}

-- Object 1 is of a kind, and 2 of another.

abbrev two_kinds : Kind → Kind → ℕ → Kind
two_kinds first second id = if id == 1 then first else second

abbrev one : HandleId
one = record { 0 = 1 }

abbrev two : HandleId
two = record { 0 = 2 }

-- what object 2 holds after the operation, by its place
abbrev after : Kind → List ℕ → Kind → List ℕ → Op → ℕ → ℕ
after first first_bytes second second_bytes op =
    eval (two_kinds first second) (HostWrite 1 0 first_bytes ∷ HostWrite 2 0 second_bytes ∷ Command 0 (record { op = op }) ∷ []) 2

abbrev rect : ℕ → ℕ → ℕ → ℕ → Rect
rect x y w h = record { x = pos x; y = pos y; w = w; h = h }

-- two columns and two rows of one byte
abbrev square : Kind
square = Image 0 2 2

filled : cells 5 (after square [] (Buffer 5) (1 ∷ 2 ∷ 3 ∷ 4 ∷ 5 ∷ []) (FillBuffer two 1 3 9)) ≡ 1 ∷ 9 ∷ 9 ∷ 9 ∷ 5 ∷ []
filled = refl

-- Rows

abbrev overlapping : ℕ → ℕ
overlapping = after square (1 ∷ 2 ∷ 3 ∷ 4 ∷ []) (Buffer 5) (7 ∷ 7 ∷ 7 ∷ 7 ∷ 7 ∷ []) (ImageToBuffer one (rect 0 0 2 2) two 1 1 1 false)

-- with a stride of one byte the second row goes over the first one's last texel
later_row_on_top : cells 5 overlapping ≡ 7 ∷ 1 ∷ 3 ∷ 4 ∷ 7 ∷ []
later_row_on_top = refl

-- so that texel is gone
earlier_row_below : overlapping 2 ≡ 2 → ⊥
earlier_row_below e = let same : 3 ≡ 2 = e in omega (arith, same)

-- bytes between rows stay
between_rows : cells 6 (after square (1 ∷ 2 ∷ 3 ∷ 4 ∷ []) (Buffer 6) (7 ∷ 7 ∷ 7 ∷ 7 ∷ 7 ∷ 7 ∷ []) (ImageToBuffer one (rect 0 0 2 2) two 0 3 1 false)) ≡ 1 ∷ 2 ∷ 7 ∷ 3 ∷ 4 ∷ 7 ∷ []
between_rows = refl

-- the right column from a buffer
rows_up : cells 4 (after (Buffer 4) (1 ∷ 2 ∷ 3 ∷ 4 ∷ []) square (7 ∷ 7 ∷ 7 ∷ 7 ∷ []) (BufferToImage one 1 2 1 two (rect 1 0 1 2))) ≡ 7 ∷ 2 ∷ 7 ∷ 4 ∷ []
rows_up = refl

-- Expanded texels

-- a signed byte of -3 is a word of -3, green and blue are 0, and alpha is 1
expanded_byte : cells 18 (after (Image 1 1 1) (253 ∷ []) (Buffer 18) (replicate 18 7) (ImageToBuffer one (rect 0 0 1 1) two 1 0 1 true)) ≡
    7 ∷ 253 ∷ 255 ∷ 255 ∷ 255 ∷ 0 ∷ 0 ∷ 0 ∷ 0 ∷ 0 ∷ 0 ∷ 0 ∷ 0 ∷ 1 ∷ 0 ∷ 0 ∷ 0 ∷ 7 ∷ []
expanded_byte = refl

-- of two bytes the second is not defined, so no word is
expanded_undefined : cells 16 (after (Image 6 1 1) (3 ∷ []) (Buffer 16) (replicate 16 7) (ImageToBuffer one (rect 0 0 1 1) two 0 0 2 true)) ≡ undefined_cells 16
expanded_undefined = refl

-- Blits

abbrev mirror : Coords
mirror = record { sx0 = pos 0; sy0 = pos 0; sx1 = pos 2; sy1 = pos 2; dx0 = pos 2; dy0 = pos 0; dx1 = pos 0; dy1 = pos 2 }

mirrored : cells 4 (after square (1 ∷ 2 ∷ 3 ∷ 4 ∷ []) square (7 ∷ 7 ∷ 7 ∷ 7 ∷ []) (BlitImage one two mirror (rect 0 0 2 2))) ≡ 2 ∷ 1 ∷ 4 ∷ 3 ∷ []
mirrored = refl

-- outside the clip the image is as before
mirrored_in_a_clip : cells 4 (after square (1 ∷ 2 ∷ 3 ∷ 4 ∷ []) square (7 ∷ 7 ∷ 7 ∷ 7 ∷ []) (BlitImage one two mirror (rect 1 0 1 2))) ≡ 7 ∷ 1 ∷ 7 ∷ 3 ∷ []
mirrored_in_a_clip = refl

-- a source that begins one column left of the image leaves the first column as it was
abbrev shifted : Coords
shifted = record { sx0 = negsuc 0; sy0 = pos 0; sx1 = pos 1; sy1 = pos 2; dx0 = pos 0; dy0 = pos 0; dx1 = pos 2; dy1 = pos 2 }

left_of_the_source : cells 4 (after square (1 ∷ 2 ∷ 3 ∷ 4 ∷ []) square (7 ∷ 7 ∷ 7 ∷ 7 ∷ []) (BlitImage one two shifted (rect 0 0 2 2))) ≡ 7 ∷ 1 ∷ 7 ∷ 3 ∷ []
left_of_the_source = refl

-- Passes

abbrev texel : ℕ → List ℕ
texel byte = byte ∷ replicate 15 0

-- the load clears all, then the right column is cleared, and then its lower texel
in_order : cells 4 (after square [] square (7 ∷ 7 ∷ 7 ∷ 7 ∷ []) (PassPart 0 0 two (Load.Clear (texel 5)) true (record { rect = rect 1 0 1 2; texel = texel 6 } ∷ record { rect = rect 1 1 1 1; texel = texel 8 } ∷ []))) ≡ 5 ∷ 6 ∷ 5 ∷ 8 ∷ []
in_order = refl

-- what is not kept is not defined
dropped : cells 4 (after square [] square (7 ∷ 7 ∷ 7 ∷ 7 ∷ []) (PassPart 0 0 two Load.Load false [])) ≡ undefined_cells 4
dropped = refl

-- Barriers

discarded : cells 4 (after square [] square (7 ∷ 7 ∷ 7 ∷ 7 ∷ []) (Op.Barrier (record { id = two; first = all_access; second = all_access; layouts = Some (Undefined, TransferDst) }))) ≡ undefined_cells 4
discarded = refl

kept : cells 4 (after square [] square (7 ∷ 7 ∷ 7 ∷ 7 ∷ []) (Op.Barrier (record { id = two; first = all_access; second = all_access; layouts = Some (TransferDst, TransferDst) }))) ≡ 7 ∷ 7 ∷ 7 ∷ 7 ∷ []
kept = refl
