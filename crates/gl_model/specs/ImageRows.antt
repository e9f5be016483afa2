-- The refusals of the calls on textures and renderbuffers (OpenGL ES 3.0.6, Texturing and Renderbuffer Objects).
use Rattle.std.specs.Prelude.{ℕ, ◌+◌, ◌*◌, ◌%◌, ◌==◌, ◌||◌, ◌&&◌, ℤ, pos, unsigned_abs, int_lt, Bool, false, not, Option, List, [], ◌∷◌, is_some, is_none, nat_lt, if◌then◌else◌}
use Rattle.std.specs.Option.{option_map_or, option_and_then}
use Rattle.formats.specs.declared.format.Format.{Format}
use Rattle.formats.specs.declared.pixel.PixelFormat.{PixelFormat}
use Rattle.formats.specs.declared.pixel.PixelType.{PixelType}
use Rattle.formats.specs.Rows.{PixelStorage}
use Rattle.formats.specs.Texel.{bytes_per_texel, own_pair_of, general_pair_of}
use Rattle.formats.specs.Rows.{needed_length}
use Rattle.formats.specs.Pairs.{same_format, same_pair, is_other_pair, bytes_per_element}
use Rattle.gl_calls.specs.declared.reply.Reply.TheVariants.{BadPointer}
use Rattle.gl_calls.specs.declared.words.FormatWord.{FormatWord}
use Rattle.gl_calls.specs.declared.call.PixelSource.{PixelSource}
use Rattle.gl_calls.specs.declared.call.PixelSource.TheVariants as source
use Rattle.gl_calls.specs.declared.call.PixelDestination.{PixelDestination}
use Rattle.gl_calls.specs.declared.call.PixelDestination.TheVariants as destination
use Rattle.gl_calls.specs.Words.{format_of, payload_len}
use Rattle.gl_model.specs.declared.objects.BufferFacts.{BufferFacts}
use Rattle.gl_model.specs.declared.objects.ImageInfo.{ImageInfo}
use Rattle.gl_model.specs.BufferRows.{is_mapped, size_of}
use Rattle.gl_model.specs.RefusalRows.{Row, ◌⇒◌, invalid_enum, invalid_value, invalid_operation, invalid_framebuffer_operation, out_of_memory, is_negative, most_pixels}

-- a test of an image, which fails where there is none
abbrev pub image_has : (ImageInfo → Bool) → Option ImageInfo → Bool
image_has test image = option_map_or test image false

-- the storage of what is bound: None where 0 is bound, Some None where the object has no storage
abbrev pub storage_of : Option (Option ImageInfo) → Option ImageInfo
storage_of bound = option_and_then (λ image. image) bound

-- the bytes of an image of a format and size
abbrev pub storage_bytes : FormatWord → ℤ → ℤ → ℕ
storage_bytes format width height =
    option_map_or (λ f. unsigned_abs width * unsigned_abs height * bytes_per_texel f) (format_of format) 0

-- the rectangle is not inside the image
abbrev pub is_outside : ℤ → ℤ → ℤ → ℤ → ImageInfo → Bool
is_outside x y width height image =
    is_negative x || is_negative y || nat_lt image.width (unsigned_abs x + unsigned_abs width) || nat_lt image.height (unsigned_abs y + unsigned_abs height)

-- TexStorage2D; full: with the new image the group passes its limit
abbrev pub tex_storage_rows : ℤ → FormatWord → ℤ → ℤ → Option (Option ImageInfo) → Bool → List Row
tex_storage_rows levels format width height bound full =
    (is_none (format_of format) ⇒ invalid_enum)
    ∷ (int_lt levels (pos 1) || int_lt width (pos 1) || int_lt height (pos 1) ⇒ invalid_value)
    ∷ (int_lt most_pixels width || int_lt most_pixels height ⇒ invalid_value)
    ∷ (is_none bound ⇒ invalid_operation)
    ∷ (is_some (storage_of bound) ⇒ invalid_operation)
    ∷ (full ⇒ out_of_memory)
    ∷ []

-- RenderbufferStorage; full: with the new image in place of the bound one the group passes its limit
abbrev pub renderbuffer_storage_rows : FormatWord → ℤ → ℤ → Option (Option ImageInfo) → Bool → List Row
renderbuffer_storage_rows format width height bound full =
    (is_none (format_of format) ⇒ invalid_enum)
    ∷ (is_negative width || is_negative height || int_lt most_pixels width || int_lt most_pixels height ⇒ invalid_value)
    ∷ (is_none bound ⇒ invalid_operation)
    ∷ (full ⇒ out_of_memory)
    ∷ []

-- the bytes of a texel of the client in a pair, for an image of a format that the pair fits
abbrev pub pair_texel : Format → PixelFormat → PixelType → ℕ
pair_texel format pixels kind = if same_pair (pixels, kind) (own_pair_of format) then bytes_per_texel format else 16

-- an offset into a buffer for a transfer: it is not a multiple of the type's size, or the transfer reaches past the end
abbrev pub is_bad_offset : ℕ → PixelType → ℕ → Option BufferFacts → Bool
is_bad_offset at kind needed buffer = not (at % bytes_per_element kind == 0) || nat_lt (size_of buffer) (at + needed)

abbrev pub is_bad_source : PixelSource → PixelType → ℕ → Option BufferFacts → Bool
is_bad_source (source.Client payload) kind needed buffer = false
is_bad_source (source.Offset at) kind needed buffer = is_some buffer && is_bad_offset at kind needed buffer

-- a client pointer where a buffer is bound, an offset where none is, or data that is too short
abbrev pub is_bad_source_pointer : PixelSource → ℕ → Option BufferFacts → Bool
is_bad_source_pointer (source.Client payload) needed buffer = is_some buffer || nat_lt (payload_len payload) needed
is_bad_source_pointer (source.Offset at) needed buffer = is_none buffer

abbrev pub is_bad_destination : PixelDestination → PixelType → ℕ → Option BufferFacts → Bool
is_bad_destination destination.Client kind needed buffer = false
is_bad_destination (destination.Offset at) kind needed buffer = is_some buffer && is_bad_offset at kind needed buffer

abbrev pub is_bad_destination_pointer : PixelDestination → Option BufferFacts → Bool
is_bad_destination_pointer destination.Client buffer = is_some buffer
is_bad_destination_pointer (destination.Offset at) buffer = is_none buffer

-- an upload into an image
abbrev pub upload_rows : ℤ → ℤ → ℤ → ℤ → PixelFormat → PixelType → PixelSource → PixelStorage → Option BufferFacts → ImageInfo → List Row
upload_rows x y width height pixels kind from store unpack image =
    let needed = needed_length store (bytes_per_texel image.format) (unsigned_abs width) (unsigned_abs height) in
    (is_outside x y width height image ⇒ invalid_value)
    ∷ (not (same_pair (pixels, kind) (own_pair_of image.format)) ⇒ invalid_operation)
    ∷ (is_mapped unpack ⇒ invalid_operation)
    ∷ (is_bad_source from kind needed unpack ⇒ invalid_operation)
    ∷ (is_bad_source_pointer from needed unpack ⇒ BadPointer)
    ∷ []

-- TexSubImage2D (OpenGL ES 3.0.6, Transfer of Pixel Rectangles and Alternate Texture Image Specification Commands)
unfoldable pub tex_sub_image_rows : ℤ → ℤ → ℤ → ℤ → PixelFormat → PixelType → PixelSource → PixelStorage → Option BufferFacts → Option ImageInfo → List Row
tex_sub_image_rows x y width height pixels kind from store unpack image =
    (is_other_pair pixels kind ⇒ invalid_enum)
    ∷ (is_negative width || is_negative height ⇒ invalid_value)
    ∷ (is_none image ⇒ invalid_operation)
    ∷ option_map_or (upload_rows x y width height pixels kind from store unpack) image []

-- CopyTexSubImage2D (OpenGL ES 3.0.6, Alternate Texture Image Specification Commands); read is the image that is read, if the read framebuffer has one
unfoldable pub copy_tex_sub_image_rows : ℤ → ℤ → ℤ → ℤ → Bool → Option ImageInfo → Option ImageInfo → Bool → List Row
copy_tex_sub_image_rows x y width height complete read image same =
    (is_negative width || is_negative height ⇒ invalid_value)
    ∷ (not complete ⇒ invalid_framebuffer_operation)
    ∷ (is_none read ⇒ invalid_operation)
    ∷ (is_none image ⇒ invalid_operation)
    ∷ (image_has (is_outside x y width height) image ⇒ invalid_value)
    ∷ (image_has (λ i. image_has (λ r. not (same_format r.format i.format)) read) image ⇒ invalid_operation)
    ∷ (same ⇒ invalid_operation)
    ∷ []

-- ReadPixels (OpenGL ES 3.0.6, Reading Pixels)
abbrev pub read_pixels_rows : ℤ → ℤ → PixelFormat → PixelType → PixelDestination → PixelStorage → Option BufferFacts → Bool → Option ImageInfo → List Row
read_pixels_rows width height pixels kind to store pack complete read =
    (is_negative width || is_negative height ⇒ invalid_value)
    ∷ (is_other_pair pixels kind ⇒ invalid_enum)
    ∷ (not complete ⇒ invalid_framebuffer_operation)
    ∷ (is_none read ⇒ invalid_operation)
    ∷ (image_has (λ i. not (same_pair (pixels, kind) (general_pair_of i.format) || same_pair (pixels, kind) (own_pair_of i.format))) read ⇒ invalid_operation)
    ∷ (is_mapped pack ⇒ invalid_operation)
    ∷ (image_has (λ i. is_bad_destination to kind (needed_length store (pair_texel i.format pixels kind) (unsigned_abs width) (unsigned_abs height)) pack) read ⇒ invalid_operation)
    ∷ (is_bad_destination_pointer to pack ⇒ BadPointer)
    ∷ []
