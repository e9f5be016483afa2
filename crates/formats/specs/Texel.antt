-- What a texel of each format is (OpenGL ES 3.0.6, Texture Image Specification, the sized internal formats).
use Rattle.std.specs.Prelude.{ℕ, ◌/◌, Bool, true, false, List, [], ◌∷◌, sum, if◌then◌else◌}
use Rattle.formats.specs.declared.format.Format.{Format}
use Rattle.formats.specs.declared.format.Format.TheVariants.{R8ui, R8i, R16ui, R16i, R32ui, R32i, Rg8ui, Rgba8ui, Rgba8i, Rgb10A2ui, Rgba32ui, Rgba32i}
use Rattle.formats.specs.declared.pixel.PixelFormat.{PixelFormat}
use Rattle.formats.specs.declared.pixel.PixelFormat.TheVariants.{RedInteger, RgInteger, RgbaInteger}
use Rattle.formats.specs.declared.pixel.PixelType.{PixelType}
use Rattle.formats.specs.declared.pixel.PixelType.TheVariants.{UnsignedByte, Byte, UnsignedShort, Short, UnsignedInt, Int, UnsignedInt2101010Rev}

-- the bits of each component, in the order R, G, B, A
abbrev pub component_bits : Format → List ℕ
component_bits R8ui = 8 ∷ []
component_bits R8i = 8 ∷ []
component_bits R16ui = 16 ∷ []
component_bits R16i = 16 ∷ []
component_bits R32ui = 32 ∷ []
component_bits R32i = 32 ∷ []
component_bits Rg8ui = 8 ∷ 8 ∷ []
component_bits Rgba8ui = 8 ∷ 8 ∷ 8 ∷ 8 ∷ []
component_bits Rgba8i = 8 ∷ 8 ∷ 8 ∷ 8 ∷ []
component_bits Rgb10A2ui = 10 ∷ 10 ∷ 10 ∷ 2 ∷ []
component_bits Rgba32ui = 32 ∷ 32 ∷ 32 ∷ 32 ∷ []
component_bits Rgba32i = 32 ∷ 32 ∷ 32 ∷ 32 ∷ []

-- the components of a texel lie one after another
abbrev pub bytes_per_texel : Format → ℕ
bytes_per_texel format = sum (component_bits format) / 8

abbrev pub has_signed_components : Format → Bool
has_signed_components R8ui = false
has_signed_components R8i = true
has_signed_components R16ui = false
has_signed_components R16i = true
has_signed_components R32ui = false
has_signed_components R32i = true
has_signed_components Rg8ui = false
has_signed_components Rgba8ui = false
has_signed_components Rgba8i = true
has_signed_components Rgb10A2ui = false
has_signed_components Rgba32ui = false
has_signed_components Rgba32i = true

-- the client pixels with the layout of the format's own texels
abbrev pub own_pair_of : Format → PixelFormat × PixelType
own_pair_of R8ui = (RedInteger, UnsignedByte)
own_pair_of R8i = (RedInteger, Byte)
own_pair_of R16ui = (RedInteger, UnsignedShort)
own_pair_of R16i = (RedInteger, Short)
own_pair_of R32ui = (RedInteger, UnsignedInt)
own_pair_of R32i = (RedInteger, Int)
own_pair_of Rg8ui = (RgInteger, UnsignedByte)
own_pair_of Rgba8ui = (RgbaInteger, UnsignedByte)
own_pair_of Rgba8i = (RgbaInteger, Byte)
own_pair_of Rgb10A2ui = (RgbaInteger, UnsignedInt2101010Rev)
own_pair_of Rgba32ui = (RgbaInteger, UnsignedInt)
own_pair_of Rgba32i = (RgbaInteger, Int)

-- the client pixels of four 32-bit components in the format's signedness
abbrev pub general_pair_of : Format → PixelFormat × PixelType
general_pair_of format = (RgbaInteger, if has_signed_components format then Int else UnsignedInt)
