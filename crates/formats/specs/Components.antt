-- What the bytes of a texel stand for (OpenGL ES 3.0.6, Transfer of Pixel Rectangles and Reading Pixels).
use Rattle.std.specs.Prelude.{ℕ, ◌+◌, ◌-◌, ◌*◌, ◌/◌, ◌%◌, ◌^◌, Bool, true, false, ◌&&◌, ◌||◌, List, [], ◌∷◌, ◌++◌, zero, suc, nat_lt, nat_le, if◌then◌else◌, slice_index}
use Rattle.formats.specs.declared.format.Format.{Format}
use Rattle.formats.specs.declared.format.Format.TheVariants.{R8ui, R8i, R16ui, R16i, R32ui, R32i, Rg8ui, Rgba8ui, Rgba8i, Rgb10A2ui, Rgba32ui, Rgba32i}
use Rattle.formats.specs.Texel.{component_bits, has_signed_components}

-- n bytes from a place on, as a little-endian number
abbrev pub little : List ℕ → ℕ → ℕ → ℕ
little bytes at zero = 0
little bytes at (suc n) = slice_index bytes at + 256 * little bytes (at + 1) n

-- the low n bytes of a number, little-endian
abbrev pub low_bytes : ℕ → ℕ → List ℕ
low_bytes zero v = []
low_bytes (suc n) v = v % 256 ∷ low_bytes n (v / 256)

-- the components of a texel, each as the number of its bits
abbrev pub components : Format → List ℕ → List ℕ
components R8ui t = little t 0 1 ∷ []
components R8i t = little t 0 1 ∷ []
components R16ui t = little t 0 2 ∷ []
components R16i t = little t 0 2 ∷ []
components R32ui t = little t 0 4 ∷ []
components R32i t = little t 0 4 ∷ []
components Rg8ui t = little t 0 1 ∷ little t 1 1 ∷ []
components Rgba8ui t = little t 0 1 ∷ little t 1 1 ∷ little t 2 1 ∷ little t 3 1 ∷ []
components Rgba8i t = little t 0 1 ∷ little t 1 1 ∷ little t 2 1 ∷ little t 3 1 ∷ []
components Rgb10A2ui t =
    let word = little t 0 4 in
    word % 1024 ∷ word / 1024 % 1024 ∷ word / 1048576 % 1024 ∷ word / 1073741824 ∷ []
components Rgba32ui t = little t 0 4 ∷ little t 4 4 ∷ little t 8 4 ∷ little t 12 4 ∷ []
components Rgba32i t = little t 0 4 ∷ little t 4 4 ∷ little t 8 4 ∷ little t 12 4 ∷ []

-- a component as 32 bits: a signed one is in two's complement
abbrev pub widened : Bool → ℕ → ℕ → ℕ
widened false bits v = v
widened true bits v = if nat_lt v (2 ^ (bits - 1)) then v else v + (2 ^ 32 - 2 ^ bits)

abbrev pub all_widened : Bool → List ℕ → List ℕ → List ℕ
all_widened signed [] vs = []
all_widened signed (bits ∷ rest) [] = []
all_widened signed (bits ∷ rest) (v ∷ vs) = widened signed bits v ∷ all_widened signed rest vs

-- a missing G or B is 0, and a missing A is 1
abbrev pub filled : List ℕ → List ℕ
filled [] = 0 ∷ 0 ∷ 0 ∷ 1 ∷ []
filled (r ∷ []) = r ∷ 0 ∷ 0 ∷ 1 ∷ []
filled (r ∷ g ∷ []) = r ∷ g ∷ 0 ∷ 1 ∷ []
filled (r ∷ g ∷ b ∷ []) = r ∷ g ∷ b ∷ 1 ∷ []
filled (r ∷ g ∷ b ∷ a ∷ rest) = r ∷ g ∷ b ∷ a ∷ []

-- the four components that a texel stands for
abbrev pub expanded : Format → List ℕ → List ℕ
expanded format texel =
    filled (all_widened (has_signed_components format) (component_bits format) (components format texel))

-- a component of 32 bits loses nothing in the given bits
abbrev pub loses_nothing : Bool → ℕ → ℕ → Bool
loses_nothing false bits v = nat_lt v (2 ^ bits)
loses_nothing true bits v = nat_lt v (2 ^ (bits - 1)) || nat_le (2 ^ 32 - 2 ^ (bits - 1)) v

abbrev pub all_lose_nothing : Bool → List ℕ → List ℕ → Bool
all_lose_nothing signed [] vs = true
all_lose_nothing signed (bits ∷ rest) [] = true
all_lose_nothing signed (bits ∷ rest) (v ∷ vs) = loses_nothing signed bits v && all_lose_nothing signed rest vs

-- the format's own components lose nothing
abbrev pub fits_format : Format → List ℕ → Bool
fits_format format value = all_lose_nothing (has_signed_components format) (component_bits format) value

-- the texel of four components, each with its low bits alone
abbrev pub packed : Format → List ℕ → List ℕ
packed R8ui v = low_bytes 1 (slice_index v 0)
packed R8i v = low_bytes 1 (slice_index v 0)
packed R16ui v = low_bytes 2 (slice_index v 0)
packed R16i v = low_bytes 2 (slice_index v 0)
packed R32ui v = low_bytes 4 (slice_index v 0)
packed R32i v = low_bytes 4 (slice_index v 0)
packed Rg8ui v = low_bytes 1 (slice_index v 0) ++ low_bytes 1 (slice_index v 1)
packed Rgba8ui v = low_bytes 1 (slice_index v 0) ++ low_bytes 1 (slice_index v 1) ++ low_bytes 1 (slice_index v 2) ++ low_bytes 1 (slice_index v 3)
packed Rgba8i v = low_bytes 1 (slice_index v 0) ++ low_bytes 1 (slice_index v 1) ++ low_bytes 1 (slice_index v 2) ++ low_bytes 1 (slice_index v 3)
packed Rgb10A2ui v = low_bytes 4 (slice_index v 0 % 1024 + 1024 * (slice_index v 1 % 1024) + 1048576 * (slice_index v 2 % 1024) + 1073741824 * (slice_index v 3 % 4))
packed Rgba32ui v = low_bytes 4 (slice_index v 0) ++ low_bytes 4 (slice_index v 1) ++ low_bytes 4 (slice_index v 2) ++ low_bytes 4 (slice_index v 3)
packed Rgba32i v = low_bytes 4 (slice_index v 0) ++ low_bytes 4 (slice_index v 1) ++ low_bytes 4 (slice_index v 2) ++ low_bytes 4 (slice_index v 3)
