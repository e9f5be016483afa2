-- The texels of the device's images.
use Rattle.std.specs.Prelude.{ℕ, List, [], ◌∷◌, slice_index_or}
use Rattle.std.specs.List.{flat_map}
use Rattle.formats.specs.declared.format.Format.{Format}
use Rattle.formats.specs.declared.format.Format.TheVariants.{R8ui, R8i, R16ui, R16i, R32ui, R32i, Rg8ui, Rgba8ui, Rgba8i, Rgb10A2ui, Rgba32ui, Rgba32i}
use Rattle.formats.specs.Texel.{bytes_per_texel}
use Rattle.formats.specs.Components.{expanded, packed, low_bytes}

-- the format at a place, from 0 to 11, of the list of formats
abbrev pub format_at : ℕ → Format
format_at n = slice_index_or (R8ui ∷ R8i ∷ R16ui ∷ R16i ∷ R32ui ∷ R32i ∷ Rg8ui ∷ Rgba8ui ∷ Rgba8i ∷ Rgb10A2ui ∷ Rgba32ui ∷ Rgba32i ∷ []) n R8ui

abbrev pub texel_bytes : ℕ → ℕ
texel_bytes format = bytes_per_texel (format_at format)

-- a texel's four components as words of 32 bits, the lowest byte first
abbrev pub expanded_texel : ℕ → List ℕ → List ℕ
expanded_texel format texel = flat_map (low_bytes 4) (expanded (format_at format) texel)

-- a texel of one format as one of another; a component keeps its low bits
abbrev pub converted_texel : ℕ → ℕ → List ℕ → List ℕ
converted_texel from to texel = packed (format_at to) (expanded (format_at from) texel)
