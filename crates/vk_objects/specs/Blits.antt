-- The texels that a blit writes.
use Rattle.std.specs.Prelude.{◌≡◌, ℕ, ◌+◌, ◌*◌, ◌/◌, ◌%◌, ◌<◌, ◌≤◌, ◌⊎◌, List}
use Rattle.vk_types.specs.declared.handles.Kind.{Kind}
use Rattle.vk_types.specs.declared.regions.Coords.{Coords}
use Rattle.vk_types.specs.declared.regions.Rect.{Rect}
use Rattle.cells.specs.Contents.{cell_at}
use Rattle.vk_model.specs.Texels.{converted_texel}
use Rattle.vk_model.specs.Cells.{place, texel_size, format_of, width_of, height_of, at_both, source_of, converted, blit_image}

-- a byte of the texel that comes to a column and a row, and what was there where none comes
abbrev pub blit_byte : Kind → Kind → (ℕ → ℕ) → Coords → ℕ → ℕ → ℕ → ℕ → ℕ
blit_byte from to source coords column row byte old =
    at_both
    (source_of (width_of from) coords.sx0 coords.sx1 coords.dx0 coords.dx1 column)
    (source_of (height_of from) coords.sy0 coords.sy1 coords.dy0 coords.dy1 row)
    (λ x y. converted (converted_texel (format_of from) (format_of to)) (λ b. source (place from x y b)) (texel_size from) byte)
    old

-- one texel is as the blit leaves it, and all else is as it was
pub record HasTexel (old new : List ℕ) (from to : Kind) (source : List ℕ) (coords : Coords) (column row : ℕ) : Type 0 where
  pub inside : (b : ℕ) → b < texel_size to → cell_at new (place to column row 0 + b) ≡ blit_byte from to (cell_at source) coords column row b (cell_at old (place to column row 0 + b))
  pub outside : (i : ℕ) → (i < place to column row 0) ⊎ (place to column row 0 + texel_size to ≤ i) → cell_at new i ≡ cell_at old i

-- some texels of a row, from a column on, are as the blit leaves them, and all else is as it was
pub record HasTexels (old new : List ℕ) (from to : Kind) (source : List ℕ) (coords : Coords) (left row count : ℕ) : Type 0 where
  pub inside : (j : ℕ) → j < count * texel_size to → cell_at new (place to left row 0 + j) ≡ blit_byte from to (cell_at source) coords (left + j / texel_size to) row (j % texel_size to) (cell_at old (place to left row 0 + j))
  pub outside : (i : ℕ) → (i < place to left row 0) ⊎ (place to left row 0 + count * texel_size to ≤ i) → cell_at new i ≡ cell_at old i

-- each place is as the blit leaves it
abbrev pub IsBlitted : List ℕ → List ℕ → Kind → Kind → List ℕ → Coords → Rect → Type 0
IsBlitted old new from to source coords clip = (i : ℕ) → cell_at new i ≡ blit_image from to (cell_at source) coords clip i (cell_at old i)
