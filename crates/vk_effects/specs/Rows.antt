-- Rows of a rectangle in a buffer.
use Rattle.std.specs.Prelude.{◌≡◌, ℕ, ◌+◌, ◌*◌, ◌<◌, ◌≤◌, ◌⊎◌}
use Rattle.vk_types.specs.declared.handles.Kind.{Kind}
use Rattle.vk_types.specs.declared.regions.Rect.{Rect}
use Rattle.vk_types.specs.Touches.{the_end, rows_size}
use Rattle.vk_model.specs.Cells.{ahead}
use Rattle.vk_effects.specs.Places.{IsTexel}

-- where a byte of a texel of the rectangle lies, by the texel's column and row in the rectangle
abbrev pub row_place : ℕ → ℕ → ℕ → ℕ → ℕ → ℕ → ℕ
row_place at stride size left top byte = at + top * stride + left * size + byte

-- a place in none of so many rows of so many bytes
abbrev pub IsInNoRow : ℕ → ℕ → ℕ → ℕ → ℕ → Type 0
IsInNoRow at rows stride len i = (k : ℕ) → k < rows → (i < at + k * stride) ⊎ (at + k * stride + len ≤ i)

-- a byte of a texel of the rectangle
pub record IsByteOf (rect : Rect) (size left top byte : ℕ) : Type 0 where
  pub column : left < rect.w
  pub row : top < rect.h
  pub in_texel : byte < size

-- such a byte, over which no later row comes
pub record IsOnTop (rect : Rect) (stride size left top byte : ℕ) : Type 0 where
  pub is : IsByteOf rect size left top byte
  pub last : (top + 1 ≡ rect.h) ⊎ (left * size + byte < stride)

-- a byte of a texel that comes from the rows of a buffer that has an end
pub record ComesUp (rect : Rect) (at stride size byte : ℕ) : Type 0 where
  pub in_texel : byte < size
  pub ends : at + rows_size rect stride size ≤ the_end

-- a byte on top, from an image and in a buffer that have an end
pub record ComesDown (kind : Kind) (rect : Rect) (at stride size left top byte : ℕ) : Type 0 where
  pub on_top : IsOnTop rect stride size left top byte
  pub source : IsTexel kind (ahead rect.x left) (ahead rect.y top)
  pub ends : at + rows_size rect stride size ≤ the_end

-- a place that is such a byte
pub record IsOfARow (rect : Rect) (at stride size i : ℕ) : Type 0 where
  pub left : ℕ
  pub top : ℕ
  pub byte : ℕ
  pub on_top : IsOnTop rect stride size left top byte
  pub is : i ≡ row_place at stride size left top byte
