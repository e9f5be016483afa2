-- Rows that are written to a buffer, a later one over an earlier one.
use Rattle.std.specs.Prelude.{◌≡◌, ℕ, zero, suc, ◌+◌, ◌-◌, ◌*◌, ◌/◌, ◌%◌, ◌<◌, ◌&&◌, List, nat_le, nat_lt, if◌then◌else◌, Bool}
use Rattle.vk_types.specs.declared.handles.Kind.{Kind}
use Rattle.vk_types.specs.declared.regions.Rect.{Rect}
use Rattle.cells.specs.Contents.{cell_at}
use Rattle.vk_model.specs.Cells.{ahead, texel_to_buffer}

-- the byte at a place that counts from the first row on, once n rows of so many bytes are written; g gives a row's bytes
abbrev pub after_rows : (ℕ → ℕ → ℕ) → ℕ → ℕ → ℕ → ℕ → ℕ → ℕ
after_rows g len stride zero a old = old
after_rows g len stride (suc n) a old = if nat_le (n * stride) a && nat_lt a (n * stride + len) then g n (a - n * stride) else after_rows g len stride n a old

-- a byte of a row of a rectangle as it comes to a buffer, with so many bytes a texel
abbrev pub row_byte : Kind → List ℕ → Rect → ℕ → Bool → ℕ → ℕ → ℕ
row_byte kind image rect size expand k j = texel_to_buffer kind (cell_at image) expand (ahead rect.x (j / size)) (ahead rect.y k) (j % size)

-- n rows of a rectangle stand in a buffer from a place on, and what lies before it is as it was
pub record HasOutRows (old new : List ℕ) (at len stride n : ℕ) (g : ℕ → ℕ → ℕ) : Type 0 where
  pub before : (i : ℕ) → i < at → cell_at new i ≡ cell_at old i
  pub from : (a : ℕ) → cell_at new (at + a) ≡ after_rows g len stride n a (cell_at old (at + a))

-- one row stands from a place on, and all else is as it was
pub record HasRow (old new : List ℕ) (at len : ℕ) (row : ℕ → ℕ) : Type 0 where
  pub inside : (j : ℕ) → j < len → cell_at new (at + j) ≡ row j
  pub before : (i : ℕ) → i < at → cell_at new i ≡ cell_at old i
  pub after : (j : ℕ) → cell_at new (at + len + j) ≡ cell_at old (at + len + j)
