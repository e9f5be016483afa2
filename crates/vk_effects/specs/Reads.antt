-- The texels that blits and copies between images read.
use Rattle.std.specs.Prelude.{◌≡◌, ℕ, ◌+◌, ◌-◌, ◌*◌, ◌/◌, ◌<◌, ◌≤◌, ◌⊎◌, Some, None}
use Rattle.vk_types.specs.declared.handles.Kind.{Kind}
use Rattle.vk_types.specs.declared.regions.Coords.{Coords}
use Rattle.vk_types.specs.Touches.{the_end}
use Rattle.cells.specs.Contents.{UNDEFINED}
use Rattle.vk_model.specs.Fitting.{size_of}
use Rattle.vk_model.specs.Cells.{width_of, height_of, source_of}

-- the texel that a blit reads for a column and a row of its destination
pub record ReadsTexel (from : Kind) (coords : Coords) (x y source_x source_y : ℕ) : Type 0 where
  pub column : source_of (width_of from) coords.sx0 coords.sx1 coords.dx0 coords.dx1 x ≡ Some source_x
  pub row : source_of (height_of from) coords.sy0 coords.sy1 coords.dy0 coords.dy1 y ≡ Some source_y
  pub ends : size_of from ≤ the_end

-- the blit reads none for them
abbrev pub ReadsNone : Kind → Coords → ℕ → ℕ → Type 0
ReadsNone from coords x y =
    (source_of (width_of from) coords.sx0 coords.sx1 coords.dx0 coords.dx1 x ≡ None)
    ⊎ (source_of (height_of from) coords.sy0 coords.sy1 coords.dy0 coords.dy1 y ≡ None)

-- a row below an image that has nothing past its end
pub record IsBelow (kind : Kind) (content : ℕ → ℕ) (y : ℕ) : Type 0 where
  pub row : height_of kind ≤ y
  pub nothing : (i : ℕ) → size_of kind ≤ i → content i ≡ UNDEFINED

-- a column of a blit's destination, whose source has a width, all of them from 0 on
pub record IsScaled (s0 s1 d0 d1 x : ℕ) : Type 0 where
  pub has_width : s0 < s1
  pub from : d0 ≤ x
  pub below : x < d1

-- the source column by the middle of the destination column, to the lower number
abbrev pub upright_column : ℕ → ℕ → ℕ → ℕ → ℕ → ℕ
upright_column s0 s1 d0 d1 x = s0 + ((2 * (x - d0) + 1) * (s1 - s0)) / (2 * (d1 - d0))

-- so where the destination is turned round
abbrev pub turned_column : ℕ → ℕ → ℕ → ℕ → ℕ → ℕ
turned_column s0 s1 d0 d1 x = s0 + ((2 * (d1 - 1 - x) + 1) * (s1 - s0)) / (2 * (d1 - d0))
