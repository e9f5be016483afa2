-- The node of a blit.
use Rattle.std.specs.Prelude.{ℕ, ◌+◌, ◌-◌, ◌≤◌, ◌&&◌, min, max, Bool, ℤ, pos, unsigned_abs, FitsSigned, Option, Some, None, is_some, if◌then◌else◌}
use Rattle.std.specs.Int.{int_min, int_max, w32}
use Rattle.std.specs.Option.{option_and_then}
use Rattle.std.specs.List.{list_any, range_with_len}
use Rattle.cells.specs.Contents.{Content, cell_at, UNDEFINED}
use Rattle.gl_model.specs.declared.objects.ImageInfo.{ImageInfo}
use Rattle.gl_model.specs.declared.state.ScissorBox.{ScissorBox}
use Rattle.gl_model.specs.ImageEffect.{Corners}
use Rattle.vk_types.specs.declared.handles.HandleId.{HandleId}
use Rattle.vk_types.specs.declared.regions.Coords.{Coords}
use Rattle.vk_types.specs.declared.regions.Rect.{Rect}
use Rattle.vk_types.specs.declared.ops.Op.TheVariants.{BlitImage}
use Rattle.vk_types.specs.declared.ops.Node.{Node}
use Rattle.vk_model.specs.Cells.{source_of}
use Rattle.transfer.specs.Overlaps.{entered}
use Rattle.transfer.specs.Clears.{clear_rect}

-- the coordinates as the corners of a call
abbrev pub corners_of : Coords → Corners
corners_of c = record { sx0 = c.sx0; sy0 = c.sy0; sx1 = c.sx1; sy1 = c.sy1; dx0 = c.dx0; dy0 = c.dy0; dx1 = c.dx1; dy1 = c.dy1 }

-- the coordinates are of 32 bits
pub record AreWords (c : Coords) : Type 0 where
  pub sx0 : FitsSigned w32 c.sx0
  pub sy0 : FitsSigned w32 c.sy0
  pub sx1 : FitsSigned w32 c.sx1
  pub sy1 : FitsSigned w32 c.sy1
  pub dx0 : FitsSigned w32 c.dx0
  pub dy0 : FitsSigned w32 c.dy0
  pub dx1 : FitsSigned w32 c.dx1
  pub dy1 : FitsSigned w32 c.dy1

-- each cell of a content is a byte or not defined
abbrev pub AreCells : Content → Type 0
AreCells content = (i : ℕ) → cell_at content i ≤ UNDEFINED

-- where the numbers from one on begin that are between two ends, the lower one counted
abbrev pub begins : ℕ → ℤ → ℤ → ℕ
begins from a b = max from (entered (int_min a b))

-- how many of so many numbers from one on are between two ends
abbrev pub count_between : ℕ → ℕ → ℤ → ℤ → ℕ
count_between from len a b = min (from + len) (entered (int_max a b)) - begins from a b

-- what of a rectangle lies in the destination
abbrev pub blit_clip : Coords → Rect → Rect
blit_clip c rect = record {
  x = pos (begins (unsigned_abs rect.x) c.dx0 c.dx1);
  y = pos (begins (unsigned_abs rect.y) c.dy0 c.dy1);
  w = count_between (unsigned_abs rect.x) rect.w c.dx0 c.dx1;
  h = count_between (unsigned_abs rect.y) rect.h c.dy0 c.dy1;
}

-- one of so many columns from one on reads a column of an image of so many
abbrev pub reads_some : ℕ → ℤ → ℤ → ℤ → ℤ → ℕ → ℕ → Bool
reads_some size s0 s1 d0 d1 from len = list_any (λ x. is_some (source_of size s0 s1 d0 d1 x)) (range_with_len from len)

-- a column of the clip reads one of an image
abbrev pub reads_column : ImageInfo → Coords → Rect → Bool
reads_column read c clip = reads_some read.width c.sx0 c.sx1 c.dx0 c.dx1 (unsigned_abs clip.x) clip.w

abbrev pub reads_row : ImageInfo → Coords → Rect → Bool
reads_row read c clip = reads_some read.height c.sy0 c.sy1 c.dy0 c.dy1 (unsigned_abs clip.y) clip.h

abbrev pub blit_part : HandleId → HandleId → Coords → Rect → Node
blit_part src dst c clip = record { op = BlitImage src dst c clip }

-- the blit of what of a rectangle lies in the destination; none where no texel of it reads one
abbrev pub blit_in : HandleId → ImageInfo → HandleId → Coords → Rect → Option Node
blit_in src read dst c rect =
    let clip = blit_clip c rect in
    if reads_column read c clip && reads_row read c clip then Some (blit_part src dst c clip) else None

-- so in what of the scissor's box lies in an area
abbrev pub blit_of : HandleId → ImageInfo → HandleId → Coords → Option ScissorBox → ℕ × ℕ → Option Node
blit_of src read dst c scissor area = option_and_then (blit_in src read dst c) (clear_rect scissor area)
