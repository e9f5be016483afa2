-- Places of images, inside and outside a rectangle.
use Rattle.std.specs.Prelude.{◌≡◌, ℕ, suc, ◌+◌, ◌<◌, ◌≤◌, ◌⊎◌, ℤ, pos, negsuc}
use Rattle.vk_types.specs.declared.handles.Kind.{Kind}
use Rattle.vk_types.specs.declared.regions.Rect.{Rect}
use Rattle.vk_types.specs.Touches.{the_end}
use Rattle.vk_model.specs.Fitting.{size_of}
use Rattle.cells.specs.Contents.{UNDEFINED}
use Rattle.vk_model.specs.Cells.{Contents, width_of, height_of, column_at, row_at, byte_at, place}
use Rattle.vk_model.specs.Meaning.{LiesIn}

-- x is none of the n numbers from a on
abbrev pub IsBeside : ℤ → ℕ → ℕ → Type 0
IsBeside (pos a) n x = (x < a) ⊎ (a + n ≤ x)
IsBeside (negsuc a) n x = n ≤ x + suc a

-- a place whose column or row is not in the rectangle
abbrev pub IsOutside : Kind → Rect → ℕ → Type 0
IsOutside kind rect i = IsBeside rect.x rect.w (column_at kind i) ⊎ IsBeside rect.y rect.h (row_at kind i)

-- a place whose column and row are in the rectangle
pub record IsInside (kind : Kind) (rect : Rect) (i : ℕ) : Type 0 where
  pub left : ℕ
  pub top : ℕ
  pub lies : LiesIn kind rect (column_at kind i) (row_at kind i) (byte_at kind i) left top
  pub is : place kind (column_at kind i) (row_at kind i) (byte_at kind i) ≡ i

-- a texel of an object that has an end
pub record IsTexel (kind : Kind) (x y : ℕ) : Type 0 where
  pub column : x < width_of kind
  pub row : y < height_of kind
  pub ends : size_of kind ≤ the_end

-- nothing is defined past the ends of the objects
abbrev pub HasNothingPastEnds : (ℕ → Kind) → Contents → Type 0
HasNothingPastEnds kinds c = (id i : ℕ) → size_of (kinds id) ≤ i → c id i ≡ UNDEFINED
