-- Shapes of images, and rectangles inside them.
use Rattle.std.specs.Prelude.{◌≡◌, ℕ, ◌+◌, ◌*◌, ◌%◌, ◌<◌, ◌≤◌, ◌⊎◌, List, All, length, ℤ, pos}
use Rattle.vk_types.specs.declared.handles.Kind.{Kind}
use Rattle.vk_types.specs.declared.handles.Kind.TheVariants.{Image}
use Rattle.vk_types.specs.declared.regions.Rect.{Rect}
use Rattle.vk_types.specs.declared.regions.Clear.{Clear}
use Rattle.vk_types.specs.declared.ops.Load.{Load}
use Rattle.cells.specs.Contents.{AgreesAt, cell_at}
use Rattle.vk_model.specs.Cells.{texel_size, clear_image, buffer_to_image, copy_image, cleared, loaded}
use Rattle.vk_model.specs.Fitting.{size_of, LiesInside}
use Rattle.vk_objects.specs.Undefined.{KeepsAt}
use Rattle.vk_objects.specs.declared.shapes.Shape.{Shape}
use Rattle.vk_objects.specs.declared.shapes.Area.{Area}

abbrev pub kind_of_shape : Shape → Kind
kind_of_shape s = Image s.format s.width s.height

abbrev pub rect_of : Area → Rect
rect_of a = record { x = pos a.left; y = pos a.top; w = a.width; h = a.height }

abbrev pub whole_rect : Shape → Rect
whole_rect s = record { x = pos 0; y = pos 0; w = s.width; h = s.height }

-- the area lies inside the image
pub record IsInside (a : Area) (s : Shape) : Type 0 where
  pub columns : a.left + a.width ≤ s.width
  pub rows : a.top + a.height ≤ s.height

-- as many bytes as the image has
abbrev pub HasAll : Shape → ℕ → Type 0
HasAll s len = len ≡ size_of (kind_of_shape s)

-- A texel stands so many times from a place on, and all else is as it was.
pub record IsPainted (old new : List ℕ) (at count : ℕ) (texel : List ℕ) : Type 0 where
  pub inside : (j : ℕ) → j < count * length texel → cell_at new (at + j) ≡ cell_at texel (j % length texel)
  pub outside : (i : ℕ) → (i < at) ⊎ (at + count * length texel ≤ i) → cell_at new i ≡ cell_at old i

-- each place is as the operation leaves it
abbrev pub IsCleared : List ℕ → List ℕ → Kind → Rect → List ℕ → Type 0
IsCleared old new kind rect texel = (i : ℕ) → cell_at new i ≡ clear_image kind rect texel i (cell_at old i)

-- so many rows of so many bytes, with a stride from each to the next, lie in the bytes
abbrev pub HasRows : ℕ → ℕ → ℕ → ℕ → ℕ → Type 0
HasRows len at stride count size = (k : ℕ) → k < count → at + k * stride + size ≤ len

-- each place is as the rows leave it
abbrev pub AreWritten : List ℕ → List ℕ → Kind → Rect → List ℕ → ℕ → ℕ → Type 0
AreWritten old new kind rect from at stride = (i : ℕ) → cell_at new i ≡ buffer_to_image kind (cell_at from) at stride (texel_size kind) rect i (cell_at old i)

-- each place is as a copy between two images leaves it
abbrev pub AreCopied : List ℕ → List ℕ → Kind → Kind → List ℕ → ℤ → ℤ → Rect → Type 0
AreCopied old new source kind image x y rect = (i : ℕ) → cell_at new i ≡ copy_image source kind (cell_at image) x y rect i (cell_at old i)

-- the clears lie inside the image
abbrev pub FitTheImage : Shape → List Clear → Type 0
FitTheImage s clears = All (λ clear. LiesInside clear.rect s.width s.height) clears

-- each place is as the clears in order leave it
abbrev pub AreClearedBy : List ℕ → List ℕ → Kind → List Clear → Type 0
AreClearedBy old new kind clears = (i : ℕ) → cell_at new i ≡ cleared kind clears i (cell_at old i)

-- each place is as the load leaves it, and as it was where that is not defined
abbrev pub IsLoadedBy : List ℕ → List ℕ → Kind → Load → Type 0
IsLoadedBy old new kind load' = (i : ℕ) → AgreesAt (cell_at new i) (loaded kind load' i (cell_at old i)) × KeepsAt (cell_at old i) (cell_at new i) (loaded kind load' i (cell_at old i))

-- each place is as the load and then the clears leave it, and as it was where that is not defined
abbrev pub IsPassed : List ℕ → List ℕ → Kind → Load → List Clear → Type 0
IsPassed old new kind load' clears = (i : ℕ) →
    AgreesAt (cell_at new i) (cleared kind clears i (loaded kind load' i (cell_at old i)))
    × KeepsAt (cell_at old i) (cell_at new i) (cleared kind clears i (loaded kind load' i (cell_at old i)))
