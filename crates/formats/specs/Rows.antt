-- Where the rows of a pixel transfer lie (OpenGL ES 3.0.6, Pixel Storage Modes and Pixel Buffer Objects).
use Rattle.std.specs.Prelude.{ℕ, ◌+◌, ◌-◌, ◌*◌, ◌/◌, ◌||◌, ◌==◌, Bool, if◌then◌else◌}

-- the pixel storage parameters of transfers one way
pub record PixelStorage : Type 0 where
  pub align : ℕ
  pub row : ℕ
  pub skip_rows : ℕ
  pub skip_pixels : ℕ

-- the parameters at first
abbrev pub first_storage : PixelStorage
first_storage = record { align = 4; row = 0; skip_rows = 0; skip_pixels = 0 }

-- the alignments that rows may have
abbrev pub is_alignment : ℕ → Bool
is_alignment a = (a == 1) || (a == 2) || (a == 4) || (a == 8)

-- the least multiple of a that is at least n
abbrev pub rounded_up : ℕ → ℕ → ℕ
rounded_up n a = (n + (a - 1)) / a * a

-- from the start of one row to the start of the next
abbrev pub row_stride : PixelStorage → ℕ → ℕ → ℕ
row_stride store texel width = rounded_up ((if store.row == 0 then width else store.row) * texel) store.align

-- where the first row begins
abbrev pub first_row_place : PixelStorage → ℕ → ℕ → ℕ
first_row_place store texel width = store.skip_rows * row_stride store texel width + store.skip_pixels * texel

-- up to the end of the last texel
abbrev pub needed_length : PixelStorage → ℕ → ℕ → ℕ → ℕ
needed_length store texel width height =
    if (width == 0) || (height == 0) then 0
    else first_row_place store texel width + (height - 1) * row_stride store texel width + width * texel
