-- What of a rectangle lies in an image.
use Rattle.std.specs.Prelude.{ℕ, suc, ◌-◌, ◌==◌, ◌||◌, min, ℤ, pos, negsuc, Option, Some, None, if◌then◌else◌}
use Rattle.vk_types.specs.declared.regions.Rect.{Rect}
use Rattle.transfer.specs.declared.overlap.Overlap.{Overlap}

-- how many numbers from one on come before 0
abbrev pub skipped : ℤ → ℕ
skipped (pos a) = 0
skipped (negsuc a) = suc a

-- the first number from one on that is not below 0
abbrev pub entered : ℤ → ℕ
entered (pos a) = a
entered (negsuc a) = 0

-- how many of so many numbers from one on are from 0 on and below a size
abbrev pub count_inside : ℤ → ℕ → ℕ → ℕ
count_inside z size len = min (len - skipped z) (size - entered z)

-- what of a rectangle lies in an image with these sides, and how many of its columns and rows come before
abbrev pub overlap_of : ℕ × ℕ → Rect → Option Overlap
overlap_of sides rect =
    let columns = count_inside rect.x sides.0 rect.w in
    let rows = count_inside rect.y sides.1 rect.h in
    if (columns == 0) || (rows == 0) then None
    else Some (record {
      left = skipped rect.x;
      top = skipped rect.y;
      rect = record { x = pos (entered rect.x); y = pos (entered rect.y); w = columns; h = rows };
    })
