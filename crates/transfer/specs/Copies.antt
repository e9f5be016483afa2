-- The node of a copy between images.
use Rattle.std.specs.Prelude.{◌+◌, ℤ, pos, unsigned_abs, Option}
use Rattle.std.specs.Option.{option_map}
use Rattle.gl_model.specs.declared.objects.ImageInfo.{ImageInfo}
use Rattle.vk_types.specs.declared.handles.HandleId.{HandleId}
use Rattle.vk_types.specs.declared.regions.Rect.{Rect}
use Rattle.vk_types.specs.declared.ops.Op.TheVariants.{CopyImage}
use Rattle.vk_types.specs.declared.ops.Node.{Node}
use Rattle.transfer.specs.declared.overlap.Overlap.{Overlap}
use Rattle.transfer.specs.Overlaps.{overlap_of}

-- the rectangle that is read for one that is written, from a column and a row on
abbrev pub source_rect : ℤ → ℤ → Rect → Rect
source_rect x y rect = record { x = x; y = y; w = rect.w; h = rect.h }

-- a copy of what lies in the read image
abbrev pub copy_part : HandleId → HandleId → Rect → Overlap → Node
copy_part src dst rect part = record {
  op = CopyImage src part.rect.x part.rect.y dst (record {
    x = pos (unsigned_abs rect.x + part.left);
    y = pos (unsigned_abs rect.y + part.top);
    w = part.rect.w;
    h = part.rect.h;
  });
}

-- the texels of the read image from a column and a row on, into a rectangle; none where none of them lies in the read image
abbrev pub copy_of : HandleId → ImageInfo → ℤ → ℤ → HandleId → Rect → Option Node
copy_of src read x y dst rect = option_map (copy_part src dst rect) (overlap_of (read.width, read.height) (source_rect x y rect))
