-- A read of pixels: what of its rectangle lies in the image, the nodes that bring it to a buffer, and its bytes in rows.
use Rattle.std.specs.Prelude.{ℕ, ◌+◌, ◌-◌, ◌*◌, ◌/◌, ◌%◌, ◌&&◌, not, List, slice_index, Option, if◌then◌else◌}
use Rattle.std.specs.Option.{option_map}
use Rattle.cells.specs.Contents.{cells, in_range}
use Rattle.formats.specs.declared.pixel.PixelFormat.{PixelFormat}
use Rattle.formats.specs.declared.pixel.PixelType.{PixelType}
use Rattle.formats.specs.Pairs.{same_pair}
use Rattle.formats.specs.Rows.{PixelStorage, first_row_place, row_stride}
use Rattle.formats.specs.Texel.{bytes_per_texel, own_pair_of}
use Rattle.gl_model.specs.declared.objects.ImageInfo.{ImageInfo}
use Rattle.gl_model.specs.ImageRows.{pair_texel}
use Rattle.vk_types.specs.declared.handles.HandleId.{HandleId}
use Rattle.vk_types.specs.declared.regions.Rect.{Rect}
use Rattle.vk_types.specs.declared.ops.Op.TheVariants.{ImageToBuffer}
use Rattle.vk_types.specs.declared.ops.Node.{Node}
use Rattle.transfer.specs.declared.overlap.Overlap.{Overlap}
use Rattle.transfer.specs.Overlaps.{overlap_of}
use Rattle.readback.specs.declared.plan.ReadPlan.{ReadPlan}

-- the plan of a read of which this part lies in the image
abbrev pub plan_part : ImageInfo → PixelFormat → PixelType → Rect → Overlap → ReadPlan
plan_part info pixels kind rect part = record {
  width = rect.w;
  height = rect.h;
  part = part;
  format = info.format;
  texel = pair_texel info.format pixels kind;
  expand = not (same_pair (pixels, kind) (own_pair_of info.format));
}

-- the plan of a read of a rectangle in a pair; none where the rectangle meets no pixel of the image
abbrev pub plan_of : ImageInfo → PixelFormat → PixelType → Rect → Option ReadPlan
plan_of info pixels kind rect = option_map (plan_part info pixels kind rect) (overlap_of (info.width, info.height) rect)

-- the bytes of what lies in the image
abbrev pub plan_size : ReadPlan → ℕ
plan_size plan = plan.part.rect.w * plan.part.rect.h * plan.texel

-- the bytes of a row of what lies in the image
abbrev pub part_row : ReadPlan → ℕ
part_row plan = plan.part.rect.w * plan.texel

-- what lies in the image to a buffer, row after row from a place on
abbrev pub read_node : ReadPlan → HandleId → HandleId → ℕ → Node
read_node plan image buffer at =
    record { op = ImageToBuffer image plan.part.rect buffer at (part_row plan) (bytes_per_texel plan.format) plan.expand }

-- where the first texel of what lies in the image goes in a buffer whose rows begin at a base
abbrev pub pack_place : ReadPlan → ℕ → PixelStorage → ℕ
pack_place plan base store =
    let stride = row_stride store plan.texel plan.width in
    base + first_row_place store plan.texel plan.width + plan.part.top * stride + plan.part.left * plan.texel

-- what lies in the image to the rows of a buffer that the pack parameters lay out
abbrev pub pack_node : ReadPlan → HandleId → HandleId → ℕ → PixelStorage → Node
pack_node plan image buffer base store =
    let stride = row_stride store plan.texel plan.width in
    record { op = ImageToBuffer image plan.part.rect buffer (pack_place plan base store) stride (bytes_per_texel plan.format) plan.expand }

-- the node of a read into a pack buffer; none where the rectangle meets no pixel
abbrev pub pack_of : ImageInfo → PixelFormat → PixelType → Rect → HandleId → HandleId → ℕ → PixelStorage → Option Node
pack_of info pixels kind rect image buffer base store =
    option_map (λ plan. pack_node plan image buffer base store) (plan_of info pixels kind rect)

-- where a row of what lies in the image goes in the read's rows
abbrev pub row_at : ReadPlan → ℕ → ℕ
row_at plan row = ((plan.part.top + row) * plan.width + plan.part.left) * plan.texel

-- the bytes of the read's rows without padding: those of what lies in the image, and 0 elsewhere
abbrev pub placed : ReadPlan → List ℕ → List ℕ
placed plan host = cells (plan.width * plan.height * plan.texel) (λ k.
    let column = k / plan.texel % plan.width in
    let row = k / plan.texel / plan.width in
    if in_range plan.part.left plan.part.rect.w column && in_range plan.part.top plan.part.rect.h row
    then slice_index host (((row - plan.part.top) * plan.part.rect.w + (column - plan.part.left)) * plan.texel + k % plan.texel)
    else 0)
