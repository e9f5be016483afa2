-- The node of an upload.
use Rattle.std.specs.Prelude.{ℕ, ◌+◌, ◌==◌, ◌||◌, Option, Some, None, if◌then◌else◌}
use Rattle.formats.specs.Rows.{PixelStorage, first_row_place, row_stride}
use Rattle.gl_model.specs.declared.objects.ImageInfo.{ImageInfo}
use Rattle.gl_model.specs.ImageEffect.{texel_bytes}
use Rattle.vk_types.specs.declared.handles.HandleId.{HandleId}
use Rattle.vk_types.specs.declared.regions.Rect.{Rect}
use Rattle.vk_types.specs.declared.ops.Op.TheVariants.{BufferToImage}
use Rattle.vk_types.specs.declared.ops.Node.{Node}

-- the rows of a buffer from a place on, laid out by the parameters, into the rectangle of an image; none where it has no texel
abbrev pub upload_of : HandleId → ℕ → PixelStorage → ImageInfo → HandleId → Rect → Option Node
upload_of src at store info image rect =
    let size = texel_bytes info in
    if (rect.w == 0) || (rect.h == 0) then None
    else Some (record { op = BufferToImage src (at + first_row_place store size rect.w) (row_stride store size rect.w) size image rect })
