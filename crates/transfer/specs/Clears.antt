-- The node of a clear, and the area that it may write.
use Rattle.std.specs.Prelude.{◌≡◌, ℕ, ◌<◌, ◌≤◌, ◌&&◌, ◌||◌, not, min, nat_lt, Bool, pos, Option, Some, None, List, [], ◌∷◌, replicate, if◌then◌else◌}
use Rattle.std.specs.Option.{option_map}
use Rattle.std.specs.List.{filter_map}
use Rattle.cells.specs.Contents.{overwritten}
use Rattle.formats.specs.declared.format.Format.{Format}
use Rattle.formats.specs.Texel.{has_signed_components}
use Rattle.formats.specs.Components.{fits_format, packed}
use Rattle.gl_model.specs.declared.objects.ImageInfo.{ImageInfo}
use Rattle.gl_model.specs.declared.state.ScissorBox.{ScissorBox}
use Rattle.gl_model.specs.Bindings.{differs}
use Rattle.gl_model.specs.ImageEffect.{in_common}
use Rattle.vk_types.specs.declared.handles.HandleId.{HandleId}
use Rattle.vk_types.specs.declared.regions.Rect.{Rect}
use Rattle.vk_types.specs.declared.ops.Op.TheVariants.{ClearImage}
use Rattle.vk_types.specs.declared.ops.Node.{Node}
use Rattle.transfer.specs.declared.overlap.Overlap.{Overlap}
use Rattle.transfer.specs.Overlaps.{overlap_of}

-- the images that have storage
abbrev pub stored : List (Option ImageInfo) → List ImageInfo
stored images = filter_map (λ image. image) images

-- the least width and the least height of an area and of the images that have storage
abbrev pub least_area : List (Option ImageInfo) → ℕ × ℕ → ℕ × ℕ
least_area [] area = area
least_area (None ∷ rest) area = least_area rest area
least_area (Some image ∷ rest) area = (min image.width (least_area rest area).0, min image.height (least_area rest area).1)

-- what an image has in common with all attached images, by its width and its height
pub record IsCommonArea (info : ImageInfo) (attached : List ImageInfo) (area : ℕ × ℕ) : Type 0 where
  pub columns : area.0 ≤ info.width
  pub rows : area.1 ≤ info.height
  pub is : (x y : ℕ) → x < info.width → y < info.height → in_common attached x y ≡ (nat_lt x area.0 && nat_lt y area.1)

-- the box of a scissor whose test is on
abbrev pub scissor_of : Bool → ScissorBox → Option ScissorBox
scissor_of on box = if on then Some box else None

-- the box of a scissor, and a whole area where there is none
abbrev pub box_in : Option ScissorBox → ℕ × ℕ → Rect
box_in None area = record { x = pos 0; y = pos 0; w = area.0; h = area.1 }
box_in (Some box) area = record { x = box.x; y = box.y; w = box.width; h = box.height }

-- what of the box lies in an area
abbrev pub clear_rect : Option ScissorBox → ℕ × ℕ → Option Rect
clear_rect scissor area = option_map (λ (part : Overlap). part.rect) (overlap_of area (box_in scissor area))

-- the texel of a value, in the first of 16 bytes
abbrev pub texel_of : Format → List ℕ → List ℕ
texel_of format value = overwritten (replicate 16 0) 0 (packed format value)

-- no cell that a clear writes is defined: the signedness is another, or the value does not fit
abbrev pub clears_nothing : ImageInfo → Bool → List ℕ → Bool
clears_nothing info signed value = differs signed (has_signed_components info.format) || not (fits_format info.format value)

abbrev pub clear_part : HandleId → List ℕ → Rect → Node
clear_part image texel rect = record { op = ClearImage image rect texel }

-- the value into what of the box lies in an area; none where no cell gets defined
abbrev pub clear_of : HandleId → ImageInfo → Bool → List ℕ → Option ScissorBox → ℕ × ℕ → Option Node
clear_of image info signed value scissor area =
    if clears_nothing info signed value then None
    else option_map (clear_part image (texel_of info.format value)) (clear_rect scissor area)
