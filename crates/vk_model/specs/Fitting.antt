-- Nodes that fit the objects that they touch.
use Rattle.std.specs.Prelude.{◌≡◌, ◌≢◌, ℕ, ◌+◌, ◌*◌, ◌<◌, ◌≤◌, ◌⊎◌, All, Option, Some, None, pos, IsSome}
use Rattle.vk_types.specs.declared.handles.Kind.{Kind}
use Rattle.vk_types.specs.declared.handles.Kind.TheVariants.{Buffer, Image}
use Rattle.vk_types.specs.declared.accesses.Layout.{Layout}
use Rattle.vk_types.specs.declared.regions.Rect.{Rect}
use Rattle.vk_types.specs.declared.ops.Op.{Op}
use Rattle.vk_types.specs.declared.ops.Op.TheVariants.{CopyBuffer, BufferToImage, ImageToBuffer, CopyImage, BlitImage, ClearImage, FillBuffer, PassPart}
use Rattle.vk_types.specs.declared.ops.Node.{Node}
use Rattle.vk_types.specs.Touches.{rows_size, buffer_texel}
use Rattle.vk_model.specs.Texels.{texel_bytes}

-- the bytes that an object of a kind has
abbrev pub size_of : Kind → ℕ
size_of (Buffer size) = size
size_of (Image format width height) = width * height * texel_bytes format

-- the kinds that an object may have: an image is small, and of one of the twelve formats
abbrev pub IsKind : Kind → Type 0
IsKind (Buffer size) = Unit {0}
IsKind (Image format width height) = (format < 12) × (1 ≤ width) × (width ≤ 2048) × (1 ≤ height) × (height ≤ 2048)

-- a live buffer that has this range, which is not empty
abbrev pub HasRange : Option Kind → ℕ → ℕ → Type 0
HasRange None at size = ⊥
HasRange (Some (Buffer len)) at size = (0 < size) × (at + size ≤ len)
HasRange (Some (Image format width height)) at size = ⊥

-- a rectangle inside an image
pub record LiesInside (rect : Rect) (width height : ℕ) : Type 0 where
  pub left : ℕ
  pub top : ℕ
  pub x_is : rect.x ≡ pos left
  pub y_is : rect.y ≡ pos top
  pub to_right : left + rect.w ≤ width
  pub to_bottom : top + rect.h ≤ height

-- a live image that has this rectangle
abbrev pub HasRect : Option Kind → Rect → Type 0
HasRect None rect = ⊥
HasRect (Some (Buffer size)) rect = ⊥
HasRect (Some (Image format width height)) rect = LiesInside rect width height

abbrev pub IsImage : Option Kind → Type 0
IsImage None = ⊥
IsImage (Some (Buffer size)) = ⊥
IsImage (Some (Image format width height)) = Unit {0}

-- a live image whose texels have so many bytes
abbrev pub HasTexels : Option Kind → ℕ → Type 0
HasTexels None size = ⊥
HasTexels (Some (Buffer _)) size = ⊥
HasTexels (Some (Image format width height)) size = size ≡ texel_bytes format

-- the format of an image
abbrev pub format_in : Option Kind → Option ℕ
format_in None = None
format_in (Some (Buffer size)) = None
format_in (Some (Image format width height)) = Some format

-- the layouts that a barrier of an object of this kind names: none of a buffer, both of an image
abbrev pub LayoutsFit : Option Kind → Option (Layout × Layout) → Type 0
LayoutsFit None layouts = ⊥
LayoutsFit (Some (Buffer size)) layouts = layouts ≡ None
LayoutsFit (Some (Image format width height)) layouts = IsSome layouts

-- An operation fits where what it touches is live and of the right kind, its regions lie inside, and ranges and images
-- that are read are apart from those that are written.
abbrev pub OpFits : (ℕ → Option Kind) → Op → Type 0
OpFits kinds (CopyBuffer src src_at dst dst_at size) =
    HasRange (kinds src.0) src_at size × HasRange (kinds dst.0) dst_at size × (src.0 ≡ dst.0 → (src_at + size ≤ dst_at) ⊎ (dst_at + size ≤ src_at))
OpFits kinds (BufferToImage src src_at stride texel_size dst rect) =
    HasRange (kinds src.0) src_at (rows_size rect stride texel_size) × HasRect (kinds dst.0) rect × HasTexels (kinds dst.0) texel_size
OpFits kinds (ImageToBuffer src rect dst dst_at stride texel_size expand) =
    HasRect (kinds src.0) rect × HasTexels (kinds src.0) texel_size × HasRange (kinds dst.0) dst_at (rows_size rect stride (buffer_texel texel_size expand))
OpFits kinds (CopyImage src src_x src_y dst rect) =
    HasRect (kinds src.0) (record { x = src_x; y = src_y; w = rect.w; h = rect.h }) × HasRect (kinds dst.0) rect × (format_in (kinds src.0) ≡ format_in (kinds dst.0)) × (src.0 ≢ dst.0)
OpFits kinds (BlitImage src dst coords clip) = IsImage (kinds src.0) × HasRect (kinds dst.0) clip × (src.0 ≢ dst.0)
OpFits kinds (ClearImage image rect texel) = HasRect (kinds image.0) rect
OpFits kinds (FillBuffer dst dst_at size byte) = HasRange (kinds dst.0) dst_at size
OpFits kinds (PassPart _ _ image _ _ clears) = IsImage (kinds image.0) × All (λ clear. HasRect (kinds image.0) clear.rect) clears
OpFits kinds (Op.Barrier b) = LayoutsFit (kinds b.id.0) b.layouts

abbrev pub NodeFits : (ℕ → Option Kind) → Node → Type 0
NodeFits kinds n = OpFits kinds n.op
