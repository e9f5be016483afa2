-- The words of each list, and what they stand for.
use Rattle.std.specs.Prelude.{ℕ, List, [], ◌∷◌, Bool, true, false, Option, Some, None, if◌then◌else◌, codes, map}
use Rattle.std.specs.Borrow.{Bor}
use Rattle.std.specs.Str.{bytes_eq}
use Rattle.formats.specs.declared.format.Format.TheVariants as known
use Rattle.gl_calls.specs.declared.words.BufferTarget.{BufferTarget}
use Rattle.gl_calls.specs.declared.words.BufferTarget.TheVariants as buffer
use Rattle.gl_calls.specs.declared.words.FramebufferTarget.{FramebufferTarget}
use Rattle.gl_calls.specs.declared.words.FramebufferTarget.TheVariants as framebuffer
use Rattle.gl_calls.specs.declared.words.BindTarget.{BindTarget}
use Rattle.gl_calls.specs.declared.words.BindTarget.TheVariants as bound
use Rattle.gl_calls.specs.declared.words.ObjectKind.{ObjectKind}
use Rattle.gl_calls.specs.declared.words.ObjectKind.TheVariants as kind
use Rattle.gl_calls.specs.declared.words.Usage.{Usage}
use Rattle.gl_calls.specs.declared.words.Usage.TheVariants as usage
use Rattle.gl_calls.specs.declared.words.FormatWord.{FormatWord}
use Rattle.gl_calls.specs.declared.words.FormatWord.TheVariants as format
use Rattle.formats.specs.declared.pixel.PixelFormat.{PixelFormat}
use Rattle.formats.specs.declared.pixel.PixelFormat.TheVariants as pixels
use Rattle.formats.specs.declared.pixel.PixelType.{PixelType}
use Rattle.formats.specs.declared.pixel.PixelType.TheVariants as element
use Rattle.gl_calls.specs.declared.words.AttachPoint.{AttachPoint}
use Rattle.gl_calls.specs.declared.words.AttachPoint.TheVariants as point
use Rattle.gl_calls.specs.declared.words.AttachWhat.{AttachWhat}
use Rattle.gl_calls.specs.declared.words.AttachWhat.TheVariants as what
use Rattle.gl_calls.specs.declared.words.DrawBuffer.{DrawBuffer}
use Rattle.gl_calls.specs.declared.words.DrawBuffer.TheVariants as drawn
use Rattle.gl_calls.specs.declared.words.StoreParameter.{StoreParameter}
use Rattle.gl_calls.specs.declared.words.StoreParameter.TheVariants as parameter
use Rattle.gl_calls.specs.declared.words.LimitName.{LimitName}
use Rattle.gl_calls.specs.declared.words.LimitName.TheVariants as limit
use Rattle.gl_calls.specs.declared.words.BlitMask.{BlitMask}
use Rattle.gl_calls.specs.declared.words.BlitMask.TheVariants as mask
use Rattle.gl_calls.specs.declared.words.BlitFilter.{BlitFilter}
use Rattle.gl_calls.specs.declared.words.BlitFilter.TheVariants as filter
use Rattle.gl_calls.specs.declared.words.FenceCondition.{FenceCondition}
use Rattle.gl_calls.specs.declared.words.FenceCondition.TheVariants as condition

-- what the word stands for in a table
abbrev pub meaning : {T : Type 0} → List (List ℕ × T) → List ℕ → Option T
meaning [] word = None
meaning (entry ∷ others) word = if bytes_eq entry.0 word then Some entry.1 else meaning others word

-- a table as the code holds it
abbrev pub entries : {T : Type 0} → List (Bor (List ℕ) × T) → List (List ℕ × T)
entries table = map (λ entry. (entry.0.now, entry.1)) table

abbrev pub buffers : List (List ℕ × BufferTarget)
buffers = (codes "array", buffer.Array)
    ∷ (codes "copy_read", buffer.CopyRead)
    ∷ (codes "copy_write", buffer.CopyWrite)
    ∷ (codes "pixel_pack", buffer.PixelPack)
    ∷ (codes "pixel_unpack", buffer.PixelUnpack)
    ∷ (codes "other", buffer.Other)
    ∷ []

abbrev pub framebuffers : List (List ℕ × FramebufferTarget)
framebuffers = (codes "framebuffer", framebuffer.Both)
    ∷ (codes "read_fb", framebuffer.Read)
    ∷ (codes "draw_fb", framebuffer.Draw)
    ∷ (codes "other", framebuffer.Other)
    ∷ []

abbrev pub bind_targets : List (List ℕ × BindTarget)
bind_targets = (codes "array", bound.Buffer buffer.Array)
    ∷ (codes "copy_read", bound.Buffer buffer.CopyRead)
    ∷ (codes "copy_write", bound.Buffer buffer.CopyWrite)
    ∷ (codes "pixel_pack", bound.Buffer buffer.PixelPack)
    ∷ (codes "pixel_unpack", bound.Buffer buffer.PixelUnpack)
    ∷ (codes "framebuffer", bound.Framebuffer framebuffer.Both)
    ∷ (codes "read_fb", bound.Framebuffer framebuffer.Read)
    ∷ (codes "draw_fb", bound.Framebuffer framebuffer.Draw)
    ∷ (codes "texture", bound.Texture)
    ∷ (codes "renderbuffer", bound.Renderbuffer)
    ∷ (codes "other", bound.Buffer buffer.Other)
    ∷ []

abbrev pub object_kinds : List (List ℕ × ObjectKind)
object_kinds = (codes "buffer", kind.Buffer)
    ∷ (codes "texture", kind.Texture)
    ∷ (codes "renderbuffer", kind.Renderbuffer)
    ∷ (codes "framebuffer", kind.Framebuffer)
    ∷ []

abbrev pub usages : List (List ℕ × Usage)
usages = (codes "stream_draw", usage.StreamDraw)
    ∷ (codes "stream_read", usage.StreamRead)
    ∷ (codes "stream_copy", usage.StreamCopy)
    ∷ (codes "static_draw", usage.StaticDraw)
    ∷ (codes "static_read", usage.StaticRead)
    ∷ (codes "static_copy", usage.StaticCopy)
    ∷ (codes "dynamic_draw", usage.DynamicDraw)
    ∷ (codes "dynamic_read", usage.DynamicRead)
    ∷ (codes "dynamic_copy", usage.DynamicCopy)
    ∷ (codes "other", usage.Other)
    ∷ []

abbrev pub formats : List (List ℕ × FormatWord)
formats = (codes "r8ui", format.Known known.R8ui)
    ∷ (codes "r8i", format.Known known.R8i)
    ∷ (codes "r16ui", format.Known known.R16ui)
    ∷ (codes "r16i", format.Known known.R16i)
    ∷ (codes "r32ui", format.Known known.R32ui)
    ∷ (codes "r32i", format.Known known.R32i)
    ∷ (codes "rg8ui", format.Known known.Rg8ui)
    ∷ (codes "rgba8ui", format.Known known.Rgba8ui)
    ∷ (codes "rgba8i", format.Known known.Rgba8i)
    ∷ (codes "rgb10_a2ui", format.Known known.Rgb10A2ui)
    ∷ (codes "rgba32ui", format.Known known.Rgba32ui)
    ∷ (codes "rgba32i", format.Known known.Rgba32i)
    ∷ (codes "other", format.Other)
    ∷ []

abbrev pub pixel_formats : List (List ℕ × PixelFormat)
pixel_formats = (codes "red_integer", pixels.RedInteger)
    ∷ (codes "rg_integer", pixels.RgInteger)
    ∷ (codes "rgba_integer", pixels.RgbaInteger)
    ∷ (codes "other", pixels.Other)
    ∷ []

abbrev pub pixel_types : List (List ℕ × PixelType)
pixel_types = (codes "unsigned_byte", element.UnsignedByte)
    ∷ (codes "byte", element.Byte)
    ∷ (codes "unsigned_short", element.UnsignedShort)
    ∷ (codes "short", element.Short)
    ∷ (codes "unsigned_int", element.UnsignedInt)
    ∷ (codes "int", element.Int)
    ∷ (codes "unsigned_int_2_10_10_10_rev", element.UnsignedInt2101010Rev)
    ∷ (codes "other", element.Other)
    ∷ []

abbrev pub points : List (List ℕ × AttachPoint)
points = (codes "c0", point.C0)
    ∷ (codes "c1", point.C1)
    ∷ (codes "c2", point.C2)
    ∷ (codes "c3", point.C3)
    ∷ []

abbrev pub attached_objects : List (List ℕ × AttachWhat)
attached_objects = (codes "texture", what.Texture)
    ∷ (codes "renderbuffer", what.Renderbuffer)
    ∷ []

abbrev pub draw_buffers : List (List ℕ × DrawBuffer)
draw_buffers = (codes "c0", drawn.Point point.C0)
    ∷ (codes "c1", drawn.Point point.C1)
    ∷ (codes "c2", drawn.Point point.C2)
    ∷ (codes "c3", drawn.Point point.C3)
    ∷ (codes "none", drawn.None)
    ∷ (codes "other", drawn.Other)
    ∷ []

abbrev pub parameters : List (List ℕ × StoreParameter)
parameters = (codes "pack_align", parameter.PackAlign)
    ∷ (codes "pack_row", parameter.PackRow)
    ∷ (codes "pack_skip_rows", parameter.PackSkipRows)
    ∷ (codes "pack_skip_pixels", parameter.PackSkipPixels)
    ∷ (codes "unpack_align", parameter.UnpackAlign)
    ∷ (codes "unpack_row", parameter.UnpackRow)
    ∷ (codes "unpack_skip_rows", parameter.UnpackSkipRows)
    ∷ (codes "unpack_skip_pixels", parameter.UnpackSkipPixels)
    ∷ (codes "other", parameter.Other)
    ∷ []

abbrev pub limits : List (List ℕ × LimitName)
limits = (codes "max_texture_size", limit.MaxTextureSize)
    ∷ (codes "max_renderbuffer_size", limit.MaxRenderbufferSize)
    ∷ (codes "max_color_attachments", limit.MaxColorAttachments)
    ∷ (codes "max_draw_buffers", limit.MaxDrawBuffers)
    ∷ (codes "other", limit.Other)
    ∷ []

abbrev pub switches : List (List ℕ × Bool)
switches = (codes "on", true)
    ∷ (codes "off", false)
    ∷ []

abbrev pub masks : List (List ℕ × BlitMask)
masks = (codes "color", mask.Color)
    ∷ (codes "none", mask.None)
    ∷ (codes "other", mask.Other)
    ∷ []

abbrev pub filters : List (List ℕ × BlitFilter)
filters = (codes "nearest", filter.Nearest)
    ∷ (codes "linear", filter.Linear)
    ∷ (codes "other", filter.Other)
    ∷ []

abbrev pub conditions : List (List ℕ × FenceCondition)
conditions = (codes "gpu", condition.GpuCommandsComplete)
    ∷ (codes "other", condition.Other)
    ∷ []
