-- What a state has bound where.
use Rattle.std.specs.Prelude.{ℕ, ◌==◌, ◌||◌, ◌&&◌, Bool, true, false, Option, Some, None, List, [], ◌∷◌, is_none, unwrap_or, if◌then◌else◌, slice_get, not}
use Rattle.std.specs.Option.{option_and_then, option_map_or, option_map}
use Rattle.std.specs.List.{list_any, list_all, find}
use Rattle.formats.specs.declared.errors.FbStatus.{FbStatus}
use Rattle.formats.specs.declared.errors.FbStatus.TheVariants.{Complete, Undefined, IncompleteAttachment, IncompleteMissingAttachment, Unsupported}
use Rattle.gl_calls.specs.declared.words.BufferTarget.{BufferTarget}
use Rattle.gl_calls.specs.declared.words.BufferTarget.TheVariants as buf
use Rattle.gl_calls.specs.declared.words.FramebufferTarget.{FramebufferTarget}
use Rattle.gl_calls.specs.declared.words.FramebufferTarget.TheVariants as fbt
use Rattle.gl_model.specs.declared.objects.BufferFacts.{BufferFacts}
use Rattle.gl_model.specs.declared.objects.ImageInfo.{ImageInfo}
use Rattle.tables.specs.Table.{Entries, entry}
use Rattle.gl_model.specs.GroupState.{Attachment, Empty, Texture, Renderbuffer, Framebuffer, Context, GroupState}

-- two options of numbers are the same
abbrev pub same_option : Option ℕ → Option ℕ → Bool
same_option None None = true
same_option None (Some b) = false
same_option (Some a) None = false
same_option (Some a) (Some b) = a == b

-- two flags differ
abbrev pub differs : Bool → Bool → Bool
differs true b = not b
differs false b = b

-- the context that is current on a thread, with its number
abbrev pub current_entry : GroupState → ℕ → Option (ℕ × Context)
current_entry group thread = find (λ e. same_option e.1.thread (Some thread)) group.contexts

abbrev pub current_context : GroupState → ℕ → Option Context
current_context group thread = option_map (λ e. e.1) (current_entry group thread)

-- the object bound to a target, by its number
abbrev pub buffer_binding : Context → BufferTarget → Option ℕ
buffer_binding context buf.Array = context.array
buffer_binding context buf.CopyRead = context.copy_read
buffer_binding context buf.CopyWrite = context.copy_write
buffer_binding context buf.PixelPack = context.pixel_pack
buffer_binding context buf.PixelUnpack = context.pixel_unpack
buffer_binding context buf.Other = None

abbrev pub buffer_of : GroupState → Option ℕ → Option BufferFacts
buffer_of group bound = option_and_then (λ b. entry b group.buffers) bound

abbrev pub bound_buffer : GroupState → Context → BufferTarget → Option BufferFacts
bound_buffer group context target = buffer_of group (buffer_binding context target)

-- the image of a texture or renderbuffer, if it has storage
abbrev pub image_of : Entries (Option ImageInfo) → Option ℕ → Option ImageInfo
image_of images bound = option_and_then (λ t. option_and_then (λ image. image) (entry t images)) bound

abbrev pub attached_image : GroupState → Attachment → Option ImageInfo
attached_image group Empty = None
attached_image group (Texture t) = image_of group.textures (Some t)
attached_image group (Renderbuffer r) = image_of group.renderbuffers (Some r)

-- the name that is bound to a framebuffer target
abbrev pub framebuffer_name : Context → FramebufferTarget → ℕ
framebuffer_name context fbt.Both = context.draw
framebuffer_name context fbt.Draw = context.draw
framebuffer_name context fbt.Read = context.read
framebuffer_name context fbt.Other = 0

-- the framebuffer of a name, and None for 0
abbrev pub framebuffer_of : Context → ℕ → Option Framebuffer
framebuffer_of context name = option_and_then (λ f. f) (entry name context.framebuffers)

abbrev pub is_empty : Attachment → Bool
is_empty Empty = true
is_empty (Texture t) = false
is_empty (Renderbuffer r) = false

abbrev pub same_attachment : Attachment → Attachment → Bool
same_attachment Empty next = is_empty next
same_attachment (Texture a) Empty = false
same_attachment (Texture a) (Texture b) = a == b
same_attachment (Texture a) (Renderbuffer b) = false
same_attachment (Renderbuffer a) Empty = false
same_attachment (Renderbuffer a) (Texture b) = false
same_attachment (Renderbuffer a) (Renderbuffer b) = a == b

-- some image stands twice in a list of attachments
abbrev pub has_twin : List Attachment → Bool
has_twin [] = false
has_twin (a ∷ rest) = (not (is_empty a) && list_any (same_attachment a) rest) || has_twin rest

-- CheckFramebufferStatus (OpenGL ES 3.0.6, Framebuffer Completeness); None is the framebuffer 0
abbrev pub status_of : GroupState → Option Framebuffer → FbStatus
status_of group None = Undefined
status_of group (Some f) =
    if list_any (λ a. not (is_empty a) && is_none (attached_image group a)) f.points then IncompleteAttachment
    else (if list_all is_empty f.points then IncompleteMissingAttachment
    else (if has_twin f.points then Unsupported else Complete))

abbrev pub is_complete : FbStatus → Bool
is_complete Complete = true
is_complete Undefined = false
is_complete IncompleteAttachment = false
is_complete IncompleteMissingAttachment = false
is_complete Unsupported = false

-- the attachment at a point
abbrev pub point_of : Framebuffer → ℕ → Attachment
point_of f k = unwrap_or (slice_get f.points k) Empty

-- what ReadPixels and the copies read
abbrev pub read_attachment : Option Framebuffer → Attachment
read_attachment None = Empty
read_attachment (Some f) = option_map_or (point_of f) f.read Empty

-- whether draw buffer k is drawn to
abbrev pub draws_to : Framebuffer → ℕ → Bool
draws_to f k = unwrap_or (slice_get f.draws k) false

-- what draw buffer k draws to
abbrev pub draw_attachment : Framebuffer → ℕ → Attachment
draw_attachment f k = if draws_to f k then point_of f k else Empty

-- the attachments at the draw buffers, in their order
abbrev pub drawn_attachments : Option Framebuffer → List Attachment
drawn_attachments None = []
drawn_attachments (Some f) = draw_attachment f 0 ∷ draw_attachment f 1 ∷ draw_attachment f 2 ∷ draw_attachment f 3 ∷ []
