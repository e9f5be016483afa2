-- What the laws of histories speak of: the group without contents after some entries, and what holds in each reached state.
use Rattle.std.specs.Prelude.{Bool, false, unsigned_abs, ℕ, Option, None, List, [], ◌∷◌, unwrap_or}
use Rattle.std.specs.Option.{option_map_or}
use Rattle.cells.specs.Contents.{Content}
use Rattle.gl_calls.specs.declared.call.Call.{Call}
use Rattle.gl_calls.specs.declared.call.Call.TheVariants as call
use Rattle.gl_calls.specs.declared.call.PixelDestination.TheVariants as destination
use Rattle.gl_calls.specs.declared.words.ObjectKind.TheVariants as kinds
use Rattle.gl_calls.specs.declared.reply.Entry.{Entry}
use Rattle.tables.specs.Table.{entry, has}
use Rattle.gl_calls.specs.Words.{drawn_point}
use Rattle.gl_model.specs.GroupState.{Attachment, Empty, Texture, Renderbuffer, Context, GroupState}
use Rattle.gl_model.specs.Bindings.{current_context, buffer_binding, draw_attachment, drawn_attachments, point_of, framebuffer_of, framebuffer_name}
use Rattle.gl_model.specs.Refusal.{refusal, draw_framebuffer}
use Rattle.gl_model.specs.GroupEffect.{group_effect, object_of}
use Rattle.gl_model.specs.GroupModel.{GroupModel, opening}
use Rattle.gl_model.specs.Effect.{bound_texture_attachment, in_context, gl_contents, gl_storage, fence_effect}
use Rattle.gl_model.specs.Legal.{refused_group, state_after}

-- the state after a history of the declared threads
abbrev pub reached : List ℕ → List Entry → GroupModel
reached threads history = state_after (opening threads) 0 history

-- the group after an entry, by the group alone
abbrev pub group_after : GroupState → Entry → GroupState
group_after group e =
    option_map_or (λ answer. refused_group group e.thread answer) (refusal group e.thread e.call) (group_effect group e.thread e.call)

-- the group after some entries, by the group alone
abbrev pub group_after_all : GroupState → List Entry → GroupState
group_after_all group [] = group
group_after_all group (e ∷ rest) = group_after_all (group_after group e) rest

-- the buffer whose store an accepted call may change
abbrev pub changed_buffer_in : GroupState → Context → Call → Option ℕ
changed_buffer_in group context (call.Delete kinds.Buffer name) = object_of group.buffer_names name
changed_buffer_in group context (call.BufferData target size usage payload) = buffer_binding context target
changed_buffer_in group context (call.BufferSubData target offset payload) = buffer_binding context target
changed_buffer_in group context (call.CopyBufferSubData from to read write size) = buffer_binding context to
changed_buffer_in group context (call.MapBufferRange target offset len access) = buffer_binding context target
changed_buffer_in group context (call.FlushMappedBufferRange target offset len) = buffer_binding context target
changed_buffer_in group context (call.UnmapBuffer target) = buffer_binding context target
changed_buffer_in group context (call.MapWrite target offset payload) = buffer_binding context target
changed_buffer_in group context (call.ReadPixels x y width height format kind (destination.Offset at)) = context.pixel_pack
changed_buffer_in group context _ = None

abbrev pub changed_buffer : GroupState → ℕ → Call → Option ℕ
changed_buffer group thread asked = option_map_or (λ context. changed_buffer_in group context asked) (current_context group thread) None

-- the cells of a texture and of a renderbuffer
abbrev pub texture_of : GroupModel → ℕ → Content
texture_of state t = unwrap_or (entry t state.texture_cells) []

abbrev pub renderbuffer_of : GroupModel → ℕ → Content
renderbuffer_of state r = unwrap_or (entry r state.renderbuffer_cells) []

-- the cells of an image that may be attached
abbrev pub cells_of : GroupModel → Attachment → Content
cells_of state Empty = []
cells_of state (Texture t) = texture_of state t
cells_of state (Renderbuffer r) = renderbuffer_of state r

-- an image that may be attached exists
abbrev pub image_exists : GroupState → Attachment → Bool
image_exists group Empty = false
image_exists group (Texture t) = has t group.textures
image_exists group (Renderbuffer r) = has r group.renderbuffers

-- the images that an accepted call may change
abbrev pub changed_images_in : Context → Call → List Attachment
changed_images_in context (call.TexStorage levels format width height) = bound_texture_attachment context ∷ []
changed_images_in context (call.TexSubImage x y width height pixels kind from) = bound_texture_attachment context ∷ []
changed_images_in context (call.CopyTexSubImage x y from_x from_y width height) = bound_texture_attachment context ∷ []
changed_images_in context (call.RenderbufferStorage format width height) = option_map_or Renderbuffer context.renderbuffer Empty ∷ []
changed_images_in context (call.ClearUnsigned buffer r g b a) = option_map_or (λ f. draw_attachment f (unsigned_abs buffer)) (draw_framebuffer context) Empty ∷ []
changed_images_in context (call.ClearSigned buffer r g b a) = option_map_or (λ f. draw_attachment f (unsigned_abs buffer)) (draw_framebuffer context) Empty ∷ []
changed_images_in context (call.Blit sx0 sy0 sx1 sy1 dx0 dy0 dx1 dy1 mask filter) = drawn_attachments (draw_framebuffer context)
changed_images_in context (call.Invalidate target buffer) =
    option_map_or (λ f. option_map_or (point_of f) (drawn_point buffer) Empty) (framebuffer_of context (framebuffer_name context target)) Empty ∷ []
changed_images_in context _ = []

abbrev pub changed_images : GroupState → ℕ → Call → List Attachment
changed_images group thread asked = option_map_or (λ context. changed_images_in context asked) (current_context group thread) []

-- the state after an accepted call, before what no longer exists is left out
abbrev pub before_the_sweep : GroupModel → ℕ → Call → ℕ → GroupModel
before_the_sweep state thread asked place =
    let moved = fence_effect (in_context gl_contents state thread asked) thread asked place in
    in_context gl_storage (record moved { group = group_effect state.group thread asked }) thread asked
