-- Which calls are refused, and by which reply: of each call the first row counts whose condition holds.
use Rattle.std.specs.Prelude.{ℕ, ◌&&◌, unsigned_abs, Bool, false, not, Option, Some, None, List, [], length, map, is_some, if◌then◌else◌}
use Rattle.std.specs.Option.{option_and_then, option_map_or}
use Rattle.std.specs.List.{list_any}
use Rattle.gl_calls.specs.declared.reply.Reply.{Reply}
use Rattle.gl_calls.specs.declared.reply.Reply.TheVariants.{NoContext}
use Rattle.gl_calls.specs.declared.call.Call.{Call}
use Rattle.gl_calls.specs.declared.call.Call.TheVariants as call
use Rattle.gl_calls.specs.declared.words.BufferTarget.TheVariants as buffers
use Rattle.gl_calls.specs.declared.words.AttachWhat.{AttachWhat}
use Rattle.gl_calls.specs.declared.words.AttachWhat.TheVariants as what
use Rattle.gl_calls.specs.Egl.{is_egl_call}
use Rattle.gl_calls.specs.Words.{payload_len}
use Rattle.gl_model.specs.declared.objects.ImageInfo.{ImageInfo}
use Rattle.tables.specs.Table.{entry, has}
use Rattle.gl_model.specs.GroupState.{Texture, Framebuffer, Names, Context, GroupState}
use Rattle.gl_model.specs.Bindings.{same_option, current_context, buffer_binding, bound_buffer, attached_image, framebuffer_name, framebuffer_of, same_attachment, is_empty, status_of, is_complete, read_attachment, drawn_attachments}
use Rattle.gl_model.specs.Storage.{image_bytes, passes_limit}
use Rattle.gl_model.specs.RefusalRows.{Row, first_row}
use Rattle.gl_model.specs.BufferRows.{size_of, buffer_data_rows, buffer_sub_data_rows, copy_buffer_rows, map_rows, flush_rows, unmap_rows, map_read_rows, map_write_rows}
use Rattle.gl_model.specs.ContextRows.{create_context_rows, destroy_context_rows, make_current_rows, create_sync_rows, use_sync_rows, fence_rows, client_wait_rows, wait_rows, delete_sync_rows}
use Rattle.gl_model.specs.ImageRows.{storage_of, storage_bytes, tex_storage_rows, renderbuffer_storage_rows, tex_sub_image_rows, copy_tex_sub_image_rows, read_pixels_rows}
use Rattle.gl_model.specs.FramebufferRows.{get_rows, bind_rows, gen_rows, attach_rows, status_rows, draw_buffers_rows, read_buffer_rows, clear_rows, scissor_rows, blit_rows, invalidate_rows, pixel_store_rows}

-- what is bound to the texture and renderbuffer targets: None where that is 0
abbrev pub bound_texture : GroupState → Context → Option (Option ImageInfo)
bound_texture group context = option_and_then (λ t. entry t group.textures) context.texture

abbrev pub bound_renderbuffer : GroupState → Context → Option (Option ImageInfo)
bound_renderbuffer group context = option_and_then (λ r. entry r group.renderbuffers) context.renderbuffer

abbrev pub read_framebuffer : Context → Option Framebuffer
read_framebuffer context = framebuffer_of context context.read

abbrev pub draw_framebuffer : Context → Option Framebuffer
draw_framebuffer context = framebuffer_of context context.draw

-- the image that is read, if the read buffer has one
abbrev pub read_image : GroupState → Context → Option ImageInfo
read_image group context = attached_image group (read_attachment (read_framebuffer context))

abbrev pub read_is_complete : GroupState → Context → Bool
read_is_complete group context = is_complete (status_of group (read_framebuffer context))

abbrev pub draw_is_complete : GroupState → Context → Bool
draw_is_complete group context = is_complete (status_of group (draw_framebuffer context))

-- the image that is read is the bound texture
abbrev pub reads_bound_texture : Context → Bool
reads_bound_texture context =
    option_map_or (λ t. same_attachment (Texture t) (read_attachment (read_framebuffer context))) context.texture false

-- the image that is read is one that is drawn to
abbrev pub reads_drawn : Context → Bool
reads_drawn context =
    let read = read_attachment (read_framebuffer context) in
    not (is_empty read) && list_any (same_attachment read) (drawn_attachments (draw_framebuffer context))

-- the name has an object
abbrev pub has_object : Names → ℕ → Bool
has_object names name = is_some (option_and_then (λ o. o) (entry name names.objects))

abbrev pub has_image : GroupState → AttachWhat → ℕ → Bool
has_image group what.Texture name = has_object group.texture_names name
has_image group what.Renderbuffer name = has_object group.renderbuffer_names name

-- the rows of a call of EGL on a thread
abbrev pub egl_rows : GroupState → ℕ → Call → List Row
egl_rows group thread (call.CreateContext number) = create_context_rows (has number group.contexts) (length group.contexts)
egl_rows group thread (call.DestroyContext number) = destroy_context_rows (entry number group.contexts)
egl_rows group thread (call.MakeCurrent number) = make_current_rows thread number (entry number group.contexts)
egl_rows group thread (call.CreateSync number) = create_sync_rows (is_some (current_context group thread)) (has number group.egl_syncs)
egl_rows group thread (call.EglClientWaitSync number flush timeout) = use_sync_rows (has number group.egl_syncs)
egl_rows group thread (call.DestroySync number) = use_sync_rows (has number group.egl_syncs)
egl_rows group thread _ = []

-- the rows of a call of OpenGL ES in a context
abbrev pub gl_rows : GroupState → Context → Call → List Row
gl_rows group context (call.GetInteger limit) = get_rows limit
gl_rows group context (call.Gen kind count) = gen_rows count
gl_rows group context (call.Bind target name) = bind_rows target
gl_rows group context (call.BufferData target size usage payload) =
    let bound = bound_buffer group context target in
    buffer_data_rows target size usage bound (passes_limit group (size_of bound) (unsigned_abs size))
gl_rows group context (call.BufferSubData target offset payload) =
    buffer_sub_data_rows target offset (payload_len payload) (bound_buffer group context target)
gl_rows group context (call.CopyBufferSubData from to read write size) =
    copy_buffer_rows from to read write size (bound_buffer group context from) (bound_buffer group context to)
    (same_option (buffer_binding context from) (buffer_binding context to))
gl_rows group context (call.MapBufferRange target offset len access) = map_rows target offset len access (bound_buffer group context target)
gl_rows group context (call.FlushMappedBufferRange target offset len) = flush_rows target offset len (bound_buffer group context target)
gl_rows group context (call.UnmapBuffer target) = unmap_rows target (bound_buffer group context target)
gl_rows group context (call.MapRead target offset len) = map_read_rows target offset len (bound_buffer group context target)
gl_rows group context (call.MapWrite target offset payload) = map_write_rows target offset (payload_len payload) (bound_buffer group context target)
gl_rows group context (call.TexStorage levels format width height) =
    tex_storage_rows levels format width height (bound_texture group context)
    (passes_limit group 0 (storage_bytes format width height))
gl_rows group context (call.TexSubImage x y width height format kind source) =
    tex_sub_image_rows x y width height format kind source context.unpack (bound_buffer group context buffers.PixelUnpack) (storage_of (bound_texture group context))
gl_rows group context (call.CopyTexSubImage x y from_x from_y width height) =
    copy_tex_sub_image_rows x y width height (read_is_complete group context) (read_image group context) (storage_of (bound_texture group context))
    (reads_bound_texture context)
gl_rows group context (call.RenderbufferStorage format width height) =
    let bound = bound_renderbuffer group context in
    renderbuffer_storage_rows format width height bound
    (passes_limit group (image_bytes (storage_of bound)) (storage_bytes format width height))
gl_rows group context (call.Attach target point what name) = attach_rows target (framebuffer_name context target) name (has_image group what name)
gl_rows group context (call.CheckFramebufferStatus target) = status_rows target
gl_rows group context (call.DrawBuffers list) = draw_buffers_rows list context.draw
gl_rows group context (call.ReadBuffer buffer) = read_buffer_rows buffer context.read
gl_rows group context (call.ClearUnsigned buffer r g b a) = clear_rows buffer (draw_is_complete group context)
gl_rows group context (call.ClearSigned buffer r g b a) = clear_rows buffer (draw_is_complete group context)
gl_rows group context (call.ScissorBox x y width height) = scissor_rows width height
gl_rows group context (call.Blit sx0 sy0 sx1 sy1 dx0 dy0 dx1 dy1 mask filter) =
    blit_rows mask filter (read_is_complete group context) (draw_is_complete group context) (read_image group context)
    (map (attached_image group) (drawn_attachments (draw_framebuffer context))) (reads_drawn context)
gl_rows group context (call.Invalidate target buffer) = invalidate_rows target buffer (framebuffer_name context target)
gl_rows group context (call.ReadPixels x y width height format kind destination) =
    read_pixels_rows width height format kind destination context.pack (bound_buffer group context buffers.PixelPack) (read_is_complete group context)
    (read_image group context)
gl_rows group context (call.PixelStore parameter value) = pixel_store_rows parameter value
gl_rows group context (call.FenceSync number condition flags) = fence_rows condition flags (has number group.syncs)
gl_rows group context (call.ClientWaitSync number flags timeout) = client_wait_rows flags (has number group.syncs)
gl_rows group context (call.WaitSync number flags end) = wait_rows flags end (has number group.syncs)
gl_rows group context (call.DeleteSync number) = delete_sync_rows number (has number group.syncs)
gl_rows group context _ = []

-- a call of OpenGL ES needs a context
abbrev pub gl_refusal : GroupState → Option Context → Call → Option Reply
gl_refusal group None asked = Some NoContext
gl_refusal group (Some context) asked = first_row (gl_rows group context asked)

-- the reply by which a call is refused, and None where it is accepted
abbrev pub refusal : GroupState → ℕ → Call → Option Reply
refusal group thread asked =
    if is_egl_call asked then first_row (egl_rows group thread asked) else gl_refusal group (current_context group thread) asked
