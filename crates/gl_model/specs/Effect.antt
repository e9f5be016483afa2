-- The state after an accepted call.
use Rattle.std.specs.Prelude.{ℕ, ◌+◌, ◌-◌, ◌^◌, ◌==◌, ◌||◌, ◌&&◌, ℤ, pos, negsuc, unsigned_abs, Bool, true, false, Option, Some, None, List, [], ◌∷◌, map, nat_le, if◌then◌else◌, unwrap_or}
use Rattle.std.specs.Option.{option_and_then, option_map_or, option_map}
use Rattle.std.specs.List.{filter_map, fold}
use Rattle.cells.specs.Contents.{Content, undefined_cells, overwritten, part}
use Rattle.formats.specs.declared.pixel.PixelFormat.{PixelFormat}
use Rattle.formats.specs.declared.pixel.PixelType.{PixelType}
use Rattle.gl_calls.specs.declared.call.Call.{Call}
use Rattle.gl_calls.specs.declared.call.Call.TheVariants as call
use Rattle.gl_calls.specs.declared.call.PixelSource.{PixelSource}
use Rattle.gl_calls.specs.declared.call.PixelSource.TheVariants as source
use Rattle.gl_calls.specs.declared.call.PixelDestination.{PixelDestination}
use Rattle.gl_calls.specs.declared.call.PixelDestination.TheVariants as destination
use Rattle.gl_calls.specs.declared.words.ObjectKind.TheVariants as kinds
use Rattle.gl_calls.specs.Words.{payload_bytes, drawn_point, is_color_mask}
use Rattle.gl_model.specs.declared.objects.BufferFacts.{BufferFacts}
use Rattle.gl_model.specs.declared.objects.ImageInfo.{ImageInfo}
use Rattle.tables.specs.Table.{entry, with_entry, without, only, has, each_value}
use Rattle.gl_model.specs.GroupState.{Attachment, Empty, Texture, Renderbuffer, Framebuffer, Context, GroupState}
use Rattle.gl_model.specs.Bindings.{current_entry, current_context, buffer_binding, bound_buffer, buffer_of, image_of, attached_image, framebuffer_name, framebuffer_of, status_of, is_complete, point_of, draw_attachment, read_attachment, drawn_attachments}
use Rattle.gl_model.specs.Refusal.{read_framebuffer, draw_framebuffer}
use Rattle.gl_model.specs.GroupEffect.{object_of, group_effect}
use Rattle.gl_model.specs.GroupModel.{Store, Fence, GroupModel}
use Rattle.gl_model.specs.BufferEffect.{store_of_cells, data_cells, map_cells, written, flushed, closed}
use Rattle.gl_model.specs.ImageEffect.{Picture, after_upload, after_copy, after_clear, after_blit, after_read, clear_texel, in_scissor, in_common, content_bytes, Corners}

-- What objects hold

abbrev pub empty_store : Store
empty_store = record { cells = []; waiting = [] }

abbrev pub store_of : GroupModel → ℕ → Store
store_of state b = unwrap_or (entry b state.stores) empty_store

-- one store changed; nothing where 0 is bound
abbrev pub change_store : GroupModel → Option ℕ → (Store → Store) → GroupModel
change_store state None change = state
change_store state (Some b) change = record state { stores = with_entry b (change (store_of state b)) state.stores }

-- the place in the buffer of a place in its map
abbrev pub map_place : Option BufferFacts → ℕ → ℕ
map_place bound at = option_map_or (λ b. option_map_or (λ m. m.at) b.map 0) bound 0 + at

abbrev pub picture_of : GroupModel → Attachment → Option Picture
picture_of state Empty = None
picture_of state (Texture t) =
    option_map (λ i. record { info = i; cells = unwrap_or (entry t state.texture_cells) [] }) (image_of state.group.textures (Some t))
picture_of state (Renderbuffer r) =
    option_map (λ i. record { info = i; cells = unwrap_or (entry r state.renderbuffer_cells) [] }) (image_of state.group.renderbuffers (Some r))

abbrev pub with_cells : GroupModel → Attachment → Content → GroupModel
with_cells state Empty content = state
with_cells state (Texture t) content = record state { texture_cells = with_entry t content state.texture_cells }
with_cells state (Renderbuffer r) content = record state { renderbuffer_cells = with_entry r content state.renderbuffer_cells }

-- one image painted; nothing where there is none
abbrev pub change_picture : GroupModel → Attachment → (Picture → Content) → GroupModel
change_picture state attachment paint = option_map_or (λ p. with_cells state attachment (paint p)) (picture_of state attachment) state

-- the texture bound, as an attachment
abbrev pub bound_texture_attachment : Context → Attachment
bound_texture_attachment context = option_map_or Texture context.texture Empty

-- the images at all points of a framebuffer
abbrev pub attached_images : GroupState → Option Framebuffer → List ImageInfo
attached_images group None = []
attached_images group (Some f) = filter_map (attached_image group) f.points

-- Calls

abbrev pub upload_source : GroupModel → Context → PixelSource → Content
upload_source state context (source.Client payload) = payload_bytes payload
upload_source state context (source.Offset at) = option_map_or (λ b. (store_of state b).cells) context.pixel_unpack []

abbrev pub upload_base : PixelSource → ℕ
upload_base (source.Client payload) = 0
upload_base (source.Offset at) = at

-- a signed component in two's complement
abbrev pub as_unsigned : ℤ → ℕ
as_unsigned (pos n) = n
as_unsigned (negsuc n) = 2 ^ 32 - 1 - n

abbrev pub clear : GroupModel → Context → ℤ → Bool → List ℕ → GroupModel
clear state context buffer signed value =
    let f = draw_framebuffer context in
    let target = option_map_or (λ f. draw_attachment f (unsigned_abs buffer)) f Empty in
    change_picture state target (λ p.
    after_clear p (in_scissor context.scissor_on context.scissor) (in_common (attached_images state.group f)) (clear_texel p.info signed value))

-- into each image at a draw buffer; the images that are read and drawn differ
abbrev pub blit : GroupModel → Context → Option Picture → Corners → GroupModel
blit state context None corners = state
blit state context (Some read) corners =
    let f = draw_framebuffer context in
    fold (λ s target. change_picture s target (λ p.
    after_blit p read corners (in_scissor context.scissor_on context.scissor) (in_common (attached_images state.group f)))) state (drawn_attachments f)

-- a read into the pack buffer; a read to the client changes nothing
abbrev pub read_into : GroupModel → Context → PixelDestination → Option Picture → PixelFormat → PixelType → ℤ → ℤ → ℕ → ℕ → GroupModel
read_into state context destination.Client read pixels kind x y width height = state
read_into state context (destination.Offset at) None pixels kind x y width height = state
read_into state context (destination.Offset at) (Some read) pixels kind x y width height =
    change_store state context.pixel_pack (λ s. record s { cells = after_read s.cells at read pixels kind context.pack x y width height })

-- what an image holds as its storage is made anew: cells that are not defined, and nothing where it has no storage
abbrev pub new_cells : GroupModel → Attachment → Content
new_cells state attachment = option_map_or (λ p. undefined_cells (content_bytes p.info)) (picture_of state attachment) []

-- The new storage of an image is not defined. An image that lost its storage holds nothing.
abbrev pub new_storage : Attachment → GroupModel → GroupModel
new_storage attachment state = with_cells state attachment (new_cells state attachment)

-- What the objects hold after a call of OpenGL ES in a context. New storage is made when the group has it, below.
abbrev pub gl_contents : GroupModel → Context → Call → GroupModel
gl_contents state context (call.Delete kinds.Buffer name) =
    let b = object_of state.group.buffer_names name in
    change_store state b (λ s. closed s (option_and_then (λ f. f.map) (buffer_of state.group b)))
gl_contents state context (call.BufferData target size usage payload) =
    change_store state (buffer_binding context target) (λ _. store_of_cells (data_cells (unsigned_abs size) payload))
gl_contents state context (call.BufferSubData target offset payload) =
    change_store state (buffer_binding context target) (λ s. record s { cells = overwritten s.cells (unsigned_abs offset) (payload_bytes payload) })
gl_contents state context (call.CopyBufferSubData from to read write size) =
    let source = option_map_or (λ b. (store_of state b).cells) (buffer_binding context from) [] in
    change_store state (buffer_binding context to)
    (λ s. record s { cells = overwritten s.cells (unsigned_abs write) (part source (unsigned_abs read) (unsigned_abs size)) })
gl_contents state context (call.MapBufferRange target offset len access) =
    change_store state (buffer_binding context target) (λ s. store_of_cells (map_cells s.cells (unsigned_abs offset) (unsigned_abs len) access))
gl_contents state context (call.FlushMappedBufferRange target offset len) =
    change_store state (buffer_binding context target)
    (λ s. flushed s (map_place (bound_buffer state.group context target) (unsigned_abs offset)) (unsigned_abs len))
gl_contents state context (call.UnmapBuffer target) =
    change_store state (buffer_binding context target) (λ s. closed s (option_and_then (λ f. f.map) (bound_buffer state.group context target)))
gl_contents state context (call.MapWrite target offset payload) =
    change_store state (buffer_binding context target)
    (λ s. written s (map_place (bound_buffer state.group context target) (unsigned_abs offset)) (payload_bytes payload))
gl_contents state context (call.TexSubImage x y width height pixels kind from) =
    change_picture state (bound_texture_attachment context) (λ p.
    after_upload p (unsigned_abs x) (unsigned_abs y) (unsigned_abs width) (unsigned_abs height) context.unpack (upload_source state context from) (upload_base from))
gl_contents state context (call.CopyTexSubImage x y from_x from_y width height) =
    option_map_or (λ read. change_picture state (bound_texture_attachment context) (λ p.
    after_copy p read (unsigned_abs x) (unsigned_abs y) from_x from_y (unsigned_abs width) (unsigned_abs height)))
    (picture_of state (read_attachment (read_framebuffer context))) state
gl_contents state context (call.ClearUnsigned buffer r g b a) = clear state context buffer false (r ∷ g ∷ b ∷ a ∷ [])
gl_contents state context (call.ClearSigned buffer r g b a) =
    clear state context buffer true (as_unsigned r ∷ as_unsigned g ∷ as_unsigned b ∷ as_unsigned a ∷ [])
gl_contents state context (call.Blit sx0 sy0 sx1 sy1 dx0 dy0 dx1 dy1 mask filter) =
    if is_color_mask mask
    then blit state context (picture_of state (read_attachment (read_framebuffer context)))
    (record { sx0 = sx0; sy0 = sy0; sx1 = sx1; sy1 = sy1; dx0 = dx0; dy0 = dy0; dx1 = dx1; dy1 = dy1 })
    else state
gl_contents state context (call.Invalidate target buffer) =
    let f = framebuffer_of context (framebuffer_name context target) in
    if is_complete (status_of state.group f)
    then change_picture state (option_map_or (λ f. option_map_or (point_of f) (drawn_point buffer) Empty) f Empty) (λ p. undefined_cells (content_bytes p.info))
    else state
gl_contents state context (call.ReadPixels x y width height pixels kind to) =
    read_into state context to (picture_of state (read_attachment (read_framebuffer context))) pixels kind x y (unsigned_abs width) (unsigned_abs height)
gl_contents state context _ = state

-- the storage that a call made
abbrev pub gl_storage : GroupModel → Context → Call → GroupModel
gl_storage state context (call.TexStorage levels format width height) = new_storage (bound_texture_attachment context) state
gl_storage state context (call.RenderbufferStorage format width height) =
    new_storage (option_map_or Renderbuffer context.renderbuffer Empty) state
gl_storage state context _ = state

abbrev pub in_context : (GroupModel → Context → Call → GroupModel) → GroupModel → ℕ → Call → GroupModel
in_context f state thread asked = option_map_or (λ context. f state context asked) (current_context state.group thread) state

-- Syncs

-- the place where the current context of a thread was created
abbrev pub birth_of : GroupModel → ℕ → ℕ
birth_of state thread = option_map_or (λ e. unwrap_or (entry e.0 state.births) 0) (current_entry state.group thread) 0

-- All syncs that a context made up to a place are known to be signalled.
abbrev pub signal_until : ℕ → ℕ → GroupModel → GroupModel
signal_until context place state =
    let mark = λ (f : Fence). record f { signalled = f.signalled || (f.context == context && nat_le f.place place) } in
    record state { fences = each_value mark state.fences; egl_fences = each_value mark state.egl_fences }

abbrev pub new_fence : GroupModel → ℕ → ℕ → Fence
new_fence state thread place = record { context = birth_of state thread; place = place; signalled = false }

-- births, and syncs made, destroyed and known to be signalled
abbrev pub fence_effect : GroupModel → ℕ → Call → ℕ → GroupModel
fence_effect state thread (call.CreateContext number) place = record state { births = with_entry number place state.births }
fence_effect state thread (call.CreateSync number) place =
    record state { egl_fences = with_entry number (new_fence state thread place) state.egl_fences }
fence_effect state thread (call.DestroySync number) place = record state { egl_fences = without number state.egl_fences }
fence_effect state thread (call.FenceSync number condition flags) place =
    record state { fences = with_entry number (new_fence state thread place) state.fences }
fence_effect state thread (call.DeleteSync number) place = record state { fences = without number state.fences }
fence_effect state thread call.Finish place = signal_until (birth_of state thread) place state
fence_effect state thread _ place = state

-- Each existing object has what it held, and one just made holds nothing. Births are those of the contexts that are left.
abbrev pub kept : GroupModel → GroupModel
kept state = record state {
  stores = map (λ e. (e.0, store_of state e.0)) state.group.buffers;
  texture_cells = map (λ e. (e.0, unwrap_or (entry e.0 state.texture_cells) [])) state.group.textures;
  renderbuffer_cells = map (λ e. (e.0, unwrap_or (entry e.0 state.renderbuffer_cells) [])) state.group.renderbuffers;
  births = only (λ n. has n state.group.contexts) state.births;
}

-- The state after an accepted call of a thread, which stands at a place of the history.
abbrev pub effect : GroupModel → ℕ → Call → ℕ → GroupModel
effect state thread asked place =
    let moved = fence_effect (in_context gl_contents state thread asked) thread asked place in
    kept (in_context gl_storage (record moved { group = group_effect state.group thread asked }) thread asked)
