-- Each cell that a reached state holds is a byte or not defined.
use Rattle.std.proofs.Common.{◌≡◌, ℕ, ◌+◌, ◌==◌, Bool, true, false, cond, Option, Some, None, List, [], ◌∷◌, unwrap_or, refl, sym, ap, subst}
use Rattle.std.specs.Prelude.{ℤ, unsigned_abs, if◌then◌else◌}
use Rattle.std.specs.Option.{option_map_or, option_map, option_and_then}
use Rattle.std.specs.List.{fold}
use Rattle.cells.specs.Contents.{Content, undefined_cells, part}
use Rattle.formats.specs.declared.pixel.PixelFormat.{PixelFormat}
use Rattle.formats.specs.declared.pixel.PixelType.{PixelType}
use Rattle.gl_calls.specs.declared.call.Call.{Call}
use Rattle.gl_calls.specs.declared.call.Call.TheVariants as call
use Rattle.gl_calls.specs.declared.call.PixelSource.TheVariants as source
use Rattle.gl_calls.specs.declared.call.PixelDestination.{PixelDestination}
use Rattle.gl_calls.specs.declared.call.PixelDestination.TheVariants as destination
use Rattle.gl_calls.specs.declared.payload.Payload.{Payload}
use Rattle.gl_calls.specs.declared.reply.Entry.{Entry}
use Rattle.gl_calls.specs.declared.reply.Reply.{Reply}
use Rattle.gl_calls.specs.declared.words.ObjectKind.TheVariants as kinds
use Rattle.gl_calls.specs.Words.{payload_bytes, is_color_mask, drawn_point}
use Rattle.tables.specs.Table.{entry}
use Rattle.gl_model.specs.declared.objects.BufferFacts.{BufferFacts}
use Rattle.gl_model.specs.declared.objects.ImageInfo.{ImageInfo}
use Rattle.gl_model.specs.declared.state.Attachment.{Attachment}
use Rattle.gl_model.specs.declared.state.Attachment.TheVariants.{Empty, Texture, Renderbuffer}
use Rattle.gl_model.specs.declared.state.Context.{Context}
use Rattle.gl_model.specs.declared.state.GroupState.{GroupState}
use Rattle.gl_model.specs.Bindings.{current_context, image_of, buffer_binding, bound_buffer, buffer_of, read_attachment, drawn_attachments, draw_attachment, point_of, framebuffer_of, framebuffer_name, is_complete, status_of}
use Rattle.gl_model.specs.Refusal.{refusal, read_framebuffer, draw_framebuffer}
use Rattle.gl_model.specs.GroupEffect.{group_effect, object_of}
use Rattle.gl_model.specs.GroupModel.{GroupModel, Store, Fence, opening}
use Rattle.gl_model.specs.BufferEffect.{data_cells}
use Rattle.gl_model.specs.ImageEffect.{Picture, Corners, content_bytes, after_copy, after_clear, after_blit, after_read, clear_texel, in_scissor, in_common}
use Rattle.gl_model.specs.Effect.{effect, gl_contents, gl_storage, in_context, fence_effect, kept, store_of, empty_store, change_store, change_picture, picture_of, with_cells, new_storage, new_cells, clear, blit, read_into, bound_texture_attachment, as_unsigned, attached_images}
use Rattle.gl_model.specs.Legal.{refused, refused_group, told, signal_fence, says_signalled, after_entry, state_after}
use Rattle.gl_model.specs.Reached.{cells_of, texture_of, renderbuffer_of, reached}
use Rattle.gl_model.proofs.TableLaws.{entry-keyed, entry-with_entry}
use Rattle.gl_model.proofs.StoreLaws.{change_store-store}
use Rattle.gl_model.proofs.ImageLaws.{change_store-cells, fence_effect-cells}
use Rattle.transfer.specs.Blits.{AreCells}
use Rattle.transfer.specs.Held.{HoldsCells, HasBytes, HaveBytes}
use Rattle.transfer.proofs.Bytes.{of_nothing, of_undefined, of_overwritten, of_part, of_map, of_closed, of_upload, of_copy, of_clear, of_blit, of_packed_read}

-- One store, one image

of_found : (t : Bool) (one : Content) (o : Option Content) → AreCells one → AreCells (unwrap_or o []) → AreCells (unwrap_or (cond t (Some one) o) [])
of_found true one o are others = are
of_found false one o are others = others

of_store : (t : Bool) (one two : Store) → AreCells one.cells → AreCells two.cells → AreCells (cond t one two).cells
of_store true one two are others = are
of_store false one two are others = others

with_cells_held : (state : GroupModel) (target : Attachment) (content : Content) → HoldsCells state → AreCells content → HoldsCells (with_cells state target content)
with_cells_held state Empty content holds are = holds
with_cells_held state (Texture t) content holds are = record { stores = holds.stores; images = images }
  where
    images : (image : Attachment) → AreCells (cells_of (with_cells state (Texture t) content) image)
    images Empty = of_nothing
    images (Texture u) = subst (λ o. AreCells (unwrap_or o [])) (sym (entry-with_entry t u content state.texture_cells)) (of_found (u == t) content (entry u state.texture_cells) are (holds.images (Texture u)))
    images (Renderbuffer r) = holds.images (Renderbuffer r)
with_cells_held state (Renderbuffer t) content holds are = record { stores = holds.stores; images = images }
  where
    images : (image : Attachment) → AreCells (cells_of (with_cells state (Renderbuffer t) content) image)
    images Empty = of_nothing
    images (Texture u) = holds.images (Texture u)
    images (Renderbuffer r) = subst (λ o. AreCells (unwrap_or o [])) (sym (entry-with_entry t r content state.renderbuffer_cells)) (of_found (r == t) content (entry r state.renderbuffer_cells) are (holds.images (Renderbuffer r)))

change_store_held : (state : GroupModel) (bound : Option ℕ) (change : Store → Store) → ((s : Store) → AreCells s.cells → AreCells (change s).cells) → HoldsCells state → HoldsCells (change_store state bound change)
change_store_held state None change keeps holds = holds
change_store_held state (Some b) change keeps holds = record {
  stores = λ c. subst (λ (s : Store). AreCells s.cells) (sym (change_store-store state b change c)) (of_store (c == b) (change (store_of state b)) (store_of state c) (keeps (store_of state b) (holds.stores b)) (holds.stores c));
  images = λ image. subst AreCells (sym (change_store-cells state (Some b) change image)) (holds.images image);
}

-- a picture of a state, with its cells
pub picture_holds : (state : GroupModel) (target : Attachment) (p : Picture) → HoldsCells state → picture_of state target ≡ Some p → AreCells p.cells
picture_holds state Empty p holds is = let no : ⊥ = cc in absurd no
picture_holds state (Texture t) p holds is = go (image_of state.group.textures (Some t)) is
  where
    go : (o : Option ImageInfo) → option_map (λ i. record { info = i; cells = texture_of state t }) o ≡ Some p → AreCells p.cells
    go None is = let no : ⊥ = cc in absurd no
    go (Some info) is = let same : record { info = info; cells = texture_of state t } ≡ p = cc in subst (λ (p : Picture). AreCells p.cells) same (holds.images (Texture t))
picture_holds state (Renderbuffer r) p holds is = go (image_of state.group.renderbuffers (Some r)) is
  where
    go : (o : Option ImageInfo) → option_map (λ i. record { info = i; cells = renderbuffer_of state r }) o ≡ Some p → AreCells p.cells
    go None is = let no : ⊥ = cc in absurd no
    go (Some info) is = let same : record { info = info; cells = renderbuffer_of state r } ≡ p = cc in subst (λ (p : Picture). AreCells p.cells) same (holds.images (Renderbuffer r))

change_picture_held : (state : GroupModel) (target : Attachment) (paint : Picture → Content) → ((p : Picture) → AreCells p.cells → AreCells (paint p)) → HoldsCells state → HoldsCells (change_picture state target paint)
change_picture_held state target paint keeps holds = go (picture_of state target) refl
  where
    go : (o : Option Picture) → picture_of state target ≡ o → HoldsCells (option_map_or (λ p. with_cells state target (paint p)) o state)
    go None is = holds
    go (Some p) is = with_cells_held state target (paint p) holds (keeps p (picture_holds state target p holds is))

blitted_held : (state : GroupModel) (paint : Picture → Content) (targets : List Attachment) → ((p : Picture) → AreCells p.cells → AreCells (paint p)) → HoldsCells state → HoldsCells (fold (λ s target. change_picture s target paint) state targets)
blitted_held state paint [] keeps holds = holds
blitted_held state paint (target ∷ targets) keeps holds = blitted_held (change_picture state target paint) paint targets keeps (change_picture_held state target paint keeps holds)

of_source : (state : GroupModel) (o : Option ℕ) → HoldsCells state → AreCells (option_map_or (λ b. (store_of state b).cells) o [])
of_source state None holds = of_nothing
of_source state (Some b) holds = holds.stores b

chosen_held : (t : Bool) (one two : GroupModel) → HoldsCells one → HoldsCells two → HoldsCells (if t then one else two)
chosen_held true one two holds others = holds
chosen_held false one two holds others = others

clear_held : (state : GroupModel) (context : Context) (buffer : ℤ) (signed : Bool) (value : List ℕ) → HoldsCells state → HoldsCells (clear state context buffer signed value)
clear_held state context buffer signed value holds =
    let f = draw_framebuffer context in
    let target = option_map_or (λ f. draw_attachment f (unsigned_abs buffer)) f Empty in
    change_picture_held state target (λ p. after_clear p (in_scissor context.scissor_on context.scissor) (in_common (attached_images state.group f)) (clear_texel p.info signed value))
    (λ p are. of_clear p (in_scissor context.scissor_on context.scissor) (in_common (attached_images state.group f)) signed value are) holds

blit_held : (state : GroupModel) (context : Context) (read : Option Picture) (corners : Corners) → HoldsCells state → HoldsCells (blit state context read corners)
blit_held state context None corners holds = holds
blit_held state context (Some read) corners holds =
    let f = draw_framebuffer context in
    blitted_held state (λ p. after_blit p read corners (in_scissor context.scissor_on context.scissor) (in_common (attached_images state.group f))) (drawn_attachments f)
    (λ p are. of_blit p read corners (in_scissor context.scissor_on context.scissor) (in_common (attached_images state.group f)) are) holds

read_into_held : (state : GroupModel) (context : Context) (to : PixelDestination) (read : Option Picture) (pixels : PixelFormat) (kind : PixelType) (x y : ℤ) (width height : ℕ) → ((p : Picture) → read ≡ Some p → AreCells p.cells) → HoldsCells state → HoldsCells (read_into state context to read pixels kind x y width height)
read_into_held state context destination.Client read pixels kind x y width height are holds = holds
read_into_held state context (destination.Offset at) None pixels kind x y width height are holds = holds
read_into_held state context (destination.Offset at) (Some read) pixels kind x y width height are holds =
    change_store_held state context.pixel_pack (λ s. record s { cells = after_read s.cells at read pixels kind context.pack x y width height })
    (λ s have. of_packed_read s.cells at read pixels kind context.pack x y width height have (are read refl)) holds

copied_held : (state : GroupModel) (target : Attachment) (paint : Picture → Picture → Content) (read : Option Picture) → ((r : Picture) → read ≡ Some r → AreCells r.cells) → ((r p : Picture) → AreCells r.cells → AreCells p.cells → AreCells (paint r p)) → HoldsCells state → HoldsCells (option_map_or (λ r. change_picture state target (paint r)) read state)
copied_held state target paint None are keeps holds = holds
copied_held state target paint (Some r) are keeps holds = change_picture_held state target (paint r) (λ p have. keeps r p (are r refl) have) holds

-- Calls

of_data : (size : ℕ) (payload : Option Payload) → ((data' : Payload) → payload ≡ Some data' → AreCells (payload_bytes data')) → AreCells (data_cells size payload)
of_data size None are = of_undefined size
of_data size (Some data') are = are data' refl

contents_held : (state : GroupModel) (context : Context) (asked : Call) → HoldsCells state → HasBytes asked → HoldsCells (gl_contents state context asked)
contents_held state context (call.Delete kinds.Buffer name) holds bytes =
    change_store_held state _ _ (λ s are. of_closed s (option_and_then (λ (f : BufferFacts). f.map) (buffer_of state.group (object_of state.group.buffer_names name))) are) holds
contents_held state context (call.Delete kinds.Texture name) holds bytes = holds
contents_held state context (call.Delete kinds.Renderbuffer name) holds bytes = holds
contents_held state context (call.Delete kinds.Framebuffer name) holds bytes = holds
contents_held state context (call.BufferData target size usage None) holds bytes = change_store_held state _ _ (λ s are. of_undefined (unsigned_abs size)) holds
contents_held state context (call.BufferData target size usage (Some payload)) holds bytes = change_store_held state _ _ (λ s are. bytes) holds
contents_held state context (call.BufferSubData target offset payload) holds bytes = change_store_held state _ _ (λ s are. of_overwritten s.cells (unsigned_abs offset) (payload_bytes payload) are bytes) holds
contents_held state context (call.CopyBufferSubData from to read write size) holds bytes =
    let source = option_map_or (λ b. (store_of state b).cells) (buffer_binding context from) [] in
    change_store_held state _ _ (λ s are. of_overwritten s.cells (unsigned_abs write) (part source (unsigned_abs read) (unsigned_abs size)) are (of_part source (unsigned_abs read) (unsigned_abs size) (of_source state (buffer_binding context from) holds))) holds
contents_held state context (call.MapBufferRange target offset len access) holds bytes = change_store_held state _ _ (λ s are. of_map s.cells (unsigned_abs offset) (unsigned_abs len) access are) holds
contents_held state context (call.FlushMappedBufferRange target offset len) holds bytes = change_store_held state _ _ (λ s are. are) holds
contents_held state context (call.UnmapBuffer target) holds bytes =
    change_store_held state _ _ (λ s are. of_closed s (option_and_then (λ (f : BufferFacts). f.map) (bound_buffer state.group context target)) are) holds
contents_held state context (call.MapWrite target offset payload) holds bytes = change_store_held state _ _ (λ s are. of_overwritten s.cells _ (payload_bytes payload) are bytes) holds
contents_held state context (call.TexSubImage x y width height pixels kind (source.Client payload)) holds bytes =
    change_picture_held state (bound_texture_attachment context) _ (λ p are. of_upload p (unsigned_abs x) (unsigned_abs y) (unsigned_abs width) (unsigned_abs height) context.unpack (payload_bytes payload) 0 are bytes) holds
contents_held state context (call.TexSubImage x y width height pixels kind (source.Offset at)) holds bytes =
    change_picture_held state (bound_texture_attachment context) _ (λ p are. of_upload p (unsigned_abs x) (unsigned_abs y) (unsigned_abs width) (unsigned_abs height) context.unpack (option_map_or (λ b. (store_of state b).cells) context.pixel_unpack []) at are (of_source state context.pixel_unpack holds)) holds
contents_held state context (call.CopyTexSubImage x y from_x from_y width height) holds bytes =
    copied_held state (bound_texture_attachment context) (λ read p. after_copy p read (unsigned_abs x) (unsigned_abs y) from_x from_y (unsigned_abs width) (unsigned_abs height)) (picture_of state (read_attachment (read_framebuffer context)))
    (λ r is. picture_holds state (read_attachment (read_framebuffer context)) r holds is)
    (λ r p have are. of_copy p r (unsigned_abs x) (unsigned_abs y) from_x from_y (unsigned_abs width) (unsigned_abs height) are have) holds
contents_held state context (call.ClearUnsigned buffer r g b a) holds bytes = clear_held state context buffer false (r ∷ g ∷ b ∷ a ∷ []) holds
contents_held state context (call.ClearSigned buffer r g b a) holds bytes = clear_held state context buffer true (as_unsigned r ∷ as_unsigned g ∷ as_unsigned b ∷ as_unsigned a ∷ []) holds
contents_held state context (call.Blit sx0 sy0 sx1 sy1 dx0 dy0 dx1 dy1 mask filter) holds bytes =
    let corners : Corners = record { sx0 = sx0; sy0 = sy0; sx1 = sx1; sy1 = sy1; dx0 = dx0; dy0 = dy0; dx1 = dx1; dy1 = dy1 } in
    let read = picture_of state (read_attachment (read_framebuffer context)) in
    chosen_held (is_color_mask mask) (blit state context read corners) state (blit_held state context read corners holds) holds
contents_held state context (call.Invalidate target buffer) holds bytes =
    let f = framebuffer_of context (framebuffer_name context target) in
    let point = option_map_or (λ f. option_map_or (point_of f) (drawn_point buffer) Empty) f Empty in
    chosen_held (is_complete (status_of state.group f)) (change_picture state point (λ p. undefined_cells (content_bytes p.info))) state
    (change_picture_held state point (λ p. undefined_cells (content_bytes p.info)) (λ p are. of_undefined (content_bytes p.info)) holds) holds
contents_held state context (call.ReadPixels x y width height pixels kind to) holds bytes =
    read_into_held state context to (picture_of state (read_attachment (read_framebuffer context))) pixels kind x y (unsigned_abs width) (unsigned_abs height)
    (λ r is. picture_holds state (read_attachment (read_framebuffer context)) r holds is) holds
contents_held state context _ holds bytes = holds

new_storage_held : (state : GroupModel) (target : Attachment) → HoldsCells state → HoldsCells (new_storage target state)
new_storage_held state target holds = with_cells_held state target (new_cells state target) holds (go (picture_of state target))
  where
    go : (o : Option Picture) → AreCells (option_map_or (λ (p : Picture). undefined_cells (content_bytes p.info)) o [])
    go None = of_nothing
    go (Some p) = of_undefined (content_bytes p.info)

storage_held : (state : GroupModel) (context : Context) (asked : Call) → HoldsCells state → HoldsCells (gl_storage state context asked)
storage_held state context (call.TexStorage levels format width height) holds = new_storage_held state (bound_texture_attachment context) holds
storage_held state context (call.RenderbufferStorage format width height) holds = new_storage_held state (option_map_or Renderbuffer context.renderbuffer Empty) holds
storage_held state context _ holds = holds

in_context_held : (f : GroupModel → Context → Call → GroupModel) (state : GroupModel) (thread : ℕ) (asked : Call) → ((context : Context) → HoldsCells (f state context asked)) → HoldsCells state → HoldsCells (in_context f state thread asked)
in_context_held f state thread asked each holds = go (current_context state.group thread)
  where
    go : (o : Option Context) → HoldsCells (option_map_or (λ context. f state context asked) o state)
    go None = holds
    go (Some context) = each context

-- a state with the same stores and images
same_held : (one two : GroupModel) → one.stores ≡ two.stores → ((image : Attachment) → cells_of one image ≡ cells_of two image) → HoldsCells two → HoldsCells one
same_held one two stores images holds = record {
  stores = λ b. subst (λ (s : Store). AreCells s.cells) (sym (ap (λ s. unwrap_or (entry b s) empty_store) stores)) (holds.stores b);
  images = λ image. subst AreCells (sym (images image)) (holds.images image);
}

fences_stores : (state : GroupModel) (thread : ℕ) (asked : Call) (place : ℕ) → (fence_effect state thread asked place).stores ≡ state.stores
fences_stores state thread (call.CreateContext number) place = refl
fences_stores state thread (call.CreateSync number) place = refl
fences_stores state thread (call.DestroySync number) place = refl
fences_stores state thread (call.FenceSync number condition flags) place = refl
fences_stores state thread (call.DeleteSync number) place = refl
fences_stores state thread call.Finish place = refl
fences_stores state thread _ place = refl

regrouped_cells : (state : GroupModel) (group : GroupState) (image : Attachment) → cells_of (record state { group = group }) image ≡ cells_of state image
regrouped_cells state group Empty = refl
regrouped_cells state group (Texture t) = refl
regrouped_cells state group (Renderbuffer r) = refl

kept_store : {V : Type 0} (o : Option V) (s : Store) → AreCells s.cells → AreCells (unwrap_or (option_map (λ _. s) o) empty_store).cells
kept_store None s are = of_nothing
kept_store (Some v) s are = are

kept_image : {V : Type 0} (o : Option V) (content : Content) → AreCells content → AreCells (unwrap_or (option_map (λ _. content) o) [])
kept_image None content are = of_nothing
kept_image (Some v) content are = are

kept_held : (state : GroupModel) → HoldsCells state → HoldsCells (kept state)
kept_held state holds = record {
  stores = λ b. subst (λ o. AreCells (unwrap_or o empty_store).cells) (sym (entry-keyed (store_of state) b state.group.buffers)) (kept_store (entry b state.group.buffers) (store_of state b) (holds.stores b));
  images = images;
}
  where
    images : (image : Attachment) → AreCells (cells_of (kept state) image)
    images Empty = of_nothing
    images (Texture t) = subst (λ o. AreCells (unwrap_or o [])) (sym (entry-keyed (texture_of state) t state.group.textures)) (kept_image (entry t state.group.textures) (texture_of state t) (holds.images (Texture t)))
    images (Renderbuffer r) = subst (λ o. AreCells (unwrap_or o [])) (sym (entry-keyed (renderbuffer_of state) r state.group.renderbuffers)) (kept_image (entry r state.group.renderbuffers) (renderbuffer_of state r) (holds.images (Renderbuffer r)))

pub effect_held : (state : GroupModel) (thread : ℕ) (asked : Call) (place : ℕ) → HoldsCells state → HasBytes asked → HoldsCells (effect state thread asked place)
effect_held state thread asked place holds bytes =
    let done : GroupModel = in_context gl_contents state thread asked in
    let moved : GroupModel = fence_effect (in_context gl_contents state thread asked) thread asked place in
    let grown : GroupModel = record (fence_effect (in_context gl_contents state thread asked) thread asked place) { group = group_effect state.group thread asked } in
    let held : HoldsCells (in_context gl_contents state thread asked) = in_context_held gl_contents state thread asked (λ context. contents_held state context asked holds bytes) holds in
    let fenced : HoldsCells (fence_effect (in_context gl_contents state thread asked) thread asked place) =
    same_held (fence_effect (in_context gl_contents state thread asked) thread asked place) (in_context gl_contents state thread asked) (fences_stores (in_context gl_contents state thread asked) thread asked place) (λ image. fence_effect-cells (in_context gl_contents state thread asked) thread asked place image) held in
    let here : HoldsCells (record (fence_effect (in_context gl_contents state thread asked) thread asked place) { group = group_effect state.group thread asked }) =
    same_held (record (fence_effect (in_context gl_contents state thread asked) thread asked place) { group = group_effect state.group thread asked }) (fence_effect (in_context gl_contents state thread asked) thread asked place) refl (λ image. regrouped_cells (fence_effect (in_context gl_contents state thread asked) thread asked place) (group_effect state.group thread asked) image) fenced in
    kept_held _ (in_context_held gl_storage (record (fence_effect (in_context gl_contents state thread asked) thread asked place) { group = group_effect state.group thread asked }) thread asked (λ context. storage_held (record (fence_effect (in_context gl_contents state thread asked) thread asked place) { group = group_effect state.group thread asked }) context asked here) here)

-- Entries

signalled_held : (fence : Option Fence) (state : GroupModel) → HoldsCells state → HoldsCells (signal_fence fence state)
signalled_held None state holds = holds
signalled_held (Some f) state holds = record { stores = holds.stores; images = images }
  where
    images : (image : Attachment) → AreCells (cells_of (signal_fence (Some f) state) image)
    images Empty = of_nothing
    images (Texture t) = holds.images (Texture t)
    images (Renderbuffer r) = holds.images (Renderbuffer r)

told_held : (state : GroupModel) (asked : Call) (answer : Reply) → HoldsCells state → HoldsCells (told state asked answer)
told_held state (call.ClientWaitSync number flags timeout) answer holds = chosen_held (says_signalled answer) (signal_fence (entry number state.fences) state) state (signalled_held (entry number state.fences) state holds) holds
told_held state (call.EglClientWaitSync number flush timeout) answer holds = chosen_held (says_signalled answer) (signal_fence (entry number state.egl_fences) state) state (signalled_held (entry number state.egl_fences) state holds) holds
told_held state _ answer holds = holds

refused_held : (state : GroupModel) (thread : ℕ) (answer : Reply) → HoldsCells state → HoldsCells (refused state thread answer)
refused_held state thread answer holds = same_held (refused state thread answer) state refl (λ image. regrouped_cells state (refused_group state.group thread answer) image) holds

pub entry_held : (state : GroupModel) (e : Entry) (place : ℕ) → HoldsCells state → HasBytes e.call → HoldsCells (after_entry state e place)
entry_held state e place holds bytes = go (refusal state.group e.thread e.call)
  where
    go : (o : Option Reply) → HoldsCells (option_map_or (λ answer. refused state e.thread answer) o (told (effect state e.thread e.call place) e.call e.reply))
    go None = told_held (effect state e.thread e.call place) e.call e.reply (effect_held state e.thread e.call place holds bytes)
    go (Some answer) = refused_held state e.thread answer holds

opening_held : (threads : List ℕ) → HoldsCells (opening threads)
opening_held threads = record { stores = λ b. of_nothing; images = images }
  where
    images : (image : Attachment) → AreCells (cells_of (opening threads) image)
    images Empty = of_nothing
    images (Texture t) = of_nothing
    images (Renderbuffer r) = of_nothing

all_held : (state : GroupModel) (place : ℕ) (history : List Entry) → HoldsCells state → HaveBytes history → HoldsCells (state_after state place history)
all_held state place [] holds bytes = holds
all_held state place (e ∷ history) holds bytes = all_held (after_entry state e place) (place + 1) history (entry_held state e place holds bytes.0) bytes.1

pub reached_held : (threads : List ℕ) (history : List Entry) → HaveBytes history → HoldsCells (reached threads history)
reached_held threads history bytes = all_held (opening threads) 0 history (opening_held threads) bytes
