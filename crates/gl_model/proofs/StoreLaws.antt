-- What buffers hold after an accepted call.
use Rattle.std.proofs.Common.{◌≡◌, ℕ, ◌==◌, Bool, true, false, cond, Option, Some, None, List, [], ◌∷◌, is_some, unwrap_or, unsigned_abs, pos, ℤ, refl, ap, ◌∙◌, arith, if◌then◌else◌}
use Rattle.std.specs.Option.{option_map_or, option_map}
use Rattle.std.specs.List.{fold}
use Rattle.std.proofs.lemmas.Grind.{common_steps}
use Rattle.cells.specs.Contents.{Content, undefined_cells}
use Rattle.gl_calls.specs.declared.call.Call.{Call}
use Rattle.gl_calls.specs.declared.call.Call.TheVariants as call
use Rattle.gl_calls.specs.declared.call.PixelDestination.{PixelDestination}
use Rattle.gl_calls.specs.declared.call.PixelDestination.TheVariants as destination
use Rattle.gl_calls.specs.declared.words.ObjectKind.TheVariants as kinds
use Rattle.tables.specs.Table.{Entries, entry, has}
use Rattle.gl_model.specs.GroupState.{Attachment, Empty, Texture, Renderbuffer, Context}
use Rattle.formats.specs.declared.pixel.PixelFormat.{PixelFormat}
use Rattle.formats.specs.declared.pixel.PixelType.{PixelType}
use Rattle.gl_calls.specs.Words.{is_color_mask, drawn_point}
use Rattle.gl_model.specs.Refusal.{read_framebuffer, draw_framebuffer}
use Rattle.gl_model.specs.Bindings.{current_context, same_option, read_attachment, drawn_attachments, is_complete, status_of, framebuffer_of, framebuffer_name, point_of}
use Rattle.gl_model.specs.GroupEffect.{group_effect}
use Rattle.gl_model.specs.GroupModel.{GroupModel, Store}
use Rattle.gl_model.specs.ImageEffect.{Picture, Corners, content_bytes}
use Rattle.gl_model.specs.Effect.{effect, with_cells, change_picture, change_store, store_of, empty_store, picture_of, gl_contents, gl_storage, in_context, fence_effect, kept, blit, read_into}
use Rattle.gl_model.specs.Reached.{changed_buffer_in, changed_buffer}
use Rattle.gl_model.proofs.TableLaws.{entry-keyed, entry-with_entry}
use Rattle.gl_model.proofs.GroupLaws.{effect-group}

with_cells-stores : (state : GroupModel) (attachment : Attachment) (content : Content) → (with_cells state attachment content).stores ≡ state.stores
with_cells-stores state Empty content = refl
with_cells-stores state (Texture t) content = refl
with_cells-stores state (Renderbuffer r) content = refl

pub change_picture-stores : (state : GroupModel) (attachment : Attachment) (paint : Picture → Content) → (change_picture state attachment paint).stores ≡ state.stores
change_picture-stores state attachment paint =
    elim (picture_of state attachment) as (λ p. (option_map_or (λ p. with_cells state attachment (paint p)) p state).stores ≡ state.stores)
    [ None ↦ refl | Some p ↦ with_cells-stores state attachment (paint p) ]

gl_storage-stores : (state : GroupModel) (context : Context) (asked : Call) → (gl_storage state context asked).stores ≡ state.stores
gl_storage-stores state context (call.TexStorage levels format width height) = with_cells-stores state _ _
gl_storage-stores state context (call.RenderbufferStorage format width height) = with_cells-stores state _ _
gl_storage-stores state context _ = refl

in_context-stores : (state : GroupModel) (thread : ℕ) (asked : Call) → (in_context gl_storage state thread asked).stores ≡ state.stores
in_context-stores state thread asked =
    elim (current_context state.group thread) as (λ c. (option_map_or (λ context. gl_storage state context asked) c state).stores ≡ state.stores)
    [ None ↦ refl | Some context ↦ gl_storage-stores state context asked ]

fence_effect-stores : (state : GroupModel) (thread : ℕ) (asked : Call) (place : ℕ) → (fence_effect state thread asked place).stores ≡ state.stores
fence_effect-stores state thread (call.CreateContext number) place = refl
fence_effect-stores state thread (call.CreateSync number) place = refl
fence_effect-stores state thread (call.DestroySync number) place = refl
fence_effect-stores state thread (call.FenceSync number condition flags) place = refl
fence_effect-stores state thread (call.DeleteSync number) place = refl
fence_effect-stores state thread call.Finish place = refl
fence_effect-stores state thread _ place = refl

-- an existing buffer keeps the store that it had
kept-store : (state : GroupModel) (b : ℕ) → has b state.group.buffers ≡ true → store_of (kept state) b ≡ store_of state b
kept-store state b there = rw (entry-keyed (store_of state) b state.group.buffers) (found (entry b state.group.buffers) there)
  where
    found : {V : Type 0} (o : Option V) → is_some o ≡ true → unwrap_or (option_map (λ _. store_of state b) o) empty_store ≡ store_of state b
    found None h = absurd (cc)
    found (Some v) h = refl

pub effect-store : (state : GroupModel) (thread : ℕ) (asked : Call) (place : ℕ) (b : ℕ) → has b (group_effect state.group thread asked).buffers ≡ true → store_of (effect state thread asked place) b ≡ store_of (in_context gl_contents state thread asked) b
effect-store state thread asked place b there =
    let moved = fence_effect (in_context gl_contents state thread asked) thread asked place in
    let grown = record moved { group = group_effect state.group thread asked } in
    let stored = in_context gl_storage grown thread asked in
    let there' : has b stored.group.buffers ≡ true = ap (λ g. has b g.buffers) (effect-group state thread asked place) ∙ there in
    kept-store stored b there'
    ∙ ap (λ s. unwrap_or (entry b s) empty_store) (in_context-stores grown thread asked ∙ fence_effect-stores (in_context gl_contents state thread asked) thread asked place)

-- a change of one store
pub change_store-store : (state : GroupModel) (b : ℕ) (change : Store → Store) (c : ℕ) → store_of (change_store state (Some b) change) c ≡ cond (c == b) (change (store_of state b)) (store_of state c)
change_store-store state b change c = rw (entry-with_entry b c (change (store_of state b)) state.stores) (chosen (c == b))
  where
    chosen : (t : Bool) → unwrap_or (cond t (Some (change (store_of state b))) (entry c state.stores)) empty_store ≡ cond t (change (store_of state b)) (store_of state c)
    chosen true = refl
    chosen false = refl

pub change_store-other : (state : GroupModel) (bound : Option ℕ) (change : Store → Store) (b : ℕ) → same_option bound (Some b) ≡ false → store_of (change_store state bound change) b ≡ store_of state b
change_store-other state None change b apart = refl
change_store-other state (Some c) change b apart = change_store-store state c change b ∙ ap (λ t. cond t (change (store_of state c)) (store_of state b)) (turned c b apart)
  where
    turned : (m n : ℕ) → (m == n) ≡ false → (n == m) ≡ false
    turned m n h = grind (arith, common_steps)

-- calls on images leave the stores as they are
same_stores : (one two : Entries Store) (b : ℕ) → one ≡ two → unwrap_or (entry b one) empty_store ≡ unwrap_or (entry b two) empty_store
same_stores one two b h = ap (λ s. unwrap_or (entry b s) empty_store) h

copied-stores : (state : GroupModel) (attachment : Attachment) (paint : Picture → Picture → Content) (read : Option Picture) → (option_map_or (λ r. change_picture state attachment (paint r)) read state).stores ≡ state.stores
copied-stores state attachment paint None = refl
copied-stores state attachment paint (Some r) = change_picture-stores state attachment (paint r)

blitted-stores : (state : GroupModel) (paint : Picture → Content) (targets : List Attachment) → (fold (λ s target. change_picture s target paint) state targets).stores ≡ state.stores
blitted-stores state paint [] = refl
blitted-stores state paint (target ∷ targets) = blitted-stores (change_picture state target paint) paint targets ∙ change_picture-stores state target paint

blit-stores : (state : GroupModel) (context : Context) (read : Option Picture) (corners : Corners) → (blit state context read corners).stores ≡ state.stores
blit-stores state context None corners = refl
blit-stores state context (Some read) corners = blitted-stores state _ (drawn_attachments (draw_framebuffer context))

chosen-stores : (b : Bool) (one two : GroupModel) → one.stores ≡ two.stores → (if b then one else two).stores ≡ two.stores
chosen-stores true one two h = h
chosen-stores false one two h = refl

read_into-store : (state : GroupModel) (context : Context) (to : PixelDestination) (read : Option Picture) (pixels : PixelFormat) (kind : PixelType) (x y : ℤ) (width height : ℕ) (b : ℕ) → same_option (changed_buffer_in state.group context (call.ReadPixels x y (pos width) (pos height) pixels kind to)) (Some b) ≡ false → store_of (read_into state context to read pixels kind x y width height) b ≡ store_of state b
read_into-store state context destination.Client read pixels kind x y width height b apart = refl
read_into-store state context (destination.Offset at) None pixels kind x y width height b apart = refl
read_into-store state context (destination.Offset at) (Some read) pixels kind x y width height b apart = change_store-other state context.pixel_pack _ b apart

-- a call leaves alone each store but that of the buffer that it names
pub gl_contents-other : (state : GroupModel) (context : Context) (asked : Call) (b : ℕ) → same_option (changed_buffer_in state.group context asked) (Some b) ≡ false → store_of (gl_contents state context asked) b ≡ store_of state b
gl_contents-other state context (call.Delete kinds.Buffer name) b apart = change_store-other state _ _ b apart
gl_contents-other state context (call.BufferData target size usage payload) b apart = change_store-other state _ _ b apart
gl_contents-other state context (call.BufferSubData target offset payload) b apart = change_store-other state _ _ b apart
gl_contents-other state context (call.CopyBufferSubData from to read write size) b apart = change_store-other state _ _ b apart
gl_contents-other state context (call.MapBufferRange target offset len access) b apart = change_store-other state _ _ b apart
gl_contents-other state context (call.FlushMappedBufferRange target offset len) b apart = change_store-other state _ _ b apart
gl_contents-other state context (call.UnmapBuffer target) b apart = change_store-other state _ _ b apart
gl_contents-other state context (call.MapWrite target offset payload) b apart = change_store-other state _ _ b apart
gl_contents-other state context (call.TexSubImage x y width height pixels kind from) b apart = same_stores _ state.stores b (change_picture-stores state _ _)
gl_contents-other state context (call.CopyTexSubImage x y from_x from_y width height) b apart =
    same_stores _ state.stores b (copied-stores state _ _ (picture_of state (read_attachment (read_framebuffer context))))
gl_contents-other state context (call.ClearUnsigned buffer r g b' a) b apart = same_stores _ state.stores b (change_picture-stores state _ _)
gl_contents-other state context (call.ClearSigned buffer r g b' a) b apart = same_stores _ state.stores b (change_picture-stores state _ _)
gl_contents-other state context (call.Blit sx0 sy0 sx1 sy1 dx0 dy0 dx1 dy1 mask filter) b apart =
    let corners : Corners = record { sx0 = sx0; sy0 = sy0; sx1 = sx1; sy1 = sy1; dx0 = dx0; dy0 = dy0; dx1 = dx1; dy1 = dy1 } in
    let read = picture_of state (read_attachment (read_framebuffer context)) in
    same_stores _ state.stores b (chosen-stores (is_color_mask mask) (blit state context read corners) state (blit-stores state context read corners))
gl_contents-other state context (call.Invalidate target buffer) b apart =
    let f = framebuffer_of context (framebuffer_name context target) in
    let point = option_map_or (λ f. option_map_or (point_of f) (drawn_point buffer) Empty) f Empty in
    let one = change_picture state point (λ p. undefined_cells (content_bytes p.info)) in
    same_stores _ state.stores b (chosen-stores (is_complete (status_of state.group f)) one state (change_picture-stores state point (λ p. undefined_cells (content_bytes p.info))))
gl_contents-other state context (call.ReadPixels x y width height pixels kind to) b apart =
    read_into-store state context to (picture_of state (read_attachment (read_framebuffer context))) pixels kind x y (unsigned_abs width) (unsigned_abs height) b apart
gl_contents-other state context _ b apart = refl

pub in_context-other : (state : GroupModel) (thread : ℕ) (asked : Call) (b : ℕ) → same_option (changed_buffer state.group thread asked) (Some b) ≡ false → store_of (in_context gl_contents state thread asked) b ≡ store_of state b
in_context-other state thread asked b apart = by_context (current_context state.group thread) apart
  where
    by_context : (c : Option Context) → same_option (option_map_or (λ context. changed_buffer_in state.group context asked) c None) (Some b) ≡ false → store_of (option_map_or (λ context. gl_contents state context asked) c state) b ≡ store_of state b
    by_context None h = refl
    by_context (Some context) h = gl_contents-other state context asked b h

pub effect-other : (state : GroupModel) (thread : ℕ) (asked : Call) (place : ℕ) (b : ℕ) → has b (group_effect state.group thread asked).buffers ≡ true → same_option (changed_buffer state.group thread asked) (Some b) ≡ false → store_of (effect state thread asked place) b ≡ store_of state b
effect-other state thread asked place b there apart = effect-store state thread asked place b there ∙ in_context-other state thread asked b apart
