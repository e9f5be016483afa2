-- What images hold after an accepted call.
use Rattle.std.proofs.Common.{◌≡◌, ℕ, ℤ, ◌==◌, ◌||◌, Bool, true, false, Option, Some, None, List, [], ◌∷◌, is_some, unwrap_or, unsigned_abs, refl, ap, ◌∙◌, if◌then◌else◌}
use Rattle.std.specs.Option.{option_map_or, option_map}
use Rattle.std.specs.List.{fold, list_any, find}
use Rattle.cells.specs.Contents.{Content, undefined_cells}
use Rattle.gl_calls.specs.declared.call.Call.{Call}
use Rattle.gl_calls.specs.declared.call.Call.TheVariants as call
use Rattle.gl_calls.specs.declared.call.PixelDestination.{PixelDestination}
use Rattle.gl_calls.specs.declared.call.PixelDestination.TheVariants as destination
use Rattle.gl_calls.specs.declared.words.FormatWord.{FormatWord}
use Rattle.gl_calls.specs.declared.words.ObjectKind.TheVariants as kinds
use Rattle.formats.specs.declared.pixel.PixelFormat.{PixelFormat}
use Rattle.formats.specs.declared.pixel.PixelType.{PixelType}
use Rattle.gl_calls.specs.Words.{is_color_mask, drawn_point}
use Rattle.tables.specs.Table.{Entries, entry, with_entry}
use Rattle.gl_model.specs.GroupState.{Attachment, Empty, Texture, Renderbuffer, Context, GroupState}
use Rattle.gl_model.specs.Bindings.{current_context, current_entry, read_attachment, drawn_attachments, draw_attachment, is_complete, same_attachment, same_option, status_of, framebuffer_of, framebuffer_name, point_of}
use Rattle.gl_model.specs.Refusal.{read_framebuffer, draw_framebuffer}
use Rattle.gl_model.specs.GroupEffect.{group_effect, gl_change_in}
use Rattle.gl_model.specs.GroupModel.{GroupModel, Store}
use Rattle.gl_model.specs.ImageEffect.{Picture, Corners, content_bytes}
use Rattle.gl_model.specs.Effect.{effect, with_cells, change_picture, change_store, picture_of, gl_contents, gl_storage, in_context, fence_effect, kept, blit, read_into, bound_texture_attachment}
use Rattle.gl_model.specs.Reached.{cells_of, texture_of, renderbuffer_of, image_exists, changed_images_in, changed_images, before_the_sweep}
use Rattle.gl_model.proofs.TableLaws.{entry-keyed, entry-with_entry}
use Rattle.gl_model.proofs.GroupLaws.{effect-group}

-- One image painted

entry_other : (t u : ℕ) (content : Content) (table : Entries Content) → (u == t) ≡ false → unwrap_or (entry u (with_entry t content table)) [] ≡ unwrap_or (entry u table) []
entry_other t u content table apart = rw (entry-with_entry t u content table) (rw apart refl)

pub with_cells-other : (state : GroupModel) (target : Attachment) (content : Content) (image : Attachment) → same_attachment image target ≡ false → cells_of (with_cells state target content) image ≡ cells_of state image
with_cells-other state Empty content image apart = refl
with_cells-other state (Texture t) content Empty apart = refl
with_cells-other state (Texture t) content (Texture u) apart = entry_other t u content state.texture_cells apart
with_cells-other state (Texture t) content (Renderbuffer u) apart = refl
with_cells-other state (Renderbuffer t) content Empty apart = refl
with_cells-other state (Renderbuffer t) content (Texture u) apart = refl
with_cells-other state (Renderbuffer t) content (Renderbuffer u) apart = entry_other t u content state.renderbuffer_cells apart

pub change_picture-other : (state : GroupModel) (target : Attachment) (paint : Picture → Content) (image : Attachment) → same_attachment image target ≡ false → cells_of (change_picture state target paint) image ≡ cells_of state image
change_picture-other state target paint image apart =
    elim (picture_of state target) as (λ p. cells_of (option_map_or (λ p. with_cells state target (paint p)) p state) image ≡ cells_of state image)
    [ None ↦ refl | Some p ↦ with_cells-other state target (paint p) image apart ]

pub change_store-cells : (state : GroupModel) (bound : Option ℕ) (change : Store → Store) (image : Attachment) → cells_of (change_store state bound change) image ≡ cells_of state image
change_store-cells state None change image = refl
change_store-cells state (Some b) change Empty = refl
change_store-cells state (Some b) change (Texture t) = refl
change_store-cells state (Some b) change (Renderbuffer r) = refl

-- Calls

-- none of a list of one is none of the one
only_one : (image target : Attachment) → list_any (same_attachment image) (target ∷ []) ≡ false → same_attachment image target ≡ false
only_one image target h = left (same_attachment image target) h
  where
    left : (b : Bool) → (b || false) ≡ false → b ≡ false
    left true h = h
    left false h = refl

copied-other : (state : GroupModel) (target : Attachment) (paint : Picture → Picture → Content) (read : Option Picture) (image : Attachment) → same_attachment image target ≡ false → cells_of (option_map_or (λ r. change_picture state target (paint r)) read state) image ≡ cells_of state image
copied-other state target paint None image apart = refl
copied-other state target paint (Some r) image apart = change_picture-other state target (paint r) image apart

both_false : (a b : Bool) → (a || b) ≡ false → (a ≡ false) × (b ≡ false)
both_false true b h = let no : ⊥ = cc in absurd no
both_false false b h = (refl, h)

blitted-other : (state : GroupModel) (paint : Picture → Content) (targets : List Attachment) (image : Attachment) → list_any (same_attachment image) targets ≡ false → cells_of (fold (λ s target. change_picture s target paint) state targets) image ≡ cells_of state image
blitted-other state paint [] image apart = refl
blitted-other state paint (target ∷ targets) image apart =
    let parts : (same_attachment image target ≡ false) × (list_any (same_attachment image) targets ≡ false) = both_false (same_attachment image target) (list_any (same_attachment image) targets) apart in
    blitted-other (change_picture state target paint) paint targets image parts.1 ∙ change_picture-other state target paint image parts.0

blit-other : (state : GroupModel) (context : Context) (read : Option Picture) (corners : Corners) (image : Attachment) → list_any (same_attachment image) (drawn_attachments (draw_framebuffer context)) ≡ false → cells_of (blit state context read corners) image ≡ cells_of state image
blit-other state context None corners image apart = refl
blit-other state context (Some read) corners image apart = blitted-other state _ (drawn_attachments (draw_framebuffer context)) image apart

chosen-cells : (b : Bool) (one two : GroupModel) (image : Attachment) → cells_of one image ≡ cells_of two image → cells_of (if b then one else two) image ≡ cells_of two image
chosen-cells true one two image h = h
chosen-cells false one two image h = refl

pub read_into-cells : (state : GroupModel) (context : Context) (to : PixelDestination) (read : Option Picture) (pixels : PixelFormat) (kind : PixelType) (x y : ℤ) (width height : ℕ) (image : Attachment) → cells_of (read_into state context to read pixels kind x y width height) image ≡ cells_of state image
read_into-cells state context destination.Client read pixels kind x y width height image = refl
read_into-cells state context (destination.Offset at) None pixels kind x y width height image = refl
read_into-cells state context (destination.Offset at) (Some read) pixels kind x y width height image = change_store-cells state context.pixel_pack _ image

gl_contents-image : (state : GroupModel) (context : Context) (asked : Call) (image : Attachment) → list_any (same_attachment image) (changed_images_in context asked) ≡ false → cells_of (gl_contents state context asked) image ≡ cells_of state image
gl_contents-image state context (call.Delete kinds.Buffer name) image apart = change_store-cells state _ _ image
gl_contents-image state context (call.BufferData target size usage payload) image apart = change_store-cells state _ _ image
gl_contents-image state context (call.BufferSubData target offset payload) image apart = change_store-cells state _ _ image
gl_contents-image state context (call.CopyBufferSubData from to read write size) image apart = change_store-cells state _ _ image
gl_contents-image state context (call.MapBufferRange target offset len access) image apart = change_store-cells state _ _ image
gl_contents-image state context (call.FlushMappedBufferRange target offset len) image apart = change_store-cells state _ _ image
gl_contents-image state context (call.UnmapBuffer target) image apart = change_store-cells state _ _ image
gl_contents-image state context (call.MapWrite target offset payload) image apart = change_store-cells state _ _ image
gl_contents-image state context (call.TexSubImage x y width height pixels kind from) image apart =
    change_picture-other state (bound_texture_attachment context) _ image (only_one image (bound_texture_attachment context) apart)
gl_contents-image state context (call.CopyTexSubImage x y from_x from_y width height) image apart =
    copied-other state (bound_texture_attachment context) _ (picture_of state (read_attachment (read_framebuffer context))) image (only_one image (bound_texture_attachment context) apart)
gl_contents-image state context (call.ClearUnsigned buffer r g b a) image apart =
    let target = option_map_or (λ f. draw_attachment f (unsigned_abs buffer)) (draw_framebuffer context) Empty in
    change_picture-other state target _ image (only_one image target apart)
gl_contents-image state context (call.ClearSigned buffer r g b a) image apart =
    let target = option_map_or (λ f. draw_attachment f (unsigned_abs buffer)) (draw_framebuffer context) Empty in
    change_picture-other state target _ image (only_one image target apart)
gl_contents-image state context (call.Blit sx0 sy0 sx1 sy1 dx0 dy0 dx1 dy1 mask filter) image apart =
    let corners : Corners = record { sx0 = sx0; sy0 = sy0; sx1 = sx1; sy1 = sy1; dx0 = dx0; dy0 = dy0; dx1 = dx1; dy1 = dy1 } in
    let read = picture_of state (read_attachment (read_framebuffer context)) in
    chosen-cells (is_color_mask mask) (blit state context read corners) state image (blit-other state context read corners image apart)
gl_contents-image state context (call.Invalidate target buffer) image apart =
    let f = framebuffer_of context (framebuffer_name context target) in
    let point = option_map_or (λ f. option_map_or (point_of f) (drawn_point buffer) Empty) f Empty in
    let one = change_picture state point (λ p. undefined_cells (content_bytes p.info)) in
    chosen-cells (is_complete (status_of state.group f)) one state image (change_picture-other state point (λ p. undefined_cells (content_bytes p.info)) image (only_one image point apart))
gl_contents-image state context (call.ReadPixels x y width height pixels kind to) image apart =
    read_into-cells state context to (picture_of state (read_attachment (read_framebuffer context))) pixels kind x y (unsigned_abs width) (unsigned_abs height) image
gl_contents-image state context _ image apart = refl

-- Storage, syncs, and what is kept

gl_storage-image : (state : GroupModel) (context : Context) (asked : Call) (image : Attachment) → list_any (same_attachment image) (changed_images_in context asked) ≡ false → cells_of (gl_storage state context asked) image ≡ cells_of state image
gl_storage-image state context (call.TexStorage levels format width height) image apart =
    with_cells-other state (bound_texture_attachment context) _ image (only_one image (bound_texture_attachment context) apart)
gl_storage-image state context (call.RenderbufferStorage format width height) image apart =
    let target = option_map_or Renderbuffer context.renderbuffer Empty in
    with_cells-other state target _ image (only_one image target apart)
gl_storage-image state context _ image apart = refl

pub fence_effect-cells : (state : GroupModel) (thread : ℕ) (asked : Call) (place : ℕ) (image : Attachment) → cells_of (fence_effect state thread asked place) image ≡ cells_of state image
fence_effect-cells state thread asked place Empty = refl
fence_effect-cells state thread asked place (Texture t) = ap (λ s. unwrap_or (entry t s) []) (textures asked)
  where
    textures : (asked : Call) → (fence_effect state thread asked place).texture_cells ≡ state.texture_cells
    textures (call.CreateContext number) = refl
    textures (call.CreateSync number) = refl
    textures (call.DestroySync number) = refl
    textures (call.FenceSync number condition flags) = refl
    textures (call.DeleteSync number) = refl
    textures call.Finish = refl
    textures _ = refl
fence_effect-cells state thread asked place (Renderbuffer r) = ap (λ s. unwrap_or (entry r s) []) (renderbuffers asked)
  where
    renderbuffers : (asked : Call) → (fence_effect state thread asked place).renderbuffer_cells ≡ state.renderbuffer_cells
    renderbuffers (call.CreateContext number) = refl
    renderbuffers (call.CreateSync number) = refl
    renderbuffers (call.DestroySync number) = refl
    renderbuffers (call.FenceSync number condition flags) = refl
    renderbuffers (call.DeleteSync number) = refl
    renderbuffers call.Finish = refl
    renderbuffers _ = refl

found : {V : Type 0} (o : Option V) (content : Content) → is_some o ≡ true → unwrap_or (option_map (λ _. content) o) [] ≡ content
found None content h = let no : ⊥ = cc in absurd no
found (Some v) content h = refl

kept-cells : (state : GroupModel) (image : Attachment) → image_exists state.group image ≡ true → cells_of (kept state) image ≡ cells_of state image
kept-cells state Empty there = refl
kept-cells state (Texture t) there = rw (entry-keyed (texture_of state) t state.group.textures) (found (entry t state.group.textures) (texture_of state t) there)
kept-cells state (Renderbuffer r) there = rw (entry-keyed (renderbuffer_of state) r state.group.renderbuffers) (found (entry r state.group.renderbuffers) (renderbuffer_of state r) there)

pub effect-cells : (state : GroupModel) (thread : ℕ) (asked : Call) (place : ℕ) (image : Attachment) → image_exists (group_effect state.group thread asked) image ≡ true → cells_of (effect state thread asked place) image ≡ cells_of (before_the_sweep state thread asked place) image
effect-cells state thread asked place image there =
    kept-cells (before_the_sweep state thread asked place) image (ap (λ g. image_exists g image) (effect-group state thread asked place) ∙ there)

-- What a call leaves alone

pub regrouped : (state : GroupModel) (group : GroupState) (image : Attachment) → cells_of (record state { group = group }) image ≡ cells_of state image
regrouped state group Empty = refl
regrouped state group (Texture t) = refl
regrouped state group (Renderbuffer r) = refl

contents_in : (state : GroupModel) (asked : Call) (image : Attachment) (o : Option Context) → list_any (same_attachment image) (option_map_or (λ context. changed_images_in context asked) o []) ≡ false → cells_of (option_map_or (λ context. gl_contents state context asked) o state) image ≡ cells_of state image
contents_in state asked image None apart = refl
contents_in state asked image (Some context) apart = gl_contents-image state context asked image apart

storage_in : (state : GroupModel) (asked : Call) (image : Attachment) (o : Option Context) → list_any (same_attachment image) (option_map_or (λ context. changed_images_in context asked) o []) ≡ false → cells_of (option_map_or (λ context. gl_storage state context asked) o state) image ≡ cells_of state image
storage_in state asked image None apart = refl
storage_in state asked image (Some context) apart = gl_storage-image state context asked image apart

same_state : (state : GroupModel) (o : Option Context) (image : Attachment) → cells_of (option_map_or (λ (context : Context). state) o state) image ≡ cells_of state image
same_state state None image = refl
same_state state (Some context) image = refl

-- the context that is current depends on the contexts alone
pub same_current : (one two : GroupState) (thread : ℕ) → one.contexts ≡ two.contexts → current_context one thread ≡ current_context two thread
same_current one two thread same = ap (λ contexts. option_map (λ e. e.1) (find (λ e. same_option e.1.thread (Some thread)) contexts)) same

pub texture_contexts : (group : GroupState) (levels : ℤ) (format : FormatWord) (width height : ℤ) (o : Option (ℕ × Context)) → (gl_change_in group o (call.TexStorage levels format width height)).contexts ≡ group.contexts
texture_contexts group levels format width height None = refl
texture_contexts group levels format width height (Some e) = refl

pub renderbuffer_contexts : (group : GroupState) (format : FormatWord) (width height : ℤ) (o : Option (ℕ × Context)) → (gl_change_in group o (call.RenderbufferStorage format width height)).contexts ≡ group.contexts
renderbuffer_contexts group format width height None = refl
renderbuffer_contexts group format width height (Some e) = refl

-- new storage changes the image that was bound before the call
storage_other : (before : GroupState) (state : GroupModel) (thread : ℕ) (asked : Call) (image : Attachment) → state.group ≡ group_effect before thread asked → list_any (same_attachment image) (changed_images before thread asked) ≡ false → cells_of (in_context gl_storage state thread asked) image ≡ cells_of state image
storage_other before state thread (call.TexStorage levels format width height) image is apart =
    let asked : Call = call.TexStorage levels format width height in
    let same : current_context state.group thread ≡ current_context before thread =
    ap (λ g. current_context g thread) is
    ∙ same_current (group_effect before thread asked) before thread (texture_contexts before levels format width height (current_entry before thread)) in
    storage_in state asked image (current_context state.group thread)
    (ap (λ o. list_any (same_attachment image) (option_map_or (λ context. changed_images_in context asked) o [])) same ∙ apart)
storage_other before state thread (call.RenderbufferStorage format width height) image is apart =
    let asked : Call = call.RenderbufferStorage format width height in
    let same : current_context state.group thread ≡ current_context before thread =
    ap (λ g. current_context g thread) is
    ∙ same_current (group_effect before thread asked) before thread (renderbuffer_contexts before format width height (current_entry before thread)) in
    storage_in state asked image (current_context state.group thread)
    (ap (λ o. list_any (same_attachment image) (option_map_or (λ context. changed_images_in context asked) o [])) same ∙ apart)
storage_other before state thread asked image is apart = same_state state (current_context state.group thread) image

pub effect-cells_other : (state : GroupModel) (thread : ℕ) (asked : Call) (place : ℕ) (image : Attachment) → image_exists (group_effect state.group thread asked) image ≡ true → list_any (same_attachment image) (changed_images state.group thread asked) ≡ false → cells_of (effect state thread asked place) image ≡ cells_of state image
effect-cells_other state thread asked place image there apart =
    let written = in_context gl_contents state thread asked in
    let moved = fence_effect written thread asked place in
    effect-cells state thread asked place image there
    ∙ storage_other state.group (record moved { group = group_effect state.group thread asked }) thread asked image refl apart
    ∙ regrouped moved (group_effect state.group thread asked) image
    ∙ fence_effect-cells written thread asked place image
    ∙ contents_in state asked image (current_context state.group thread) apart
