-- Calls paint images without changing the size of what they hold.
use Rattle.std.proofs.Common.{◌≡◌, ℕ, ℤ, ◌==◌, Bool, true, false, Option, Some, None, List, [], ◌∷◌, length, unwrap_or, unsigned_abs, refl, ap, sym, ◌∙◌, arith, if◌then◌else◌}
use Rattle.std.specs.Option.{option_map_or, option_map}
use Rattle.std.specs.List.{fold}
use Rattle.std.proofs.lemmas.Grind.{common_steps}
use Rattle.cells.specs.Contents.{Content, UNDEFINED, undefined_cells}
use Rattle.gl_calls.specs.declared.call.Call.{Call}
use Rattle.gl_calls.specs.declared.call.Call.TheVariants as call
use Rattle.gl_calls.specs.declared.call.PixelDestination.{PixelDestination}
use Rattle.gl_calls.specs.declared.call.PixelDestination.TheVariants as destination
use Rattle.formats.specs.declared.pixel.PixelFormat.{PixelFormat}
use Rattle.formats.specs.declared.pixel.PixelType.{PixelType}
use Rattle.gl_calls.specs.declared.words.ObjectKind.TheVariants as kinds
use Rattle.gl_calls.specs.Words.{is_color_mask, drawn_point}
use Rattle.tables.specs.Table.{Entries, entry, with_entry}
use Rattle.gl_model.specs.declared.objects.ImageInfo.{ImageInfo}
use Rattle.gl_model.specs.GroupState.{Attachment, Empty, Texture, Renderbuffer, Context}
use Rattle.gl_model.specs.Bindings.{attached_image, image_of, same_attachment, read_attachment, drawn_attachments, is_complete, status_of, framebuffer_of, framebuffer_name, point_of}
use Rattle.gl_model.specs.Refusal.{read_framebuffer, draw_framebuffer}
use Rattle.gl_model.specs.GroupModel.{GroupModel, Store}
use Rattle.gl_model.specs.ImageEffect.{Picture, Corners, content_bytes}
use Rattle.gl_model.specs.Effect.{change_picture, change_store, picture_of, with_cells, new_cells, new_storage, gl_contents, blit, read_into}
use Rattle.gl_model.specs.Storage.{image_bytes}
use Rattle.gl_model.specs.Reached.{cells_of, texture_of, renderbuffer_of}
use Rattle.gl_model.specs.Sizes.{HoldImages}
use Rattle.gl_model.proofs.TableLaws.{entry-with_entry}
use Rattle.gl_model.proofs.GroupLaws.{change_picture-group}
use Rattle.gl_model.proofs.StoreSizes.{length-cells}
use Rattle.gl_model.proofs.ImageLaws.{change_picture-other, change_store-cells, read_into-cells}

-- a paint keeps the size
abbrev pub KeepsSize : (Picture → Content) → Type 0
KeepsSize paint = (p : Picture) → length (paint p) ≡ content_bytes p.info

pub same_image : (one two : Attachment) → same_attachment one two ≡ true → one ≡ two
same_image Empty Empty h = refl
same_image Empty (Texture u) h = let no : ⊥ = cc in absurd no
same_image Empty (Renderbuffer u) h = let no : ⊥ = cc in absurd no
same_image (Texture t) Empty h = let no : ⊥ = cc in absurd no
same_image (Texture t) (Texture u) h = ap Texture (same_key t u h)
  where
    same_key : (m n : ℕ) → (m == n) ≡ true → m ≡ n
    same_key m n h = grind (arith, common_steps)
same_image (Texture t) (Renderbuffer u) h = let no : ⊥ = cc in absurd no
same_image (Renderbuffer t) Empty h = let no : ⊥ = cc in absurd no
same_image (Renderbuffer t) (Texture u) h = let no : ⊥ = cc in absurd no
same_image (Renderbuffer t) (Renderbuffer u) h = ap Renderbuffer (same_key t u h)
  where
    same_key : (m n : ℕ) → (m == n) ≡ true → m ≡ n
    same_key m n h = grind (arith, common_steps)

entry_here : (t : ℕ) (content : Content) (table : Entries Content) → unwrap_or (entry t (with_entry t content table)) [] ≡ content
entry_here t content table = rw (entry-with_entry t t content table) (rw (itself t) refl)
  where
    itself : (n : ℕ) → (n == n) ≡ true
    itself n = grind (arith, common_steps)

-- the image that is painted holds what was painted
pub painted_at : (state : GroupModel) (target : Attachment) (paint : Picture → Content) (info : ImageInfo) → attached_image state.group target ≡ Some info → cells_of (change_picture state target paint) target ≡ paint (record { info = info; cells = cells_of state target })
painted_at state Empty paint info h = let no : ⊥ = cc in absurd no
painted_at state (Texture t) paint info h = rw h (entry_here t (paint (record { info = info; cells = texture_of state t })) state.texture_cells)
painted_at state (Renderbuffer r) paint info h = rw h (entry_here r (paint (record { info = info; cells = renderbuffer_of state r })) state.renderbuffer_cells)

length-new : (content : Content) (o : Option ImageInfo) → length (option_map_or (λ (p : Picture). undefined_cells (content_bytes p.info)) (option_map (λ i. record { info = i; cells = content }) o) []) ≡ image_bytes o
length-new content None = refl
length-new content (Some info) = length-cells (content_bytes info) (λ _. UNDEFINED)

-- the image that is painted has its size; nothing is painted where it has no storage
painted_length : (state : GroupModel) (target : Attachment) (paint : Picture → Content) → KeepsSize paint → length (cells_of state target) ≡ image_bytes (attached_image state.group target) → length (cells_of (change_picture state target paint) target) ≡ image_bytes (attached_image state.group target)
painted_length state Empty paint keeps size = refl
painted_length state (Texture t) paint keeps size = by_image (image_of state.group.textures (Some t)) refl size
  where
    by_image : (o : Option ImageInfo) → image_of state.group.textures (Some t) ≡ o → length (texture_of state t) ≡ image_bytes o → length (cells_of (option_map_or (λ p. with_cells state (Texture t) (paint p)) (option_map (λ i. record { info = i; cells = texture_of state t }) o) state) (Texture t)) ≡ image_bytes o
    by_image None is h = h
    by_image (Some info) is h =
        ap length (entry_here t (paint (record { info = info; cells = texture_of state t })) state.texture_cells) ∙ keeps (record { info = info; cells = texture_of state t })
painted_length state (Renderbuffer r) paint keeps size = by_image (image_of state.group.renderbuffers (Some r)) refl size
  where
    by_image : (o : Option ImageInfo) → image_of state.group.renderbuffers (Some r) ≡ o → length (renderbuffer_of state r) ≡ image_bytes o → length (cells_of (option_map_or (λ p. with_cells state (Renderbuffer r) (paint p)) (option_map (λ i. record { info = i; cells = renderbuffer_of state r }) o) state) (Renderbuffer r)) ≡ image_bytes o
    by_image None is h = h
    by_image (Some info) is h =
        ap length (entry_here r (paint (record { info = info; cells = renderbuffer_of state r })) state.renderbuffer_cells) ∙ keeps (record { info = info; cells = renderbuffer_of state r })

-- the image whose storage is made anew has its size
pub renewed_length : (state : GroupModel) (target : Attachment) → length (cells_of (new_storage target state) target) ≡ image_bytes (attached_image state.group target)
renewed_length state Empty = refl
renewed_length state (Texture t) =
    ap length (entry_here t (new_cells state (Texture t)) state.texture_cells)
    ∙ length-new (texture_of state t) (image_of state.group.textures (Some t))
renewed_length state (Renderbuffer r) =
    ap length (entry_here r (new_cells state (Renderbuffer r)) state.renderbuffer_cells)
    ∙ length-new (renderbuffer_of state r) (image_of state.group.renderbuffers (Some r))

pub painted_sizes : (state : GroupModel) (target : Attachment) (paint : Picture → Content) → KeepsSize paint → HoldImages state → HoldImages (change_picture state target paint)
painted_sizes state target paint keeps sizes image = by_image (same_attachment image target) refl ∙ sym (ap (λ g. image_bytes (attached_image g image)) (change_picture-group state target paint))
  where
    by_image : (t : Bool) → same_attachment image target ≡ t → length (cells_of (change_picture state target paint) image) ≡ image_bytes (attached_image state.group image)
    by_image false is = ap length (change_picture-other state target paint image is) ∙ sizes image
    by_image true is =
        let same : image ≡ target = same_image image target is in
        ap (λ i. length (cells_of (change_picture state target paint) i)) same
        ∙ painted_length state target paint keeps (sizes target)
        ∙ ap (λ i. image_bytes (attached_image state.group i)) (sym same)

change_store-group : (state : GroupModel) (bound : Option ℕ) (change : Store → Store) → (change_store state bound change).group ≡ state.group
change_store-group state None change = refl
change_store-group state (Some b) change = refl

stored_sizes : (state : GroupModel) (bound : Option ℕ) (change : Store → Store) → HoldImages state → HoldImages (change_store state bound change)
stored_sizes state bound change sizes image =
    ap length (change_store-cells state bound change image)
    ∙ sizes image
    ∙ sym (ap (λ g. image_bytes (attached_image g image)) (change_store-group state bound change))

copied_sizes : (state : GroupModel) (target : Attachment) (paint : Picture → Picture → Content) (read : Option Picture) → ((r : Picture) → KeepsSize (paint r)) → HoldImages state → HoldImages (option_map_or (λ r. change_picture state target (paint r)) read state)
copied_sizes state target paint None keeps sizes = sizes
copied_sizes state target paint (Some r) keeps sizes = painted_sizes state target (paint r) (keeps r) sizes

blitted_sizes : (state : GroupModel) (paint : Picture → Content) (targets : List Attachment) → KeepsSize paint → HoldImages state → HoldImages (fold (λ s target. change_picture s target paint) state targets)
blitted_sizes state paint [] keeps sizes = sizes
blitted_sizes state paint (target ∷ targets) keeps sizes = blitted_sizes (change_picture state target paint) paint targets keeps (painted_sizes state target paint keeps sizes)

blit_sizes : (state : GroupModel) (context : Context) (read : Option Picture) (corners : Corners) → HoldImages state → HoldImages (blit state context read corners)
blit_sizes state context None corners sizes = sizes
blit_sizes state context (Some read) corners sizes = blitted_sizes state _ (drawn_attachments (draw_framebuffer context)) (λ p. length-cells (content_bytes p.info) _) sizes

chosen_sizes : (b : Bool) (one two : GroupModel) → HoldImages one → HoldImages two → HoldImages (if b then one else two)
chosen_sizes true one two h k = h
chosen_sizes false one two h k = k

read_into-group : (state : GroupModel) (context : Context) (to : PixelDestination) (read : Option Picture) (pixels : PixelFormat) (kind : PixelType) (x y : ℤ) (width height : ℕ) → (read_into state context to read pixels kind x y width height).group ≡ state.group
read_into-group state context destination.Client read pixels kind x y width height = refl
read_into-group state context (destination.Offset at) None pixels kind x y width height = refl
read_into-group state context (destination.Offset at) (Some read) pixels kind x y width height = change_store-group state context.pixel_pack _

read_sizes : (state : GroupModel) (context : Context) (to : PixelDestination) (read : Option Picture) (pixels : PixelFormat) (kind : PixelType) (x y : ℤ) (width height : ℕ) → HoldImages state → HoldImages (read_into state context to read pixels kind x y width height)
read_sizes state context to read pixels kind x y width height sizes image =
    ap length (read_into-cells state context to read pixels kind x y width height image)
    ∙ sizes image
    ∙ sym (ap (λ g. image_bytes (attached_image g image)) (read_into-group state context to read pixels kind x y width height))

-- each call
pub contents_sizes : (state : GroupModel) (context : Context) (asked : Call) → HoldImages state → HoldImages (gl_contents state context asked)
contents_sizes state context (call.Delete kinds.Buffer name) sizes = stored_sizes state _ _ sizes
contents_sizes state context (call.Delete kinds.Texture name) sizes = sizes
contents_sizes state context (call.Delete kinds.Renderbuffer name) sizes = sizes
contents_sizes state context (call.Delete kinds.Framebuffer name) sizes = sizes
contents_sizes state context (call.BufferData target size usage payload) sizes = stored_sizes state _ _ sizes
contents_sizes state context (call.BufferSubData target offset payload) sizes = stored_sizes state _ _ sizes
contents_sizes state context (call.CopyBufferSubData from to read write size) sizes = stored_sizes state _ _ sizes
contents_sizes state context (call.MapBufferRange target offset len access) sizes = stored_sizes state _ _ sizes
contents_sizes state context (call.FlushMappedBufferRange target offset len) sizes = stored_sizes state _ _ sizes
contents_sizes state context (call.UnmapBuffer target) sizes = stored_sizes state _ _ sizes
contents_sizes state context (call.MapWrite target offset payload) sizes = stored_sizes state _ _ sizes
contents_sizes state context (call.TexSubImage x y width height pixels kind from) sizes = painted_sizes state _ _ (λ p. length-cells (content_bytes p.info) _) sizes
contents_sizes state context (call.CopyTexSubImage x y from_x from_y width height) sizes =
    copied_sizes state _ _ (picture_of state (read_attachment (read_framebuffer context))) (λ r p. length-cells (content_bytes p.info) _) sizes
contents_sizes state context (call.ClearUnsigned buffer r g b a) sizes = painted_sizes state _ _ (λ p. length-cells (content_bytes p.info) _) sizes
contents_sizes state context (call.ClearSigned buffer r g b a) sizes = painted_sizes state _ _ (λ p. length-cells (content_bytes p.info) _) sizes
contents_sizes state context (call.Blit sx0 sy0 sx1 sy1 dx0 dy0 dx1 dy1 mask filter) sizes =
    let corners : Corners = record { sx0 = sx0; sy0 = sy0; sx1 = sx1; sy1 = sy1; dx0 = dx0; dy0 = dy0; dx1 = dx1; dy1 = dy1 } in
    let read = picture_of state (read_attachment (read_framebuffer context)) in
    chosen_sizes (is_color_mask mask) (blit state context read corners) state (blit_sizes state context read corners sizes) sizes
contents_sizes state context (call.Invalidate target buffer) sizes =
    let f = framebuffer_of context (framebuffer_name context target) in
    let point = option_map_or (λ f. option_map_or (point_of f) (drawn_point buffer) Empty) f Empty in
    chosen_sizes (is_complete (status_of state.group f)) (change_picture state point (λ p. undefined_cells (content_bytes p.info))) state
    (painted_sizes state point (λ p. undefined_cells (content_bytes p.info)) (λ p. length-cells (content_bytes p.info) (λ _. UNDEFINED)) sizes) sizes
contents_sizes state context (call.ReadPixels x y width height pixels kind to) sizes =
    read_sizes state context to (picture_of state (read_attachment (read_framebuffer context))) pixels kind x y (unsigned_abs width) (unsigned_abs height) sizes
contents_sizes state context _ sizes = sizes

-- no call's writes change the group
copied-group : (state : GroupModel) (target : Attachment) (paint : Picture → Picture → Content) (read : Option Picture) → (option_map_or (λ r. change_picture state target (paint r)) read state).group ≡ state.group
copied-group state target paint None = refl
copied-group state target paint (Some r) = change_picture-group state target (paint r)

blitted-group : (state : GroupModel) (paint : Picture → Content) (targets : List Attachment) → (fold (λ s target. change_picture s target paint) state targets).group ≡ state.group
blitted-group state paint [] = refl
blitted-group state paint (target ∷ targets) = blitted-group (change_picture state target paint) paint targets ∙ change_picture-group state target paint

blit-group : (state : GroupModel) (context : Context) (read : Option Picture) (corners : Corners) → (blit state context read corners).group ≡ state.group
blit-group state context None corners = refl
blit-group state context (Some read) corners = blitted-group state _ (drawn_attachments (draw_framebuffer context))

chosen-group : (b : Bool) (one two : GroupModel) → one.group ≡ two.group → (if b then one else two).group ≡ two.group
chosen-group true one two h = h
chosen-group false one two h = refl

pub gl_contents-group : (state : GroupModel) (context : Context) (asked : Call) → (gl_contents state context asked).group ≡ state.group
gl_contents-group state context (call.Delete kinds.Buffer name) = change_store-group state _ _
gl_contents-group state context (call.Delete kinds.Texture name) = refl
gl_contents-group state context (call.Delete kinds.Renderbuffer name) = refl
gl_contents-group state context (call.Delete kinds.Framebuffer name) = refl
gl_contents-group state context (call.BufferData target size usage payload) = change_store-group state _ _
gl_contents-group state context (call.BufferSubData target offset payload) = change_store-group state _ _
gl_contents-group state context (call.CopyBufferSubData from to read write size) = change_store-group state _ _
gl_contents-group state context (call.MapBufferRange target offset len access) = change_store-group state _ _
gl_contents-group state context (call.FlushMappedBufferRange target offset len) = change_store-group state _ _
gl_contents-group state context (call.UnmapBuffer target) = change_store-group state _ _
gl_contents-group state context (call.MapWrite target offset payload) = change_store-group state _ _
gl_contents-group state context (call.TexSubImage x y width height pixels kind from) = change_picture-group state _ _
gl_contents-group state context (call.CopyTexSubImage x y from_x from_y width height) =
    copied-group state _ _ (picture_of state (read_attachment (read_framebuffer context)))
gl_contents-group state context (call.ClearUnsigned buffer r g b a) = change_picture-group state _ _
gl_contents-group state context (call.ClearSigned buffer r g b a) = change_picture-group state _ _
gl_contents-group state context (call.Blit sx0 sy0 sx1 sy1 dx0 dy0 dx1 dy1 mask filter) =
    let corners : Corners = record { sx0 = sx0; sy0 = sy0; sx1 = sx1; sy1 = sy1; dx0 = dx0; dy0 = dy0; dx1 = dx1; dy1 = dy1 } in
    let read = picture_of state (read_attachment (read_framebuffer context)) in
    chosen-group (is_color_mask mask) (blit state context read corners) state (blit-group state context read corners)
gl_contents-group state context (call.Invalidate target buffer) =
    let f = framebuffer_of context (framebuffer_name context target) in
    let point = option_map_or (λ f. option_map_or (point_of f) (drawn_point buffer) Empty) f Empty in
    chosen-group (is_complete (status_of state.group f)) (change_picture state point (λ p. undefined_cells (content_bytes p.info))) state
    (change_picture-group state point (λ p. undefined_cells (content_bytes p.info)))
gl_contents-group state context (call.ReadPixels x y width height pixels kind to) =
    read_into-group state context to (picture_of state (read_attachment (read_framebuffer context))) pixels kind x y (unsigned_abs width) (unsigned_abs height)
gl_contents-group state context _ = refl
