-- Images have their sizes in each reached state.
use Rattle.std.proofs.Common.{◌≡◌, ℕ, ◌+◌, ◌≤◌, ◌||◌, Bool, true, false, cond, Option, Some, None, List, [], ◌∷◌, length, is_some, unwrap_or, refl, ap, sym, ◌∙◌, if◌then◌else◌}
use Rattle.std.specs.Option.{option_map_or, option_and_then, option_map}
use Rattle.cells.specs.Contents.{Content}
use Rattle.gl_calls.specs.declared.call.Call.{Call}
use Rattle.gl_calls.specs.declared.call.Call.TheVariants as call
use Rattle.gl_calls.specs.declared.reply.GlError.{GlError}
use Rattle.gl_calls.specs.declared.reply.GlError.TheVariants.{InvalidValue}
use Rattle.gl_calls.specs.declared.reply.Reply.{Reply}
use Rattle.gl_calls.specs.declared.reply.Reply.TheVariants as reply
use Rattle.gl_calls.specs.declared.reply.Entry.{Entry}
use Rattle.tables.specs.Table.{entry, any_value}
use Rattle.gl_model.specs.declared.objects.ImageInfo.{ImageInfo}
use Rattle.gl_model.specs.GroupState.{Attachment, Empty, Texture, Renderbuffer, Context, GroupState}
use Rattle.gl_model.specs.Bindings.{current_context, current_entry, attached_image, image_of, same_attachment, same_option}
use Rattle.gl_model.specs.Storage.{image_bytes}
use Rattle.gl_model.specs.Refusal.{refusal}
use Rattle.gl_model.specs.GroupEffect.{group_effect, swept, names_object, attaches, with_context}
use Rattle.gl_model.specs.GroupModel.{GroupModel, Fence, opening}
use Rattle.gl_model.specs.Effect.{effect, gl_contents, gl_storage, in_context, fence_effect, kept, new_storage, new_cells, bound_texture_attachment}
use Rattle.gl_model.specs.Legal.{refused, refused_group, note_gl_error, with_gl_error, told, signal_fence, says_signalled, after_entry, state_after}
use Rattle.gl_model.specs.Reached.{cells_of, texture_of, renderbuffer_of, image_exists, before_the_sweep}
use Rattle.gl_model.specs.Sizes.{HasImageSizes, HoldImages}
use Rattle.gl_model.proofs.TableLaws.{entry-only, entry-keyed}
use Rattle.gl_model.proofs.GroupLaws.{effect-group, told-group}
use Rattle.gl_model.proofs.ImageLaws.{effect-cells, with_cells-other, regrouped, fence_effect-cells, same_current, texture_contexts, renderbuffer_contexts}
use Rattle.gl_model.proofs.PictureSizes.{renewed_length, contents_sizes, same_image, gl_contents-group}
use Rattle.gl_model.proofs.StorageLaws.{target_in, IsUnmade, ImagesStay, SameImages, images_stay, unmade_too, lower}
use Rattle.gl_model.proofs.ReachedSizes.{unswept, kept_none}

-- The storage of images through a call

no_target : (o : Option Context) → option_map_or (λ (context : Context). Empty) o Empty ≡ Empty
no_target None = refl
no_target (Some context) = refl

-- the image that gets new storage is the same before and after
target_stays : (group : GroupState) (thread : ℕ) (asked : Call) → target_in (current_context (group_effect group thread asked) thread) asked ≡ target_in (current_context group thread) asked
target_stays group thread (call.TexStorage levels format width height) =
    ap (λ o. target_in o (call.TexStorage levels format width height))
    (same_current (group_effect group thread (call.TexStorage levels format width height)) group thread (texture_contexts group levels format width height (current_entry group thread)))
target_stays group thread (call.RenderbufferStorage format width height) =
    ap (λ o. target_in o (call.RenderbufferStorage format width height))
    (same_current (group_effect group thread (call.RenderbufferStorage format width height)) group thread (renderbuffer_contexts group format width height (current_entry group thread)))
target_stays group thread asked = no_target (current_context (group_effect group thread asked) thread) ∙ sym (no_target (current_context group thread))

-- an entry that the sweep leaves is the one that was there
kept_there : {V : Type 0} (b : Bool) (o : Option V) → is_some (cond b o None) ≡ true → cond b o None ≡ o
kept_there true o h = refl
kept_there false o h = let no : ⊥ = cc in absurd no

-- an image that exists after the sweep has the storage that it had
swept_image : (group : GroupState) (image : Attachment) → image_exists (swept group) image ≡ true → attached_image (swept group) image ≡ attached_image group image
swept_image group Empty there = refl
swept_image group (Texture t) there =
    let test = λ (t : ℕ). names_object group.texture_names t || any_value (λ c. same_option c.texture (Some t) || attaches (Texture t) c) group.contexts in
    ap (option_and_then (λ i. i))
    (entry-only test t group.textures ∙ kept_there (test t) (entry t group.textures) (ap is_some (sym (entry-only test t group.textures)) ∙ there))
swept_image group (Renderbuffer r) there =
    let test = λ (r : ℕ). names_object group.renderbuffer_names r || any_value (λ c. same_option c.renderbuffer (Some r) || attaches (Renderbuffer r) c) group.contexts in
    ap (option_and_then (λ i. i))
    (entry-only test r group.renderbuffers ∙ kept_there (test r) (entry r group.renderbuffers) (ap is_some (sym (entry-only test r group.renderbuffers)) ∙ there))

unmade_in : (state : GroupModel) (k : ℕ) → HasImageSizes state → IsUnmade state.group k
unmade_in state k sizes = record { textures = sizes.unmade_textures k; renderbuffers = sizes.unmade_renderbuffers k }

-- an image that exists after an accepted call has the storage that it had before, but for the one that gets new storage
image_stays : (state : GroupModel) (thread : ℕ) (asked : Call) (image : Attachment) → HasImageSizes state → refusal state.group thread asked ≡ None → same_attachment image (target_in (current_context state.group thread) asked) ≡ false → image_exists (group_effect state.group thread asked) image ≡ true → attached_image (group_effect state.group thread asked) image ≡ attached_image state.group image
image_stays state thread asked Empty sizes accepted apart there = refl
image_stays state thread asked (Texture t) sizes accepted apart there =
    swept_image (unswept state.group thread asked) (Texture t) there ∙ (images_stay state.group thread asked t (unmade_in state t sizes) accepted).textures apart
image_stays state thread asked (Renderbuffer r) sizes accepted apart there =
    swept_image (unswept state.group thread asked) (Renderbuffer r) there ∙ (images_stay state.group thread asked r (unmade_in state r sizes) accepted).renderbuffers apart

-- An accepted call

-- new storage has its size, and other images what they had
renewed : (state : GroupModel) (target image : Attachment) → (same_attachment image target ≡ false → length (cells_of state image) ≡ image_bytes (attached_image state.group image)) → length (cells_of (new_storage target state) image) ≡ image_bytes (attached_image state.group image)
renewed state target image others = by_image (same_attachment image target) refl
  where
    by_image : (t : Bool) → same_attachment image target ≡ t → length (cells_of (new_storage target state) image) ≡ image_bytes (attached_image state.group image)
    by_image false is = ap length (with_cells-other state target (new_cells state target) image is) ∙ others is
    by_image true is =
        let same : image ≡ target = same_image image target is in
        ap (λ i. length (cells_of (new_storage target state) i)) same
        ∙ renewed_length state target
        ∙ ap (λ i. image_bytes (attached_image state.group i)) (sym same)

storage_sized : (state : GroupModel) (o : Option Context) (asked : Call) (image : Attachment) → same_attachment image Empty ≡ false → (same_attachment image (target_in o asked) ≡ false → length (cells_of state image) ≡ image_bytes (attached_image state.group image)) → length (cells_of (option_map_or (λ context. gl_storage state context asked) o state) image) ≡ image_bytes (attached_image state.group image)
storage_sized state None asked image some others = others some
storage_sized state (Some context) (call.TexStorage levels format width height) image some others = renewed state (bound_texture_attachment context) image others
storage_sized state (Some context) (call.RenderbufferStorage format width height) image some others = renewed state (option_map_or Renderbuffer context.renderbuffer Empty) image others
storage_sized state (Some context) asked image some others = others some

contents_in_sizes : (state : GroupModel) (asked : Call) (o : Option Context) → HoldImages state → (image : Attachment) → length (cells_of (option_map_or (λ context. gl_contents state context asked) o state) image) ≡ image_bytes (attached_image state.group image)
contents_in_sizes state asked None sizes image = sizes image
contents_in_sizes state asked (Some context) sizes image =
    contents_sizes state context asked sizes image ∙ ap (λ g. image_bytes (attached_image g image)) (gl_contents-group state context asked)

-- an image that does not exist holds nothing and has no storage
no_cells : {V : Type 0} (o : Option V) (content : Content) → is_some o ≡ false → length (unwrap_or (option_map (λ _. content) o) []) ≡ 0
no_cells None content h = refl
no_cells (Some v) content h = let no : ⊥ = cc in absurd no

no_storage : (o : Option (Option ImageInfo)) → is_some o ≡ false → image_bytes (option_and_then (λ i. i) o) ≡ 0
no_storage None h = refl
no_storage (Some i) h = let no : ⊥ = cc in absurd no

gone-length : (state : GroupModel) (image : Attachment) → image_exists state.group image ≡ false → length (cells_of (kept state) image) ≡ image_bytes (attached_image state.group image)
gone-length state Empty gone = refl
gone-length state (Texture t) gone =
    rw (entry-keyed (texture_of state) t state.group.textures) (no_cells (entry t state.group.textures) (texture_of state t) gone)
    ∙ sym (no_storage (entry t state.group.textures) gone)
gone-length state (Renderbuffer r) gone =
    rw (entry-keyed (renderbuffer_of state) r state.group.renderbuffers) (no_cells (entry r state.group.renderbuffers) (renderbuffer_of state r) gone)
    ∙ sym (no_storage (entry r state.group.renderbuffers) gone)

-- an image that may have storage, after an accepted call
image_sized : (state : GroupModel) (thread : ℕ) (asked : Call) (place : ℕ) → HasImageSizes state → refusal state.group thread asked ≡ None → (image : Attachment) → same_attachment image Empty ≡ false → length (cells_of (effect state thread asked place) image) ≡ image_bytes (attached_image (effect state thread asked place).group image)
image_sized state thread asked place sizes accepted image some = by_existence (image_exists after image) refl
  where
    after : GroupState
    after = group_effect state.group thread asked

    regroup : (effect state thread asked place).group ≡ after
    regroup = effect-group state thread asked place

    by_existence : (b : Bool) → image_exists after image ≡ b → length (cells_of (effect state thread asked place) image) ≡ image_bytes (attached_image (effect state thread asked place).group image)
    by_existence false gone =
        gone-length (before_the_sweep state thread asked place) image (ap (λ g. image_exists g image) regroup ∙ gone)
    by_existence true there =
        let written = in_context gl_contents state thread asked in
        let moved = fence_effect written thread asked place in
        let grown = record moved { group = after } in
        ap length (effect-cells state thread asked place image there)
        ∙ storage_sized grown (current_context after thread) asked image some
        (λ apart.
        let apart' : same_attachment image (target_in (current_context state.group thread) asked) ≡ false = ap (same_attachment image) (sym (target_stays state.group thread asked)) ∙ apart in
        ap length (regrouped moved after image ∙ fence_effect-cells written thread asked place image)
        ∙ contents_in_sizes state asked (current_context state.group thread) sizes.cells image
        ∙ ap image_bytes (sym (image_stays state thread asked image sizes accepted apart' there)))
        ∙ sym (ap (λ g. image_bytes (attached_image g image)) regroup)

pub effect-image_sizes : (state : GroupModel) (thread : ℕ) (asked : Call) (place : ℕ) → HasImageSizes state → refusal state.group thread asked ≡ None → HasImageSizes (effect state thread asked place)
effect-image_sizes state thread asked place sizes accepted = record {
  cells = cells;
  unmade_textures = λ t past.
      let test = λ (t : ℕ). names_object after.texture_names t || any_value (λ c. same_option c.texture (Some t) || attaches (Texture t) c) after.contexts in
      let past' : after.texture_names.made ≤ t = lower (ap (λ g. g.texture_names.made) regroup) past in
      ap (λ g. entry t g.textures) regroup
      ∙ entry-only test t after.textures
      ∙ kept_none (test t) (entry t after.textures) ((stays t).unmade.textures past');
  unmade_renderbuffers = λ r past.
      let test = λ (r : ℕ). names_object after.renderbuffer_names r || any_value (λ c. same_option c.renderbuffer (Some r) || attaches (Renderbuffer r) c) after.contexts in
      let past' : after.renderbuffer_names.made ≤ r = lower (ap (λ g. g.renderbuffer_names.made) regroup) past in
      ap (λ g. entry r g.renderbuffers) regroup
      ∙ entry-only test r after.renderbuffers
      ∙ kept_none (test r) (entry r after.renderbuffers) ((stays r).unmade.renderbuffers past');
}
  where
    after : GroupState
    after = unswept state.group thread asked

    regroup : (effect state thread asked place).group ≡ group_effect state.group thread asked
    regroup = effect-group state thread asked place

    stays : (k : ℕ) → ImagesStay state.group after (target_in (current_context state.group thread) asked) k
    stays k = images_stay state.group thread asked k (unmade_in state k sizes) accepted

    cells : HoldImages (effect state thread asked place)
    cells Empty = refl
    cells (Texture t) = image_sized state thread asked place sizes accepted (Texture t) refl
    cells (Renderbuffer r) = image_sized state thread asked place sizes accepted (Renderbuffer r) refl

-- Refused calls, and answers of waits

note_gl_error-images : (group : GroupState) (thread : ℕ) (error : GlError) → SameImages (note_gl_error group thread error) group
note_gl_error-images group thread error = by_entry (current_entry group thread)
  where
    by_entry : (o : Option (ℕ × Context)) → SameImages (option_map_or (λ e. with_context group e.0 (with_gl_error error e.1)) o group) group
    by_entry None = record { textures = refl; renderbuffers = refl; texture_numbers = refl; renderbuffer_numbers = refl }
    by_entry (Some e) = record { textures = refl; renderbuffers = refl; texture_numbers = refl; renderbuffer_numbers = refl }

refused_group-images : (group : GroupState) (thread : ℕ) (answer : Reply) → SameImages (refused_group group thread answer) group
refused_group-images group thread (reply.GlFault error) = note_gl_error-images group thread error
refused_group-images group thread (reply.EglFault error) = record { textures = refl; renderbuffers = refl; texture_numbers = refl; renderbuffer_numbers = refl }
refused_group-images group thread reply.WaitFailed = note_gl_error-images group thread InvalidValue
refused_group-images group thread _ = record { textures = refl; renderbuffers = refl; texture_numbers = refl; renderbuffer_numbers = refl }

signal_fence-cells : (fence : Option Fence) (state : GroupModel) (image : Attachment) → cells_of (signal_fence fence state) image ≡ cells_of state image
signal_fence-cells None state image = refl
signal_fence-cells (Some f) state Empty = refl
signal_fence-cells (Some f) state (Texture t) = refl
signal_fence-cells (Some f) state (Renderbuffer r) = refl

told_by-cells : (b : Bool) (fence : Option Fence) (state : GroupModel) (image : Attachment) → cells_of (if b then signal_fence fence state else state) image ≡ cells_of state image
told_by-cells true fence state image = signal_fence-cells fence state image
told_by-cells false fence state image = refl

told-cells : (state : GroupModel) (asked : Call) (answer : Reply) (image : Attachment) → cells_of (told state asked answer) image ≡ cells_of state image
told-cells state (call.ClientWaitSync number flags timeout) answer image = told_by-cells (says_signalled answer) (entry number state.fences) state image
told-cells state (call.EglClientWaitSync number flush timeout) answer image = told_by-cells (says_signalled answer) (entry number state.egl_fences) state image
told-cells state _ answer image = refl

-- An entry, and a history

attached_same : (one two : GroupState) (image : Attachment) → SameImages one two → attached_image one image ≡ attached_image two image
attached_same one two Empty same = refl
attached_same one two (Texture t) same = ap (λ table. image_of table (Some t)) same.textures
attached_same one two (Renderbuffer r) same = ap (λ table. image_of table (Some r)) same.renderbuffers

same_image_sizes : (one two : GroupModel) → SameImages one.group two.group → ((image : Attachment) → cells_of one image ≡ cells_of two image) → HasImageSizes two → HasImageSizes one
same_image_sizes one two same cells sizes = record {
  cells = λ image. ap length (cells image) ∙ sizes.cells image ∙ sym (ap image_bytes (attached_same one.group two.group image same));
  unmade_textures = λ t. (unmade_too one.group two.group t same (unmade_in two t sizes)).textures;
  unmade_renderbuffers = λ r. (unmade_too one.group two.group r same (unmade_in two r sizes)).renderbuffers;
}

same_group : (one two : GroupState) → one ≡ two → SameImages one two
same_group one two same = record {
  textures = ap (λ g. g.textures) same;
  renderbuffers = ap (λ g. g.renderbuffers) same;
  texture_numbers = ap (λ g. g.texture_names.made) same;
  renderbuffer_numbers = ap (λ g. g.renderbuffer_names.made) same;
}

pub after_entry-image_sizes : (state : GroupModel) (e : Entry) (place : ℕ) → HasImageSizes state → HasImageSizes (after_entry state e place)
after_entry-image_sizes state e place sizes = by_refusal (refusal state.group e.thread e.call) refl
  where
    by_refusal : (o : Option Reply) → refusal state.group e.thread e.call ≡ o → HasImageSizes (option_map_or (λ answer. refused state e.thread answer) o (told (effect state e.thread e.call place) e.call e.reply))
    by_refusal None is =
        let done = effect state e.thread e.call place in
        same_image_sizes (told done e.call e.reply) done (same_group (told done e.call e.reply).group done.group (told-group done e.call e.reply)) (told-cells done e.call e.reply)
        (effect-image_sizes state e.thread e.call place sizes is)
    by_refusal (Some answer) is =
        same_image_sizes (refused state e.thread answer) state (refused_group-images state.group e.thread answer)
        (regrouped state (refused_group state.group e.thread answer)) sizes

opening-image_sizes : (threads : List ℕ) → HasImageSizes (opening threads)
opening-image_sizes threads = record { cells = cells; unmade_textures = λ t past. refl; unmade_renderbuffers = λ r past. refl }
  where
    cells : HoldImages (opening threads)
    cells Empty = refl
    cells (Texture t) = refl
    cells (Renderbuffer r) = refl

state_after-image_sizes : (state : GroupModel) (place : ℕ) (es : List Entry) → HasImageSizes state → HasImageSizes (state_after state place es)
state_after-image_sizes state place [] sizes = sizes
state_after-image_sizes state place (e ∷ es) sizes = state_after-image_sizes (after_entry state e place) (place + 1) es (after_entry-image_sizes state e place sizes)

pub reached-image_sizes : (threads : List ℕ) (es : List Entry) → HasImageSizes (state_after (opening threads) 0 es)
reached-image_sizes threads es = state_after-image_sizes (opening threads) 0 es (opening-image_sizes threads)
