-- Syncs and contexts in each reached state.
use Rattle.std.proofs.Common.{◌≡◌, ℕ, suc, ℤ, ◌+◌, ◌<◌, Bool, true, false, Option, Some, None, List, [], ◌∷◌, length, unsigned_abs, refl, ap, sym, ◌∙◌, subst, arith, if◌then◌else◌}
use Rattle.std.specs.Option.{option_map_or}
use Rattle.std.specs.List.{All, fold}
use Rattle.std.specs.Map.{keys_of, values_of}
use Rattle.std.specs.Ordering.{nat_cmp}
use Rattle.std.specs.BTreeMap.{is_at}
use Rattle.std.proofs.lemmas.List.Elements.{All-nil}
use Rattle.std.proofs.lemmas.Map.Views.{All-values-insert_entry, All-map-remove_entry}
use Rattle.cells.specs.Contents.{Content, undefined_cells}
use Rattle.formats.specs.declared.pixel.PixelFormat.{PixelFormat}
use Rattle.formats.specs.declared.pixel.PixelType.{PixelType}
use Rattle.gl_calls.specs.declared.call.Call.{Call}
use Rattle.gl_calls.specs.declared.call.Call.TheVariants as call
use Rattle.gl_calls.specs.declared.call.PixelDestination.{PixelDestination}
use Rattle.gl_calls.specs.declared.call.PixelDestination.TheVariants as destination
use Rattle.gl_calls.specs.declared.reply.Reply.{Reply}
use Rattle.gl_calls.specs.declared.reply.Entry.{Entry}
use Rattle.gl_calls.specs.declared.words.ObjectKind.TheVariants as kinds
use Rattle.gl_calls.specs.Words.{is_color_mask, drawn_point}
use Rattle.tables.specs.Table.{Entries, entry, has, only}
use Rattle.gl_model.specs.GroupState.{Attachment, Empty, Texture, Renderbuffer, Context}
use Rattle.gl_model.specs.Bindings.{current_context, read_attachment, drawn_attachments, is_complete, status_of, framebuffer_of, framebuffer_name, point_of}
use Rattle.gl_model.specs.Refusal.{refusal, read_framebuffer, draw_framebuffer}
use Rattle.gl_model.specs.GroupEffect.{group_effect}
use Rattle.gl_model.specs.GroupModel.{GroupModel, Store, Fence, opening}
use Rattle.gl_model.specs.ImageEffect.{Picture, Corners, content_bytes}
use Rattle.gl_model.specs.Effect.{effect, with_cells, change_picture, change_store, picture_of, gl_contents, gl_storage, in_context, fence_effect, signal_until, new_fence, blit, read_into}
use Rattle.gl_model.specs.Legal.{refused, told, signal_fence, says_signalled, after_entry, state_after}
use Rattle.gl_model.specs.Syncs.{HasSyncs, changes_syncs}
use Rattle.gl_model.proofs.GroupLaws.{effect-group}
use Rattle.gl_model.proofs.KeyLaws.{keys-with_entry, keys-without, keys-each_value, has-new, has-only, only-all, all-each_value, all-only}
use Rattle.gl_model.proofs.ContextKeys.{sync_keys, egl_sync_keys, is_context, group_syncs, group_egl_syncs, contexts_after, contexts_stay, refused_contexts, refused_syncs, refused_egl_syncs}

-- What a call writes leaves syncs and births as they are

record SameFences (one two : GroupModel) : Type 0 where
  fences : one.fences ≡ two.fences
  egl_fences : one.egl_fences ≡ two.egl_fences
  births : one.births ≡ two.births

itself : (state : GroupModel) → SameFences state state
itself state = record { fences = refl; egl_fences = refl; births = refl }

in_turn : (one two three : GroupModel) → SameFences one two → SameFences two three → SameFences one three
in_turn one two three first second = record {
  fences = first.fences ∙ second.fences;
  egl_fences = first.egl_fences ∙ second.egl_fences;
  births = first.births ∙ second.births;
}

stored : (state : GroupModel) (bound : Option ℕ) (change : Store → Store) → SameFences (change_store state bound change) state
stored state None change = itself state
stored state (Some b) change = record { fences = refl; egl_fences = refl; births = refl }

celled : (state : GroupModel) (target : Attachment) (content : Content) → SameFences (with_cells state target content) state
celled state Empty content = itself state
celled state (Texture t) content = record { fences = refl; egl_fences = refl; births = refl }
celled state (Renderbuffer r) content = record { fences = refl; egl_fences = refl; births = refl }

painted : (state : GroupModel) (target : Attachment) (paint : Picture → Content) → SameFences (change_picture state target paint) state
painted state target paint = by_picture (picture_of state target)
  where
    by_picture : (o : Option Picture) → SameFences (option_map_or (λ p. with_cells state target (paint p)) o state) state
    by_picture None = itself state
    by_picture (Some p) = celled state target (paint p)

copied : (state : GroupModel) (target : Attachment) (paint : Picture → Picture → Content) (read : Option Picture) → SameFences (option_map_or (λ r. change_picture state target (paint r)) read state) state
copied state target paint None = itself state
copied state target paint (Some r) = painted state target (paint r)

blitted : (state : GroupModel) (paint : Picture → Content) (targets : List Attachment) → SameFences (fold (λ s target. change_picture s target paint) state targets) state
blitted state paint [] = itself state
blitted state paint (target ∷ targets) = in_turn _ (change_picture state target paint) state (blitted (change_picture state target paint) paint targets) (painted state target paint)

blit_same : (state : GroupModel) (context : Context) (read : Option Picture) (corners : Corners) → SameFences (blit state context read corners) state
blit_same state context None corners = itself state
blit_same state context (Some read) corners = blitted state _ (drawn_attachments (draw_framebuffer context))

chosen : (b : Bool) (one state : GroupModel) → SameFences one state → SameFences (if b then one else state) state
chosen true one state h = h
chosen false one state h = itself state

read_same : (state : GroupModel) (context : Context) (to : PixelDestination) (read : Option Picture) (pixels : PixelFormat) (kind : PixelType) (x y : ℤ) (width height : ℕ) → SameFences (read_into state context to read pixels kind x y width height) state
read_same state context destination.Client read pixels kind x y width height = itself state
read_same state context (destination.Offset at) None pixels kind x y width height = itself state
read_same state context (destination.Offset at) (Some read) pixels kind x y width height = stored state context.pixel_pack _

contents_same : (state : GroupModel) (context : Context) (asked : Call) → SameFences (gl_contents state context asked) state
contents_same state context (call.Delete kinds.Buffer name) = stored state _ _
contents_same state context (call.Delete kinds.Texture name) = itself state
contents_same state context (call.Delete kinds.Renderbuffer name) = itself state
contents_same state context (call.Delete kinds.Framebuffer name) = itself state
contents_same state context (call.BufferData target size usage payload) = stored state _ _
contents_same state context (call.BufferSubData target offset payload) = stored state _ _
contents_same state context (call.CopyBufferSubData from to read write size) = stored state _ _
contents_same state context (call.MapBufferRange target offset len access) = stored state _ _
contents_same state context (call.FlushMappedBufferRange target offset len) = stored state _ _
contents_same state context (call.UnmapBuffer target) = stored state _ _
contents_same state context (call.MapWrite target offset payload) = stored state _ _
contents_same state context (call.TexSubImage x y width height pixels kind from) = painted state _ _
contents_same state context (call.CopyTexSubImage x y from_x from_y width height) = copied state _ _ (picture_of state (read_attachment (read_framebuffer context)))
contents_same state context (call.ClearUnsigned buffer r g b a) = painted state _ _
contents_same state context (call.ClearSigned buffer r g b a) = painted state _ _
contents_same state context (call.Blit sx0 sy0 sx1 sy1 dx0 dy0 dx1 dy1 mask filter) =
    let corners : Corners = record { sx0 = sx0; sy0 = sy0; sx1 = sx1; sy1 = sy1; dx0 = dx0; dy0 = dy0; dx1 = dx1; dy1 = dy1 } in
    let read = picture_of state (read_attachment (read_framebuffer context)) in
    chosen (is_color_mask mask) (blit state context read corners) state (blit_same state context read corners)
contents_same state context (call.Invalidate target buffer) =
    let f = framebuffer_of context (framebuffer_name context target) in
    let point = option_map_or (λ f. option_map_or (point_of f) (drawn_point buffer) Empty) f Empty in
    chosen (is_complete (status_of state.group f)) (change_picture state point (λ p. undefined_cells (content_bytes p.info))) state
    (painted state point (λ p. undefined_cells (content_bytes p.info)))
contents_same state context (call.ReadPixels x y width height pixels kind to) =
    read_same state context to (picture_of state (read_attachment (read_framebuffer context))) pixels kind x y (unsigned_abs width) (unsigned_abs height)
contents_same state context _ = itself state

storage_same : (state : GroupModel) (context : Context) (asked : Call) → SameFences (gl_storage state context asked) state
storage_same state context (call.TexStorage levels format width height) = celled state _ _
storage_same state context (call.RenderbufferStorage format width height) = celled state _ _
storage_same state context _ = itself state

written_same : (state : GroupModel) (thread : ℕ) (asked : Call) → SameFences (in_context gl_contents state thread asked) state
written_same state thread asked = by_context (current_context state.group thread)
  where
    by_context : (o : Option Context) → SameFences (option_map_or (λ context. gl_contents state context asked) o state) state
    by_context None = itself state
    by_context (Some context) = contents_same state context asked

grown_same : (state : GroupModel) (thread : ℕ) (asked : Call) → SameFences (in_context gl_storage state thread asked) state
grown_same state thread asked = by_context (current_context state.group thread)
  where
    by_context : (o : Option Context) → SameFences (option_map_or (λ context. gl_storage state context asked) o state) state
    by_context None = itself state
    by_context (Some context) = storage_same state context asked

-- What a call does to syncs and births

fence_keys : (state : GroupModel) (thread : ℕ) (asked : Call) (place : ℕ) → keys_of (fence_effect state thread asked place).fences ≡ sync_keys asked (keys_of state.fences)
fence_keys state thread (call.CreateContext number) place = refl
fence_keys state thread (call.CreateSync number) place = refl
fence_keys state thread (call.DestroySync number) place = refl
fence_keys state thread (call.FenceSync number condition flags) place = keys-with_entry number (new_fence state thread place) state.fences
fence_keys state thread (call.DeleteSync number) place = keys-without number state.fences
fence_keys state thread call.Finish place = keys-each_value _ state.fences
fence_keys state thread _ place = refl

egl_fence_keys : (state : GroupModel) (thread : ℕ) (asked : Call) (place : ℕ) → keys_of (fence_effect state thread asked place).egl_fences ≡ egl_sync_keys asked (keys_of state.egl_fences)
egl_fence_keys state thread (call.CreateContext number) place = refl
egl_fence_keys state thread (call.CreateSync number) place = keys-with_entry number (new_fence state thread place) state.egl_fences
egl_fence_keys state thread (call.DestroySync number) place = keys-without number state.egl_fences
egl_fence_keys state thread (call.FenceSync number condition flags) place = refl
egl_fence_keys state thread (call.DeleteSync number) place = refl
egl_fence_keys state thread call.Finish place = keys-each_value _ state.egl_fences
egl_fence_keys state thread _ place = refl

birth_keys : (state : GroupModel) (thread : ℕ) (asked : Call) (place n : ℕ) → has n (fence_effect state thread asked place).births ≡ is_context asked n (has n state.births)
birth_keys state thread (call.CreateContext number) place n = has-new number n place state.births
birth_keys state thread (call.CreateSync number) place n = refl
birth_keys state thread (call.DestroySync number) place n = refl
birth_keys state thread (call.FenceSync number condition flags) place n = refl
birth_keys state thread (call.DeleteSync number) place n = refl
birth_keys state thread call.Finish place n = refl
birth_keys state thread _ place n = refl

-- places below a place

abbrev FenceBelow : ℕ → Fence → Type 0
FenceBelow place f = f.place < place

abbrev Below : ℕ → ℕ → Type 0
Below place birth = birth < place

next : (place : ℕ) → place < place + 1
next place = omega arith

less : (n place : ℕ) → n < place → n < place + 1
less n place h = omega arith

later : (place : ℕ) (fs : List Fence) → All (FenceBelow place) fs → All (FenceBelow (place + 1)) fs
later place fs all k d below = less _ place (all k d below)

later_birth : (place : ℕ) (births : List ℕ) → All (Below place) births → All (Below (place + 1)) births
later_birth place births all k d below = less _ place (all k d below)

fences_below : (state : GroupModel) (thread : ℕ) (asked : Call) (place : ℕ) → All (FenceBelow place) (values_of state.fences) → All (FenceBelow (place + 1)) (values_of (fence_effect state thread asked place).fences)
fences_below state thread (call.CreateContext number) place all = later place (values_of state.fences) all
fences_below state thread (call.CreateSync number) place all = later place (values_of state.fences) all
fences_below state thread (call.DestroySync number) place all = later place (values_of state.fences) all
fences_below state thread (call.FenceSync number condition flags) place all =
    All-values-insert_entry nat_cmp number (new_fence state thread place) (FenceBelow (place + 1)) state.fences (later place (values_of state.fences) all) (next place)
fences_below state thread (call.DeleteSync number) place all =
    All-map-remove_entry (is_at (nat_cmp number)) (λ e. e.1) (FenceBelow (place + 1)) state.fences (later place (values_of state.fences) all)
fences_below state thread call.Finish place all = all-each_value (FenceBelow place) (FenceBelow (place + 1)) _ (λ f h. less f.place place h) state.fences all
fences_below state thread _ place all = later place (values_of state.fences) all

egl_fences_below : (state : GroupModel) (thread : ℕ) (asked : Call) (place : ℕ) → All (FenceBelow place) (values_of state.egl_fences) → All (FenceBelow (place + 1)) (values_of (fence_effect state thread asked place).egl_fences)
egl_fences_below state thread (call.CreateContext number) place all = later place (values_of state.egl_fences) all
egl_fences_below state thread (call.CreateSync number) place all =
    All-values-insert_entry nat_cmp number (new_fence state thread place) (FenceBelow (place + 1)) state.egl_fences (later place (values_of state.egl_fences) all) (next place)
egl_fences_below state thread (call.DestroySync number) place all =
    All-map-remove_entry (is_at (nat_cmp number)) (λ e. e.1) (FenceBelow (place + 1)) state.egl_fences (later place (values_of state.egl_fences) all)
egl_fences_below state thread (call.FenceSync number condition flags) place all = later place (values_of state.egl_fences) all
egl_fences_below state thread (call.DeleteSync number) place all = later place (values_of state.egl_fences) all
egl_fences_below state thread call.Finish place all = all-each_value (FenceBelow place) (FenceBelow (place + 1)) _ (λ f h. less f.place place h) state.egl_fences all
egl_fences_below state thread _ place all = later place (values_of state.egl_fences) all

births_below : (state : GroupModel) (thread : ℕ) (asked : Call) (place : ℕ) → All (Below place) (values_of state.births) → All (Below (place + 1)) (values_of (fence_effect state thread asked place).births)
births_below state thread (call.CreateContext number) place all =
    All-values-insert_entry nat_cmp number place (Below (place + 1)) state.births (later_birth place (values_of state.births) all) (next place)
births_below state thread (call.CreateSync number) place all = later_birth place (values_of state.births) all
births_below state thread (call.DestroySync number) place all = later_birth place (values_of state.births) all
births_below state thread (call.FenceSync number condition flags) place all = later_birth place (values_of state.births) all
births_below state thread (call.DeleteSync number) place all = later_birth place (values_of state.births) all
births_below state thread call.Finish place all = later_birth place (values_of state.births) all
births_below state thread _ place all = later_birth place (values_of state.births) all

-- the state before an accepted call's group is put in, and the one that is then cut down to what exists
abbrev moved_by : GroupModel → ℕ → Call → ℕ → GroupModel
moved_by state thread asked place = fence_effect (in_context gl_contents state thread asked) thread asked place

abbrev grown_by : GroupModel → ℕ → Call → ℕ → GroupModel
grown_by state thread asked place = in_context gl_storage (record (moved_by state thread asked place) { group = group_effect state.group thread asked }) thread asked

moved_same : (state : GroupModel) (thread : ℕ) (asked : Call) (place : ℕ) → SameFences (grown_by state thread asked place) (moved_by state thread asked place)
moved_same state thread asked place =
    let h = grown_same (record (moved_by state thread asked place) { group = group_effect state.group thread asked }) thread asked in
    record { fences = h.fences; egl_fences = h.egl_fences; births = h.births }

pub effect-syncs : (state : GroupModel) (thread : ℕ) (asked : Call) (place : ℕ) → HasSyncs state place → refusal state.group thread asked ≡ None → HasSyncs (effect state thread asked place) (place + 1)
effect-syncs state thread asked place holds accepted = record {
  fences =
      ap keys_of same.fences
      ∙ fence_keys wrote thread asked place
      ∙ ap (sync_keys asked) (ap keys_of before.fences ∙ holds.fences)
      ∙ sym (group_syncs state.group thread asked accepted)
      ∙ sym (ap (λ g. keys_of g.syncs) regroup);
  egl_fences =
      ap keys_of same.egl_fences
      ∙ egl_fence_keys wrote thread asked place
      ∙ ap (egl_sync_keys asked) (ap keys_of before.egl_fences ∙ holds.egl_fences)
      ∙ sym (group_egl_syncs state.group thread asked)
      ∙ sym (ap (λ g. keys_of g.egl_syncs) regroup);
  births = λ n.
      has-only n (grown_by state thread asked place).births (grown_by state thread asked place).group.contexts
      (λ there.
      ap (has n) same.births
      ∙ birth_keys wrote thread asked place n
      ∙ ap (is_context asked n) (ap (has n) before.births ∙ holds.births n)
      ∙ contexts_after state.group thread asked n (sym (ap (λ g. has n g.contexts) regroup) ∙ there));
  fence_places = moved_fences same.fences (fences_below wrote thread asked place (moved_fences before.fences holds.fence_places));
  egl_fence_places = moved_fences same.egl_fences (egl_fences_below wrote thread asked place (moved_fences before.egl_fences holds.egl_fence_places));
  birth_places =
      all-only (Below (place + 1)) _ (grown_by state thread asked place).births
      (moved_births same.births (births_below wrote thread asked place (moved_births before.births holds.birth_places)));
}
  where
    wrote : GroupModel
    wrote = in_context gl_contents state thread asked

    before : SameFences wrote state
    before = written_same state thread asked

    same : SameFences (grown_by state thread asked place) (moved_by state thread asked place)
    same = moved_same state thread asked place

    regroup : (effect state thread asked place).group ≡ group_effect state.group thread asked
    regroup = effect-group state thread asked place

    moved_fences : {p : ℕ} {one two : Entries Fence} → one ≡ two → All (FenceBelow p) (values_of two) → All (FenceBelow p) (values_of one)
    moved_fences {p} is all = subst (λ t. All (FenceBelow p) (values_of t)) (sym is) all

    moved_births : {p : ℕ} {one two : Entries ℕ} → one ≡ two → All (Below p) (values_of two) → All (Below p) (values_of one)
    moved_births {p} is all = subst (λ t. All (Below p) (values_of t)) (sym is) all

-- What a wait's answer tells

signalled : (state : GroupModel) (context until place : ℕ) → HasSyncs state place → HasSyncs (signal_until context until state) place
signalled state context until place holds = record {
  fences = keys-each_value _ state.fences ∙ holds.fences;
  egl_fences = keys-each_value _ state.egl_fences ∙ holds.egl_fences;
  births = holds.births;
  fence_places = all-each_value (FenceBelow place) (FenceBelow place) _ (λ f h. h) state.fences holds.fence_places;
  egl_fence_places = all-each_value (FenceBelow place) (FenceBelow place) _ (λ f h. h) state.egl_fences holds.egl_fence_places;
  birth_places = holds.birth_places;
}

signal_fence-syncs : (fence : Option Fence) (state : GroupModel) (place : ℕ) → HasSyncs state place → HasSyncs (signal_fence fence state) place
signal_fence-syncs None state place holds = holds
signal_fence-syncs (Some f) state place holds = signalled state f.context f.place place holds

told_by : (b : Bool) (fence : Option Fence) (state : GroupModel) (place : ℕ) → HasSyncs state place → HasSyncs (if b then signal_fence fence state else state) place
told_by true fence state place holds = signal_fence-syncs fence state place holds
told_by false fence state place holds = holds

told-syncs : (state : GroupModel) (asked : Call) (answer : Reply) (place : ℕ) → HasSyncs state place → HasSyncs (told state asked answer) place
told-syncs state (call.ClientWaitSync number flags timeout) answer place holds = told_by (says_signalled answer) (entry number state.fences) state place holds
told-syncs state (call.EglClientWaitSync number flush timeout) answer place holds = told_by (says_signalled answer) (entry number state.egl_fences) state place holds
told-syncs state _ answer place holds = holds

-- An entry, and a history

refused-syncs : (state : GroupModel) (thread : ℕ) (answer : Reply) (place : ℕ) → HasSyncs state place → HasSyncs (refused state thread answer) (place + 1)
refused-syncs state thread answer place holds = record {
  fences = holds.fences ∙ sym (ap keys_of (refused_syncs state.group thread answer));
  egl_fences = holds.egl_fences ∙ sym (ap keys_of (refused_egl_syncs state.group thread answer));
  births = λ n. holds.births n ∙ sym (refused_contexts state.group thread answer n);
  fence_places = later place (values_of state.fences) holds.fence_places;
  egl_fence_places = later place (values_of state.egl_fences) holds.egl_fence_places;
  birth_places = later_birth place (values_of state.births) holds.birth_places;
}

pub after_entry-syncs : (state : GroupModel) (e : Entry) (place : ℕ) → HasSyncs state place → HasSyncs (after_entry state e place) (place + 1)
after_entry-syncs state e place holds = by_refusal (refusal state.group e.thread e.call) refl
  where
    by_refusal : (o : Option Reply) → refusal state.group e.thread e.call ≡ o → HasSyncs (option_map_or (λ answer. refused state e.thread answer) o (told (effect state e.thread e.call place) e.call e.reply)) (place + 1)
    by_refusal None is = told-syncs (effect state e.thread e.call place) e.call e.reply (place + 1) (effect-syncs state e.thread e.call place holds is)
    by_refusal (Some answer) is = refused-syncs state e.thread answer place holds

opening-syncs : (threads : List ℕ) → HasSyncs (opening threads) 0
opening-syncs threads = record {
  fences = refl;
  egl_fences = refl;
  births = λ n. refl;
  fence_places = All-nil (FenceBelow 0);
  egl_fence_places = All-nil (FenceBelow 0);
  birth_places = All-nil (Below 0);
}

state_after-syncs : (state : GroupModel) (place : ℕ) (es : List Entry) → HasSyncs state place → HasSyncs (state_after state place es) (place + length es)
state_after-syncs state place [] holds = subst (HasSyncs state) (at_end place) holds
  where
    at_end : (place : ℕ) → place ≡ place + 0
    at_end place = omega arith
state_after-syncs state place (e ∷ es) holds =
    subst (HasSyncs (state_after (after_entry state e place) (place + 1) es)) (one_more place (length es))
    (state_after-syncs (after_entry state e place) (place + 1) es (after_entry-syncs state e place holds))
  where
    one_more : (place n : ℕ) → (place + 1) + n ≡ place + suc n
    one_more place n = omega arith

pub reached-syncs : (threads : List ℕ) (es : List Entry) → HasSyncs (state_after (opening threads) 0 es) (length es)
reached-syncs threads es = subst (HasSyncs (state_after (opening threads) 0 es)) (from_zero (length es)) (state_after-syncs (opening threads) 0 es (opening-syncs threads))
  where
    from_zero : (n : ℕ) → 0 + n ≡ n
    from_zero n = omega arith

-- Calls that leave syncs and births alone

quiet_effect : (state : GroupModel) (thread : ℕ) (asked : Call) (place : ℕ) → changes_syncs asked ≡ false → fence_effect state thread asked place ≡ state
quiet_effect state thread (call.CreateContext number) place quiet = let no : ⊥ = cc in absurd no
quiet_effect state thread (call.CreateSync number) place quiet = let no : ⊥ = cc in absurd no
quiet_effect state thread (call.DestroySync number) place quiet = let no : ⊥ = cc in absurd no
quiet_effect state thread (call.FenceSync number condition flags) place quiet = let no : ⊥ = cc in absurd no
quiet_effect state thread (call.DeleteSync number) place quiet = let no : ⊥ = cc in absurd no
quiet_effect state thread call.Finish place quiet = let no : ⊥ = cc in absurd no
quiet_effect state thread _ place quiet = refl

quiet_same : (state : GroupModel) (thread : ℕ) (asked : Call) (place : ℕ) → changes_syncs asked ≡ false → SameFences (grown_by state thread asked place) state
quiet_same state thread asked place quiet =
    in_turn (grown_by state thread asked place) (in_context gl_contents state thread asked) state
    (subst (SameFences (grown_by state thread asked place)) (quiet_effect (in_context gl_contents state thread asked) thread asked place quiet) (moved_same state thread asked place))
    (written_same state thread asked)

pub quiet_fences : (state : GroupModel) (thread : ℕ) (asked : Call) (place : ℕ) → changes_syncs asked ≡ false → (effect state thread asked place).fences ≡ state.fences
quiet_fences state thread asked place quiet = (quiet_same state thread asked place quiet).fences

pub quiet_egl_fences : (state : GroupModel) (thread : ℕ) (asked : Call) (place : ℕ) → changes_syncs asked ≡ false → (effect state thread asked place).egl_fences ≡ state.egl_fences
quiet_egl_fences state thread asked place quiet = (quiet_same state thread asked place quiet).egl_fences

pub quiet_births : (state : GroupModel) (thread : ℕ) (asked : Call) (place since : ℕ) → HasSyncs state since → changes_syncs asked ≡ false → (effect state thread asked place).births ≡ state.births
quiet_births state thread asked place since holds quiet =
    ap (only (λ n. has n (grown_by state thread asked place).group.contexts)) (quiet_same state thread asked place quiet).births
    ∙ only-all (λ n. has n (grown_by state thread asked place).group.contexts) state.births
    (λ n there.
    ap (λ g. has n g.contexts) (effect-group state thread asked place)
    ∙ contexts_stay state.group thread asked n quiet
    ∙ sym (holds.births n)
    ∙ there)
