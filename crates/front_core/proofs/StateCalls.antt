-- Calls that write no cells keep what the front has, but for the objects that stop existing.
use Rattle.std.proofs.Common.{◌≡◌, ◌≢◌, ℕ, ℤ, ◌==◌, Bool, true, false, cond, Option, Some, None, List, [], ◌∷◌, length, arith, refl, sym, ◌∙◌, ap, is_some, if◌then◌else◌}
use Rattle.std.specs.Prelude.{unsigned_abs}
use Rattle.std.specs.Option.{option_map, option_map_or, option_and_then}
use Rattle.std.proofs.lemmas.Bool.{false≢true}
use Rattle.cells.specs.Contents.{UNDEFINED, cell_at}
use Rattle.vk_types.specs.declared.handles.Kind.{Kind}
use Rattle.gl_calls.specs.declared.call.Call.{Call}
use Rattle.gl_calls.specs.declared.call.Call.TheVariants as call
use Rattle.gl_calls.specs.declared.reply.Reply.{Reply}
use Rattle.gl_calls.specs.declared.reply.Reply.TheVariants as reply
use Rattle.gl_calls.specs.Words.{limit_of}
use Rattle.gl_model.specs.Legal.{generated_names}
use Rattle.gl_state.specs.Applied.{reply_of}
use Rattle.gl_calls.specs.declared.words.AccessWord.{AccessWord}
use Rattle.gl_calls.specs.declared.words.BufferTarget.{BufferTarget}
use Rattle.gl_calls.specs.declared.words.BindTarget.TheVariants as targets
use Rattle.gl_calls.specs.declared.words.ObjectKind.TheVariants as kinds
use Rattle.tables.specs.Table.{entry, has}
use Rattle.gl_model.specs.declared.state.Context.{Context}
use Rattle.gl_model.specs.declared.state.GroupState.{GroupState}
use Rattle.gl_model.specs.declared.state.Attachment.{Attachment}
use Rattle.gl_model.specs.declared.state.Attachment.TheVariants as attachment
use Rattle.gl_model.specs.Storage.{image_bytes}
use Rattle.gl_model.specs.Bindings.{current_context}
use Rattle.gl_model.specs.GroupEffect.{group_effect, swept}
use Rattle.gl_model.specs.GroupModel.{GroupModel}
use Rattle.gl_model.specs.Effect.{effect}
use Rattle.gl_model.specs.Reached.{changed_buffer, changed_images, texture_of, renderbuffer_of}
use Rattle.gl_model.specs.Refusal.{refusal, gl_refusal}
use Rattle.gl_model.specs.Sizes.{HasSizes, HasImageSizes}
use Rattle.back_core.specs.Link.{Link}
use Rattle.front_model.specs.declared.object.Object.{Object}
use Rattle.front_model.specs.declared.object.Object.TheVariants.{Buffer, Texture, Renderbuffer}
use Rattle.front_model.specs.Face.{Face, Outline, outline_at, view}
use Rattle.front_model.specs.Stands.{IsQuiet}
use Rattle.front_model.specs.Wanted.{buffer_kind, image_kind, kind_wanted, wanted, AgreeWith, exists, IsMapped, IsAccepted, HasFreeNumbers}
use Rattle.front_model.specs.Calls.{makes_storage}
use Rattle.front_moves.specs.Core.{CoreParts, face}
use Rattle.front_moves.specs.Ending.{is_ended, HasEnded}
use Rattle.front_core.specs.Share.{is_of_state}

pub makes_none : (asked : Call) → is_of_state asked ≡ true → makes_storage asked ≡ false
makes_none (call.BufferData target size usage payload) which = absurd (false≢true which)
makes_none (call.TexStorage levels format width height) which = absurd (false≢true which)
makes_none (call.RenderbufferStorage format width height) which = absurd (false≢true which)
makes_none asked which = refl

pub maps_none : (asked : Call) → is_of_state asked ≡ true → (target : BufferTarget) (offset len : ℤ) (access : AccessWord) → asked ≢ call.MapBufferRange target offset len access
maps_none asked which target offset len access same = false≢true (sym (ap is_of_state same) ∙ which)

-- What is answered

some_reply : (o : Option Context) (answer : Context → Reply) → o ≢ None → option_and_then (λ context. Some (answer context)) o ≢ None
some_reply None answer there none = there refl
some_reply (Some context) answer there none = let bad : ⊥ = cc in bad

has_context : (group : GroupState) (o : Option Context) (asked : Call) → gl_refusal group o asked ≡ None → o ≢ None
has_context group None asked accepted none = let bad : ⊥ = cc in bad
has_context group (Some context) asked accepted none = let bad : ⊥ = cc in bad

-- a call that writes no cells has a reply
pub has_reply : (group : GroupState) (thread : ℕ) (asked : Call) → is_of_state asked ≡ true → refusal group thread asked ≡ None → reply_of group thread asked ≢ None
has_reply group thread (call.CreateContext number) which accepted none = let bad : ⊥ = cc in bad
has_reply group thread (call.DestroyContext number) which accepted none = let bad : ⊥ = cc in bad
has_reply group thread (call.MakeCurrent number) which accepted none = let bad : ⊥ = cc in bad
has_reply group thread call.EglGetError which accepted none = let bad : ⊥ = cc in bad
has_reply group thread call.GetError which accepted none = some_reply (current_context group thread) (λ context. reply.GlFlag context.error) (has_context group (current_context group thread) call.GetError accepted) none
has_reply group thread (call.GetInteger limit) which accepted none = some_reply (current_context group thread) (λ context. reply.Limit (limit_of limit)) (has_context group (current_context group thread) (call.GetInteger limit) accepted) none
has_reply group thread (call.Gen kinds.Buffer count) which accepted none =
    some_reply (current_context group thread) (λ context. reply.Names (generated_names group context kinds.Buffer (unsigned_abs count))) (has_context group (current_context group thread) (call.Gen kinds.Buffer count) accepted) none
has_reply group thread (call.Delete kinds.Buffer name) which accepted none = some_reply (current_context group thread) (λ context. reply.Done) (has_context group (current_context group thread) (call.Delete kinds.Buffer name) accepted) none
has_reply group thread (call.Bind (targets.Buffer target) name) which accepted none = some_reply (current_context group thread) (λ context. reply.Done) (has_context group (current_context group thread) (call.Bind (targets.Buffer target) name) accepted) none
has_reply group thread (call.FlushMappedBufferRange target offset len) which accepted none = some_reply (current_context group thread) (λ context. reply.Done) (has_context group (current_context group thread) (call.FlushMappedBufferRange target offset len) accepted) none
has_reply group thread (call.UnmapBuffer target) which accepted none = some_reply (current_context group thread) (λ context. reply.True) (has_context group (current_context group thread) (call.UnmapBuffer target) accepted) none
has_reply group thread (call.PixelStore parameter value) which accepted none = some_reply (current_context group thread) (λ context. reply.Done) (has_context group (current_context group thread) (call.PixelStore parameter value) accepted) none
has_reply group thread (call.CreateSync number) which accepted none = let bad : ⊥ = cc in bad
has_reply group thread (call.DestroySync number) which accepted none = let bad : ⊥ = cc in bad
has_reply group thread (call.FenceSync number condition flags) which accepted none = some_reply (current_context group thread) (λ context. reply.Done) (has_context group (current_context group thread) (call.FenceSync number condition flags) accepted) none
has_reply group thread (call.WaitSync number flags end) which accepted none = some_reply (current_context group thread) (λ context. reply.Done) (has_context group (current_context group thread) (call.WaitSync number flags end) accepted) none
has_reply group thread (call.DeleteSync number) which accepted none = some_reply (current_context group thread) (λ context. reply.Done) (has_context group (current_context group thread) (call.DeleteSync number) accepted) none
has_reply group thread call.Flush which accepted none = some_reply (current_context group thread) (λ context. reply.Done) (has_context group (current_context group thread) call.Flush accepted) none
has_reply group thread call.Finish which accepted none = some_reply (current_context group thread) (λ context. reply.Done) (has_context group (current_context group thread) call.Finish accepted) none
has_reply group thread asked which accepted none = absurd (false≢true which)

-- What is to be seen

-- what each call of OpenGL ES is known to have
accepted_in : (state : GroupModel) (thread : ℕ) (asked : Call) → gl_refusal state.group (current_context state.group thread) asked ≡ None → refusal state.group thread asked ≡ None →
    HasSizes state → swept state.group ≡ state.group → (context : Context) × IsAccepted state thread asked context
accepted_in state thread asked in_context accepted sizes referred = by_context (current_context state.group thread) refl in_context
  where
    by_context : (o : Option Context) → current_context state.group thread ≡ o → gl_refusal state.group o asked ≡ None → (context : Context) × IsAccepted state thread asked context
    by_context None is none = let bad : ⊥ = cc in absurd bad
    by_context (Some context) is none = (context, record { current = is; accepted = accepted; sizes = sizes; referred = referred })

abbrev pub no_number : Option ℕ
no_number = None

abbrev pub no_images : List Attachment
no_images = []

pub none_either : (o : Option Context) → option_map_or (λ (c : Context). no_number) o no_number ≡ no_number
none_either None = refl
none_either (Some c) = refl

pub nil_either : (o : Option Context) → option_map_or (λ (c : Context). no_images) o no_images ≡ no_images
nil_either None = refl
nil_either (Some c) = refl

-- what agrees with the state before agrees with the one after
abbrev Keeps : GroupModel → ℕ → ℕ → Call → (Object → ℕ → ℕ) → Type 0
Keeps state thread place asked seen = AgreeWith seen (wanted state) → AgreeWith seen (wanted (effect state thread asked place))

abbrev pub KeepsFlush : Type 0
KeepsFlush = (state : GroupModel) (thread place : ℕ) (context : Context) (target : BufferTarget) (offset len : ℤ) (seen : Object → ℕ → ℕ) → IsAccepted state thread (call.FlushMappedBufferRange target offset len) context → Keeps state thread place (call.FlushMappedBufferRange target offset len) seen

abbrev pub KeepsUnmap : Type 0
KeepsUnmap = (state : GroupModel) (thread place : ℕ) (context : Context) (target : BufferTarget) (seen : Object → ℕ → ℕ) → IsAccepted state thread (call.UnmapBuffer target) context → Keeps state thread place (call.UnmapBuffer target) seen

abbrev pub KeepsDelete : Type 0
KeepsDelete = (state : GroupModel) (thread place name : ℕ) (context : Context) (seen : Object → ℕ → ℕ) → IsAccepted state thread (call.Delete kinds.Buffer name) context → Keeps state thread place (call.Delete kinds.Buffer name) seen

abbrev pub KeepsOthers : Type 0
KeepsOthers = (state : GroupModel) (thread place : ℕ) (asked : Call) (seen : Object → ℕ → ℕ) → changed_buffer state.group thread asked ≡ None → changed_images state.group thread asked ≡ [] → Keeps state thread place asked seen

pub record Keeping : Type 0 where
  pub others : KeepsOthers
  pub flush : KeepsFlush
  pub unmap : KeepsUnmap
  pub delete : KeepsDelete

module _ (laws : Keeping) (state : GroupModel) (thread place : ℕ) (seen : Object → ℕ → ℕ) (sizes : HasSizes state) (referred : swept state.group ≡ state.group) where
  quiet : (asked : Call) → changed_buffer state.group thread asked ≡ None → changed_images state.group thread asked ≡ [] → Keeps state thread place asked seen
  quiet asked = laws.others state thread place asked seen

  pub still_agrees : (asked : Call) → is_of_state asked ≡ true → refusal state.group thread asked ≡ None → Keeps state thread place asked seen
  still_agrees (call.FlushMappedBufferRange target offset len) which accepted =
      let known = accepted_in state thread (call.FlushMappedBufferRange target offset len) accepted accepted sizes referred in
      laws.flush state thread place known.0 target offset len seen known.1
  still_agrees (call.UnmapBuffer target) which accepted =
      let known = accepted_in state thread (call.UnmapBuffer target) accepted accepted sizes referred in
      laws.unmap state thread place known.0 target seen known.1
  still_agrees (call.Delete kinds.Buffer name) which accepted =
      let known = accepted_in state thread (call.Delete kinds.Buffer name) accepted accepted sizes referred in
      laws.delete state thread place name known.0 seen known.1
  still_agrees (call.CreateContext number) which accepted = quiet (call.CreateContext number) (none_either (current_context state.group thread)) (nil_either (current_context state.group thread))
  still_agrees (call.DestroyContext number) which accepted = quiet (call.DestroyContext number) (none_either (current_context state.group thread)) (nil_either (current_context state.group thread))
  still_agrees (call.MakeCurrent number) which accepted = quiet (call.MakeCurrent number) (none_either (current_context state.group thread)) (nil_either (current_context state.group thread))
  still_agrees call.EglGetError which accepted = quiet call.EglGetError (none_either (current_context state.group thread)) (nil_either (current_context state.group thread))
  still_agrees call.GetError which accepted = quiet call.GetError (none_either (current_context state.group thread)) (nil_either (current_context state.group thread))
  still_agrees (call.GetInteger limit) which accepted = quiet (call.GetInteger limit) (none_either (current_context state.group thread)) (nil_either (current_context state.group thread))
  still_agrees (call.Gen kinds.Buffer count) which accepted = quiet (call.Gen kinds.Buffer count) (none_either (current_context state.group thread)) (nil_either (current_context state.group thread))
  still_agrees (call.Bind (targets.Buffer target) name) which accepted = quiet (call.Bind (targets.Buffer target) name) (none_either (current_context state.group thread)) (nil_either (current_context state.group thread))
  still_agrees (call.PixelStore parameter value) which accepted = quiet (call.PixelStore parameter value) (none_either (current_context state.group thread)) (nil_either (current_context state.group thread))
  still_agrees (call.CreateSync number) which accepted = quiet (call.CreateSync number) (none_either (current_context state.group thread)) (nil_either (current_context state.group thread))
  still_agrees (call.DestroySync number) which accepted = quiet (call.DestroySync number) (none_either (current_context state.group thread)) (nil_either (current_context state.group thread))
  still_agrees (call.FenceSync number condition flags) which accepted = quiet (call.FenceSync number condition flags) (none_either (current_context state.group thread)) (nil_either (current_context state.group thread))
  still_agrees (call.WaitSync number flags end) which accepted = quiet (call.WaitSync number flags end) (none_either (current_context state.group thread)) (nil_either (current_context state.group thread))
  still_agrees (call.DeleteSync number) which accepted = quiet (call.DeleteSync number) (none_either (current_context state.group thread)) (nil_either (current_context state.group thread))
  still_agrees call.Flush which accepted = quiet call.Flush (none_either (current_context state.group thread)) (nil_either (current_context state.group thread))
  still_agrees call.Finish which accepted = quiet call.Finish (none_either (current_context state.group thread)) (nil_either (current_context state.group thread))
  still_agrees asked which accepted = absurd (false≢true which)

-- The stores, and what is mapped

abbrev pub KeepsStores : Type 0
KeepsStores = (state : GroupModel) (thread : ℕ) (asked : Call) → HasSizes state → HasFreeNumbers state.group → makes_storage asked ≡ false → (o : Object) →
    kind_wanted (group_effect state.group thread asked) o ≡ (if exists (group_effect state.group thread asked) o then kind_wanted state.group o else None)

abbrev pub KeepsMaps : Type 0
KeepsMaps = (state : GroupModel) (thread : ℕ) (asked : Call) → HasSizes state →
    ((target : BufferTarget) (offset len : ℤ) (access : AccessWord) → asked ≢ call.MapBufferRange target offset len access) → (b : ℕ) →
    IsMapped (group_effect state.group thread asked) b → IsMapped state.group b

-- the kind of an object's store
abbrev kind_of : Option Outline → Option Kind
kind_of o = option_map (λ v. v.kind) o

-- what has no store in a state has no outline
no_kind : (o : Option Outline) → kind_of o ≡ None → o ≡ None
no_kind None none = refl
no_kind (Some v) none = let bad : ⊥ = cc in absurd bad

by_entry : {V K : Type 0} (look : V → Option K) (o : Option V) → is_some o ≡ false → option_and_then look o ≡ None
by_entry look None none = refl
by_entry look (Some v) none = absurd (false≢true (sym none))

-- an object that does not exist is to have no store
no_object : (group : GroupState) (o : Object) → exists group o ≡ false → kind_wanted group o ≡ None
no_object group (Buffer b) absent = by_entry (λ f. buffer_kind f.size) (entry b group.buffers) absent
no_object group (Texture t) absent = ap (option_map image_kind) (by_entry (λ image. image) (entry t group.textures) absent)
no_object group (Renderbuffer r) absent = ap (option_map image_kind) (by_entry (λ image. image) (entry r group.renderbuffers) absent)

no_cells : (cells : List ℕ) (p : ℕ) → length cells ≡ 0 → cell_at cells p ≡ UNDEFINED
no_cells [] p none = refl
no_cells (c ∷ cells) p none = absurd (omega arith)

none_there : {V : Type 0} (o : Option V) → is_some o ≡ false → o ≡ None
none_there None e = refl
none_there (Some v) e = absurd (false≢true (sym e))

-- and nothing is to be seen of it
nothing_wanted : (state : GroupModel) → HasSizes state → HasImageSizes state → (o : Object) → exists state.group o ≡ false → (p : ℕ) → wanted state o p ≡ UNDEFINED
nothing_wanted state sizes images (Buffer b) absent p = ap (λ x. cell_at x.cells p) (sizes.gone b (none_there (entry b state.group.buffers) absent))
nothing_wanted state sizes images (Texture t) absent p =
    no_cells (texture_of state t) p (images.cells (attachment.Texture t) ∙ ap image_bytes (by_entry (λ image. image) (entry t state.group.textures) absent))
nothing_wanted state sizes images (Renderbuffer r) absent p =
    no_cells (renderbuffer_of state r) p (images.cells (attachment.Renderbuffer r) ∙ ap image_bytes (by_entry (λ image. image) (entry r state.group.renderbuffers) absent))

-- the objects that exist no longer were ended
abbrev pub AreGone : GroupState → GroupState → List Object → Type 0
AreGone group after ended = (o : Object) → is_ended ended o ≡ cond (exists after o) false (exists group o)

module _ (c : CoreParts) (g : Face) (s t : Link) (group after : GroupState) (thread : ℕ) (ended : List Object) where
  -- each store is there that the state after is to have
  pub kinds_left : AreGone group after ended → ((o : Object) → kind_wanted after o ≡ (if exists after o then kind_wanted group o else None)) →
      ((o : Object) → option_map (λ v. v.kind) (outline_at (face c) o) ≡ kind_wanted group o) → HasEnded (face c) g s t ended →
      (o : Object) → option_map (λ v. v.kind) (outline_at g o) ≡ kind_wanted after o
  kinds_left ended_is kept kinds has_ended o =
      ap kind_of (has_ended.outlines_are o ∙ ap (λ e. cond e None (outline_at (face c) o)) (ended_is o))
      ∙ by_left (exists after o) (exists group o) refl
      ∙ sym (kept o)
    where
      by_left : (l w : Bool) → exists group o ≡ w → kind_of (cond (cond l false w) None (outline_at (face c) o)) ≡ (if l then kind_wanted group o else None)
      by_left true w was = kinds o
      by_left false true was = refl
      by_left false false was = kinds o ∙ no_object group o was

  -- a mapped buffer is quiet still
  pub maps_left : AreGone group after ended → ((b : ℕ) → IsMapped after b → IsMapped group b) → ((b : ℕ) → IsMapped group b → IsQuiet (face c) s (Buffer b)) →
      HasEnded (face c) g s t ended → (b : ℕ) → IsMapped after b → IsQuiet g t (Buffer b)
  maps_left ended_is kept quiet has_ended b mapped =
      has_ended.still (Buffer b) (ended_is (Buffer b) ∙ ap (λ l. cond l false (has b group.buffers)) (ap is_some mapped.is)) (quiet b (kept b mapped))

  -- what is seen of the objects that are left agrees still, and nothing is to be seen of those that ended
  pub agrees_left : (state : GroupModel) → state.group ≡ after → HasSizes state → HasImageSizes state → AreGone group after ended →
      HasEnded (face c) g s t ended → AgreeWith (view (face c) s) (wanted state) → AgreeWith (view g t) (wanted state)
  agrees_left state is sizes images ended_is has_ended agree o p below = has_ended.view_is o p ∙ by_ended (is_ended ended o) refl
    where
      absent : (l w : Bool) → cond l false w ≡ true → l ≡ false
      absent true w e = absurd (false≢true e)
      absent false w e = refl

      by_ended : (e : Bool) → is_ended ended o ≡ e → cond e UNDEFINED (view (face c) s o p) ≡ wanted state o p
      by_ended false e = agree o p below
      by_ended true e =
          let out : exists after o ≡ false = absent (exists after o) (exists group o) (sym (ended_is o) ∙ e) in
          sym (nothing_wanted state sizes images o (ap (λ x. exists x o) is ∙ out) p)
