-- The stores that the objects are to have after a call.
use Rattle.std.proofs.Common.{◌≡◌, ◌≢◌, ℕ, ℤ, ◌==◌, ◌||◌, Bool, true, false, cond, Option, Some, None, is_some, unsigned_abs, refl, ap, ◌∙◌, subst, arith, if◌then◌else◌}
use Rattle.std.specs.Option.{option_and_then, option_map, option_map_or}
use Rattle.gl_calls.specs.declared.call.Call.{Call}
use Rattle.gl_calls.specs.declared.call.Call.TheVariants as call
use Rattle.gl_calls.specs.declared.payload.Payload.{Payload}
use Rattle.gl_calls.specs.declared.reply.GlError.{GlError}
use Rattle.gl_calls.specs.declared.reply.GlError.TheVariants.{InvalidValue}
use Rattle.gl_calls.specs.declared.reply.Reply.{Reply}
use Rattle.gl_calls.specs.declared.reply.Reply.TheVariants as reply
use Rattle.gl_calls.specs.declared.words.BufferTarget.{BufferTarget}
use Rattle.gl_calls.specs.declared.words.Usage.{Usage}
use Rattle.gl_calls.specs.Egl.{is_egl_call}
use Rattle.tables.specs.Table.{entry, has, with_entry, any_value}
use Rattle.gl_model.specs.declared.objects.BufferFacts.{BufferFacts}
use Rattle.gl_model.specs.declared.objects.ImageInfo.{ImageInfo}
use Rattle.gl_model.specs.declared.state.Attachment.TheVariants as attachments
use Rattle.gl_model.specs.declared.state.Context.{Context}
use Rattle.gl_model.specs.declared.state.GroupState.{GroupState}
use Rattle.gl_model.specs.Bindings.{buffer_binding, current_entry, same_option}
use Rattle.gl_model.specs.GroupEffect.{change_buffer, swept, names_object, binds_buffer, attaches, with_context, gl_change, gl_change_in, group_effect}
use Rattle.gl_model.specs.GroupModel.{GroupModel}
use Rattle.gl_model.specs.Legal.{refused, refused_group, with_gl_error}
use Rattle.gl_model.specs.Sizes.{HasSizes}
use Rattle.front_model.specs.declared.object.Object.{Object}
use Rattle.front_model.specs.declared.object.Object.TheVariants.{Buffer, Texture, Renderbuffer}
use Rattle.front_model.specs.Face.{put_object}
use Rattle.front_model.specs.Wanted.{image_kind, buffer_kind, kind_wanted, exists, HasFreeNumbers, IsAccepted, IsBound}
use Rattle.front_model.specs.Calls.{makes_storage}
use Rattle.front_model.proofs.KindsTables.{said, said-swept, swept_changed}
use Rattle.front_model.proofs.KindsCalls.{buffer_look, image_look, SaysAll, unswept, unswept_says}

-- What refers to an object

abbrev pub refers_buffer : GroupState → ℕ → Bool
refers_buffer group b = names_object group.buffer_names b || any_value (binds_buffer b) group.contexts

abbrev pub refers_texture : GroupState → ℕ → Bool
refers_texture group t = names_object group.texture_names t || any_value (λ c. same_option c.texture (Some t) || attaches (attachments.Texture t) c) group.contexts

abbrev pub refers_renderbuffer : GroupState → ℕ → Bool
refers_renderbuffer group r = names_object group.renderbuffer_names r || any_value (λ c. same_option c.renderbuffer (Some r) || attaches (attachments.Renderbuffer r) c) group.contexts

-- A buffer changed in the current context

-- the entry of the context that is current
current_found : (o : Option (ℕ × Context)) (context : Context) → option_map (λ e. e.1) o ≡ Some context → (P : GroupState → Type 0) (group : GroupState) (asked : Call) → ((number : ℕ) → P (gl_change group number context asked)) → P (gl_change_in group o asked)
current_found None context is P group asked holds = let bad : ⊥ = cc in absurd bad
current_found (Some e) context is P group asked holds =
    let same : context ≡ e.1 = cc in
    subst (λ (c : Context). P (gl_change group e.0 c asked)) same (holds e.0)

-- the group after a call that changes the bound buffer
pub changed_group : {state : GroupModel} {thread : ℕ} {asked : Call} {context : Context} {target : BufferTarget} {b : ℕ} {facts : BufferFacts} (change : BufferFacts → BufferFacts) → IsAccepted state thread asked context → IsBound state.group context target b facts → is_egl_call asked ≡ false → ((number : ℕ) → gl_change state.group number context asked ≡ change_buffer state.group (buffer_binding context target) change) → group_effect state.group thread asked ≡ swept (record state.group { buffers = with_entry b (change facts) state.group.buffers })
changed_group {state} {thread} {asked} {context} {target} {b} {facts} change accepted bound gl changes =
    let group = state.group in
    ap swept (rw gl (current_found (current_entry group thread) context accepted.current (λ g. g ≡ record group { buffers = with_entry b (change facts) group.buffers }) group asked (λ number.
    changes number
    ∙ ap (λ o. change_buffer group o change) bound.bound
    ∙ ap (λ o. record group { buffers = option_map_or (λ f. with_entry b (change f) group.buffers) o group.buffers }) bound.is)))

-- its buffers: the one that is bound is changed, and each other one is as it was
pub changed_entry : {state : GroupModel} {thread : ℕ} {asked : Call} {context : Context} {target : BufferTarget} {b : ℕ} {facts : BufferFacts} (change : BufferFacts → BufferFacts) (c : ℕ) → IsAccepted state thread asked context → IsBound state.group context target b facts → group_effect state.group thread asked ≡ swept (record state.group { buffers = with_entry b (change facts) state.group.buffers }) → entry c (group_effect state.group thread asked).buffers ≡ cond (c == b) (Some (change facts)) (entry c state.group.buffers)
changed_entry {state} {thread} {asked} {context} {target} {b} {facts} change c accepted bound is =
    ap (λ g. entry c g.buffers) is
    ∙ swept_changed (refers_buffer state.group) state.group.buffers b facts (change facts) c (ap (λ g. g.buffers) accepted.referred) bound.is

-- BufferData

data_group : (state : GroupModel) (thread b : ℕ) (context : Context) (facts : BufferFacts) (target : BufferTarget) (size : ℤ) (usage : Usage) (payload : Option Payload) → IsAccepted state thread (call.BufferData target size usage payload) context → IsBound state.group context target b facts → group_effect state.group thread (call.BufferData target size usage payload) ≡ swept (record state.group { buffers = with_entry b (record { size = unsigned_abs size; map = None }) state.group.buffers })
data_group state thread b context facts target size usage payload accepted bound =
    changed_group (λ f. record { size = unsigned_abs size; map = None }) accepted bound refl (λ number. refl)

pub data_entry : (state : GroupModel) (thread b : ℕ) (context : Context) (facts : BufferFacts) (target : BufferTarget) (size : ℤ) (usage : Usage) (payload : Option Payload) → IsAccepted state thread (call.BufferData target size usage payload) context → IsBound state.group context target b facts → (c : ℕ) → entry c (group_effect state.group thread (call.BufferData target size usage payload)).buffers ≡ cond (c == b) (Some (record { size = unsigned_abs size; map = None })) (entry c state.group.buffers)
data_entry state thread b context facts target size usage payload accepted bound c =
    changed_entry (λ f. record { size = unsigned_abs size; map = None }) c accepted bound (data_group state thread b context facts target size usage payload accepted bound)

pub data_kinds : (state : GroupModel) (thread b : ℕ) (context : Context) (facts : BufferFacts) (target : BufferTarget) (size : ℤ) (usage : Usage) (payload : Option Payload) → IsAccepted state thread (call.BufferData target size usage payload) context → IsBound state.group context target b facts → (o : Object) → kind_wanted (group_effect state.group thread (call.BufferData target size usage payload)) o ≡ put_object (kind_wanted state.group) (Buffer b) (buffer_kind (unsigned_abs size)) o
unfolding put_object
data_kinds state thread b context facts target size usage payload accepted bound (Buffer c) =
    ap (option_and_then buffer_look) (data_entry state thread b context facts target size usage payload accepted bound c) ∙ by_key (c == b)
  where
    by_key : (t : Bool) → option_and_then buffer_look (cond t (Some (record { size = unsigned_abs size; map = None })) (entry c state.group.buffers)) ≡ cond t (buffer_kind (unsigned_abs size)) (kind_wanted state.group (Buffer c))
    by_key true = refl
    by_key false = refl
data_kinds state thread b context facts target size usage payload accepted bound (Texture t) =
    ap (λ g. option_map image_kind (said image_look g.textures t)) (data_group state thread b context facts target size usage payload accepted bound)
    ∙ ap (λ g. option_map image_kind (said image_look g.textures t)) accepted.referred
data_kinds state thread b context facts target size usage payload accepted bound (Renderbuffer r) =
    ap (λ g. option_map image_kind (said image_look g.renderbuffers r)) (data_group state thread b context facts target size usage payload accepted bound)
    ∙ ap (λ g. option_map image_kind (said image_look g.renderbuffers r)) accepted.referred

-- Calls that make no store

map_chosen : (t : Bool) (o : Option ImageInfo) → option_map image_kind (if t then o else None) ≡ (if t then option_map image_kind o else None)
map_chosen true o = refl
map_chosen false o = refl

pub other_kinds : (state : GroupModel) (thread : ℕ) (asked : Call) → HasSizes state → HasFreeNumbers state.group → makes_storage asked ≡ false → (o : Object) → kind_wanted (group_effect state.group thread asked) o ≡ (if exists (group_effect state.group thread asked) o then kind_wanted state.group o else None)
other_kinds state thread asked sizes numbers makes o = by_object o
  where
    says : SaysAll (unswept state.group thread asked) state.group
    says = unswept_says state.group thread asked (sizes.unmade state.group.buffer_names.made (omega arith)) numbers makes

    by_object : (o : Object) → kind_wanted (group_effect state.group thread asked) o ≡ (if exists (group_effect state.group thread asked) o then kind_wanted state.group o else None)
    by_object (Buffer b) = said-swept buffer_look (refers_buffer (unswept state.group thread asked)) (unswept state.group thread asked).buffers state.group.buffers b says.buffers
    by_object (Texture t) =
        ap (option_map image_kind) (said-swept image_look (refers_texture (unswept state.group thread asked)) (unswept state.group thread asked).textures state.group.textures t says.textures)
        ∙ map_chosen (has t (group_effect state.group thread asked).textures) (said image_look state.group.textures t)
    by_object (Renderbuffer r) =
        ap (option_map image_kind) (said-swept image_look (refers_renderbuffer (unswept state.group thread asked)) (unswept state.group thread asked).renderbuffers state.group.renderbuffers r says.renderbuffers)
        ∙ map_chosen (has r (group_effect state.group thread asked).renderbuffers) (said image_look state.group.renderbuffers r)

-- an object that is to have a store exists
pub there_with_store : (group : GroupState) (o : Object) → kind_wanted group o ≢ None → exists group o ≡ true
there_with_store group (Buffer b) some = by_entry (entry b group.buffers) some
  where
    by_entry : (o : Option BufferFacts) → option_and_then buffer_look o ≢ None → is_some o ≡ true
    by_entry None some = absurd (some refl)
    by_entry (Some f) some = refl
there_with_store group (Texture t) some = image_there (entry t group.textures) some
  where
    image_there : (o : Option (Option ImageInfo)) → option_map image_kind (option_and_then image_look o) ≢ None → is_some o ≡ true
    image_there None some = absurd (some refl)
    image_there (Some f) some = refl
there_with_store group (Renderbuffer r) some = image_there (entry r group.renderbuffers) some
  where
    image_there : (o : Option (Option ImageInfo)) → option_map image_kind (option_and_then image_look o) ≢ None → is_some o ≡ true
    image_there None some = absurd (some refl)
    image_there (Some f) some = refl

-- Refused calls

pub record SameTables (one two : GroupState) : Type 0 where
  pub buffers : one.buffers ≡ two.buffers
  pub textures : one.textures ≡ two.textures
  pub renderbuffers : one.renderbuffers ≡ two.renderbuffers
  pub texture_names : one.texture_names ≡ two.texture_names
  pub renderbuffer_names : one.renderbuffer_names ≡ two.renderbuffer_names

noted_tables : (group : GroupState) (error : GlError) (o : Option (ℕ × Context)) → SameTables (option_map_or (λ e. with_context group e.0 (with_gl_error error e.1)) o group) group
noted_tables group error None = record { buffers = refl; textures = refl; renderbuffers = refl; texture_names = refl; renderbuffer_names = refl }
noted_tables group error (Some e) = record { buffers = refl; textures = refl; renderbuffers = refl; texture_names = refl; renderbuffer_names = refl }

pub refused_tables : (group : GroupState) (thread : ℕ) (answer : Reply) → SameTables (refused_group group thread answer) group
refused_tables group thread (reply.GlFault error) = noted_tables group error (current_entry group thread)
refused_tables group thread reply.WaitFailed = noted_tables group InvalidValue (current_entry group thread)
refused_tables group thread _ = record { buffers = refl; textures = refl; renderbuffers = refl; texture_names = refl; renderbuffer_names = refl }

pub refused_kinds : (state : GroupModel) (thread : ℕ) (answer : Reply) (o : Object) → kind_wanted (refused state thread answer).group o ≡ kind_wanted state.group o
refused_kinds state thread answer (Buffer b) = ap (λ t. said buffer_look t b) (refused_tables state.group thread answer).buffers
refused_kinds state thread answer (Texture t) = ap (λ table. option_map image_kind (said image_look table t)) (refused_tables state.group thread answer).textures
refused_kinds state thread answer (Renderbuffer r) = ap (λ table. option_map image_kind (said image_look table r)) (refused_tables state.group thread answer).renderbuffers
