-- Which syncs and contexts a group has after a call.
use Rattle.std.proofs.Common.{◌≡◌, ℕ, ◌==◌, ◌||◌, ◌&&◌, Bool, true, false, not, Option, Some, None, List, is_some, refl, ap, sym, ◌∙◌, if◌then◌else◌}
use Rattle.std.specs.Option.{option_map_or, option_map}
use Rattle.std.specs.List.{filter}
use Rattle.std.specs.Map.{keys_of}
use Rattle.std.specs.Ordering.{nat_cmp}
use Rattle.std.specs.BTreeMap.{is_at}
use Rattle.std.specs.BTreeSet.{insert_key}
use Rattle.std.specs.Set.{remove_key}
use Rattle.gl_calls.specs.declared.call.Call.{Call}
use Rattle.gl_calls.specs.declared.call.Call.TheVariants as call
use Rattle.gl_calls.specs.declared.reply.GlError.{GlError}
use Rattle.gl_calls.specs.declared.reply.GlError.TheVariants.{InvalidValue}
use Rattle.gl_calls.specs.declared.reply.Reply.{Reply}
use Rattle.gl_calls.specs.declared.reply.Reply.TheVariants as reply
use Rattle.gl_calls.specs.declared.words.BindTarget.TheVariants as targets
use Rattle.gl_calls.specs.declared.words.ObjectKind.TheVariants as kinds
use Rattle.tables.specs.Table.{Entries, has}
use Rattle.gl_model.specs.declared.objects.BufferFacts.{BufferFacts}
use Rattle.gl_model.specs.GroupState.{Context, GroupState, new_context}
use Rattle.gl_model.specs.Bindings.{current_entry, buffer_binding, same_option}
use Rattle.gl_model.specs.Refusal.{refusal, gl_refusal}
use Rattle.gl_model.specs.GroupEffect.{change_buffer, delete_buffer, delete_texture, delete_renderbuffer, object_of, gl_change, gl_change_in, group_effect, let_go, with_context}
use Rattle.gl_model.specs.Legal.{refused_group, note_gl_error, with_gl_error}
use Rattle.gl_model.specs.Syncs.{changes_syncs}
use Rattle.gl_model.proofs.KeyLaws.{keys-with_entry, keys-without, has-found, has-new, has-replaced, has-mapped, has-filtered}

-- the numbers of syncs after a call, and whether a context has a number
abbrev pub sync_keys : Call → List ℕ → List ℕ
sync_keys (call.FenceSync number condition flags) keys = insert_key nat_cmp keys number
sync_keys (call.DeleteSync number) keys = remove_key (is_at (nat_cmp number)) keys
sync_keys _ keys = keys

abbrev pub egl_sync_keys : Call → List ℕ → List ℕ
egl_sync_keys (call.CreateSync number) keys = insert_key nat_cmp keys number
egl_sync_keys (call.DestroySync number) keys = remove_key (is_at (nat_cmp number)) keys
egl_sync_keys _ keys = keys

abbrev pub is_context : Call → ℕ → Bool → Bool
is_context (call.CreateContext number) n before = (n == number) || before
is_context _ n before = before

-- A call of OpenGL ES in a context

-- two groups have the same syncs
record SameSyncs (one two : GroupState) : Type 0 where
  syncs : one.syncs ≡ two.syncs
  egl_syncs : one.egl_syncs ≡ two.egl_syncs

change_buffer-syncs : (group : GroupState) (bound : Option ℕ) (change : BufferFacts → BufferFacts) → SameSyncs (change_buffer group bound change) group
change_buffer-syncs group None change = record { syncs = refl; egl_syncs = refl }
change_buffer-syncs group (Some b) change = record { syncs = refl; egl_syncs = refl }

delete_buffer-syncs : (group : GroupState) (number : ℕ) (context : Context) (o : Option ℕ) → SameSyncs (delete_buffer group number context o) group
delete_buffer-syncs group number context None = record { syncs = refl; egl_syncs = refl }
delete_buffer-syncs group number context (Some b) = record { syncs = refl; egl_syncs = refl }

delete_texture-syncs : (group : GroupState) (number : ℕ) (context : Context) (o : Option ℕ) → SameSyncs (delete_texture group number context o) group
delete_texture-syncs group number context None = record { syncs = refl; egl_syncs = refl }
delete_texture-syncs group number context (Some t) = record { syncs = refl; egl_syncs = refl }

delete_renderbuffer-syncs : (group : GroupState) (number : ℕ) (context : Context) (o : Option ℕ) → SameSyncs (delete_renderbuffer group number context o) group
delete_renderbuffer-syncs group number context None = record { syncs = refl; egl_syncs = refl }
delete_renderbuffer-syncs group number context (Some r) = record { syncs = refl; egl_syncs = refl }

gl_syncs : (group : GroupState) (number : ℕ) (context : Context) (asked : Call) → keys_of (gl_change group number context asked).syncs ≡ sync_keys asked (keys_of group.syncs)
gl_syncs group number context (call.Delete kinds.Buffer name) = ap keys_of (delete_buffer-syncs group number context (object_of group.buffer_names name)).syncs
gl_syncs group number context (call.Delete kinds.Texture name) = ap keys_of (delete_texture-syncs group number context (object_of group.texture_names name)).syncs
gl_syncs group number context (call.Delete kinds.Renderbuffer name) = ap keys_of (delete_renderbuffer-syncs group number context (object_of group.renderbuffer_names name)).syncs
gl_syncs group number context (call.Delete kinds.Framebuffer name) = refl
gl_syncs group number context (call.Gen kinds.Buffer count) = refl
gl_syncs group number context (call.Gen kinds.Texture count) = refl
gl_syncs group number context (call.Gen kinds.Renderbuffer count) = refl
gl_syncs group number context (call.Gen kinds.Framebuffer count) = refl
gl_syncs group number context (call.Bind (targets.Buffer target) name) = refl
gl_syncs group number context (call.Bind (targets.Framebuffer target) name) = refl
gl_syncs group number context (call.Bind targets.Texture name) = refl
gl_syncs group number context (call.Bind targets.Renderbuffer name) = refl
gl_syncs group number context (call.BufferData target size usage payload) = ap keys_of (change_buffer-syncs group (buffer_binding context target) _).syncs
gl_syncs group number context (call.MapBufferRange target offset len access) = ap keys_of (change_buffer-syncs group (buffer_binding context target) _).syncs
gl_syncs group number context (call.UnmapBuffer target) = ap keys_of (change_buffer-syncs group (buffer_binding context target) _).syncs
gl_syncs group number context (call.FenceSync n condition flags) = keys-with_entry n tt group.syncs
gl_syncs group number context (call.DeleteSync n) = keys-without n group.syncs
gl_syncs group number context _ = refl

gl_egl_syncs : (group : GroupState) (number : ℕ) (context : Context) (asked : Call) → (gl_change group number context asked).egl_syncs ≡ group.egl_syncs
gl_egl_syncs group number context (call.Delete kinds.Buffer name) = (delete_buffer-syncs group number context (object_of group.buffer_names name)).egl_syncs
gl_egl_syncs group number context (call.Delete kinds.Texture name) = (delete_texture-syncs group number context (object_of group.texture_names name)).egl_syncs
gl_egl_syncs group number context (call.Delete kinds.Renderbuffer name) = (delete_renderbuffer-syncs group number context (object_of group.renderbuffer_names name)).egl_syncs
gl_egl_syncs group number context (call.Delete kinds.Framebuffer name) = refl
gl_egl_syncs group number context (call.Gen kinds.Buffer count) = refl
gl_egl_syncs group number context (call.Gen kinds.Texture count) = refl
gl_egl_syncs group number context (call.Gen kinds.Renderbuffer count) = refl
gl_egl_syncs group number context (call.Gen kinds.Framebuffer count) = refl
gl_egl_syncs group number context (call.Bind (targets.Buffer target) name) = refl
gl_egl_syncs group number context (call.Bind (targets.Framebuffer target) name) = refl
gl_egl_syncs group number context (call.Bind targets.Texture name) = refl
gl_egl_syncs group number context (call.Bind targets.Renderbuffer name) = refl
gl_egl_syncs group number context (call.BufferData target size usage payload) = (change_buffer-syncs group (buffer_binding context target) _).egl_syncs
gl_egl_syncs group number context (call.MapBufferRange target offset len access) = (change_buffer-syncs group (buffer_binding context target) _).egl_syncs
gl_egl_syncs group number context (call.UnmapBuffer target) = (change_buffer-syncs group (buffer_binding context target) _).egl_syncs
gl_egl_syncs group number context _ = refl

change_buffer-contexts : (group : GroupState) (n : ℕ) (bound : Option ℕ) (change : BufferFacts → BufferFacts) → has n (change_buffer group bound change).contexts ≡ has n group.contexts
change_buffer-contexts group n None change = refl
change_buffer-contexts group n (Some b) change = refl

delete_buffer-contexts : (group : GroupState) (n number : ℕ) (context : Context) (o : Option ℕ) → has number group.contexts ≡ true → has n (delete_buffer group number context o).contexts ≡ has n group.contexts
delete_buffer-contexts group n number context None there = refl
delete_buffer-contexts group n number context (Some b) there = has-replaced number n _ group.contexts there

delete_texture-contexts : (group : GroupState) (n number : ℕ) (context : Context) (o : Option ℕ) → has number group.contexts ≡ true → has n (delete_texture group number context o).contexts ≡ has n group.contexts
delete_texture-contexts group n number context None there = refl
delete_texture-contexts group n number context (Some t) there = has-replaced number n _ group.contexts there

delete_renderbuffer-contexts : (group : GroupState) (n number : ℕ) (context : Context) (o : Option ℕ) → has number group.contexts ≡ true → has n (delete_renderbuffer group number context o).contexts ≡ has n group.contexts
delete_renderbuffer-contexts group n number context None there = refl
delete_renderbuffer-contexts group n number context (Some r) there = has-replaced number n _ group.contexts there

gl_contexts : (group : GroupState) (n number : ℕ) (context : Context) (asked : Call) → has number group.contexts ≡ true → has n (gl_change group number context asked).contexts ≡ has n group.contexts
gl_contexts group n number context call.GetError there = has-replaced number n _ group.contexts there
gl_contexts group n number context (call.Gen kinds.Buffer count) there = refl
gl_contexts group n number context (call.Gen kinds.Texture count) there = refl
gl_contexts group n number context (call.Gen kinds.Renderbuffer count) there = refl
gl_contexts group n number context (call.Gen kinds.Framebuffer count) there = has-replaced number n _ group.contexts there
gl_contexts group n number context (call.Delete kinds.Buffer name) there = delete_buffer-contexts group n number context (object_of group.buffer_names name) there
gl_contexts group n number context (call.Delete kinds.Texture name) there = delete_texture-contexts group n number context (object_of group.texture_names name) there
gl_contexts group n number context (call.Delete kinds.Renderbuffer name) there = delete_renderbuffer-contexts group n number context (object_of group.renderbuffer_names name) there
gl_contexts group n number context (call.Delete kinds.Framebuffer name) there = has-replaced number n _ group.contexts there
gl_contexts group n number context (call.Bind (targets.Buffer target) name) there = has-replaced number n _ group.contexts there
gl_contexts group n number context (call.Bind (targets.Framebuffer target) name) there = has-replaced number n _ group.contexts there
gl_contexts group n number context (call.Bind targets.Texture name) there = has-replaced number n _ group.contexts there
gl_contexts group n number context (call.Bind targets.Renderbuffer name) there = has-replaced number n _ group.contexts there
gl_contexts group n number context (call.BufferData target size usage payload) there = change_buffer-contexts group n (buffer_binding context target) _
gl_contexts group n number context (call.MapBufferRange target offset len access) there = change_buffer-contexts group n (buffer_binding context target) _
gl_contexts group n number context (call.UnmapBuffer target) there = change_buffer-contexts group n (buffer_binding context target) _
gl_contexts group n number context (call.Attach target point what name) there = has-replaced number n _ group.contexts there
gl_contexts group n number context (call.DrawBuffers list) there = has-replaced number n _ group.contexts there
gl_contexts group n number context (call.ReadBuffer buffer) there = has-replaced number n _ group.contexts there
gl_contexts group n number context (call.ScissorTest on) there = has-replaced number n _ group.contexts there
gl_contexts group n number context (call.ScissorBox x y width height) there = has-replaced number n _ group.contexts there
gl_contexts group n number context (call.PixelStore parameter value) there = has-replaced number n _ group.contexts there
gl_contexts group n number context _ there = refl

-- the current context of a thread is one of the group's
current_is_there : (group : GroupState) (thread : ℕ) (e : ℕ × Context) → current_entry group thread ≡ Some e → has e.0 group.contexts ≡ true
current_is_there group thread e is = has-found (λ e. same_option e.1.thread (Some thread)) group.contexts e is

-- A call of a thread

syncs_in : (group : GroupState) (asked : Call) (o : Option (ℕ × Context)) → gl_refusal group (option_map (λ e. e.1) o) asked ≡ None → keys_of (gl_change_in group o asked).syncs ≡ sync_keys asked (keys_of group.syncs)
syncs_in group asked None accepted = let no : ⊥ = cc in absurd no
syncs_in group asked (Some e) accepted = gl_syncs group e.0 e.1 asked

pub group_syncs : (group : GroupState) (thread : ℕ) (asked : Call) → refusal group thread asked ≡ None → keys_of (group_effect group thread asked).syncs ≡ sync_keys asked (keys_of group.syncs)
group_syncs group thread (call.CreateContext number) accepted = refl
group_syncs group thread (call.DestroyContext number) accepted = refl
group_syncs group thread (call.MakeCurrent number) accepted = refl
group_syncs group thread call.EglGetError accepted = refl
group_syncs group thread (call.CreateSync number) accepted = refl
group_syncs group thread (call.EglClientWaitSync number flush timeout) accepted = refl
group_syncs group thread (call.DestroySync number) accepted = refl
group_syncs group thread asked accepted = syncs_in group asked (current_entry group thread) accepted

egl_syncs_in : (group : GroupState) (asked : Call) (o : Option (ℕ × Context)) → keys_of (gl_change_in group o asked).egl_syncs ≡ keys_of group.egl_syncs
egl_syncs_in group asked None = refl
egl_syncs_in group asked (Some e) = ap keys_of (gl_egl_syncs group e.0 e.1 asked)

pub group_egl_syncs : (group : GroupState) (thread : ℕ) (asked : Call) → keys_of (group_effect group thread asked).egl_syncs ≡ egl_sync_keys asked (keys_of group.egl_syncs)
group_egl_syncs group thread (call.CreateContext number) = refl
group_egl_syncs group thread (call.DestroyContext number) = refl
group_egl_syncs group thread (call.MakeCurrent number) = refl
group_egl_syncs group thread call.EglGetError = refl
group_egl_syncs group thread (call.CreateSync number) = keys-with_entry number tt group.egl_syncs
group_egl_syncs group thread (call.EglClientWaitSync number flush timeout) = refl
group_egl_syncs group thread (call.DestroySync number) = keys-without number group.egl_syncs
group_egl_syncs group thread asked = egl_syncs_in group asked (current_entry group thread)

contexts_in : (group : GroupState) (n : ℕ) (asked : Call) (o : Option (ℕ × Context)) → ((e : ℕ × Context) → o ≡ Some e → has e.0 group.contexts ≡ true) → has n (gl_change_in group o asked).contexts ≡ has n group.contexts
contexts_in group n asked None there = refl
contexts_in group n asked (Some e) there = gl_contexts group n e.0 e.1 asked (there e refl)

-- calls that neither make nor end contexts leave them
pub contexts_stay : (group : GroupState) (thread : ℕ) (asked : Call) (n : ℕ) → changes_syncs asked ≡ false → has n (group_effect group thread asked).contexts ≡ has n group.contexts
contexts_stay group thread (call.CreateContext number) n quiet = let no : ⊥ = cc in absurd no
contexts_stay group thread (call.DestroyContext number) n quiet = let no : ⊥ = cc in absurd no
contexts_stay group thread (call.MakeCurrent number) n quiet = let no : ⊥ = cc in absurd no
contexts_stay group thread call.EglGetError n quiet = refl
contexts_stay group thread (call.CreateSync number) n quiet = refl
contexts_stay group thread (call.EglClientWaitSync number flush timeout) n quiet = refl
contexts_stay group thread (call.DestroySync number) n quiet = refl
contexts_stay group thread asked n quiet = contexts_in group n asked (current_entry group thread) (current_is_there group thread)

let_go-has : (thread n : ℕ) (contexts : Entries Context) → has n (let_go thread contexts) ≡ true → has n contexts ≡ true
let_go-has thread n contexts h =
    let p = λ (e : ℕ × Context). not (same_option e.1.thread (Some thread) && e.1.marked) in
    has-filtered n p contexts (sym (has-mapped n (λ e. if same_option e.1.thread (Some thread) then record e.1 { thread = None } else e.1) (filter p contexts)) ∙ h)

-- a context after a call is one from before, or the one that was created
pub contexts_after : (group : GroupState) (thread : ℕ) (asked : Call) (n : ℕ) → has n (group_effect group thread asked).contexts ≡ true → is_context asked n (has n group.contexts) ≡ true
contexts_after group thread (call.CreateContext number) n h = sym (has-new number n new_context group.contexts) ∙ h
contexts_after group thread (call.DestroyContext number) n h =
    let p = λ (e : ℕ × Context). not (e.0 == number && not (is_some e.1.thread)) in
    has-filtered n p group.contexts (sym (has-mapped n (λ e. if e.0 == number then record e.1 { marked = true } else e.1) (filter p group.contexts)) ∙ h)
contexts_after group thread (call.MakeCurrent number) n h =
    let_go-has thread n group.contexts
    (sym (has-mapped n (λ e. if e.0 == number then record e.1 { thread = Some thread } else e.1) (let_go thread group.contexts)) ∙ h)
contexts_after group thread call.EglGetError n h = h
contexts_after group thread (call.CreateSync number) n h = h
contexts_after group thread (call.EglClientWaitSync number flush timeout) n h = h
contexts_after group thread (call.DestroySync number) n h = h
contexts_after group thread asked n h = sym (contexts_in group n asked (current_entry group thread) (current_is_there group thread)) ∙ h

-- a refused call
refused_by : (group : GroupState) (n : ℕ) (error : GlError) (o : Option (ℕ × Context)) → ((e : ℕ × Context) → o ≡ Some e → has e.0 group.contexts ≡ true) → has n (option_map_or (λ e. with_context group e.0 (with_gl_error error e.1)) o group).contexts ≡ has n group.contexts
refused_by group n error None there = refl
refused_by group n error (Some e) there = has-replaced e.0 n (with_gl_error error e.1) group.contexts (there e refl)

pub refused_contexts : (group : GroupState) (thread : ℕ) (answer : Reply) (n : ℕ) → has n (refused_group group thread answer).contexts ≡ has n group.contexts
refused_contexts group thread (reply.GlFault error) n = refused_by group n error (current_entry group thread) (current_is_there group thread)
refused_contexts group thread reply.WaitFailed n = refused_by group n InvalidValue (current_entry group thread) (current_is_there group thread)
refused_contexts group thread _ n = refl

note_gl_error-syncs : (group : GroupState) (thread : ℕ) (error : GlError) → SameSyncs (note_gl_error group thread error) group
note_gl_error-syncs group thread error = by_entry (current_entry group thread)
  where
    by_entry : (o : Option (ℕ × Context)) → SameSyncs (option_map_or (λ e. with_context group e.0 (with_gl_error error e.1)) o group) group
    by_entry None = record { syncs = refl; egl_syncs = refl }
    by_entry (Some e) = record { syncs = refl; egl_syncs = refl }

refused_both : (group : GroupState) (thread : ℕ) (answer : Reply) → SameSyncs (refused_group group thread answer) group
refused_both group thread (reply.GlFault error) = note_gl_error-syncs group thread error
refused_both group thread reply.WaitFailed = note_gl_error-syncs group thread InvalidValue
refused_both group thread _ = record { syncs = refl; egl_syncs = refl }

pub refused_syncs : (group : GroupState) (thread : ℕ) (answer : Reply) → (refused_group group thread answer).syncs ≡ group.syncs
refused_syncs group thread answer = (refused_both group thread answer).syncs

pub refused_egl_syncs : (group : GroupState) (thread : ℕ) (answer : Reply) → (refused_group group thread answer).egl_syncs ≡ group.egl_syncs
refused_egl_syncs group thread answer = (refused_both group thread answer).egl_syncs
