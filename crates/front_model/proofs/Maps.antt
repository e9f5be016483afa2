-- Which buffers are mapped after a call.
use Rattle.std.proofs.Common.{◌≡◌, ◌≢◌, ◌⊎◌, inl, inr, ℕ, ℤ, ◌==◌, Bool, true, false, cond, Option, Some, None, unsigned_abs, refl, ap, sym, ◌∙◌, arith, if◌then◌else◌}
use Rattle.std.specs.Option.{option_map_or}
use Rattle.std.proofs.lemmas.Grind.{common_steps}
use Rattle.gl_calls.specs.declared.call.Call.{Call}
use Rattle.gl_calls.specs.declared.call.Call.TheVariants as call
use Rattle.gl_calls.specs.declared.payload.Payload.{Payload}
use Rattle.gl_calls.specs.declared.reply.Reply.{Reply}
use Rattle.gl_calls.specs.declared.words.AccessWord.{AccessWord}
use Rattle.gl_calls.specs.declared.words.BindTarget.TheVariants as targets
use Rattle.gl_calls.specs.declared.words.BufferTarget.{BufferTarget}
use Rattle.gl_calls.specs.declared.words.ObjectKind.TheVariants as kinds
use Rattle.gl_calls.specs.declared.words.Usage.{Usage}
use Rattle.tables.specs.Table.{Entries, entry, with_entry}
use Rattle.gl_model.specs.declared.objects.BufferFacts.{BufferFacts}
use Rattle.gl_model.specs.declared.objects.Mapped.{Mapped}
use Rattle.gl_model.specs.declared.state.Context.{Context}
use Rattle.gl_model.specs.declared.state.GroupState.{GroupState}
use Rattle.gl_model.specs.Bindings.{buffer_binding, current_entry}
use Rattle.gl_model.specs.GroupEffect.{change_buffer, unmapped, delete_buffer, delete_texture, delete_renderbuffer, object_of, makes_object, gl_change, gl_change_in, group_effect}
use Rattle.gl_model.specs.GroupModel.{GroupModel}
use Rattle.gl_model.specs.Legal.{refused}
use Rattle.gl_model.specs.Sizes.{HasSizes}
use Rattle.gl_model.proofs.TableLaws.{entry-only, entry-with_entry}
use Rattle.front_model.specs.Wanted.{IsMapped, IsAccepted, IsBound}
use Rattle.front_model.proofs.KindsTables.{same_key}
use Rattle.front_model.proofs.KindsCalls.{unswept}
use Rattle.front_model.proofs.KindsStores.{refers_buffer, data_entry, changed_group, changed_entry, refused_tables}

-- each mapped buffer of one table is one of the other
abbrev MapsCome : Entries BufferFacts → Entries BufferFacts → Type 0
MapsCome after before = (c : ℕ) (f : BufferFacts) (m : Mapped) → entry c after ≡ Some f → f.map ≡ Some m → entry c before ≡ Some f

-- an entry that is not mapped
come_with_entry : (key : ℕ) (v : BufferFacts) (table : Entries BufferFacts) → v.map ≡ None → MapsCome (with_entry key v table) table
come_with_entry key v table free c f m there map = by_key (c == key) (sym (entry-with_entry key c v table) ∙ there)
  where
    by_key : (t : Bool) → cond t (Some v) (entry c table) ≡ Some f → entry c table ≡ Some f
    by_key true is =
        let same : v ≡ f = cc in
        let clash : None ≡ Some m = sym free ∙ ap (λ x. x.map) same ∙ map in
        let bad : ⊥ = cc in absurd bad
    by_key false is = is

come_changed : (group : GroupState) (bound : Option ℕ) (change : BufferFacts → BufferFacts) → ((f : BufferFacts) → (change f).map ≡ None) → MapsCome (change_buffer group bound change).buffers group.buffers
come_changed group None change free = λ c f m there map. there
come_changed group (Some b) change free = by_entry (entry b group.buffers)
  where
    by_entry : (o : Option BufferFacts) → MapsCome (option_map_or (λ f. with_entry b (change f) group.buffers) o group.buffers) group.buffers
    by_entry None = λ c f m there map. there
    by_entry (Some f) = come_with_entry b (change f) group.buffers (free f)

come_made : (t : Bool) (key : ℕ) (v : BufferFacts) (table : Entries BufferFacts) → v.map ≡ None → MapsCome (if t then with_entry key v table else table) table
come_made true key v table free = come_with_entry key v table free
come_made false key v table free = λ c f m there map. there

come_deleted : (group : GroupState) (number : ℕ) (context : Context) (o : Option ℕ) → MapsCome (delete_buffer group number context o).buffers group.buffers
come_deleted group number context None = λ c f m there map. there
come_deleted group number context (Some b) = come_changed group (Some b) unmapped (λ f. refl)

texture_deleted : (group : GroupState) (number : ℕ) (context : Context) (o : Option ℕ) → MapsCome (delete_texture group number context o).buffers group.buffers
texture_deleted group number context None = λ c f m there map. there
texture_deleted group number context (Some t) = λ c f m there map. there

renderbuffer_deleted : (group : GroupState) (number : ℕ) (context : Context) (o : Option ℕ) → MapsCome (delete_renderbuffer group number context o).buffers group.buffers
renderbuffer_deleted group number context None = λ c f m there map. there
renderbuffer_deleted group number context (Some t) = λ c f m there map. there

-- the call maps no buffer
abbrev MapsNone : Call → Type 0
MapsNone asked = (target : BufferTarget) (offset len : ℤ) (access : AccessWord) → asked ≢ call.MapBufferRange target offset len access

gl_come : (group : GroupState) (number : ℕ) (context : Context) (asked : Call) → MapsNone asked → MapsCome (gl_change group number context asked).buffers group.buffers
gl_come group number context (call.MapBufferRange target offset len access) none = absurd (none target offset len access refl)
gl_come group number context (call.Delete kinds.Buffer name) none = come_deleted group number context (object_of group.buffer_names name)
gl_come group number context (call.Delete kinds.Texture name) none = texture_deleted group number context (object_of group.texture_names name)
gl_come group number context (call.Delete kinds.Renderbuffer name) none = renderbuffer_deleted group number context (object_of group.renderbuffer_names name)
gl_come group number context (call.Delete kinds.Framebuffer name) none = λ c f m there map. there
gl_come group number context (call.Gen kinds.Buffer count) none = λ c f m there map. there
gl_come group number context (call.Gen kinds.Texture count) none = λ c f m there map. there
gl_come group number context (call.Gen kinds.Renderbuffer count) none = λ c f m there map. there
gl_come group number context (call.Gen kinds.Framebuffer count) none = λ c f m there map. there
gl_come group number context (call.Bind (targets.Buffer target) name) none = come_made (makes_object group.buffer_names name) group.buffer_names.made (record { size = 0; map = None }) group.buffers refl
gl_come group number context (call.Bind (targets.Framebuffer target) name) none = λ c f m there map. there
gl_come group number context (call.Bind targets.Texture name) none = λ c f m there map. there
gl_come group number context (call.Bind targets.Renderbuffer name) none = λ c f m there map. there
gl_come group number context (call.BufferData target size usage payload) none = come_changed group (buffer_binding context target) (λ _. record { size = unsigned_abs size; map = None }) (λ f. refl)
gl_come group number context (call.UnmapBuffer target) none = come_changed group (buffer_binding context target) unmapped (λ f. refl)
gl_come group number context asked none = λ c f m there map. there

gl_in_come : (group : GroupState) (current : Option (ℕ × Context)) (asked : Call) → MapsNone asked → MapsCome (gl_change_in group current asked).buffers group.buffers
gl_in_come group None asked none = λ c f m there map. there
gl_in_come group (Some current) asked none = gl_come group current.0 current.1 asked none

unswept_come : (group : GroupState) (thread : ℕ) (asked : Call) → MapsNone asked → MapsCome (unswept group thread asked).buffers group.buffers
unswept_come group thread (call.CreateContext number) none = λ c f m there map. there
unswept_come group thread (call.DestroyContext number) none = λ c f m there map. there
unswept_come group thread (call.MakeCurrent number) none = λ c f m there map. there
unswept_come group thread call.EglGetError none = λ c f m there map. there
unswept_come group thread (call.CreateSync number) none = λ c f m there map. there
unswept_come group thread (call.EglClientWaitSync number flush timeout) none = λ c f m there map. there
unswept_come group thread (call.DestroySync number) none = λ c f m there map. there
unswept_come group thread asked none = gl_in_come group (current_entry group thread) asked none

kept_some : {A : Type 0} (t : Bool) (o : Option A) (v : A) → cond t o None ≡ Some v → o ≡ Some v
kept_some true o v h = h
kept_some false o v h = let bad : ⊥ = cc in absurd bad

pub other_maps : (state : GroupModel) (thread : ℕ) (asked : Call) → HasSizes state → ((target : BufferTarget) (offset len : ℤ) (access : AccessWord) → asked ≢ call.MapBufferRange target offset len access) → (c : ℕ) → IsMapped (group_effect state.group thread asked) c → IsMapped state.group c
other_maps state thread asked sizes none c is_mapped =
    let after : GroupState = unswept state.group thread asked in
    let there : entry c after.buffers ≡ Some is_mapped.facts =
    kept_some (refers_buffer after c) (entry c after.buffers) is_mapped.facts (sym (entry-only (refers_buffer after) c after.buffers) ∙ is_mapped.is) in
    record { facts = is_mapped.facts; mapped = is_mapped.mapped; is = unswept_come state.group thread asked none c is_mapped.facts is_mapped.mapped there is_mapped.map; map = is_mapped.map }

pub data_unmaps : (state : GroupModel) (thread b : ℕ) (context : Context) (facts : BufferFacts) (target : BufferTarget) (size : ℤ) (usage : Usage) (payload : Option Payload) → IsAccepted state thread (call.BufferData target size usage payload) context → IsBound state.group context target b facts → (c : ℕ) → IsMapped (group_effect state.group thread (call.BufferData target size usage payload)) c → IsMapped state.group c × (c ≢ b)
data_unmaps state thread b context facts target size usage payload accepted bound c is_mapped =
    by_key (c == b) refl (sym (data_entry state thread b context facts target size usage payload accepted bound c) ∙ is_mapped.is)
  where
    apart : (m n : ℕ) → (m == n) ≡ false → m ≢ n
    apart m n h same = grind (arith, common_steps)

    by_key : (t : Bool) → (c == b) ≡ t → cond t (Some (record { size = unsigned_abs size; map = None })) (entry c state.group.buffers) ≡ Some is_mapped.facts → IsMapped state.group c × (c ≢ b)
    by_key true same is =
        let fresh : BufferFacts = record { size = unsigned_abs size; map = None } in
        let facts_are : fresh ≡ is_mapped.facts = cc in
        let clash : None ≡ Some is_mapped.mapped = ap (λ f. f.map) facts_are ∙ is_mapped.map in
        let bad : ⊥ = cc in absurd bad
    by_key false differs is = (record { facts = is_mapped.facts; mapped = is_mapped.mapped; is = is; map = is_mapped.map }, apart c b differs)

pub range_maps : (state : GroupModel) (thread b : ℕ) (context : Context) (facts : BufferFacts) (target : BufferTarget) (offset len : ℤ) (access : AccessWord) → IsAccepted state thread (call.MapBufferRange target offset len access) context → IsBound state.group context target b facts → (c : ℕ) → IsMapped (group_effect state.group thread (call.MapBufferRange target offset len access)) c → IsMapped state.group c ⊎ (c ≡ b)
range_maps state thread b context facts target offset len access accepted bound c is_mapped =
    let change : BufferFacts → BufferFacts = λ f. record f { map = Some (record { at = unsigned_abs offset; len = unsigned_abs len; access = access }) } in
    let group_is = changed_group change accepted bound refl (λ number. refl) in
    by_key (change facts) (c == b) refl (sym (changed_entry change c accepted bound group_is) ∙ is_mapped.is)
  where
    by_key : (g : BufferFacts) (t : Bool) → (c == b) ≡ t → cond t (Some g) (entry c state.group.buffers) ≡ Some is_mapped.facts → IsMapped state.group c ⊎ (c ≡ b)
    by_key g true same is = inr (same_key c b same)
    by_key g false differs is = inl (record { facts = is_mapped.facts; mapped = is_mapped.mapped; is = is; map = is_mapped.map })

pub refused_maps : (state : GroupModel) (thread c : ℕ) (answer : Reply) → IsMapped (refused state thread answer).group c → IsMapped state.group c
refused_maps state thread c answer is_mapped = record {
  facts = is_mapped.facts;
  mapped = is_mapped.mapped;
  is = ap (entry c) (sym (refused_tables state.group thread answer).buffers) ∙ is_mapped.is;
  map = is_mapped.map;
}
