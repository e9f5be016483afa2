-- Buffers have their sizes in each reached state.
use Rattle.std.proofs.Common.{◌≡◌, ℕ, ◌+◌, ◌≤◌, ◌==◌, Bool, true, false, cond, Option, Some, None, List, [], ◌∷◌, ◌||◌, is_some, unwrap_or, refl, ap, sym, ◌∙◌, subst, arith, if◌then◌else◌}
use Rattle.std.specs.Option.{option_map_or, option_map}
use Rattle.std.proofs.lemmas.Grind.{common_steps}
use Rattle.gl_calls.specs.declared.call.Call.{Call}
use Rattle.gl_calls.specs.declared.call.Call.TheVariants as call
use Rattle.gl_calls.specs.declared.reply.GlError.{GlError}
use Rattle.gl_calls.specs.declared.reply.GlError.TheVariants.{InvalidValue}
use Rattle.gl_calls.specs.declared.reply.Reply.{Reply}
use Rattle.gl_calls.specs.declared.reply.Reply.TheVariants as reply
use Rattle.gl_calls.specs.declared.reply.Entry.{Entry}
use Rattle.gl_calls.specs.declared.words.BindTarget.TheVariants as targets
use Rattle.gl_calls.specs.declared.words.ObjectKind.TheVariants as kinds
use Rattle.formats.specs.declared.errors.EglError.TheVariants.{Success}
use Rattle.gl_calls.specs.Egl.{is_egl_call}
use Rattle.tables.specs.Table.{Entries, entry, with_entry, any_value}
use Rattle.gl_model.specs.declared.objects.BufferFacts.{BufferFacts}
use Rattle.gl_model.specs.GroupState.{Context, GroupState, Names}
use Rattle.gl_model.specs.Bindings.{current_context, current_entry, buffer_binding}
use Rattle.gl_model.specs.Refusal.{refusal, gl_refusal}
use Rattle.gl_model.specs.GroupEffect.{change_buffer, unmapped, delete_buffer, delete_texture, delete_renderbuffer, object_of, makes_object, gl_change, gl_change_in, egl_change, with_egl_error, with_context, group_effect, names_object, binds_buffer}
use Rattle.gl_model.specs.GroupModel.{GroupModel, Store, Fence, opening}
use Rattle.gl_model.specs.Effect.{store_of, empty_store, gl_contents, gl_storage, in_context, fence_effect, effect}
use Rattle.gl_model.specs.Legal.{refused, refused_group, note_gl_error, with_gl_error, told, signal_fence, says_signalled, after_entry, state_after}
use Rattle.gl_model.specs.Sizes.{HoldsBuffer, HasSizes, HasItsData, HaveTheirData}
use Rattle.gl_model.proofs.TableLaws.{entry-with_entry, entry-keyed, entry-only}
use Rattle.gl_model.proofs.GroupLaws.{effect-group, told-group}
use Rattle.gl_model.proofs.StoreLaws.{effect-store}
use Rattle.gl_model.proofs.CallSizes.{gl_sized}

-- Numbers that were not given yet stay free

-- b is free in a group where its number was not given
abbrev Free : GroupState → ℕ → Type 0
Free group b = group.buffer_names.made ≤ b → entry b group.buffers ≡ None

same_key : (m n : ℕ) → (m == n) ≡ true → m ≡ n
same_key m n h = grind (arith, common_steps)

-- an entry that is there is changed
pub replaced-none : {V : Type 0} (c b : ℕ) (f g : V) (table : Entries V) → entry c table ≡ Some g → entry b table ≡ None → entry b (with_entry c f table) ≡ None
replaced-none c b f g table there free = entry-with_entry c b f table ∙ by_key (b == c) refl
  where
    by_key : (t : Bool) → (b == c) ≡ t → cond t (Some f) (entry b table) ≡ None
    by_key false is = free
    by_key true is = let no : ⊥ = clash (ap (λ k. entry k table) (same_key b c is)) in absurd no
      where
        clash : entry b table ≡ entry c table → ⊥
        clash same = let both : Some g ≡ None = sym there ∙ sym same ∙ free in cc

change_buffer-free : (group : GroupState) (bound : Option ℕ) (facts : BufferFacts → BufferFacts) (b : ℕ) → Free group b → Free (change_buffer group bound facts) b
change_buffer-free group None facts b free = free
change_buffer-free group (Some c) facts b free = λ past. by_entry (entry c group.buffers) refl (free past)
  where
    by_entry : (o : Option BufferFacts) → entry c group.buffers ≡ o → entry b group.buffers ≡ None → entry b (option_map_or (λ g. with_entry c (facts g) group.buffers) o group.buffers) ≡ None
    by_entry None is h = h
    by_entry (Some g) is h = replaced-none c b (facts g) g group.buffers is h

delete_buffer-free : (group : GroupState) (number : ℕ) (context : Context) (o : Option ℕ) (b : ℕ) → (group.buffer_names.made ≤ b → entry b group.buffers ≡ None) → group.buffer_names.made ≤ b → entry b (delete_buffer group number context o).buffers ≡ None
delete_buffer-free group number context None b free past = free past
delete_buffer-free group number context (Some d) b free past = change_buffer-free group (Some d) unmapped b free past

delete_texture-free : (group : GroupState) (number : ℕ) (context : Context) (o : Option ℕ) (b : ℕ) → Free group b → Free (delete_texture group number context o) b
delete_texture-free group number context None b free = free
delete_texture-free group number context (Some t) b free = free

delete_renderbuffer-free : (group : GroupState) (number : ℕ) (context : Context) (o : Option ℕ) (b : ℕ) → Free group b → Free (delete_renderbuffer group number context o) b
delete_renderbuffer-free group number context None b free = free
delete_renderbuffer-free group number context (Some t) b free = free

-- a name bound gives the next number
pub bound-free : {V : Type 0} (t : Bool) (names bound : Names) (fresh : V) (table : Entries V) (b : ℕ) → bound.made ≡ names.made + 1 → (names.made ≤ b → entry b table ≡ None) → (if t then bound else names).made ≤ b → entry b (if t then with_entry names.made fresh table else table) ≡ None
bound-free false names bound fresh table b next free past = free past
bound-free true names bound fresh table b next free past = entry-with_entry names.made b fresh table ∙ by_key (b == names.made) refl
  where
    later : bound.made ≤ b → names.made + 1 ≤ b
    later h = let same : bound.made ≡ names.made + 1 = next in omega arith

    apart : (m n : ℕ) → n + 1 ≤ m → (m == n) ≡ true → ⊥
    apart m n h k = grind (arith, common_steps)

    lower : (m n : ℕ) → n + 1 ≤ m → n ≤ m
    lower m n h = omega arith

    by_key : (t : Bool) → (b == names.made) ≡ t → cond t (Some fresh) (entry b table) ≡ None
    by_key false is = free (lower b names.made (later past))
    by_key true is = absurd (apart b names.made (later past) is)

gl_free : (group : GroupState) (number : ℕ) (context : Context) (asked : Call) (b : ℕ) → Free group b → Free (gl_change group number context asked) b
gl_free group number context (call.Delete kinds.Buffer name) b free = delete_buffer-free group number context (object_of group.buffer_names name) b free
gl_free group number context (call.Delete kinds.Texture name) b free = delete_texture-free group number context (object_of group.texture_names name) b free
gl_free group number context (call.Delete kinds.Renderbuffer name) b free = delete_renderbuffer-free group number context (object_of group.renderbuffer_names name) b free
gl_free group number context (call.Delete kinds.Framebuffer name) b free = free
gl_free group number context (call.Gen kinds.Buffer count) b free = free
gl_free group number context (call.Gen kinds.Texture count) b free = free
gl_free group number context (call.Gen kinds.Renderbuffer count) b free = free
gl_free group number context (call.Gen kinds.Framebuffer count) b free = free
gl_free group number context (call.Bind (targets.Buffer target) name) b free =
    let names = group.buffer_names in
    bound-free (makes_object names name) names (record { objects = with_entry name (Some names.made) names.objects; made = names.made + 1 }) (record { size = 0; map = None }) group.buffers b refl free
gl_free group number context (call.Bind (targets.Framebuffer target) name) b free = free
gl_free group number context (call.Bind targets.Texture name) b free = free
gl_free group number context (call.Bind targets.Renderbuffer name) b free = free
gl_free group number context (call.BufferData target size usage payload) b free = change_buffer-free group (buffer_binding context target) _ b free
gl_free group number context (call.MapBufferRange target offset len access) b free = change_buffer-free group (buffer_binding context target) _ b free
gl_free group number context (call.UnmapBuffer target) b free = change_buffer-free group (buffer_binding context target) unmapped b free
gl_free group number context asked b free = free

gl_in-free : (group : GroupState) (current : Option (ℕ × Context)) (asked : Call) (b : ℕ) → Free group b → Free (gl_change_in group current asked) b
gl_in-free group None asked b free = free
gl_in-free group (Some current) asked b free = gl_free group current.0 current.1 asked b free

-- Before the sweep

abbrev pub unswept : GroupState → ℕ → Call → GroupState
unswept group thread asked =
    if is_egl_call asked then with_egl_error (egl_change group thread asked) thread Success
    else gl_change_in group (current_entry group thread) asked

unswept-free : (group : GroupState) (thread : ℕ) (asked : Call) (b : ℕ) → Free group b → Free (unswept group thread asked) b
unswept-free group thread (call.CreateContext number) b free = free
unswept-free group thread (call.DestroyContext number) b free = free
unswept-free group thread (call.MakeCurrent number) b free = free
unswept-free group thread call.EglGetError b free = free
unswept-free group thread (call.CreateSync number) b free = free
unswept-free group thread (call.EglClientWaitSync number flush timeout) b free = free
unswept-free group thread (call.DestroySync number) b free = free
unswept-free group thread asked b free = gl_in-free group (current_entry group thread) asked b free

in_entry : (state : GroupModel) (asked : Call) → HasSizes state → HasItsData asked → (o : Option (ℕ × Context)) → gl_refusal state.group (option_map (λ e. e.1) o) asked ≡ None → (b : ℕ) (f : BufferFacts) → entry b (gl_change_in state.group o asked).buffers ≡ Some f → HoldsBuffer (store_of (option_map_or (λ context. gl_contents state context asked) (option_map (λ e. e.1) o) state) b) f
in_entry state asked sizes formed None accepted b f h = let no : ⊥ = cc in absurd no
in_entry state asked sizes formed (Some e) accepted b f h = gl_sized state e.0 e.1 asked sizes accepted formed b f h

either : (o : Option Context) (state : GroupModel) (b : ℕ) (f : BufferFacts) → HoldsBuffer (store_of state b) f → HoldsBuffer (store_of (option_map_or (λ (context : Context). state) o state) b) f
either None state b f holds = holds
either (Some context) state b f holds = holds

unswept-stores : (state : GroupModel) (thread : ℕ) (asked : Call) → HasSizes state → refusal state.group thread asked ≡ None → HasItsData asked → (b : ℕ) (f : BufferFacts) → entry b (unswept state.group thread asked).buffers ≡ Some f → HoldsBuffer (store_of (in_context gl_contents state thread asked) b) f
unswept-stores state thread (call.CreateContext number) sizes accepted formed b f h = either (current_context state.group thread) state b f (sizes.stores b f h)
unswept-stores state thread (call.DestroyContext number) sizes accepted formed b f h = either (current_context state.group thread) state b f (sizes.stores b f h)
unswept-stores state thread (call.MakeCurrent number) sizes accepted formed b f h = either (current_context state.group thread) state b f (sizes.stores b f h)
unswept-stores state thread call.EglGetError sizes accepted formed b f h = either (current_context state.group thread) state b f (sizes.stores b f h)
unswept-stores state thread (call.CreateSync number) sizes accepted formed b f h = either (current_context state.group thread) state b f (sizes.stores b f h)
unswept-stores state thread (call.EglClientWaitSync number flush timeout) sizes accepted formed b f h = either (current_context state.group thread) state b f (sizes.stores b f h)
unswept-stores state thread (call.DestroySync number) sizes accepted formed b f h = either (current_context state.group thread) state b f (sizes.stores b f h)
unswept-stores state thread asked sizes accepted formed b f h = in_entry state asked sizes formed (current_entry state.group thread) accepted b f h

-- An accepted call

pub kept_some : {V : Type 0} (t : Bool) (o : Option V) (v : V) → cond t o None ≡ Some v → o ≡ Some v
kept_some true o v h = h
kept_some false o v h = let no : ⊥ = cc in absurd no

pub kept_none : {V : Type 0} (t : Bool) (o : Option V) → o ≡ None → cond t o None ≡ None
kept_none true o h = h
kept_none false o h = refl

-- the test of the sweep
abbrev stays : GroupState → ℕ → Bool
stays group b = names_object group.buffer_names b || any_value (binds_buffer b) group.contexts

pub effect-sizes : (state : GroupModel) (thread : ℕ) (asked : Call) (place : ℕ) → HasSizes state → refusal state.group thread asked ≡ None → HasItsData asked → HasSizes (effect state thread asked place)
effect-sizes state thread asked place sizes accepted formed = record {
  stores = λ b f h.
      let here : entry b (group_effect state.group thread asked).buffers ≡ Some f = ap (λ g. entry b g.buffers) (sym (effect-group state thread asked place)) ∙ h in
      let there : entry b (unswept state.group thread asked).buffers ≡ Some f =
      kept_some (stays (unswept state.group thread asked) b) (entry b (unswept state.group thread asked).buffers) f
      (sym (entry-only (stays (unswept state.group thread asked)) b (unswept state.group thread asked).buffers) ∙ here) in
      let P : Store → Type 0 = λ s. HoldsBuffer s f in
      subst P (sym (effect-store state thread asked place b (ap is_some here))) (unswept-stores state thread asked sizes accepted formed b f there);
  gone = λ b h.
      let moved = fence_effect (in_context gl_contents state thread asked) thread asked place in
      let stored = in_context gl_storage (record moved { group = group_effect state.group thread asked }) thread asked in
      rw (entry-keyed (store_of stored) b stored.group.buffers) (rw h refl);
  unmade = λ b past.
      let past' : (unswept state.group thread asked).buffer_names.made ≤ b = lower (ap (λ g. g.buffer_names.made) (effect-group state thread asked place)) past in
      ap (λ g. entry b g.buffers) (effect-group state thread asked place)
      ∙ entry-only (stays (unswept state.group thread asked)) b (unswept state.group thread asked).buffers
      ∙ kept_none (stays (unswept state.group thread asked) b) (entry b (unswept state.group thread asked).buffers) (unswept-free state.group thread asked b (sizes.unmade b) past');
}
  where
    lower : {m n b : ℕ} → m ≡ n → m ≤ b → n ≤ b
    lower same h = omega (arith, same)

-- Refused calls, and answers of waits

note_gl_error-buffers : (group : GroupState) (thread : ℕ) (error : GlError) → (note_gl_error group thread error).buffers ≡ group.buffers
note_gl_error-buffers group thread error =
    elim (current_entry group thread) as (λ o. (option_map_or (λ e. with_context group e.0 (with_gl_error error e.1)) o group).buffers ≡ group.buffers)
    [ None ↦ refl | Some e ↦ refl ]

note_gl_error-names : (group : GroupState) (thread : ℕ) (error : GlError) → (note_gl_error group thread error).buffer_names ≡ group.buffer_names
note_gl_error-names group thread error =
    elim (current_entry group thread) as (λ o. (option_map_or (λ e. with_context group e.0 (with_gl_error error e.1)) o group).buffer_names ≡ group.buffer_names)
    [ None ↦ refl | Some e ↦ refl ]

refused_group-buffers : (group : GroupState) (thread : ℕ) (answer : Reply) → (refused_group group thread answer).buffers ≡ group.buffers
refused_group-buffers group thread (reply.GlFault error) = note_gl_error-buffers group thread error
refused_group-buffers group thread reply.WaitFailed = note_gl_error-buffers group thread InvalidValue
refused_group-buffers group thread _ = refl

refused_group-names : (group : GroupState) (thread : ℕ) (answer : Reply) → (refused_group group thread answer).buffer_names ≡ group.buffer_names
refused_group-names group thread (reply.GlFault error) = note_gl_error-names group thread error
refused_group-names group thread reply.WaitFailed = note_gl_error-names group thread InvalidValue
refused_group-names group thread _ = refl

-- sizes speak of the buffers, their numbers and their stores alone
same_sizes : (one two : GroupModel) → one.group.buffers ≡ two.group.buffers → one.group.buffer_names ≡ two.group.buffer_names → one.stores ≡ two.stores → HasSizes two → HasSizes one
same_sizes one two buffers names stores sizes = record {
  stores = λ b f h.
      let P : Store → Type 0 = λ s. HoldsBuffer s f in
      subst P (ap (λ s. unwrap_or (entry b s) empty_store) (sym stores)) (sizes.stores b f (ap (λ t. entry b t) (sym buffers) ∙ h));
  gone = λ b h. ap (λ s. unwrap_or (entry b s) empty_store) stores ∙ sizes.gone b (ap (λ t. entry b t) (sym buffers) ∙ h);
  unmade = λ b past. ap (λ t. entry b t) buffers ∙ sizes.unmade b (lower (ap (λ n. n.made) names) past);
}
  where
    lower : {m n b : ℕ} → m ≡ n → m ≤ b → n ≤ b
    lower same h = omega (arith, same)

signal_fence-stores : (fence : Option Fence) (state : GroupModel) → (signal_fence fence state).stores ≡ state.stores
signal_fence-stores None state = refl
signal_fence-stores (Some f) state = refl

told_by-stores : (b : Bool) (fence : Option Fence) (state : GroupModel) → (if b then signal_fence fence state else state).stores ≡ state.stores
told_by-stores true fence state = signal_fence-stores fence state
told_by-stores false fence state = refl

told-stores : (state : GroupModel) (asked : Call) (answer : Reply) → (told state asked answer).stores ≡ state.stores
told-stores state (call.ClientWaitSync number flags timeout) answer = told_by-stores (says_signalled answer) (entry number state.fences) state
told-stores state (call.EglClientWaitSync number flush timeout) answer = told_by-stores (says_signalled answer) (entry number state.egl_fences) state
told-stores state _ answer = refl

-- An entry, and a history

pub after_entry-sizes : (state : GroupModel) (e : Entry) (place : ℕ) → HasSizes state → HasItsData e.call → HasSizes (after_entry state e place)
after_entry-sizes state e place sizes formed = by_refusal (refusal state.group e.thread e.call) refl
  where
    by_refusal : (o : Option Reply) → refusal state.group e.thread e.call ≡ o → HasSizes (option_map_or (λ answer. refused state e.thread answer) o (told (effect state e.thread e.call place) e.call e.reply))
    by_refusal None is =
        let done = effect state e.thread e.call place in
        same_sizes (told done e.call e.reply) done (ap (λ g. g.buffers) (told-group done e.call e.reply)) (ap (λ g. g.buffer_names) (told-group done e.call e.reply))
        (told-stores done e.call e.reply) (effect-sizes state e.thread e.call place sizes is formed)
    by_refusal (Some answer) is =
        same_sizes (refused state e.thread answer) state (refused_group-buffers state.group e.thread answer) (refused_group-names state.group e.thread answer) refl sizes

opening-sizes : (threads : List ℕ) → HasSizes (opening threads)
opening-sizes threads = record {
  stores = λ b f h. let no : ⊥ = none_some f h in absurd no;
  gone = λ b h. refl;
  unmade = λ b past. refl;
}
  where
    none_some : (f : BufferFacts) → None ≡ Some f → ⊥
    none_some f h = cc

state_after-sizes : (state : GroupModel) (place : ℕ) (es : List Entry) → HasSizes state → HaveTheirData es → HasSizes (state_after state place es)
state_after-sizes state place [] sizes formed = sizes
state_after-sizes state place (e ∷ es) sizes formed = state_after-sizes (after_entry state e place) (place + 1) es (after_entry-sizes state e place sizes formed.0) formed.1

pub reached-sizes : (threads : List ℕ) (es : List Entry) → HaveTheirData es → HasSizes (state_after (opening threads) 0 es)
reached-sizes threads es formed = state_after-sizes (opening threads) 0 es (opening-sizes threads) formed
