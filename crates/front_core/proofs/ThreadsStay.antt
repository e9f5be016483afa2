-- The declared threads are in a table from the start, and stay there with each entry.
use Rattle.std.proofs.Common.{◌≡◌, ℕ, zero, suc, ◌<◌, ◌==◌, Bool, true, false, cond, Option, Some, None, List, [], ◌∷◌, length, refl, ◌∙◌, ap, subst, is_some, arith}
use Rattle.std.specs.Prelude.{Contains, slice_index_or, if◌then◌else◌}
use Rattle.std.specs.List.{fold}
use Rattle.std.specs.Option.{option_map_or}
use Rattle.std.proofs.lemmas.Bool.{eq-eqb}
use Rattle.formats.specs.declared.errors.EglError.{EglError}
use Rattle.formats.specs.declared.errors.EglError.TheVariants.{Success}
use Rattle.gl_calls.specs.declared.call.Call.{Call}
use Rattle.gl_calls.specs.declared.call.Call.TheVariants as call
use Rattle.gl_calls.specs.declared.reply.Entry.{Entry}
use Rattle.gl_calls.specs.declared.reply.GlError.{GlError}
use Rattle.gl_calls.specs.declared.reply.GlError.TheVariants.{InvalidValue}
use Rattle.gl_calls.specs.declared.reply.Reply.{Reply}
use Rattle.gl_calls.specs.declared.reply.Reply.TheVariants as reply
use Rattle.gl_calls.specs.declared.words.BindTarget.TheVariants as targets
use Rattle.gl_calls.specs.declared.words.ObjectKind.TheVariants as kinds
use Rattle.gl_calls.specs.Egl.{is_egl_call}
use Rattle.tables.specs.Table.{Entries, entry, has, with_entry}
use Rattle.gl_model.specs.declared.objects.BufferFacts.{BufferFacts}
use Rattle.gl_model.specs.declared.state.Context.{Context}
use Rattle.gl_model.specs.declared.state.GroupState.{GroupState}
use Rattle.gl_model.specs.GroupState.{opening_threads}
use Rattle.gl_model.specs.Bindings.{current_entry, buffer_binding}
use Rattle.gl_model.specs.GroupEffect.{with_context, with_egl_error, egl_change, object_of, unmapped, change_buffer, delete_buffer, delete_texture, delete_renderbuffer, gl_change, gl_change_in, group_effect}
use Rattle.gl_model.specs.Legal.{with_gl_error, note_gl_error, refused_group}
use Rattle.gl_model.specs.Reached.{group_after}
use Rattle.gl_model.specs.Refusal.{refusal}
use Rattle.gl_model.proofs.TableLaws.{entry-with_entry}

-- Tables of threads

-- a key stays as another entry is set
has_still : {V : Type 0} (key other : ℕ) (v : V) (table : Entries V) → has key table ≡ true → has key (with_entry other v table) ≡ true
has_still {V} key other v table there = ap is_some (entry-with_entry other key v table) ∙ by_key (key == other)
  where
    by_key : (b : Bool) → is_some (cond b (Some v) (entry key table)) ≡ true
    by_key true = refl
    by_key false = there

-- an entry that was set is there
has_set : {V : Type 0} (key : ℕ) (v : V) (table : Entries V) → has key (with_entry key v table) ≡ true
has_set key v table = ap is_some (entry-with_entry key key v table) ∙ ap (λ b. is_some (cond b (Some v) (entry key table))) (eq-eqb key key refl)

abbrev declare : Entries EglError → ℕ → Entries EglError
declare table thread = with_entry thread Success table

still_declared : (threads : List ℕ) (table : Entries EglError) (thread : ℕ) → has thread table ≡ true → has thread (fold declare table threads) ≡ true
still_declared [] table thread there = there
still_declared (x ∷ rest) table thread there = still_declared rest (declare table x) thread (has_still thread x Success table there)

each_declared : (threads : List ℕ) (table : Entries EglError) (k default : ℕ) → k < length threads → has (slice_index_or threads k default) (fold declare table threads) ≡ true
each_declared [] table k default short = absurd (omega arith)
each_declared (x ∷ rest) table zero default short = still_declared rest (declare table x) x (has_set x Success table)
each_declared (x ∷ rest) table (suc k) default short = each_declared rest (declare table x) k default (omega arith)

-- each thread of the list is declared in the opening table
pub threads_begin : (threads : List ℕ) (thread : ℕ) → Contains threads thread → has thread (opening_threads threads) ≡ true
threads_begin threads thread there = subst (λ t. has t (opening_threads threads) ≡ true) there.2 (each_declared threads [] there.0 thread there.1)

-- Calls of OpenGL ES leave the threads

changed_threads : (group : GroupState) (o : Option ℕ) (change : BufferFacts → BufferFacts) → (change_buffer group o change).threads ≡ group.threads
changed_threads group None change = refl
changed_threads group (Some b) change = refl

buffer_threads : (group : GroupState) (number : ℕ) (context : Context) (o : Option ℕ) → (delete_buffer group number context o).threads ≡ group.threads
buffer_threads group number context None = refl
buffer_threads group number context (Some b) = refl

texture_threads : (group : GroupState) (number : ℕ) (context : Context) (o : Option ℕ) → (delete_texture group number context o).threads ≡ group.threads
texture_threads group number context None = refl
texture_threads group number context (Some t) = refl

renderbuffer_threads : (group : GroupState) (number : ℕ) (context : Context) (o : Option ℕ) → (delete_renderbuffer group number context o).threads ≡ group.threads
renderbuffer_threads group number context None = refl
renderbuffer_threads group number context (Some r) = refl

gl_threads : (group : GroupState) (number : ℕ) (context : Context) (asked : Call) → (gl_change group number context asked).threads ≡ group.threads
gl_threads group number context (call.Gen kinds.Buffer count) = refl
gl_threads group number context (call.Gen kinds.Texture count) = refl
gl_threads group number context (call.Gen kinds.Renderbuffer count) = refl
gl_threads group number context (call.Gen kinds.Framebuffer count) = refl
gl_threads group number context (call.Delete kinds.Buffer name) = buffer_threads group number context (object_of group.buffer_names name)
gl_threads group number context (call.Delete kinds.Texture name) = texture_threads group number context (object_of group.texture_names name)
gl_threads group number context (call.Delete kinds.Renderbuffer name) = renderbuffer_threads group number context (object_of group.renderbuffer_names name)
gl_threads group number context (call.Delete kinds.Framebuffer name) = refl
gl_threads group number context (call.Bind (targets.Buffer target) name) = refl
gl_threads group number context (call.Bind (targets.Framebuffer target) name) = refl
gl_threads group number context (call.Bind targets.Texture name) = refl
gl_threads group number context (call.Bind targets.Renderbuffer name) = refl
gl_threads group number context (call.BufferData target size usage payload) = changed_threads group (buffer_binding context target) _
gl_threads group number context (call.MapBufferRange target offset len access) = changed_threads group (buffer_binding context target) _
gl_threads group number context (call.UnmapBuffer target) = changed_threads group (buffer_binding context target) unmapped
gl_threads group number context asked = refl

gl_in_threads : (group : GroupState) (current : Option (ℕ × Context)) (asked : Call) → (gl_change_in group current asked).threads ≡ group.threads
gl_in_threads group None asked = refl
gl_in_threads group (Some current) asked = gl_threads group current.0 current.1 asked

-- Calls of EGL set the error of one thread

egl_threads : (group : GroupState) (thread : ℕ) (asked : Call) → (egl_change group thread asked).threads ≡ group.threads
egl_threads group thread (call.CreateContext number) = refl
egl_threads group thread (call.DestroyContext number) = refl
egl_threads group thread (call.MakeCurrent number) = refl
egl_threads group thread (call.CreateSync number) = refl
egl_threads group thread (call.DestroySync number) = refl
egl_threads group thread asked = refl

noted_stays : (group before : GroupState) (error : EglError) (thread one : ℕ) → group.threads ≡ before.threads → has one before.threads ≡ true → has one (with_egl_error group thread error).threads ≡ true
noted_stays group before error thread one same there = has_still one thread error group.threads (ap (has one) same ∙ there)

effect_stays : (group : GroupState) (thread one : ℕ) (asked : Call) → has one group.threads ≡ true → has one (group_effect group thread asked).threads ≡ true
effect_stays group thread one asked there = by_egl (is_egl_call asked)
  where
    by_egl : (b : Bool) → has one (if b then with_egl_error (egl_change group thread asked) thread Success else gl_change_in group (current_entry group thread) asked).threads ≡ true
    by_egl true = noted_stays (egl_change group thread asked) group Success thread one (egl_threads group thread asked) there
    by_egl false = ap (has one) (gl_in_threads group (current_entry group thread) asked) ∙ there

-- Entries

gl_fault_threads : (group : GroupState) (thread : ℕ) (error : GlError) → (note_gl_error group thread error).threads ≡ group.threads
gl_fault_threads group thread error = by_current (current_entry group thread)
  where
    by_current : (o : Option (ℕ × Context)) → (option_map_or (λ (e : ℕ × Context). with_context group e.0 (with_gl_error error e.1)) o group).threads ≡ group.threads
    by_current None = refl
    by_current (Some e) = refl

refused_stays : (group : GroupState) (thread one : ℕ) (answer : Reply) → has one group.threads ≡ true → has one (refused_group group thread answer).threads ≡ true
refused_stays group thread one (reply.GlFault error) there = ap (has one) (gl_fault_threads group thread error) ∙ there
refused_stays group thread one (reply.EglFault error) there = noted_stays group group error thread one refl there
refused_stays group thread one reply.WaitFailed there = ap (has one) (gl_fault_threads group thread InvalidValue) ∙ there
refused_stays group thread one answer there = there

-- a declared thread stays so
pub threads_stay : (group : GroupState) (e : Entry) (one : ℕ) → has one group.threads ≡ true → has one (group_after group e).threads ≡ true
threads_stay group e one there = by_refusal (refusal group e.thread e.call)
  where
    by_refusal : (o : Option Reply) → has one (option_map_or (λ answer. refused_group group e.thread answer) o (group_effect group e.thread e.call)).threads ≡ true
    by_refusal None = effect_stays group e.thread one e.call there
    by_refusal (Some answer) = refused_stays group e.thread one answer there
