-- The numbers of contexts stay in each call but those that create, destroy or take one.
use Rattle.std.proofs.Common.{◌≡◌, ℕ, ◌==◌, Bool, true, false, cond, Option, Some, None, [], ◌∷◌, refl, sym, ◌∙◌, ap, subst, is_some, if◌then◌else◌}
use Rattle.std.specs.Ordering.{nat_cmp}
use Rattle.std.specs.BTreeMap.{is_at}
use Rattle.std.specs.Option.{option_map_or}
use Rattle.std.specs.List.{find}
use Rattle.std.proofs.lemmas.Bool.{false≢true, eqb-true, eq-eqb}
use Rattle.formats.specs.declared.errors.EglError.TheVariants.{Success}
use Rattle.gl_calls.specs.declared.call.Call.{Call}
use Rattle.gl_calls.specs.declared.call.Call.TheVariants as call
use Rattle.gl_calls.specs.declared.reply.GlError.{GlError}
use Rattle.gl_calls.specs.declared.reply.GlError.TheVariants.{InvalidValue}
use Rattle.gl_calls.specs.declared.reply.Reply.{Reply}
use Rattle.gl_calls.specs.declared.reply.Reply.TheVariants as reply
use Rattle.gl_calls.specs.declared.words.BindTarget.TheVariants as targets
use Rattle.gl_calls.specs.declared.words.ObjectKind.TheVariants as kinds
use Rattle.gl_calls.specs.Egl.{is_egl_call}
use Rattle.tables.specs.Table.{Entries, entry, has, with_entry}
use Rattle.gl_model.specs.declared.state.Context.{Context}
use Rattle.gl_model.specs.declared.state.GroupState.{GroupState}
use Rattle.gl_model.specs.declared.objects.BufferFacts.{BufferFacts}
use Rattle.gl_model.specs.Bindings.{current_entry, same_option, buffer_binding}
use Rattle.gl_model.specs.GroupEffect.{object_of, with_context, with_egl_error, egl_change, change_buffer, delete_buffer, gl_change, gl_change_in, group_effect}
use Rattle.gl_model.specs.Legal.{with_gl_error, note_gl_error, refused_group}
use Rattle.gl_model.proofs.TableLaws.{is_at-nat_cmp, entry-with_entry}
use Rattle.front_core.specs.Answering.{changes_contexts}
use Rattle.front_core.specs.Share.{HaveIndexes, is_built}
use Rattle.front_core.proofs.ContextIndexes.{indexes_of_equal}

-- the keys of a table

has-first : {V : Type 0} (e : ℕ × V) (t : Entries V) → has e.0 (e ∷ t) ≡ true
has-first e t = ap (λ b. is_some (cond b (Some e.1) (entry e.0 t))) (is_at-nat_cmp e.0 e.0 ∙ eq-eqb e.0 e.0 refl)

has-later : {V : Type 0} (n : ℕ) (e : ℕ × V) (t : Entries V) → has n t ≡ true → has n (e ∷ t) ≡ true
has-later {V} n e t h = by_first (is_at (nat_cmp n) e.0) (entry n t) h
  where
    by_first : (b : Bool) (o : Option V) → is_some o ≡ true → is_some (cond b (Some e.1) o) ≡ true
    by_first true o is = refl
    by_first false o is = is

-- what is found in a table is in it under its key
has-found : {V : Type 0} (p : ℕ × V → Bool) (t : Entries V) (e : ℕ × V) → find p t ≡ Some e → has e.0 t ≡ true
has-found p [] e is = let bad : ⊥ = cc in absurd bad
has-found {V} p (x ∷ t) e is = by_test (p x) (λ later. has-found p t e later) is
  where
    by_test : (b : Bool) → (find p t ≡ Some e → has e.0 t ≡ true) → cond b (Some x) (find p t) ≡ Some e → has e.0 (x ∷ t) ≡ true
    by_test true rest here = let same : x ≡ e = cc in subst (λ (y : ℕ × V). has y.0 (x ∷ t) ≡ true) same (has-first x t)
    by_test false rest later = has-later e.0 x t (rest later)

-- a table has the keys that it had, once one of them has another value
has-with_entry : {V : Type 0} (k n : ℕ) (v : V) (t : Entries V) → has k t ≡ true → has n (with_entry k v t) ≡ has n t
has-with_entry k n v t there = ap is_some (entry-with_entry k n v t) ∙ by_key (n == k) refl
  where
    by_key : (b : Bool) → (n == k) ≡ b → is_some (cond b (Some v) (entry n t)) ≡ has n t
    by_key true is = sym (subst (λ m. has m t ≡ true) (sym (eqb-true n k is)) there)
    by_key false is = refl

-- a call of OpenGL ES

buffer_stays : (group : GroupState) (n : ℕ) (bound : Option ℕ) (change : BufferFacts → BufferFacts) → has n (change_buffer group bound change).contexts ≡ has n group.contexts
buffer_stays group n None change = refl
buffer_stays group n (Some b) change = refl

delete_stays : (group : GroupState) (n number : ℕ) (context : Context) (object : Option ℕ) → has number group.contexts ≡ true → has n (delete_buffer group number context object).contexts ≡ has n group.contexts
delete_stays group n number context None there = refl
delete_stays group n number context (Some b) there = has-with_entry number n _ group.contexts there

change_stays : (group : GroupState) (n number : ℕ) (context : Context) (asked : Call) → is_built asked ≡ true → has number group.contexts ≡ true → has n (gl_change group number context asked).contexts ≡ has n group.contexts
change_stays group n number context (call.CreateContext m) built there = refl
change_stays group n number context (call.DestroyContext m) built there = refl
change_stays group n number context (call.MakeCurrent m) built there = refl
change_stays group n number context call.EglGetError built there = refl
change_stays group n number context call.GetError built there = has-with_entry number n _ group.contexts there
change_stays group n number context (call.GetInteger limit) built there = refl
change_stays group n number context (call.Gen kinds.Buffer count) built there = refl
change_stays group n number context (call.Delete kinds.Buffer name) built there = delete_stays group n number context (object_of group.buffer_names name) there
change_stays group n number context (call.Bind (targets.Buffer target) name) built there = has-with_entry number n _ group.contexts there
change_stays group n number context (call.BufferData target size usage payload) built there = buffer_stays group n (buffer_binding context target) _
change_stays group n number context (call.BufferSubData target offset payload) built there = refl
change_stays group n number context (call.CopyBufferSubData from to read write size) built there = refl
change_stays group n number context (call.MapBufferRange target offset len access) built there = buffer_stays group n (buffer_binding context target) _
change_stays group n number context (call.FlushMappedBufferRange target offset len) built there = refl
change_stays group n number context (call.UnmapBuffer target) built there = buffer_stays group n (buffer_binding context target) _
change_stays group n number context (call.MapRead target offset len) built there = refl
change_stays group n number context (call.MapWrite target offset payload) built there = refl
change_stays group n number context (call.PixelStore parameter value) built there = has-with_entry number n _ group.contexts there
change_stays group n number context (call.CreateSync name) built there = refl
change_stays group n number context (call.EglClientWaitSync name flush timeout) built there = refl
change_stays group n number context (call.DestroySync name) built there = refl
change_stays group n number context (call.FenceSync name condition flags) built there = refl
change_stays group n number context (call.ClientWaitSync name flags timeout) built there = refl
change_stays group n number context (call.WaitSync name flags end) built there = refl
change_stays group n number context (call.DeleteSync name) built there = refl
change_stays group n number context call.Flush built there = refl
change_stays group n number context call.Finish built there = refl
change_stays group n number context asked built there = absurd (false≢true built)

change_in_stays : (group : GroupState) (thread n : ℕ) (asked : Call) (current : Option (ℕ × Context)) → is_built asked ≡ true → current_entry group thread ≡ current → has n (gl_change_in group current asked).contexts ≡ has n group.contexts
change_in_stays group thread n asked None built is = refl
change_in_stays group thread n asked (Some e) built is = change_stays group n e.0 e.1 asked built (has-found (λ x. same_option x.1.thread (Some thread)) group.contexts e is)

-- a call of EGL
egl_stays : (group : GroupState) (thread n : ℕ) (asked : Call) → changes_contexts asked ≡ false → has n (egl_change group thread asked).contexts ≡ has n group.contexts
egl_stays group thread n (call.CreateContext number) others = absurd (false≢true (sym others))
egl_stays group thread n (call.DestroyContext number) others = absurd (false≢true (sym others))
egl_stays group thread n (call.MakeCurrent number) others = absurd (false≢true (sym others))
egl_stays group thread n asked others = refl

pub contexts_stay : (group : GroupState) (thread n : ℕ) (asked : Call) → is_built asked ≡ true → changes_contexts asked ≡ false → has n (group_effect group thread asked).contexts ≡ has n group.contexts
contexts_stay group thread n asked built others = by_egl (is_egl_call asked)
  where
    by_egl : (b : Bool) → has n (if b then with_egl_error (egl_change group thread asked) thread Success else gl_change_in group (current_entry group thread) asked).contexts ≡ has n group.contexts
    by_egl true = egl_stays group thread n asked others
    by_egl false = change_in_stays group thread n asked (current_entry group thread) built refl

-- a refusal

noted_stays : (group : GroupState) (thread n : ℕ) (error : GlError) → has n (note_gl_error group thread error).contexts ≡ has n group.contexts
noted_stays group thread n error = by_current (current_entry group thread) refl
  where
    by_current : (current : Option (ℕ × Context)) → current_entry group thread ≡ current → has n (option_map_or (λ e. with_context group e.0 (with_gl_error error e.1)) current group).contexts ≡ has n group.contexts
    by_current None is = refl
    by_current (Some e) is = has-with_entry e.0 n _ group.contexts (has-found (λ x. same_option x.1.thread (Some thread)) group.contexts e is)

pub refused_stays : (group : GroupState) (thread n : ℕ) (answer : Reply) → has n (refused_group group thread answer).contexts ≡ has n group.contexts
refused_stays group thread n (reply.GlFault error) = noted_stays group thread n error
refused_stays group thread n reply.WaitFailed = noted_stays group thread n InvalidValue
refused_stays group thread n answer = refl

-- each context has its index still where the numbers of contexts stay
pub indexes_stay : (before after : Entries Context) (p q : Entries ℕ) (m k : ℕ) → HaveIndexes before p m → ((n : ℕ) → has n after ≡ has n before) → q ≡ p → k ≡ m → HaveIndexes after q k
indexes_stay before after p q m k h keys serials group =
    indexes_of_equal after after q p k m refl serials group
    (record { each = λ n. h.each n ∙ sym (keys n); of_group = h.of_group; distinct = h.distinct })
