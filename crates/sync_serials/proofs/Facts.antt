-- What an accepted call leaves of the facts of syncs and contexts.
use Rattle.std.proofs.Common.{◌≡◌, ℕ, ◌<◌, IfSome, true, false, Option, Some, None, refl, ap, sym, ◌∙◌, subst}
use Rattle.std.specs.Option.{option_map_or}
use Rattle.std.specs.Ordering.{nat_cmp}
use Rattle.std.specs.BTreeMap.{is_at}
use Rattle.std.proofs.lemmas.Map.Views.{IfSome-lookup_from_All}
use Rattle.gl_calls.specs.declared.call.Call.{Call}
use Rattle.gl_calls.specs.declared.call.Call.TheVariants as call
use Rattle.gl_calls.specs.declared.words.FenceCondition.{FenceCondition}
use Rattle.gl_calls.specs.declared.reply.Reply.{Reply}
use Rattle.gl_calls.specs.declared.reply.Entry.{Entry}
use Rattle.tables.specs.Table.{Entries, entry, has, only}
use Rattle.gl_model.specs.declared.state.Context.{Context}
use Rattle.gl_model.specs.Bindings.{current_context}
use Rattle.gl_model.specs.GroupEffect.{group_effect}
use Rattle.gl_model.specs.GroupModel.{GroupModel, Fence}
use Rattle.gl_model.specs.Effect.{effect, kept, gl_contents, gl_storage, in_context, fence_effect}
use Rattle.gl_model.specs.Legal.{told, refused, after_entry}
use Rattle.gl_model.specs.Refusal.{refusal}
use Rattle.gl_model.specs.Syncs.{HasSyncs}
use Rattle.sync_serials.specs.declared.serials.SyncName.{SyncName}
use Rattle.sync_serials.specs.declared.serials.SyncName.TheVariants.{Gl, Egl}
use Rattle.sync_serials.specs.Serials.{fence_at, is_wait, leaves_contexts}
use Rattle.sync_serials.proofs.Orders.{was-only, passes-only}

-- An entry

pub refused_entry : (state : GroupModel) (e : Entry) (place : ℕ) (answer : Reply) → refusal state.group e.thread e.call ≡ Some answer → after_entry state e place ≡ refused state e.thread answer
refused_entry state e place answer is =
    ap (λ o. option_map_or (λ answer. refused state e.thread answer) o (told (effect state e.thread e.call place) e.call e.reply)) is

pub accepted_entry : (state : GroupModel) (e : Entry) (place : ℕ) → refusal state.group e.thread e.call ≡ None → after_entry state e place ≡ told (effect state e.thread e.call place) e.call e.reply
accepted_entry state e place is =
    ap (λ o. option_map_or (λ answer. refused state e.thread answer) o (told (effect state e.thread e.call place) e.call e.reply)) is

-- a call that is no wait tells nothing
pub nothing_told : (state : GroupModel) (asked : Call) (answer : Reply) → is_wait asked ≡ false → told state asked answer ≡ state
nothing_told state (call.ClientWaitSync number flags timeout) answer is = let no : ⊥ = cc in absurd no
nothing_told state (call.EglClientWaitSync number flush timeout) answer is = let no : ⊥ = cc in absurd no
nothing_told state _ answer is = refl

-- Calls that write nothing

-- what a call does in a context, where it does nothing
pub record WritesNothing (asked : Call) : Type 0 where
  pub contents : (state : GroupModel) (context : Context) → gl_contents state context asked ≡ state
  pub storage : (state : GroupModel) (context : Context) → gl_storage state context asked ≡ state

in_any_context : (f : GroupModel → Context → Call → GroupModel) (state : GroupModel) (thread : ℕ) (asked : Call) → ((context : Context) → f state context asked ≡ state) → in_context f state thread asked ≡ state
in_any_context f state thread asked same = by_context (current_context state.group thread)
  where
    by_context : (o : Option Context) → option_map_or (λ context. f state context asked) o state ≡ state
    by_context None = refl
    by_context (Some context) = same context

-- the state that a call leaves, before it is cut down to what exists
abbrev left_by : GroupModel → ℕ → Call → ℕ → GroupModel
left_by state thread asked place = record (fence_effect state thread asked place) { group = group_effect state.group thread asked }

effect_is : (state : GroupModel) (thread : ℕ) (asked : Call) (place : ℕ) → WritesNothing asked → effect state thread asked place ≡ kept (left_by state thread asked place)
effect_is state thread asked place nothing =
    ap kept (in_any_context gl_storage (record (fence_effect (in_context gl_contents state thread asked) thread asked place) { group = group_effect state.group thread asked }) thread asked (λ context. nothing.storage _ context))
    ∙ ap (λ w. kept (record (fence_effect w thread asked place) { group = group_effect state.group thread asked })) (in_any_context gl_contents state thread asked (λ context. nothing.contents state context))

-- a state has the facts of another one, and births of no contexts but these
pub record HasFacts (after state : GroupModel) (contexts : Entries Context) : Type 0 where
  pub fences : after.fences ≡ state.fences
  pub egl_fences : after.egl_fences ≡ state.egl_fences
  pub births : (n birth : ℕ) → entry n after.births ≡ Some birth → (entry n state.births ≡ Some birth) × (has n contexts ≡ true)

-- What an accepted call that writes nothing leaves: the facts that the call makes of those before, and births of the contexts
-- that are left.
pub facts_after : (state : GroupModel) (thread : ℕ) (asked : Call) (place : ℕ) → WritesNothing asked → HasFacts (effect state thread asked place) (fence_effect state thread asked place) (group_effect state.group thread asked).contexts
facts_after state thread asked place nothing = record {
  fences = ap (λ s. s.fences) is;
  egl_fences = ap (λ s. s.egl_fences) is;
  births = λ n birth at.
      let there : entry n (only (λ k. has k (group_effect state.group thread asked).contexts) (fence_effect state thread asked place).births) ≡ Some birth = sym (ap (λ s. entry n s.births) is) ∙ at in (
        was-only (λ k. has k (group_effect state.group thread asked).contexts) n (fence_effect state thread asked place).births birth there,
        passes-only (λ k. has k (group_effect state.group thread asked).contexts) n (fence_effect state thread asked place).births birth there,
      );
}
  where
    is : effect state thread asked place ≡ kept (left_by state thread asked place)
    is = effect_is state thread asked place nothing

pub creates_nothing : (number : ℕ) → WritesNothing (call.CreateContext number)
creates_nothing number = record { contents = λ state context. refl; storage = λ state context. refl }

pub destroys_nothing : (number : ℕ) → WritesNothing (call.DestroyContext number)
destroys_nothing number = record { contents = λ state context. refl; storage = λ state context. refl }

pub takes_nothing : (number : ℕ) → WritesNothing (call.MakeCurrent number)
takes_nothing number = record { contents = λ state context. refl; storage = λ state context. refl }

pub fence_writes_nothing : (number : ℕ) (condition : FenceCondition) (flags : ℕ) → WritesNothing (call.FenceSync number condition flags)
fence_writes_nothing number condition flags = record { contents = λ state context. refl; storage = λ state context. refl }

pub delete_writes_nothing : (number : ℕ) → WritesNothing (call.DeleteSync number)
delete_writes_nothing number = record { contents = λ state context. refl; storage = λ state context. refl }

pub create_writes_nothing : (number : ℕ) → WritesNothing (call.CreateSync number)
create_writes_nothing number = record { contents = λ state context. refl; storage = λ state context. refl }

pub destroy_writes_nothing : (number : ℕ) → WritesNothing (call.DestroySync number)
destroy_writes_nothing number = record { contents = λ state context. refl; storage = λ state context. refl }

pub finish_writes_nothing : WritesNothing call.Finish
finish_writes_nothing = record { contents = λ state context. refl; storage = λ state context. refl }

-- an accepted call that is no wait leaves the effect
pub effect_entry : (state : GroupModel) (e : Entry) (place : ℕ) → refusal state.group e.thread e.call ≡ None → is_wait e.call ≡ false → after_entry state e place ≡ effect state e.thread e.call place
effect_entry state e place accepted no_wait = accepted_entry state e place accepted ∙ nothing_told (effect state e.thread e.call place) e.call e.reply no_wait

pub entry_facts : (state : GroupModel) (e : Entry) (place : ℕ) → refusal state.group e.thread e.call ≡ None → is_wait e.call ≡ false → WritesNothing e.call → HasFacts (after_entry state e place) (fence_effect state e.thread e.call place) (group_effect state.group e.thread e.call).contexts
entry_facts state e place accepted no_wait nothing =
    subst (λ m. HasFacts m (fence_effect state e.thread e.call place) (group_effect state.group e.thread e.call).contexts)
    (sym (effect_entry state e place accepted no_wait)) (facts_after state e.thread e.call place nothing)

-- the calls that take or end a context
pub record LeavesContexts (asked : Call) : Type 0 where
  pub no_wait : is_wait asked ≡ false
  pub nothing : WritesNothing asked
  pub same : (state : GroupModel) (thread place : ℕ) → fence_effect state thread asked place ≡ state

pub leaves : (asked : Call) → leaves_contexts asked ≡ true → LeavesContexts asked
leaves (call.DestroyContext number) is = record { no_wait = refl; nothing = destroys_nothing number; same = λ state thread place. refl }
leaves (call.MakeCurrent number) is = record { no_wait = refl; nothing = takes_nothing number; same = λ state thread place. refl }
leaves _ is = let no : ⊥ = cc in absurd no

-- the place of a birth
pub birth_below : (state : GroupModel) (place n birth : ℕ) → HasSyncs state place → entry n state.births ≡ Some birth → birth < place
birth_below state place n birth holds at = if_some (entry n state.births) (IfSome-lookup_from_All (λ b. b < place) (is_at (nat_cmp n)) state.births holds.birth_places) at
  where
    if_some : (o : Option ℕ) → IfSome o (λ b. b < place) → o ≡ Some birth → birth < place
    if_some None h is = let no : ⊥ = cc in absurd no
    if_some (Some b) h is = let same : b ≡ birth = cc in subst (λ c. c < place) same h

pub fence_below : (state : GroupModel) (place : ℕ) (x : SyncName) (fence : Fence) → HasSyncs state place → fence_at state x ≡ Some fence → fence.place < place
fence_below state place x fence holds at = by_name x at
  where
    if_some : (o : Option Fence) → IfSome o (λ f. f.place < place) → o ≡ Some fence → fence.place < place
    if_some None h is = let no : ⊥ = cc in absurd no
    if_some (Some g) h is = let same : g ≡ fence = cc in subst (λ (f : Fence). f.place < place) same h

    by_name : (x : SyncName) → fence_at state x ≡ Some fence → fence.place < place
    by_name (Gl n) at = if_some (entry n state.fences) (IfSome-lookup_from_All (λ f. f.place < place) (is_at (nat_cmp n)) state.fences holds.fence_places) at
    by_name (Egl n) at = if_some (entry n state.egl_fences) (IfSome-lookup_from_All (λ f. f.place < place) (is_at (nat_cmp n)) state.egl_fences holds.egl_fence_places) at
