-- Serials go on standing as a state learns that syncs are signalled.
use Rattle.std.proofs.Common.{◌≡◌, ℕ, ◌+◌, ◌≤◌, ◌⊎◌, ◌==◌, ◌||◌, ◌&&◌, nat_le, Bool, true, false, Option, Some, None, inl, inr, refl, ap, sym, ◌∙◌, subst, arith, if◌then◌else◌, unwrap_or}
use Rattle.std.specs.Option.{option_map_or, option_map, option_and_then}
use Rattle.std.specs.Map.{keys_of}
use Rattle.std.proofs.lemmas.Bool.{eqb-true}
use Rattle.std.proofs.lemmas.Grind.{common_steps}
use Rattle.gl_calls.specs.declared.call.Call.{Call}
use Rattle.gl_calls.specs.declared.call.Call.TheVariants as call
use Rattle.gl_calls.specs.declared.reply.Entry.{Entry}
use Rattle.gl_calls.specs.declared.reply.Reply.{Reply}
use Rattle.tables.specs.Table.{Entries, entry, each_value}
use Rattle.vk_types.specs.declared.batches.QueueSerial.{QueueSerial}
use Rattle.gl_model.specs.declared.state.Context.{Context}
use Rattle.gl_model.specs.Bindings.{current_entry, same_option}
use Rattle.gl_model.specs.GroupEffect.{group_effect}
use Rattle.gl_model.specs.GroupModel.{GroupModel, Fence}
use Rattle.gl_model.specs.Effect.{effect, fence_effect, signal_until, birth_of}
use Rattle.gl_model.specs.Legal.{after_entry, told, says_signalled, signal_fence}
use Rattle.gl_model.specs.Refusal.{refusal}
use Rattle.gl_model.specs.Syncs.{HasSyncs, changes_syncs}
use Rattle.gl_model.proofs.KeyLaws.{keys-each_value, has-found}
use Rattle.gl_model.proofs.SyncLaws.{after_entry-syncs, quiet_fences, quiet_egl_fences, quiet_births}
use Rattle.back_core.specs.Link.{Link}
use Rattle.front_model.specs.Face.{Face}
use Rattle.sync_serials.specs.declared.serials.SyncName.{SyncName}
use Rattle.sync_serials.specs.declared.serials.SyncName.TheVariants.{Gl, Egl}
use Rattle.sync_serials.specs.Serials.{SyncTables, SyncStands, SyncsStand, serial_at, fence_at, newest_of, index_on, asks, is_wait}
use Rattle.sync_serials.proofs.Orders.{entry-each_value, found, both_some}
use Rattle.sync_serials.proofs.Facts.{WritesNothing, HasFacts, accepted_entry, entry_facts, finish_writes_nothing}
use Rattle.sync_serials.proofs.Standing.{WasThere, stand_after, same_contexts, same_fences, fence_there}

-- The syncs of a context up to a place

abbrev mark : ℕ → ℕ → Fence → Fence
mark context until f = record f { signalled = f.signalled || (f.context == context && nat_le f.place until) }

marked_by : (p q r : Bool) → (p || (q && r)) ≡ true → (p ≡ true) ⊎ ((q ≡ true) × (r ≡ true))
marked_by true q r is = inl refl
marked_by false true true is = inr (refl, refl)
marked_by false true false is = let no : ⊥ = cc in absurd no
marked_by false false r is = let no : ⊥ = cc in absurd no

le_from : (a b : ℕ) → nat_le a b ≡ true → a ≤ b
le_from a b is = grind (arith, common_steps)

marked_at : (state after : GroupModel) (context until : ℕ) → after.fences ≡ (signal_until context until state).fences → after.egl_fences ≡ (signal_until context until state).egl_fences → (x : SyncName) → fence_at after x ≡ option_map (mark context until) (fence_at state x)
marked_at state after context until fences egl_fences (Gl n) = ap (entry n) fences ∙ entry-each_value (mark context until) n state.fences
marked_at state after context until fences egl_fences (Egl n) = ap (entry n) egl_fences ∙ entry-each_value (mark context until) n state.egl_fences

-- the number of each sync of a context up to a place is completed
abbrev pub AreCompleted : Link → SyncTables → GroupModel → ℕ → ℕ → Type 0
AreCompleted s tables state context until =
    (x : SyncName) (serial : QueueSerial) (fence : Fence) → serial_at tables x ≡ Some serial → fence_at state x ≡ Some fence →
    fence.context ≡ context → fence.place ≤ until → serial.number ≤ s.done serial.index

pub signalled : (f : Face) (s : Link) (ids : Entries ℕ) (tables : SyncTables) (state after : GroupModel) (place context until : ℕ) → SyncsStand f s ids tables state place → HasSyncs after (place + 1) → after.fences ≡ (signal_until context until state).fences → after.egl_fences ≡ (signal_until context until state).egl_fences → ((n birth : ℕ) → entry n after.births ≡ Some birth → entry n state.births ≡ Some birth) → AreCompleted s tables state context until → SyncsStand f s ids tables after (place + 1)
signalled f s ids tables state after place context until stand known fences egl_fences born completed =
    stand_after f s ids ids tables tables state after place stand
    (record {
      known = known;
      group = refl;
      newest = refl;
      fences = stand.fences ∙ sym (keys-each_value (mark context until) state.fences) ∙ sym (ap keys_of fences);
      egl_fences = stand.egl_fences ∙ sym (keys-each_value (mark context until) state.egl_fences) ∙ sym (ap keys_of egl_fences);
      ordered = stand.ordered;
      egl_ordered = stand.egl_ordered;
      serials = λ x serial at. at;
      was = λ x serial fence at there. was x serial fence at (fence_at state x) refl (sym (marked_at state after context until fences egl_fences x) ∙ there);
      born = λ n birth at below. born n birth at;
      kept = λ n birth index at below there. there;
      births = λ n m birth at_n at_m. stand.births n m birth (born n birth at_n) (born m birth at_m);
    })
  where
    was : (x : SyncName) (serial : QueueSerial) (fence : Fence) → serial_at tables x ≡ Some serial → (o : Option Fence) → fence_at state x ≡ o → option_map (mark context until) o ≡ Some fence → WasThere s state x serial fence
    was x serial fence at None there is = let no : ⊥ = cc in absurd no
    was x serial fence at (Some old) there is =
        let same : mark context until old ≡ fence = cc in
        record {
          old = old;
          there = there;
          context = sym (ap (λ g. g.context) same);
          at = sym (ap (λ g. g.place) same);
          signalled = λ yes. newly old there (marked_by old.signalled (old.context == context) (nat_le old.place until) (ap (λ g. g.signalled) same ∙ yes));
        }
      where
        newly : (old : Fence) → fence_at state x ≡ Some old → (old.signalled ≡ true) ⊎ (((old.context == context) ≡ true) × (nat_le old.place until ≡ true)) → (old.signalled ≡ true) ⊎ (serial.number ≤ s.done serial.index)
        newly old there (inl before) = inl before
        newly old there (inr both) = inr (completed x serial old at there (eqb-true old.context context both.0) (le_from old.place until both.1))

-- Finish

-- the context that is current on a thread, by its birth and its index
pub record IsCurrent (state : GroupModel) (ids : Entries ℕ) (thread index : ℕ) : Type 0 where
  pub number : ℕ
  pub birth : entry number state.births ≡ Some (birth_of state thread)
  pub at : entry number ids ≡ Some index

pub current : (state : GroupModel) (ids : Entries ℕ) (thread index place : ℕ) → HasSyncs state place → index_on state.group ids thread ≡ Some index → IsCurrent state ids thread index
current state ids thread index place known on = by_entry (current_entry state.group thread) refl on
  where
    by_birth : (e : ℕ × Context) → current_entry state.group thread ≡ Some e → entry e.0 ids ≡ Some index → (birth : ℕ) × (entry e.0 state.births ≡ Some birth) → IsCurrent state ids thread index
    by_birth e is at b = record {
      number = e.0;
      birth =
          b.1
          ∙ ap Some (sym (ap (λ o. unwrap_or o 0) b.1))
          ∙ ap (λ o. Some (option_map_or (λ (e : ℕ × Context). unwrap_or (entry e.0 state.births) 0) o 0)) (sym is);
      at = at;
    }

    by_entry : (o : Option (ℕ × Context)) → current_entry state.group thread ≡ o → option_and_then (λ (e : ℕ × Context). entry e.0 ids) o ≡ Some index → IsCurrent state ids thread index
    by_entry None is at = let no : ⊥ = cc in absurd no
    by_entry (Some e) is at =
        by_birth e is at
        (found (entry e.0 state.births) (known.births e.0 ∙ has-found (λ (e : ℕ × Context). same_option e.1.thread (Some thread)) state.group.contexts e is))

-- the index of a sync of the current context
pub own_index : (f : Face) (s : Link) (ids : Entries ℕ) (tables : SyncTables) (state : GroupModel) (place thread index : ℕ) (serial : QueueSerial) (fence : Fence) → IsCurrent state ids thread index → SyncStands f s ids tables state place serial fence → fence.context ≡ birth_of state thread → serial.index ≡ index
own_index f s ids tables state place thread index serial fence now st same =
    both_some (entry now.number ids) serial.index index (st.context now.number (now.birth ∙ ap Some (sym same))) now.at

pub finished : (f : Face) (s : Link) (ids : Entries ℕ) (tables : SyncTables) (state : GroupModel) (place index : ℕ) (e : Entry) → SyncsStand f s ids tables state place → refusal state.group e.thread e.call ≡ None → e.call ≡ call.Finish → index_on state.group ids e.thread ≡ Some index → newest_of tables index ≤ s.done index → SyncsStand f s ids tables (after_entry state e place) (place + 1)
finished f s ids tables state place index e stand accepted is on done =
    signalled f s ids tables state (after_entry state e place) place (birth_of state e.thread) place stand
    (after_entry-syncs state e place stand.known)
    (facts.fences ∙ ap (λ c. (fence_effect state e.thread c place).fences) is)
    (facts.egl_fences ∙ ap (λ c. (fence_effect state e.thread c place).egl_fences) is)
    (λ n birth at. sym (ap (λ c. entry n (fence_effect state e.thread c place).births) is) ∙ (facts.births n birth at).0)
    completed
  where
    facts : HasFacts (after_entry state e place) (fence_effect state e.thread e.call place) (group_effect state.group e.thread e.call).contexts
    facts = entry_facts state e place accepted (ap is_wait is) (subst WritesNothing (sym is) finish_writes_nothing)

    completed : AreCompleted s tables state (birth_of state e.thread) place
    completed x serial fence at there same until =
        let st : SyncStands f s ids tables state place serial fence = stand.stands x serial fence at there in
        let own : serial.index ≡ index = own_index f s ids tables state place e.thread index serial fence (current state ids e.thread index place stand.known on) st same in
        subst (λ i. serial.number ≤ s.done i) (sym own) (omega (arith, subst (λ i. serial.number ≤ newest_of tables i) own st.low, done))

-- A wait's answer

-- a call that asks for a sync tells of it alone
record IsWait (asked : Call) (x : SyncName) : Type 0 where
  quiet : changes_syncs asked ≡ false
  tells : (m : GroupModel) (answer : Reply) → told m asked answer ≡ (if says_signalled answer then signal_fence (fence_at m x) m else m)

waiting : (asked : Call) (x : SyncName) → asks asked x → IsWait asked x
waiting (call.ClientWaitSync number flags timeout) x is = record {
  quiet = refl;
  tells = λ m answer. ap (λ y. if says_signalled answer then signal_fence (fence_at m y) m else m) (sym is);
}
waiting (call.EglClientWaitSync number flush timeout) x is = record {
  quiet = refl;
  tells = λ m answer. ap (λ y. if says_signalled answer then signal_fence (fence_at m y) m else m) (sym is);
}
waiting _ x is = absurd is

pub asked : (f : Face) (s : Link) (ids : Entries ℕ) (tables : SyncTables) (state : GroupModel) (place : ℕ) (e : Entry) (x : SyncName) (serial : QueueSerial) → SyncsStand f s ids tables state place → refusal state.group e.thread e.call ≡ None → asks e.call x → serial_at tables x ≡ Some serial → (says_signalled e.reply ≡ true → serial.number ≤ s.done serial.index) → SyncsStand f s ids tables (after_entry state e place) (place + 1)
asked f s ids tables state place e x serial stand accepted is at done = by_answer (says_signalled e.reply) refl
  where
    w : IsWait e.call x
    w = waiting e.call x is

    fences : (effect state e.thread e.call place).fences ≡ state.fences
    fences = quiet_fences state e.thread e.call place w.quiet

    egl_fences : (effect state e.thread e.call place).egl_fences ≡ state.egl_fences
    egl_fences = quiet_egl_fences state e.thread e.call place w.quiet

    births : (effect state e.thread e.call place).births ≡ state.births
    births = quiet_births state e.thread e.call place place stand.known w.quiet

    here : after_entry state e place ≡ (if says_signalled e.reply then signal_fence (fence_at (effect state e.thread e.call place) x) (effect state e.thread e.call place) else effect state e.thread e.call place)
    here = accepted_entry state e place accepted ∙ w.tells (effect state e.thread e.call place) e.reply

    fence : (g : Fence) × (fence_at state x ≡ Some g)
    fence = fence_there f s ids tables state place x serial stand at

    completed : serial.number ≤ s.done serial.index → AreCompleted s tables state fence.0.context fence.0.place
    completed now y other g at_y there same until =
        let o = stand.order y x other serial g fence.0 at_y at there fence.1 same in
        subst (λ i. other.number ≤ s.done i) (sym o.0) (omega (arith, o.1 until, now))

    by_answer : (b : Bool) → says_signalled e.reply ≡ b → SyncsStand f s ids tables (after_entry state e place) (place + 1)
    by_answer true tells =
        let told_is : after_entry state e place ≡ signal_until fence.0.context fence.0.place (effect state e.thread e.call place) =
        here
        ∙ ap (λ b. if b then signal_fence (fence_at (effect state e.thread e.call place) x) (effect state e.thread e.call place) else effect state e.thread e.call place) tells
        ∙ ap (λ o. signal_fence o (effect state e.thread e.call place)) (same_fences state (effect state e.thread e.call place) fences egl_fences x ∙ fence.1) in
        signalled f s ids tables state (after_entry state e place) place fence.0.context fence.0.place stand
        (after_entry-syncs state e place stand.known)
        (ap (λ n. n.fences) told_is ∙ ap (each_value (mark fence.0.context fence.0.place)) fences)
        (ap (λ n. n.egl_fences) told_is ∙ ap (each_value (mark fence.0.context fence.0.place)) egl_fences)
        (λ n birth born. sym (ap (λ b. entry n b) (ap (λ k. k.births) told_is ∙ births)) ∙ born)
        (completed (done tells))
    by_answer false silent =
        let told_is : after_entry state e place ≡ effect state e.thread e.call place =
        here ∙ ap (λ b. if b then signal_fence (fence_at (effect state e.thread e.call place) x) (effect state e.thread e.call place) else effect state e.thread e.call place) silent in
        same_contexts f s ids tables state (after_entry state e place) place stand (after_entry-syncs state e place stand.known)
        (ap (λ n. n.fences) told_is ∙ fences) (ap (λ n. n.egl_fences) told_is ∙ egl_fences) (ap (λ n. n.births) told_is ∙ births)
