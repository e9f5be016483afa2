-- What a call that is accepted tells of the group's syncs, and what waits may answer.
use Rattle.std.proofs.Common.{◌≡◌, ℕ, ◌≤◌, ◌==◌, nat_le, Bool, true, false, not, Option, Some, None, [], ◌∷◌, inl, inr, refl, ap, sym, ◌∙◌, subst, arith, if◌then◌else◌, is_some}
use Rattle.std.specs.Option.{option_map_or}
use Rattle.std.proofs.lemmas.Grind.{common_steps}
use Rattle.gl_calls.specs.declared.call.Call.{Call}
use Rattle.gl_calls.specs.declared.call.Call.TheVariants as call
use Rattle.gl_calls.specs.declared.call.WaitEnd.{WaitEnd}
use Rattle.gl_calls.specs.declared.words.FenceCondition.{FenceCondition}
use Rattle.gl_calls.specs.declared.reply.Reply.{Reply}
use Rattle.gl_calls.specs.declared.reply.Reply.TheVariants as reply
use Rattle.gl_calls.specs.declared.reply.Waited.TheVariants.{AlreadySignaled, TimeoutExpired, ConditionSatisfied}
use Rattle.gl_calls.specs.Words.{is_other_condition}
use Rattle.tables.specs.Table.{Entries, has}
use Rattle.vk_types.specs.declared.batches.QueueSerial.{QueueSerial}
use Rattle.gl_model.specs.declared.state.Context.{Context}
use Rattle.gl_model.specs.declared.state.GroupState.{GroupState}
use Rattle.gl_model.specs.Bindings.{current_context}
use Rattle.gl_model.specs.GroupModel.{GroupModel, Fence}
use Rattle.gl_model.specs.Legal.{Answers, AnswersWait, AnswersEglWait, GlAnswersIn, fence_of}
use Rattle.gl_model.specs.Refusal.{refusal, gl_refusal}
use Rattle.gl_model.specs.RefusalRows.{first_row, invalid_enum, invalid_value}
use Rattle.gl_model.proofs.KeyLaws.{has-same_keys}
use Rattle.back_core.specs.Link.{Link}
use Rattle.front_model.specs.Face.{Face}
use Rattle.sync_serials.specs.declared.serials.SyncName.{SyncName}
use Rattle.sync_serials.specs.declared.serials.SyncName.TheVariants.{Gl, Egl}
use Rattle.sync_serials.specs.Serials.{SyncTables, SyncStands, SyncsStand, serial_at, fence_at, makes, asks, waited, egl_waited}
use Rattle.sync_serials.proofs.Orders.{none_found}
use Rattle.sync_serials.proofs.Standing.{same_names, fence_there}

-- Rows that do not hold

first_fails : (b : Bool) (answer : Reply) (o : Option Reply) → (if b then Some answer else o) ≡ None → (b ≡ false) × (o ≡ None)
first_fails true answer o is = let none : ⊥ = cc in absurd none
first_fails false answer o is = (refl, is)

third_fails : (a b c : Bool) (one two three : Reply) → first_row ((a, one) ∷ (b, two) ∷ (c, three) ∷ []) ≡ None → c ≡ false
third_fails true b c one two three is = let none : ⊥ = cc in absurd none
third_fails false true c one two three is = let none : ⊥ = cc in absurd none
third_fails false false true one two three is = let none : ⊥ = cc in absurd none
third_fails false false false one two three is = refl

not_false : (b : Bool) → not b ≡ false → b ≡ true
not_false true is = refl
not_false false is = let none : ⊥ = cc in absurd none

-- Which syncs a group has where a call is accepted

gl_new : (group : GroupState) (o : Option Context) (number : ℕ) (condition : FenceCondition) (flags : ℕ) → gl_refusal group o (call.FenceSync number condition flags) ≡ None → has number group.syncs ≡ false
gl_new group None number condition flags accepted = let none : ⊥ = cc in absurd none
gl_new group (Some context) number condition flags accepted =
    third_fails (is_other_condition condition) (not (flags == 0)) (has number group.syncs) invalid_enum invalid_value reply.Taken accepted

gl_found : (group : GroupState) (o : Option Context) (number flags timeout : ℕ) → gl_refusal group o (call.ClientWaitSync number flags timeout) ≡ None → has number group.syncs ≡ true
gl_found group None number flags timeout accepted = let none : ⊥ = cc in absurd none
gl_found group (Some context) number flags timeout accepted = not_false _ (first_fails _ _ _ accepted).0

wait_found : (group : GroupState) (o : Option Context) (number flags : ℕ) (end : WaitEnd) → gl_refusal group o (call.WaitSync number flags end) ≡ None → has number group.syncs ≡ true
wait_found group None number flags end accepted = let none : ⊥ = cc in absurd none
wait_found group (Some context) number flags end accepted = not_false _ (first_fails _ _ _ accepted).0

egl_new : (group : GroupState) (thread number : ℕ) → refusal group thread (call.CreateSync number) ≡ None → has number group.egl_syncs ≡ false
egl_new group thread number accepted = (first_fails _ _ _ (first_fails _ _ _ accepted).1).0

egl_found : (group : GroupState) (thread number timeout : ℕ) (flush : Bool) → refusal group thread (call.EglClientWaitSync number flush timeout) ≡ None → has number group.egl_syncs ≡ true
egl_found group thread number timeout flush accepted = not_false _ (first_fails _ _ _ accepted).0

-- Which serials there are

has_of : GroupState → SyncName → Bool
has_of group (Gl n) = has n group.syncs
has_of group (Egl n) = has n group.egl_syncs

serials_of_group : (f : Face) (s : Link) (ids : Entries ℕ) (tables : SyncTables) (state : GroupModel) (place : ℕ) → SyncsStand f s ids tables state place → (x : SyncName) → is_some (serial_at tables x) ≡ has_of state.group x
unfolding has_of
serials_of_group f s ids tables state place stand (Gl n) = same_names f s ids tables state place stand (Gl n) ∙ has-same_keys n state.fences state.group.syncs stand.known.fences
serials_of_group f s ids tables state place stand (Egl n) = same_names f s ids tables state place stand (Egl n) ∙ has-same_keys n state.egl_fences state.group.egl_syncs stand.known.egl_fences

new_name : (group : GroupState) (thread : ℕ) (asked : Call) (x : SyncName) → refusal group thread asked ≡ None → makes asked x → has_of group x ≡ false
unfolding has_of
new_name group thread (call.FenceSync number condition flags) x accepted is =
    subst (λ y. has_of group y ≡ false) (sym is) (gl_new group (current_context group thread) number condition flags accepted)
new_name group thread (call.CreateSync number) x accepted is = subst (λ y. has_of group y ≡ false) (sym is) (egl_new group thread number accepted)
new_name group thread _ x accepted is = absurd is

asked_name : (group : GroupState) (thread : ℕ) (asked : Call) (x : SyncName) → refusal group thread asked ≡ None → asks asked x → has_of group x ≡ true
unfolding has_of
asked_name group thread (call.ClientWaitSync number flags timeout) x accepted is =
    subst (λ y. has_of group y ≡ true) (sym is) (gl_found group (current_context group thread) number flags timeout accepted)
asked_name group thread (call.EglClientWaitSync number flush timeout) x accepted is =
    subst (λ y. has_of group y ≡ true) (sym is) (egl_found group thread number timeout flush accepted)
asked_name group thread _ x accepted is = absurd is

pub new_sync : (f : Face) (s : Link) (ids : Entries ℕ) (tables : SyncTables) (state : GroupModel) (place thread : ℕ) (asked : Call) (x : SyncName) → SyncsStand f s ids tables state place → refusal state.group thread asked ≡ None → makes asked x → serial_at tables x ≡ None
new_sync f s ids tables state place thread asked x stand accepted is =
    none_found (serial_at tables x) (serials_of_group f s ids tables state place stand x ∙ new_name state.group thread asked x accepted is)

pub found_sync : (f : Face) (s : Link) (ids : Entries ℕ) (tables : SyncTables) (state : GroupModel) (place thread : ℕ) (asked : Call) (x : SyncName) → SyncsStand f s ids tables state place → refusal state.group thread asked ≡ None → asks asked x → is_some (serial_at tables x) ≡ true
found_sync f s ids tables state place thread asked x stand accepted is =
    serials_of_group f s ids tables state place stand x ∙ asked_name state.group thread asked x accepted is

pub found_by_wait : (f : Face) (s : Link) (ids : Entries ℕ) (tables : SyncTables) (state : GroupModel) (place thread number flags : ℕ) (end : WaitEnd) → SyncsStand f s ids tables state place → refusal state.group thread (call.WaitSync number flags end) ≡ None → is_some (serial_at tables (Gl number)) ≡ true
unfolding has_of
found_by_wait f s ids tables state place thread number flags end stand accepted =
    serials_of_group f s ids tables state place stand (Gl number) ∙ wait_found state.group (current_context state.group thread) number flags end accepted

-- What waits may answer

le_true : (a b : ℕ) → a ≤ b → nat_le a b ≡ true
le_true a b h = grind (arith, common_steps)

wait_answers : (b c : Bool) (timeout : ℕ) → (b ≡ true → c ≡ true) → AnswersWait (reply.Waited (if c then AlreadySignaled else if timeout == 0 then TimeoutExpired else ConditionSatisfied)) b timeout
wait_answers true c timeout h = ap (λ c. reply.Waited (if c then AlreadySignaled else if timeout == 0 then TimeoutExpired else ConditionSatisfied)) (h refl)
wait_answers false true timeout h = inl refl
wait_answers false false timeout h = inr refl

egl_wait_answers : (b c : Bool) (timeout : ℕ) → (b ≡ true → c ≡ true) → AnswersEglWait (reply.Waited (if c then ConditionSatisfied else if timeout == 0 then TimeoutExpired else ConditionSatisfied)) b timeout
egl_wait_answers true c timeout h = ap (λ c. reply.Waited (if c then ConditionSatisfied else if timeout == 0 then TimeoutExpired else ConditionSatisfied)) (h refl)
egl_wait_answers false true timeout h = inl refl
egl_wait_answers false false timeout h = inr refl

-- a sync that is known to be signalled has a number that is completed
known_completed : (f : Face) (s : Link) (ids : Entries ℕ) (tables : SyncTables) (state : GroupModel) (place completed : ℕ) (x : SyncName) (serial : QueueSerial) → SyncsStand f s ids tables state place → serial_at tables x ≡ Some serial → s.done serial.index ≤ completed → option_map_or (λ (f : Fence). f.signalled) (fence_at state x) false ≡ true → nat_le serial.number completed ≡ true
known_completed f s ids tables state place completed x serial stand at done is = by_fence (fence_there f s ids tables state place x serial stand at)
  where
    by_fence : (fence : Fence) × (fence_at state x ≡ Some fence) → nat_le serial.number completed ≡ true
    by_fence g =
        let st : SyncStands f s ids tables state place serial g.0 = stand.stands x serial g.0 at g.1 in
        le_true serial.number completed (omega (arith, done, st.signalled (sym (ap (λ o. option_map_or (λ (f : Fence). f.signalled) o false) g.1) ∙ is)))

pub gl_answers : (f : Face) (s : Link) (ids : Entries ℕ) (tables : SyncTables) (state : GroupModel) (place thread number flags timeout completed : ℕ) (serial : QueueSerial) → SyncsStand f s ids tables state place → refusal state.group thread (call.ClientWaitSync number flags timeout) ≡ None → serial_at tables (Gl number) ≡ Some serial → s.done serial.index ≤ completed → Answers state thread (call.ClientWaitSync number flags timeout) (reply.Waited (waited serial.number completed timeout))
gl_answers f s ids tables state place thread number flags timeout completed serial stand accepted at done = by_context (current_context state.group thread) accepted
  where
    by_context : (o : Option Context) → gl_refusal state.group o (call.ClientWaitSync number flags timeout) ≡ None → GlAnswersIn state o (call.ClientWaitSync number flags timeout) (reply.Waited (waited serial.number completed timeout))
    by_context None is = let none : ⊥ = cc in absurd none
    by_context (Some context) is =
        wait_answers (fence_of state.fences number) (nat_le serial.number completed) timeout
        (known_completed f s ids tables state place completed (Gl number) serial stand at done)

pub egl_answers : (f : Face) (s : Link) (ids : Entries ℕ) (tables : SyncTables) (state : GroupModel) (place thread number timeout completed : ℕ) (flush : Bool) (serial : QueueSerial) → SyncsStand f s ids tables state place → refusal state.group thread (call.EglClientWaitSync number flush timeout) ≡ None → serial_at tables (Egl number) ≡ Some serial → s.done serial.index ≤ completed → Answers state thread (call.EglClientWaitSync number flush timeout) (reply.Waited (egl_waited serial.number completed timeout))
egl_answers f s ids tables state place thread number timeout completed flush serial stand accepted at done =
    egl_wait_answers (fence_of state.egl_fences number) (nat_le serial.number completed) timeout
    (known_completed f s ids tables state place completed (Egl number) serial stand at done)
