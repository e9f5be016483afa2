-- A call that was carried out was served: the serials of syncs go on standing beside the state after it.
use Rattle.std.proofs.Common.{◌≡◌, ◌≢◌, ℕ, ℤ, ◌+◌, ◌≤◌, Bool, true, false, Option, Some, None, is_some, inl, inr, arith, refl, sym, ◌∙◌, ap, subst, if◌then◌else◌}
use Rattle.std.specs.Option.{option_map, option_and_then}
use Rattle.std.specs.List.{find}
use Rattle.std.specs.Prelude.{IfSome}
use Rattle.std.proofs.lemmas.Bool.{false≢true, eq-eqb}
use Rattle.gl_calls.specs.declared.call.Call.{Call}
use Rattle.gl_calls.specs.declared.call.Call.TheVariants as call
use Rattle.gl_calls.specs.declared.reply.Entry.{Entry}
use Rattle.gl_calls.specs.declared.reply.Reply.{Reply}
use Rattle.gl_calls.specs.declared.reply.Reply.TheVariants as reply
use Rattle.gl_calls.specs.declared.reply.Waited.TheVariants.{TimeoutExpired, ConditionSatisfied}
use Rattle.gl_calls.specs.declared.words.AccessWord.{AccessWord}
use Rattle.gl_calls.specs.declared.words.BufferTarget.{BufferTarget}
use Rattle.tables.specs.Table.{Entries, entry, has, only, with_entry}
use Rattle.gl_model.specs.declared.state.Context.{Context}
use Rattle.gl_model.specs.declared.state.GroupState.{GroupState}
use Rattle.gl_model.specs.Bindings.{current_context, current_entry, same_option}
use Rattle.gl_model.specs.GroupEffect.{group_effect, gl_change_in}
use Rattle.gl_model.specs.GroupModel.{GroupModel}
use Rattle.gl_model.specs.Effect.{effect}
use Rattle.gl_model.specs.Legal.{after_entry, says_signalled}
use Rattle.gl_model.specs.ContextRows.{create_sync_rows}
use Rattle.gl_model.specs.RefusalRows.{first_row}
use Rattle.gl_model.specs.Refusal.{refusal}
use Rattle.gl_model.specs.Syncs.{changes_syncs}
use Rattle.vk_types.specs.declared.batches.Batch.{Batch}
use Rattle.vk_types.specs.declared.batches.QueueSerial.{QueueSerial}
use Rattle.back_core.specs.Answers.{IsNow, AskedRises}
use Rattle.back_core.specs.Needs.{IsOfGroup}
use Rattle.back_core.specs.Link.{Asked, Link}
use Rattle.front_model.specs.declared.object.Object.{Object}
use Rattle.front_model.specs.declared.object.Object.TheVariants.{Buffer}
use Rattle.front_model.specs.Face.{Face, Outline}
use Rattle.front_model.specs.Wanted.{wanted, AgreeWith}
use Rattle.front_model.specs.Calls.{makes_storage}
use Rattle.sync_serials.specs.declared.serials.SyncName.{SyncName}
use Rattle.sync_serials.specs.declared.serials.SyncName.TheVariants.{Gl}
use Rattle.sync_serials.specs.Serials.{SyncTables, SyncsStand, HasGoneOn, serial_at, asks, makes, index_on, is_wait, leaves_contexts}
use Rattle.front_core.specs.Polls.{IsPoll, IsMade, Polls, Flushes, AskedAnew, answer_by, timeout_of}
use Rattle.front_core.specs.Answering.{changes_contexts, reaches_syncs, IsWaitSync}
use Rattle.front_core.specs.Economy as economy
use Rattle.front_core.specs.Economy.{IsForSync, IsForPoll, IsSyncReason, flushes_own, upload_due}
use Rattle.front_core.proofs.BufferCalls.{context_of}
use Rattle.front_core.proofs.CurrentIndexes.{index_of_current}
use Rattle.front_core.specs.Share.{Stays, IsStateOf, IsCarriedOut, IsChanged, IsReindexed, HaveIndexes, current_index, is_of_state}
use Rattle.front_core.specs.Front.{MayAnswer, MayServe, IsServed, SyncsGoOn, entry_of}
use Rattle.front_core.proofs.AnsweredCalls.{refusal_of}
use Rattle.front_core.proofs.StateCalls.{KeepsOthers, none_either, nil_either}

-- serials stand still where batches were handed over and retired
abbrev pub GoesOn : Type 0
GoesOn = (f g : Face) (s t : Link) (ids : Entries ℕ) (tables : SyncTables) (state : GroupModel) (place : ℕ) →
    SyncsStand f s ids tables state place → HasGoneOn f g s t → SyncsStand g t ids tables state place

-- what stands after the entry of an accepted call stands on
pub stand_on : GoesOn → (f g : Face) (s t : Link) (group : GroupState) (ids later : Entries ℕ) (tables now : SyncTables) (thread : ℕ) (asked : Call) (answer : Reply) →
    refusal group thread asked ≡ None → HasGoneOn f g s t →
    ((state : GroupModel) (place : ℕ) (e : Entry) → IsStateOf state group → e.thread ≡ thread → e.call ≡ asked → SyncsStand f s ids tables state place →
    refusal state.group e.thread e.call ≡ None → SyncsStand f s later now (after_entry state e place) (place + 1)) →
    SyncsGoOn f g s t group ids later tables now thread asked answer
stand_on goes_on f g s t group ids later tables now thread asked answer why on after = λ state line place is stand.
    let e : Entry = entry_of thread line asked answer in
    goes_on f g s t later now (after_entry state e place) (place + 1)
    (after state place e is refl refl stand (refusal_of state group thread asked None is why)) on

pub served : (f g : Face) (s t : Link) (group after : GroupState) (ids later : Entries ℕ) (tables now : SyncTables) (thread : ℕ) (asked : Call) (answer : Reply) →
    IsCarriedOut f g s t group after thread asked answer → SyncsGoOn f g s t group ids later tables now thread asked answer →
    IsServed f g s t group after ids later tables now thread asked answer
served f g s t group after ids later tables now thread asked answer carried syncs = record {
  backs = carried.backs;
  state = carried.state;
  agrees = carried.agrees;
  answers = λ state place is stand agree. carried.answers state is agree;
  syncs = syncs;
}

-- the index of the context that is current, in each state whose group this is
pub index_in : (state : GroupModel) (group : GroupState) (ids : Entries ℕ) (thread : ℕ) (index : Option ℕ) → IsStateOf state group → current_index group ids thread ≡ index → index_on state.group ids thread ≡ index
index_in state group ids thread index is at = ap (λ (x : GroupState). index_on x ids thread) is.group_is ∙ at

-- Waits

pub wait_makes_none : (asked : Call) → is_wait asked ≡ true → makes_storage asked ≡ false
wait_makes_none (call.BufferData target size usage payload) which = absurd (false≢true which)
wait_makes_none (call.TexStorage levels format width height) which = absurd (false≢true which)
wait_makes_none (call.RenderbufferStorage format width height) which = absurd (false≢true which)
wait_makes_none asked which = refl

pub wait_maps_none : (asked : Call) → is_wait asked ≡ true → (target : BufferTarget) (offset len : ℤ) (access : AccessWord) → asked ≢ call.MapBufferRange target offset len access
wait_maps_none asked which target offset len access same = false≢true (sym (ap is_wait same) ∙ which)

pub wait_agrees : KeepsOthers → (state : GroupModel) (thread place : ℕ) (seen : Object → ℕ → ℕ) (asked : Call) → is_wait asked ≡ true →
    AgreeWith seen (wanted state) → AgreeWith seen (wanted (effect state thread asked place))
wait_agrees others state thread place seen (call.ClientWaitSync number flags timeout) which =
    others state thread place (call.ClientWaitSync number flags timeout) seen (none_either (current_context state.group thread)) (nil_either (current_context state.group thread))
wait_agrees others state thread place seen (call.EglClientWaitSync number flush timeout) which =
    others state thread place (call.EglClientWaitSync number flush timeout) seen (none_either (current_context state.group thread)) (nil_either (current_context state.group thread))
wait_agrees others state thread place seen asked which = absurd (false≢true which)

-- a wait leaves contexts as they are
pub wait_contexts : (group : GroupState) (thread : ℕ) (asked : Call) → is_wait asked ≡ true → (group_effect group thread asked).contexts ≡ group.contexts
wait_contexts group thread (call.EglClientWaitSync number flush timeout) which = refl
wait_contexts group thread (call.ClientWaitSync number flags timeout) which = in_either (current_entry group thread)
  where
    in_either : (o : Option (ℕ × Context)) → (gl_change_in group o (call.ClientWaitSync number flags timeout)).contexts ≡ group.contexts
    in_either None = refl
    in_either (Some x) = refl
wait_contexts group thread asked which = absurd (false≢true which)

-- what changed by a wait is so once batches were handed over and waited for
pub changed_on : (f h g : Face) (s u t : Link) (group after : GroupState) (thread : ℕ) (asked : Call) → IsChanged f h s u group after thread asked → Stays h g u t → IsChanged f g s t group after thread asked
changed_on f h g s u t group after thread asked changed stays = record {
  backs = record {
    holds = stays.holds;
    kinds = λ o. ap (λ (x : Object → Option Outline). option_map (λ v. v.kind) (x o)) stays.outlines_are ∙ changed.backs.kinds o;
    maps = λ b mapped. stays.still (Buffer b) (changed.backs.maps b mapped);
  };
  state = changed.state;
  agrees = λ state place is agree. subst (λ v. AgreeWith v (wanted (effect state thread asked place))) (sym stays.view_is) (changed.agrees state place is agree);
}

-- where a wait says that its sync is signalled, the sync's batch is known to be retired
pub says_retired : (tables : SyncTables) (s t : Link) (x : SyncName) (asked : Call) (signalled : Bool) → asks asked x → (poll : IsPoll tables s t x (timeout_of asked) signalled) →
    says_signalled (reply.Waited (answer_by asked signalled)) ≡ true → poll.polled.serial.number ≤ t.done poll.polled.serial.index
says_retired tables s t x (call.ClientWaitSync number flags timeout) true which poll says = poll.retired (λ no wait. false≢true (sym no))
says_retired tables s t x (call.ClientWaitSync number flags timeout) false which poll says = poll.retired (λ no none. false≢true (sym (ap (λ (b : Bool). says_signalled (reply.Waited (if b then TimeoutExpired else ConditionSatisfied))) (eq-eqb timeout 0 none)) ∙ says))
says_retired tables s t x (call.EglClientWaitSync number flush timeout) true which poll says = poll.retired (λ no wait. false≢true (sym no))
says_retired tables s t x (call.EglClientWaitSync number flush timeout) false which poll says = poll.retired (λ no none. false≢true (sym (ap (λ (b : Bool). says_signalled (reply.Waited (if b then TimeoutExpired else ConditionSatisfied))) (eq-eqb timeout 0 none)) ∙ says))
says_retired tables s t x other signalled which poll says = absurd which

-- Calls by their kinds

-- a call that reaches no syncs and changes no contexts
pub others_stay : (asked : Call) → changes_contexts asked ≡ false → reaches_syncs asked ≡ false → changes_syncs asked ≡ false
others_stay (call.CreateContext number) none no_sync = absurd (false≢true (sym none))
others_stay (call.DestroyContext number) none no_sync = absurd (false≢true (sym none))
others_stay (call.MakeCurrent number) none no_sync = absurd (false≢true (sym none))
others_stay (call.CreateSync number) none no_sync = absurd (false≢true (sym no_sync))
others_stay (call.DestroySync number) none no_sync = absurd (false≢true (sym no_sync))
others_stay (call.FenceSync number condition flags) none no_sync = absurd (false≢true (sym no_sync))
others_stay (call.DeleteSync number) none no_sync = absurd (false≢true (sym no_sync))
others_stay call.Finish none no_sync = absurd (false≢true (sym no_sync))
others_stay asked none no_sync = refl

pub others_wait : (asked : Call) → reaches_syncs asked ≡ false → is_wait asked ≡ false
others_wait (call.ClientWaitSync number flags timeout) no_sync = absurd (false≢true (sym no_sync))
others_wait (call.EglClientWaitSync number flush timeout) no_sync = absurd (false≢true (sym no_sync))
others_wait asked no_sync = refl

pub contexts_wait : (asked : Call) → changes_contexts asked ≡ true → is_wait asked ≡ false
contexts_wait (call.ClientWaitSync number flags timeout) which = absurd (false≢true which)
contexts_wait (call.EglClientWaitSync number flush timeout) which = absurd (false≢true which)
contexts_wait asked which = refl

-- a call that waits for no sync asks nothing
pub polls_none : (tables : SyncTables) (s t : Link) (asked : Call) (answer : Reply) → is_wait asked ≡ false → Polls tables s t asked answer
polls_none tables s t (call.ClientWaitSync number flags timeout) answer none = absurd (false≢true (sym none))
polls_none tables s t (call.EglClientWaitSync number flush timeout) answer none = absurd (false≢true (sym none))
polls_none tables s t asked answer none = tt

-- a call that reaches no syncs and changes no contexts has nothing to flush
pub flushes_none : (group : GroupState) (ids : Entries ℕ) (tables : SyncTables) (thread : ℕ) (asked : Call) (f : Face) (t : Link) (answer : Reply) →
    changes_contexts asked ≡ false → reaches_syncs asked ≡ false → Flushes group ids tables thread asked f t answer
flushes_none group ids tables thread (call.MakeCurrent number) f t answer none no_sync = absurd (false≢true (sym none))
flushes_none group ids tables thread call.Flush f t answer none no_sync = absurd (false≢true (sym no_sync))
flushes_none group ids tables thread call.Finish f t answer none no_sync = absurd (false≢true (sym no_sync))
flushes_none group ids tables thread (call.WaitSync name flags end) f t answer none no_sync = absurd (false≢true (sym no_sync))
flushes_none group ids tables thread (call.ClientWaitSync name flags timeout) f t answer none no_sync = absurd (false≢true (sym no_sync))
flushes_none group ids tables thread (call.EglClientWaitSync name flush timeout) f t answer none no_sync = absurd (false≢true (sym no_sync))
flushes_none group ids tables thread asked f t answer none no_sync = tt

-- what the laws say of calls on contexts
pub record ContextLaws : Type 0 where
  pub created : (f g : Face) (s t : Link) (group after : GroupState) (serials : Entries ℕ) (tables : SyncTables) (thread number index : ℕ) (answer : Reply) →
      refusal group thread (call.CreateContext number) ≡ None → HasGoneOn f g s t → IsCarriedOut f g s t group after thread (call.CreateContext number) answer →
      IsServed f g s t group after serials (with_entry number index serials) tables tables thread (call.CreateContext number) answer
  pub left : (f g : Face) (s t : Link) (group after : GroupState) (serials : Entries ℕ) (tables : SyncTables) (thread : ℕ) (asked : Call) (answer : Reply) →
      refusal group thread asked ≡ None → leaves_contexts asked ≡ true → HasGoneOn f g s t → IsCarriedOut f g s t group after thread asked answer →
      IsServed f g s t group after serials (only (λ n. has n after.contexts) serials) tables tables thread asked answer

pub contexts_served : ContextLaws → (f g : Face) (s t : Link) (group after : GroupState) (serials later : Entries ℕ) (tables : SyncTables) (thread : ℕ) (asked : Call) (answer : Reply) →
    changes_contexts asked ≡ true → refusal group thread asked ≡ None → IsReindexed asked serials later after.contexts → HasGoneOn f g s t →
    IsCarriedOut f g s t group after thread asked answer → IsServed f g s t group after serials later tables tables thread asked answer
contexts_served laws f g s t group after serials later tables thread (call.CreateContext number) answer which why is on carried =
    subst (λ x. IsServed f g s t group after serials x tables tables thread (call.CreateContext number) answer) (sym is.1)
    (laws.created f g s t group after serials tables thread number is.0 answer why on carried)
contexts_served laws f g s t group after serials later tables thread (call.DestroyContext number) answer which why is on carried =
    subst (λ x. IsServed f g s t group after serials x tables tables thread (call.DestroyContext number) answer) (sym is)
    (laws.left f g s t group after serials tables thread (call.DestroyContext number) answer why refl on carried)
contexts_served laws f g s t group after serials later tables thread (call.MakeCurrent number) answer which why is on carried =
    subst (λ x. IsServed f g s t group after serials x tables tables thread (call.MakeCurrent number) answer) (sym is)
    (laws.left f g s t group after serials tables thread (call.MakeCurrent number) answer why refl on carried)
contexts_served laws f g s t group after serials later tables thread asked answer which why is on carried = absurd (false≢true which)

-- Calls on syncs

-- the context that is current where a call that makes a sync was accepted
pub made_in_context : (group : GroupState) (thread : ℕ) (asked : Call) (x : SyncName) → makes asked x → refusal group thread asked ≡ None → (context : Context) × (current_context group thread ≡ Some context)
made_in_context group thread (call.FenceSync number condition flags) x which accepted = context_of group thread (call.FenceSync number condition flags) accepted
made_in_context group thread (call.CreateSync number) x which accepted = by_context (current_context group thread) refl accepted
  where
    by_context : (o : Option Context) → current_context group thread ≡ o → first_row (create_sync_rows (is_some o) (has number group.egl_syncs)) ≡ None → (context : Context) × (current_context group thread ≡ Some context)
    by_context None is none = let bad : ⊥ = cc in absurd bad
    by_context (Some context) is none = (context, is)
made_in_context group thread other x which accepted = absurd which

-- the index of that context is of the group
pub made_on : (group : GroupState) (serials : Entries ℕ) (owner thread : ℕ) (asked : Call) (x : SyncName) → HaveIndexes group.contexts serials owner → makes asked x → refusal group thread asked ≡ None →
    (i : ℕ) × (current_index group serials thread ≡ Some i) × IsOfGroup owner i
made_on group serials owner thread asked x indexes which accepted =
    let in_context = made_in_context group thread asked x which accepted in
    index_of_current group serials owner thread in_context.0 indexes in_context.1

pub finished_on : (group : GroupState) (serials : Entries ℕ) (owner thread : ℕ) → HaveIndexes group.contexts serials owner → refusal group thread call.Finish ≡ None →
    (i : ℕ) × (current_index group serials thread ≡ Some i) × IsOfGroup owner i
finished_on group serials owner thread indexes accepted =
    let in_context = context_of group thread call.Finish accepted in
    index_of_current group serials owner thread in_context.0 indexes in_context.1

-- one index is the current one
pub same_index : (o : Option ℕ) (i j : ℕ) → o ≡ Some i → o ≡ Some j → i ≡ j
same_index o i j one two = cc

pub wait_sync_stays : (asked : Call) (number : ℕ) → IsWaitSync asked number → (changes_syncs asked ≡ false) × (is_wait asked ≡ false)
wait_sync_stays (call.WaitSync name flags end) number which = (refl, refl)
wait_sync_stays other number which = absurd which

pub wait_sync_of_state : (asked : Call) (number : ℕ) → IsWaitSync asked number → is_of_state asked ≡ true
wait_sync_of_state (call.WaitSync name flags end) number which = refl
wait_sync_of_state other number which = absurd which

-- after WaitSync its sync's batch was handed over
pub wait_sync_flushes : (group : GroupState) (serials : Entries ℕ) (tables : SyncTables) (thread number : ℕ) (asked : Call) (f : Face) (t : Link) (answer : Reply) (serial : QueueSerial) → IsWaitSync asked number →
    serial_at tables (Gl number) ≡ Some serial → serial.number ≤ f.last serial.index → Flushes group serials tables thread asked f t answer
wait_sync_flushes group serials tables thread number (call.WaitSync name flags end) f t answer serial which at handed =
    subst (λ o. IfSome o (λ q. q.number ≤ f.last q.index)) (sym at ∙ ap (λ n. serial_at tables (Gl n)) (sym which)) handed
wait_sync_flushes group serials tables thread number other f t answer serial which at handed = absurd which

pub wait_sync_reason : (group : GroupState) (serials : Entries ℕ) (tables : SyncTables) (thread number : ℕ) (asked : Call) (serial : QueueSerial) → IsWaitSync asked number → serial_at tables (Gl number) ≡ Some serial →
    (batch : Batch) → IsForSync serial batch → IsSyncReason group serials tables thread asked batch
wait_sync_reason group serials tables thread number (call.WaitSync name flags end) serial which at batch is = economy.sync (Gl number) serial (ap Gl (sym which)) at is
wait_sync_reason group serials tables thread number other serial which at batch is = absurd which

-- what a wait for a sync hands over is handed over for a reason that is true of it
pub poll_reason : (group : GroupState) (serials : Entries ℕ) (tables : SyncTables) (thread : ℕ) (asked : Call) (x : SyncName) → asks asked x → (batch : Batch) →
    IsForPoll group serials tables thread x (flushes_own asked) (timeout_of asked) batch → IsSyncReason group serials tables thread asked batch
poll_reason group serials tables thread asked x which batch (inl own) = economy.flush own.asked own.own
poll_reason group serials tables thread (call.ClientWaitSync name flags timeout) x which batch (inr waited) = economy.sync x waited.0 (which, waited.2.positive) waited.1 waited.2.for_sync
poll_reason group serials tables thread (call.EglClientWaitSync name flush timeout) x which batch (inr waited) = economy.sync x waited.0 (which, waited.2.positive) waited.1 waited.2.for_sync
poll_reason group serials tables thread other x which batch (inr waited) = absurd which

-- a wait is a wait
pub asks_wait : (asked : Call) (x : SyncName) → asks asked x → is_wait asked ≡ true
asks_wait (call.ClientWaitSync name flags timeout) x which = refl
asks_wait (call.EglClientWaitSync name flush timeout) x which = refl
asks_wait other x which = absurd which

-- a call on syncs changes no contexts, and nothing is due for it
pub syncs_leave_contexts : (asked : Call) → reaches_syncs asked ≡ true → changes_contexts asked ≡ false
syncs_leave_contexts (call.CreateContext number) which = absurd (false≢true which)
syncs_leave_contexts (call.DestroyContext number) which = absurd (false≢true which)
syncs_leave_contexts (call.MakeCurrent number) which = absurd (false≢true which)
syncs_leave_contexts asked which = refl

pub no_bytes : (group : GroupState) (thread : ℕ) (asked : Call) → reaches_syncs asked ≡ true → upload_due group thread asked ≡ 0
no_bytes group thread (call.CreateSync number) which = refl
no_bytes group thread (call.EglClientWaitSync number flush timeout) which = refl
no_bytes group thread (call.DestroySync number) which = refl
no_bytes group thread (call.FenceSync number condition flags) which = refl
no_bytes group thread (call.ClientWaitSync number flags timeout) which = refl
no_bytes group thread (call.WaitSync number flags end) which = refl
no_bytes group thread (call.DeleteSync number) which = refl
no_bytes group thread call.Flush which = refl
no_bytes group thread call.Finish which = refl
no_bytes group thread asked which = absurd (false≢true which)

-- an accepted call of a state that is known may be served
pub may_serve : (f : Face) (s : Link) (group : GroupState) (serials : Entries ℕ) (tables : SyncTables) (thread : ℕ) (asked : Call) → MayAnswer f s group serials tables thread asked → refusal group thread asked ≡ None →
    MayServe f s group serials tables thread asked
may_serve f s group serials tables thread asked may accepted = record {
  may = record { backs = may.backs; declared = may.declared; accepted = accepted; model = may.model; is = may.is; its_data = may.its_data };
  place = may.place;
  syncs = may.syncs;
}

-- the poll of a wait after its state changed, seen from before
pub poll_from : (tables : SyncTables) (s u t : Link) (x : SyncName) (timeout : ℕ) (signalled : Bool) → ((i : ℕ) → s.done i ≤ u.done i) → u.now ≡ s.now → AskedRises s.asked u.asked →
    IsPoll tables u t x timeout signalled → IsPoll tables s t x timeout signalled
poll_from tables s u t x timeout signalled known now asked poll = record {
  polled = record {
    serial = poll.polled.serial;
    is = poll.polled.is;
    completed = poll.polled.completed;
    told = subst (λ n. IsNow n poll.polled.serial.index poll.polled.completed) now poll.polled.told;
    rises = let low = known poll.polled.serial.index in let later = poll.polled.rises in omega (arith, low, later);
    loaded = asked_before s.asked u.asked t.asked asked poll.polled.loaded;
    at_once = poll.polled.at_once;
  };
  is_signalled = poll.is_signalled;
  retired = poll.retired;
}
  where
    asked_before : (a b c : Option Asked) → AskedRises a b → AskedAnew b c → AskedAnew a c
    asked_before None None c first second = second
    asked_before None (Some b) c first second = absurd first
    asked_before (Some a) None c first second = absurd first
    asked_before (Some a) (Some b) None first second = absurd second
    asked_before (Some a) (Some b) (Some c) first second = omega (arith, first, second)

pub gone_then : (f h g : Face) (s u t : Link) → HasGoneOn f h s u → HasGoneOn h g u t → HasGoneOn f g s t
gone_then f h g s u t first second = record {
  group = second.group ∙ first.group;
  last = λ i. let low = first.last i in let later = second.last i in omega (arith, low, later);
  done = λ i. let low = first.done i in let later = second.done i in omega (arith, low, later);
}

-- a sync that was made was made still
pub made_still : (f g : Face) (s t : Link) (tables : SyncTables) (serial : QueueSerial) → HasGoneOn f g s t → IsMade f tables serial → IsMade g tables serial
made_still f g s t tables serial on made = record {
  of_group = subst (λ n. IsOfGroup n serial.index) (sym on.group) made.of_group;
  some = made.some;
  number = let risen = on.last serial.index in omega (arith, made.number, risen);
  low = made.low;
}

-- a wait leaves the index of the context that is current
pub same_current : (group after : GroupState) (serials later : Entries ℕ) (thread : ℕ) (asked : Call) (x : SyncName) → asks asked x → after ≡ group_effect group thread asked → later ≡ serials →
    current_index after later thread ≡ current_index group serials thread
same_current group after serials later thread asked x which is same =
    ap (λ (q : Entries ℕ). current_index after q thread) same
    ∙ ap (λ (contexts : Entries Context). option_and_then (λ (e : ℕ × Context). entry e.0 serials) (find (λ (e : ℕ × Context). same_option e.1.thread (Some thread)) contexts))
    (ap (λ (y : GroupState). y.contexts) is ∙ wait_contexts group thread asked (asks_wait asked x which))

-- what is handed over after the state changed by a wait is handed over as before
pub poll_batches : (group after : GroupState) (serials later : Entries ℕ) (tables : SyncTables) (thread : ℕ) (asked : Call) (x : SyncName) (flush : Bool) (timeout : ℕ) → asks asked x → after ≡ group_effect group thread asked → later ≡ serials →
    (batch : Batch) → IsForPoll after later tables thread x flush timeout batch → IsForPoll group serials tables thread x flush timeout batch
poll_batches group after serials later tables thread asked x flush timeout which is same batch (inl own) = inl (record {
  asked = own.asked;
  own = record { current = sym (same_current group after serials later thread asked x which is same) ∙ own.own.current; for_reason = own.own.for_reason };
})
poll_batches group after serials later tables thread asked x flush timeout which is same batch (inr waited) = inr waited
