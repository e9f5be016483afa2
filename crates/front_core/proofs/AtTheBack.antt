-- What a call does at the back, from what the moves that it is made of do there.
use Rattle.std.proofs.Common.{arith, ◌≡◌, ◌≢◌, ℕ, ◌+◌, ◌<◌, ◌≤◌, Bool, true, false, Option, Some, None, List, [], ◌∷◌, length, refl, sym, ◌∙◌, ap, subst, inl, inr, get_or, zero, suc}
use Rattle.std.specs.Prelude.{◌⊎◌, Contains, Result, IfOk, not, ℤ, ◌==◌}
use Rattle.std.specs.Option.{option_map, option_map_or}
use Rattle.std.proofs.lemmas.Bool.{false≢true, cases_eq, eq-eqb, ne_eqb}
use Rattle.vk_types.specs.declared.batches.Batch.{Batch}
use Rattle.vk_types.specs.declared.batches.QueueSerial.{QueueSerial}
use Rattle.vk_types.specs.declared.batches.Reason.{Reason}
use Rattle.vk_types.specs.declared.batches.Reason.TheVariants as reason
use Rattle.vk_types.specs.declared.ops.Node.{Node}
use Rattle.vk_types.specs.declared.stops.Stop.{Stop}
use Rattle.gl_calls.specs.declared.call.Call.{Call}
use Rattle.gl_calls.specs.declared.call.Call.TheVariants as call
use Rattle.gl_calls.specs.declared.reply.Reply.{Reply}
use Rattle.gl_calls.specs.declared.words.BufferTarget.{BufferTarget}
use Rattle.tables.specs.Table.{Entries}
use Rattle.gl_model.specs.declared.state.Context.{Context}
use Rattle.gl_model.specs.declared.state.GroupState.{GroupState}
use Rattle.gl_model.specs.Bindings.{current_context, buffer_binding}
use Rattle.gl_model.specs.Refusal.{refusal}
use Rattle.back_core.specs.declared.back_event.BackEvent.{BackEvent}
use Rattle.back_core.specs.Link.{Link}
use Rattle.back_core.specs.Own.{batch_touches}
use Rattle.back_core.specs.Frame.{AtBack}
use Rattle.back_core.proofs.Frames.{none_done, within, no_batch}
use Rattle.front_model.specs.declared.object.Object.{Object}
use Rattle.front_model.specs.declared.object.Object.TheVariants.{Buffer}
use Rattle.front_model.specs.Face.{Face, nodes_touch}
use Rattle.front_moves.specs.Reasons as moves
use Rattle.front_moves.specs.Reasons.{IsFlushOf, IsFull, IsParting, IsSettling, IsEnding}
use Rattle.sync_serials.specs.Serials.{SyncTables, newest_of}
use Rattle.front_core.specs.Answering.{changes_contexts}
use Rattle.front_core.specs.Share.{IsCarriedOut, current_index, replaced_index, replaced_by}
use Rattle.front_core.specs.Economy as economy
use Rattle.front_core.specs.Economy.{upload_due, due_of, may_wait, waits_of, used_targets, IsNeeded, IsNeededAnd, IsUsedBy, maps_a_buffer, IsSwitch, IsTrueReason, IsForSync, IsWaitedFor, IsForWait, IsSyncReason, HasTrueReason, MayHandOver, IsEndingBatch}

never : {A : Type 0} → false ≡ true → A
never wrong = absurd (false≢true wrong)

-- nothing was done, where something may have been
pub nothing_done : (s : Link) (h : Option (List BackEvent)) (due : ℕ) (waits stops : Bool) (MayHand : Batch → Type 0) → AtBack s s h h due waits stops MayHand
nothing_done s h due waits stops MayHand = within due waits stops MayHand (omega arith) (λ on. never on) (λ on. never on) (no_batch MayHand) (none_done s h)

-- a move did what the call may do
pub may_hand : {s t : Link} {h k : Option (List BackEvent)} {due : ℕ} {waits stops : Bool} {MayHand : Batch → Type 0} (MayHandToo : Batch → Type 0) →
    ((batch : Batch) → MayHand batch → MayHandToo batch) → AtBack s t h k due waits stops MayHand → AtBack s t h k due waits stops MayHandToo
may_hand {s} {t} {h} {k} {due} {waits} {stops} {MayHand} MayHandToo hand did = within due waits stops MayHandToo (omega arith) (λ on. on) (λ on. on) hand did

-- a call may do more than it did
pub at_most : {s t : Link} {h k : Option (List BackEvent)} {a : ℕ} {stops : Bool} {MayHand : Batch → Type 0} (due : ℕ) (waits : Bool) →
    a ≤ due → AtBack s t h k a false stops MayHand → AtBack s t h k due waits stops MayHand
at_most {s} {t} {h} {k} {a} {stops} {MayHand} due waits low did = within due waits stops MayHand low (λ on. never on) (λ on. on) (λ batch may. may) did

-- a call that was stopped after all
pub though_stopped : {s t : Link} {h k : Option (List BackEvent)} {due : ℕ} {waits stops : Bool} {MayHand : Batch → Type 0} → AtBack s t h k due waits stops MayHand → AtBack s t h k due waits true MayHand
though_stopped {s} {t} {h} {k} {due} {waits} {stops} {MayHand} did = within due waits true MayHand (omega arith) (λ on. on) (λ on. refl) (λ batch may. may) did

-- the bytes that are due are a number that is equal
pub due_as : {s t : Link} {h k : Option (List BackEvent)} {a due : ℕ} {waits stops : Bool} {MayHand : Batch → Type 0} → a ≡ due → AtBack s t h k a waits stops MayHand → AtBack s t h k due waits stops MayHand
due_as {s} {t} {h} {k} {a} {due} {waits} {stops} {MayHand} same did = subst (λ n. AtBack s t h k n waits stops MayHand) same did

-- Reasons

-- what is pending in the context that is replaced
pub flush_is_switch : (f : Face) (group : GroupState) (serials : Entries ℕ) (thread number index : ℕ) → Some index ≡ replaced_index group serials thread number →
    (batch : Batch) → IsFlushOf f index reason.Switch batch → IsSwitch group serials thread number batch
flush_is_switch f group serials thread number index is batch flush = record {
  replaced = sym is ∙ ap Some (sym flush.of_index);
  for_reason = flush.for_reason;
}

pub switch_is_true : (f : Face) (group : GroupState) (serials : Entries ℕ) (thread number : ℕ) (batch : Batch) → IsSwitch group serials thread number batch → IsTrueReason f group serials thread (call.MakeCurrent number) batch
switch_is_true f group serials thread number batch is = economy.switch is.replaced is.for_reason

-- what stands in a list is its first element, or stands behind it
one_of : {A : Type 0} (x : A) (xs : List A) (y : A) → Contains (x ∷ xs) y → (x ≡ y) ⊎ Contains xs y
one_of x xs y has = go has.0 has.1 has.2
  where
    go : (i : ℕ) → i < length (x ∷ xs) → get_or (x ∷ xs) i y ≡ y → (x ≡ y) ⊎ Contains xs y
    go zero lt e = inl e
    go (suc i) lt e = inr (i, omega arith, e)

-- what holds of each of one or two uses holds of each of their list
pub each_of_one : (P : Object × Bool → Type 0) (b : Object × Bool) → P b → (c : Object × Bool) → Contains (b ∷ []) c → P c
each_of_one P b has c listed = one (one_of b [] c listed)
  where
    one : (b ≡ c) ⊎ Contains [] c → P c
    one (inl same) = subst P same has
    one (inr none) = absurd (omega (arith, none.1))

pub each_of_two : (P : Object × Bool → Type 0) (a b : Object × Bool) → P a → P b → (c : Object × Bool) → Contains (a ∷ b ∷ []) c → P c
each_of_two P a b first second c listed = two (one_of a (b ∷ []) c listed)
  where
    two : (a ≡ c) ⊎ Contains (b ∷ []) c → P c
    two (inl same) = subst P same first
    two (inr rest) = each_of_one P b second c rest

-- what goes before a node on buffers that the call uses
pub parting_is_true : (f : Face) (group : GroupState) (serials : Entries ℕ) (thread : ℕ) (asked : Call) (index : ℕ) (used : List (Object × Bool)) → current_index group serials thread ≡ Some index →
    ((u : Object × Bool) → Contains used u → IsUsedBy group thread asked u) → (batch : Batch) → IsParting f index used batch → IsTrueReason f group serials thread asked batch
parting_is_true f group serials thread asked index used current each batch (moves.cross o reads listed is) = economy.cross index o reads current (each (o, reads) listed) is
parting_is_true f group serials thread asked index used current each batch (moves.full is) = economy.full is

-- what goes before the host uses the buffer that is mapped
pub settling_is_true : (f : Face) (group : GroupState) (serials : Entries ℕ) (thread : ℕ) (asked : Call) (index : ℕ) (o : Object) → current_index group serials thread ≡ Some index →
    IsUsedBy group thread asked (o, false) → maps_a_buffer asked ≡ true → (batch : Batch) → IsSettling f index o batch → IsTrueReason f group serials thread asked batch
settling_is_true f group serials thread asked index o current used maps batch (moves.parting is) =
    parting_is_true f group serials thread asked index ((o, false) ∷ []) current (each_of_one (IsUsedBy group thread asked) (o, false) used) batch is
settling_is_true f group serials thread asked index o current used maps batch (moves.reading of_index for_reason some) =
    economy.read maps (current ∙ ap Some (sym of_index)) for_reason some

-- the buffer that is bound to the first or the second target that a call uses
pub used_first : (group : GroupState) (thread : ℕ) (asked : Call) (context : Context) (target : BufferTarget) (reads : Bool) (rest : List (BufferTarget × Bool)) (b : ℕ) → used_targets asked ≡ (target, reads) ∷ rest →
    current_context group thread ≡ Some context → buffer_binding context target ≡ Some b → IsUsedBy group thread asked (Buffer b, reads)
used_first group thread asked context target reads rest b uses current bound = record {
  context = context;
  target = target;
  current = current;
  listed = subst (λ ts. Contains ts (target, reads)) (sym uses) (0, omega arith, refl);
  bound = ap (option_map Buffer) bound;
}

pub used_second : (group : GroupState) (thread : ℕ) (asked : Call) (context : Context) (first : BufferTarget × Bool) (target : BufferTarget) (reads : Bool) (rest : List (BufferTarget × Bool)) (b : ℕ) → used_targets asked ≡ first ∷ (target, reads) ∷ rest →
    current_context group thread ≡ Some context → buffer_binding context target ≡ Some b → IsUsedBy group thread asked (Buffer b, reads)
used_second group thread asked context first target reads rest b uses current bound = record {
  context = context;
  target = target;
  current = current;
  listed = subst (λ ts. Contains ts (target, reads)) (sym uses) (1, omega arith, refl);
  bound = ap (option_map Buffer) bound;
}

-- the buffers of a copy: the source is read alone where it is another buffer than the target
pub used_by_copy : (group : GroupState) (thread : ℕ) (context : Context) (from to : BufferTarget) (read write size : ℤ) (src dst : ℕ) →
    current_context group thread ≡ Some context → buffer_binding context from ≡ Some src → buffer_binding context to ≡ Some dst →
    (u : Object × Bool) → Contains ((Buffer src, not (src == dst)) ∷ (Buffer dst, false) ∷ []) u → IsUsedBy group thread (call.CopyBufferSubData from to read write size) u
used_by_copy group thread context from to read write size src dst current source target =
    each_of_two (IsUsedBy group thread asked) (Buffer src, not (src == dst)) (Buffer dst, false) (go (cases_eq src dst)) second
  where
    asked : Call
    asked = call.CopyBufferSubData from to read write size

    first : IsUsedBy group thread asked (Buffer src, true)
    first = used_first group thread asked context from true ((to, false) ∷ []) src refl current source

    second : IsUsedBy group thread asked (Buffer dst, false)
    second = used_second group thread asked context (from, true) to false [] dst refl current target

    go : (src ≡ dst) ⊎ (src ≡ dst → ⊥) → IsUsedBy group thread asked (Buffer src, not (src == dst))
    go (inl same) = subst (IsUsedBy group thread asked) (ap (λ b. (Buffer b, false)) (sym same) ∙ ap (λ r. (Buffer src, not r)) (sym (eq-eqb src dst same))) second
    go (inr other) = subst (λ r. IsUsedBy group thread asked (Buffer src, not r)) (sym (ne_eqb src dst other)) first

-- Need

-- what is needed for a reason is needed for another that follows
pub needed_map : (tables : SyncTables) {First MayHand : Batch → Type 0} → ((batch : Batch) → First batch → MayHand batch) → (batch : Batch) → IsNeededAnd tables First batch → IsNeededAnd tables MayHand batch
needed_map tables {First} {MayHand} hand batch is = record { is = hand batch is.is; needed = is.needed }

-- what has nodes is needed
pub needed_with_nodes : (tables : SyncTables) (batch : Batch) → batch.nodes ≢ [] → IsNeeded tables batch
needed_with_nodes tables batch some none = absurd (some none)

-- where something is pending anything holds if nothing is
pub none_pending : {A : Type 0} (nodes : List Node) → 0 < length nodes → nodes ≡ [] → A
none_pending nodes more none = let nothing : length nodes ≡ 0 = ap length none in let bad : ⊥ = omega (arith, nothing, more) in absurd bad

-- what is flushed where something is pending, or a sync has no batch
pub flush_is_needed : (f : Face) (tables : SyncTables) (index : ℕ) (why : Reason) → (f.pending index ≡ [] → f.last index < newest_of tables index) → (batch : Batch) → IsFlushOf f index why batch →
    IsNeededAnd tables (IsFlushOf f index why) batch
flush_is_needed f tables index why waits batch flush = record {
  is = flush;
  needed = λ none.
      let low : f.last index + 1 ≤ newest_of tables index = let above = waits (sym flush.all ∙ none) in omega (arith, above) in
      subst (λ i. batch.number ≤ newest_of tables i) (sym flush.of_index) (subst (λ n. n ≤ newest_of tables index) (sym flush.number) low);
}

-- what is handed over for a sync that has no batch is its batch
pub flush_for_sync : (f : Face) (serial : QueueSerial) → f.last serial.index < serial.number → serial.number ≤ f.last serial.index + 1 → (batch : Batch) → IsFlushOf f serial.index reason.Sync batch → IsForSync serial batch
flush_for_sync f serial above most batch flush = record {
  of_index = flush.of_index;
  number = let next_ = flush.number in omega (arith, next_, above, most);
  for_reason = flush.for_reason;
}

-- the batch of a sync is needed
pub sync_is_needed : (tables : SyncTables) (serial : QueueSerial) → serial.number ≤ newest_of tables serial.index → (batch : Batch) → IsForSync serial batch → IsNeeded tables batch
sync_is_needed tables serial low batch is = λ none. subst (λ i. batch.number ≤ newest_of tables i) (sym is.of_index) (subst (λ n. n ≤ newest_of tables serial.index) (sym is.number) low)

pub needed_for_sync : (tables : SyncTables) (serial : QueueSerial) {MayHand : Batch → Type 0} → serial.number ≤ newest_of tables serial.index → ((batch : Batch) → IsForSync serial batch → MayHand batch) → (batch : Batch) →
    IsForSync serial batch → IsNeededAnd tables MayHand batch
needed_for_sync tables serial {MayHand} low hand batch is = record { is = hand batch is; needed = sync_is_needed tables serial low batch is }

pub waited_is_needed : (group : GroupState) (serials : Entries ℕ) (tables : SyncTables) (thread : ℕ) (serial : QueueSerial) (flush : Bool) (timeout : ℕ) → serial.number ≤ newest_of tables serial.index → (batch : Batch) →
    IsWaitedFor serial timeout batch → IsNeededAnd tables (IsForWait group serials thread serial flush timeout) batch
waited_is_needed group serials tables thread serial flush timeout low batch waited = record { is = inr waited; needed = sync_is_needed tables serial low batch waited.for_sync }

-- a batch that touches something has nodes, and so has a full one
touching_has_nodes : (batch : Batch) (id : ℕ) → batch_touches batch id ≡ true → batch.nodes ≢ []
touching_has_nodes batch id touched none = false≢true (sym (ap (λ nodes. nodes_touch nodes id) none) ∙ touched)

full_has_nodes : (batch : Batch) → IsFull batch → batch.nodes ≢ []
full_has_nodes batch is none = let many = is.full in let nothing : length batch.nodes ≡ 0 = ap length none in omega (arith, nothing, many)

-- a call that changes no contexts replaces none
replaces_none : (group : GroupState) (serials : Entries ℕ) (thread : ℕ) (asked : Call) → changes_contexts asked ≡ false → replaced_by group serials thread asked ≡ None
replaces_none group serials thread (call.MakeCurrent number) none = absurd (false≢true (sym none))
replaces_none group serials thread asked none = refl

-- what it hands over has nodes
has_nodes : (f : Face) (group : GroupState) (serials : Entries ℕ) (thread : ℕ) (asked : Call) → replaced_by group serials thread asked ≡ None → (batch : Batch) → IsTrueReason f group serials thread asked batch → batch.nodes ≢ []
has_nodes f group serials thread asked replaces batch (economy.switch replaced for_reason) = let both : None ≡ Some batch.index = sym replaces ∙ replaced in let bad : ⊥ = cc in absurd bad
has_nodes f group serials thread asked replaces batch (economy.read maps current for_reason some) = some
has_nodes f group serials thread asked replaces batch (economy.cross index b reads current used is) = touching_has_nodes batch is.reaches.stored.handle is.reaches.touches
has_nodes f group serials thread asked replaces batch (economy.full is) = full_has_nodes batch is

-- what is pending as a front ends
pub flush_ends : (f : Face) (tables : SyncTables) (index : ℕ) (batch : Batch) → IsNeededAnd tables (IsFlushOf f index reason.End) batch → IsEndingBatch tables batch
flush_ends f tables index batch is = record { for_reason = is.is.for_reason; needed = is.needed }

pub rest_ends : (tables : SyncTables) (batch : Batch) → IsEnding batch → IsEndingBatch tables batch
rest_ends tables batch is = record { for_reason = is.for_reason; needed = needed_with_nodes tables batch is.some }

-- A call and what it is

-- what a call that was carried out did is what the call that was asked did
pub along_back : {s t : Link} {h k : Option (List BackEvent)} {stops : Bool} (f g : Face) (u v : Link) (group after : GroupState) (serials : Entries ℕ) (thread : ℕ) (asked done : Call) (result : Result Reply Stop) →
    IfOk result (λ reply. IsCarriedOut f g u v group after thread done reply) → asked ≡ done →
    AtBack s t h k (upload_due group thread done) (may_wait done) stops (IsTrueReason f group serials thread done) → AtBack s t h k (upload_due group thread asked) (may_wait asked) stops (IsTrueReason f group serials thread asked)
along_back {s} {t} {h} {k} {stops} f g u v group after serials thread asked done result carried same did =
    subst (λ (x : Call). AtBack s t h k (upload_due group thread x) (may_wait x) stops (IsTrueReason f group serials thread x)) (sym same) did

-- for an accepted call as much is due as for its data, and it may wait and hand over as it is
pub when_accepted : {s t : Link} {h k : Option (List BackEvent)} {stops : Bool} (f : Face) (group : GroupState) (serials : Entries ℕ) (tables : SyncTables) (thread : ℕ) (asked : Call) → refusal group thread asked ≡ None →
    AtBack s t h k (upload_due group thread asked) (may_wait asked) stops (IsNeededAnd tables (HasTrueReason f group serials tables thread asked)) → AtBack s t h k (due_of group thread asked) (waits_of group thread asked) stops (MayHandOver f group serials tables thread asked)
when_accepted {s} {t} {h} {k} {stops} f group serials tables thread asked accepted did =
    subst (λ (r : Option Reply). AtBack s t h k (option_map_or (λ answer. 0) r (upload_due group thread asked)) (option_map_or (λ answer. false) r (may_wait asked)) stops (MayHandOver f group serials tables thread asked)) (sym accepted)
    (may_hand (MayHandOver f group serials tables thread asked) (λ batch is. record { accepted = accepted; true_reason = is.is; needed = is.needed }) did)

-- a call on contexts or buffers hands over for a reason that is true of it, and so does one on syncs
pub of_objects : (f : Face) (group : GroupState) (serials : Entries ℕ) (tables : SyncTables) (thread : ℕ) (asked : Call) (batch : Batch) → IsTrueReason f group serials thread asked batch → HasTrueReason f group serials tables thread asked batch
of_objects f group serials tables thread asked batch is = inl is

-- a call that changes no contexts hands over what is needed
pub of_needed_objects : (f : Face) (group : GroupState) (serials : Entries ℕ) (tables : SyncTables) (thread : ℕ) (asked : Call) → changes_contexts asked ≡ false → (batch : Batch) →
    IsTrueReason f group serials thread asked batch → IsNeededAnd tables (HasTrueReason f group serials tables thread asked) batch
of_needed_objects f group serials tables thread asked none batch is = record {
  is = inl is;
  needed = needed_with_nodes tables batch (has_nodes f group serials thread asked (replaces_none group serials thread asked none) batch is);
}

pub of_syncs : (f : Face) (group : GroupState) (serials : Entries ℕ) (tables : SyncTables) (thread : ℕ) (asked : Call) (batch : Batch) → IsSyncReason group serials tables thread asked batch → HasTrueReason f group serials tables thread asked batch
of_syncs f group serials tables thread asked batch is = inr is
