-- A back holds more: what one more event leaves of what it keeps.
use Rattle.std.proofs.Common.{◌≡◌, ℕ, ◌+◌, ◌*◌, ◌-◌, ◌<◌, ◌≤◌, true, false, List, [], ◌∷◌, ◌++◌, length, refl, sym, ap, ◌∙◌, subst, arith, length-append}
use Rattle.std.specs.Prelude.{map}
use Rattle.std.proofs.lemmas.List.{append-nil, map-append}
use Rattle.vk_types.specs.declared.handles.HandleId.{HandleId}
use Rattle.vk_types.specs.declared.handles.Kind.{Kind}
use Rattle.vk_types.specs.declared.batches.Batch.{Batch}
use Rattle.vk_types.specs.declared.batches.QueueSerial.{QueueSerial}
use Rattle.vk_types.specs.declared.stops.Stop.{Stop}
use Rattle.vk_device.specs.declared.logged.Logged.{Logged}
use Rattle.vk_device.specs.Running.{IsInOrder}
use Rattle.garbage.specs.Steps.{GarbageAndRoom}
use Rattle.submit_queue.specs.Histories as queue
use Rattle.submit_queue.specs.declared.queue.SubmitQueue.{SubmitQueue}
use Rattle.submit_queue.specs.Kept.{Keeps}
use Rattle.back_core.specs.declared.back_event.BackEvent.{BackEvent}
use Rattle.back_core.specs.declared.back_event.BackEvent.TheVariants.{Created, Enqueued, Gave, Abandoned, Cleaned, Closing, Stopped}
use Rattle.back_core.specs.declared.ending.Ending.{Ending}
use Rattle.back_core.specs.declared.ending.Ending.TheVariants as Runs
use Rattle.back_core.specs.declared.stored.Stored.{Stored}
use Rattle.back_core.specs.History.{queue_event, queue_history, own_part}
use Rattle.back_core.specs.Run.{garbage_of, garbage_after, logged_by, journal_of, MayHappen, IsRun, work_in, work_left}
use Rattle.back_core.specs.Back.{Holds, event_of, owed, ending_of, ending_after, is_stopped, endings_left, holdings_of, holdings_after}
use Rattle.back_core.proofs.Sees.{queue_then, queue_same}
use Rattle.back_core.proofs.Room.{holdings_then, ending_then, held_in, length-without, work_pushed}

-- how a history with one more event is seen, as a law tells it
pub record GoesOn : Type 0 where
  pub goes_on : (h : List BackEvent) (e : BackEvent) → IsRun h → MayHappen h e → IsRun (h ++ e ∷ [])
  pub journal : (h : List BackEvent) (e : BackEvent) → journal_of (h ++ e ∷ []) ≡ journal_of h ++ logged_by h e
  pub garbage : (h : List BackEvent) (e : BackEvent) → garbage_of (h ++ e ∷ []) ≡ garbage_after (garbage_of h) e

-- what a back keeps after one more event
pub record Follows (h : List BackEvent) (e : BackEvent) (old new : List Logged) (bytes_of : ℕ → List ℕ) (queue_ : SubmitQueue) (garbage garbage' : GarbageAndRoom) (ending ending' : Ending) (promised : ℕ) : Type 0 where
  pub may : MayHappen h e
  pub logged : new ≡ old ++ logged_by h e
  pub in_order : IsInOrder new bytes_of
  pub kept : Keeps (queue_history h ++ queue_event e) queue_
  pub waiting : garbage'.items ≡ garbage_after garbage.items e
  pub ends : ending' ≡ ending_after ending e
  pub room : owed (h ++ e ∷ []) ≤ promised
  pub garbage_room : length (holdings_after (holdings_of h) e) ≤ garbage'.room

pub holds_then : GoesOn → (h : List BackEvent) (e : BackEvent) (old new : List Logged) (bytes bytes' : ℕ → List ℕ) (q q' : SubmitQueue) (g g' : GarbageAndRoom) (ending ending' : Ending) (promised promised' : ℕ)
    → Holds h old bytes q g ending promised → Follows h e old new bytes' q' g g' ending ending' promised' → Holds (h ++ e ∷ []) new bytes' q' g' ending' promised'
holds_then laws h e old new bytes bytes' q q' g g' ending ending' promised promised' holds next = record {
  run = laws.goes_on h e holds.run next.may;
  logged = next.logged ∙ ap (λ j. j ++ logged_by h e) holds.logged ∙ sym (laws.journal h e);
  in_order = next.in_order;
  kept = subst (λ l. Keeps l q') (sym (queue_then h e)) next.kept;
  waiting = next.waiting ∙ ap (λ l. garbage_after l e) holds.waiting ∙ sym (laws.garbage h e);
  ends = next.ends ∙ ap (λ k. ending_after k e) holds.ends ∙ sym (ending_then h e);
  room = next.room;
  garbage_room = rw (holdings_then h e) next.garbage_room;
}

-- What is owed

-- the four parts of what is owed after one more event
owed_parts : GoesOn → (h : List BackEvent) (e : BackEvent) → owed (h ++ e ∷ []) ≡ work_left (h ++ e ∷ []) + 2 * length (holdings_after (holdings_of h) e) + length (garbage_after (garbage_of h) e) + endings_left (ending_after (ending_of h) e)
owed_parts laws h e = rw (holdings_then h e, laws.garbage h e, ending_then h e) refl

-- an event that is none of the queue's leaves the work
pub work_same : (h : List BackEvent) (e : BackEvent) → queue_event e ≡ [] → work_left (h ++ e ∷ []) ≡ work_left h
work_same h e none = ap work_in (queue_same h e none)

pub owed_created : GoesOn → (h : List BackEvent) (group : ℕ) (id : HandleId) (kind : Kind) → owed (h ++ Created group id kind ∷ []) ≡ owed h + 2
owed_created laws h group id kind = let p = owed_parts laws h (Created group id kind) in let w = work_same h (Created group id kind) refl in omega arith

pub owed_same : GoesOn → (h : List BackEvent) (e : BackEvent) → queue_event e ≡ [] → holdings_after (holdings_of h) e ≡ holdings_of h → garbage_after (garbage_of h) e ≡ garbage_of h → ending_after (ending_of h) e ≡ ending_of h → owed (h ++ e ∷ []) ≡ owed h
owed_same laws h e none held waits ends = owed_parts laws h e ∙ rw (work_same h e none, held, waits, ends) refl

pub owed_enqueued : GoesOn → (h : List BackEvent) (batch : Batch) → owed (h ++ Enqueued batch ∷ []) ≤ owed h + 2 + queue.item_count batch
owed_enqueued laws h batch =
    let p = owed_parts laws h (Enqueued batch) in
    let w : work_left (h ++ Enqueued batch ∷ []) ≤ work_left h + 2 + queue.item_count batch = subst (λ l. work_in l ≤ work_left h + 2 + queue.item_count batch) (sym (queue_then h (Enqueued batch))) (work_pushed (queue_history h) batch) in
    omega arith

pub owed_gave : GoesOn → (h : List BackEvent) (group : ℕ) (id : HandleId) (uses : List QueueSerial) → (own_part h group).held id.0 ≡ true → owed (h ++ Gave group id uses ∷ []) + 1 ≡ owed h
owed_gave laws h group id uses held =
    let p = owed_parts laws h (Gave group id uses) in
    let w = work_same h (Gave group id uses) refl in
    let l = length-without (holdings_of h) group id.0 (held_in h group id.0 held) in
    let g = length-append (garbage_of h) (record { handle = id; uses = uses } ∷ []) in
    omega arith

pub owed_abandoned : GoesOn → (h : List BackEvent) (group : ℕ) (id : HandleId) → (own_part h group).held id.0 ≡ true → owed (h ++ Abandoned group id ∷ []) + 2 ≡ owed h
owed_abandoned laws h group id held =
    let p = owed_parts laws h (Abandoned group id) in
    let w = work_same h (Abandoned group id) refl in
    let l = length-without (holdings_of h) group id.0 (held_in h group id.0 held) in
    omega arith

pub owed_cleaned : GoesOn → (h : List BackEvent) (read : List ℕ) (destroyed : ℕ) → length (garbage_after (garbage_of h) (Cleaned read destroyed)) < length (garbage_of h) → owed (h ++ Cleaned read destroyed ∷ []) < owed h
owed_cleaned laws h read destroyed less = let p = owed_parts laws h (Cleaned read destroyed) in let w = work_same h (Cleaned read destroyed) refl in omega arith

pub owed_closing : GoesOn → (h : List BackEvent) → ending_of h ≡ Runs.Running → owed (h ++ Closing ∷ []) + 1 ≡ owed h
owed_closing laws h runs = let p : owed (h ++ Closing ∷ []) ≡ work_left (h ++ Closing ∷ []) + 2 * length (holdings_of h) + length (garbage_of h) + 1 = owed_parts laws h Closing ∙ rw runs refl in let w = work_same h Closing refl in let e : endings_left (ending_of h) ≡ 2 = rw runs refl in omega arith

stopped_left : (ending : Ending) (stop : Stop) → is_stopped ending ≡ false → endings_left (ending_after ending (Stopped stop)) + 1 ≤ endings_left ending
stopped_left Runs.Running stop e = omega arith
stopped_left Runs.Closing stop e = omega arith
stopped_left (Runs.Stopped s) stop e = absurd (cc e)

pub owed_stopped : GoesOn → (h : List BackEvent) (stop : Stop) → is_stopped (ending_of h) ≡ false → owed (h ++ Stopped stop ∷ []) + 1 ≤ owed h
owed_stopped laws h stop e = let p = owed_parts laws h (Stopped stop) in let w = work_same h (Stopped stop) refl in let l = stopped_left (ending_of h) stop e in omega arith

-- a step of the batches has room
pub owed_progress : GoesOn → (h : List BackEvent) (e : BackEvent) → holdings_after (holdings_of h) e ≡ holdings_of h → garbage_after (garbage_of h) e ≡ garbage_of h → ending_after (ending_of h) e ≡ ending_of h → work_left (h ++ e ∷ []) < work_left h → owed (h ++ e ∷ []) < owed h
owed_progress laws h e held waits ends less = rw (owed_parts laws h e, held, waits, ends) (omega arith)

-- The stored history

pub at_end : (P : List BackEvent → Type 0) (old new : List Stored) (s : Stored) → new ≡ old ++ s ∷ [] → P (map event_of old ++ event_of s ∷ []) → P (map event_of new)
at_end P old new s e p = subst P (sym (ap (map event_of) e ∙ map-append event_of old (s ∷ []))) p

-- the same where room was made before
pub at_end_then : (P : List BackEvent → Type 0) (old mid new : List Stored) (s : Stored) → new ≡ mid ++ s ∷ [] → mid ≡ old → P (map event_of old ++ event_of s ∷ []) → P (map event_of new)
at_end_then P old mid new s e same p = at_end P old new s (e ∙ ap (λ l. l ++ s ∷ []) same) p

pub is_end : (old new : List Stored) (s : Stored) → new ≡ old ++ s ∷ [] → map event_of new ≡ map event_of old ++ event_of s ∷ []
is_end old new s e = ap (map event_of) e ∙ map-append event_of old (s ∷ [])

pub is_end_then : (old mid new : List Stored) (s : Stored) → new ≡ mid ++ s ∷ [] → mid ≡ old → map event_of new ≡ map event_of old ++ event_of s ∷ []
is_end_then old mid new s e same = is_end old new s (e ∙ ap (λ l. l ++ s ∷ []) same)

-- The changes of the ending

pub quiet_kept : (h : List BackEvent) (e : BackEvent) (q : SubmitQueue) → queue_event e ≡ [] → Keeps (queue_history h) q → Keeps (queue_history h ++ queue_event e) q
quiet_kept h e q none k = subst (λ l. Keeps l q) (sym (ap (λ l. queue_history h ++ l) none ∙ append-nil (queue_history h))) k

pub holds_closing : GoesOn → (h : List BackEvent) (journal : List Logged) (bytes : ℕ → List ℕ) (q : SubmitQueue) (g : GarbageAndRoom) (ending : Ending) (promised : ℕ) → Holds h journal bytes q g ending promised → ending ≡ Runs.Running → Holds (h ++ Closing ∷ []) journal bytes q g Runs.Closing (promised - 1)
holds_closing laws h journal bytes q g ending promised holds runs =
    let less = owed_closing laws h (sym holds.ends ∙ runs) in
    holds_then laws h Closing journal journal bytes bytes q q g g ending _ promised _ holds (record {
      may = tt;
      logged = sym (append-nil journal);
      in_order = holds.in_order;
      kept = quiet_kept h Closing q refl holds.kept;
      waiting = refl;
      ends = sym (ap (λ k. ending_after k Closing) runs);
      room = omega (arith, holds.room);
      garbage_room = holds.garbage_room;
    })

pub closing_room : GoesOn → (h : List BackEvent) (journal : List Logged) (bytes : ℕ → List ℕ) (q : SubmitQueue) (g : GarbageAndRoom) (ending : Ending) (promised : ℕ) → Holds h journal bytes q g ending promised → ending ≡ Runs.Running → 1 ≤ promised
closing_room laws h journal bytes q g ending promised holds runs = let less = owed_closing laws h (sym holds.ends ∙ runs) in omega (arith, holds.room)

pub holds_stopped : GoesOn → (h : List BackEvent) (stop : Stop) (journal : List Logged) (bytes : ℕ → List ℕ) (q : SubmitQueue) (g : GarbageAndRoom) (ending : Ending) (promised : ℕ) → Holds h journal bytes q g ending promised → is_stopped ending ≡ false → Holds (h ++ Stopped stop ∷ []) journal bytes q g (Runs.Stopped stop) (promised - 1)
holds_stopped laws h stop journal bytes q g ending promised holds runs =
    let less = owed_stopped laws h stop (ap is_stopped (sym holds.ends) ∙ runs) in
    holds_then laws h (Stopped stop) journal journal bytes bytes q q g g ending _ promised _ holds (record {
      may = tt;
      logged = sym (append-nil journal);
      in_order = holds.in_order;
      kept = quiet_kept h (Stopped stop) q refl holds.kept;
      waiting = refl;
      ends = sym (stopped_is ending stop runs);
      room = omega (arith, holds.room);
      garbage_room = holds.garbage_room;
    })
  where
    stopped_is : (ending : Ending) (stop : Stop) → is_stopped ending ≡ false → ending_after ending (Stopped stop) ≡ Runs.Stopped stop
    stopped_is Runs.Running stop e = refl
    stopped_is Runs.Closing stop e = refl
    stopped_is (Runs.Stopped first) stop e = absurd (cc e)

pub stopped_room : GoesOn → (h : List BackEvent) (stop : Stop) (journal : List Logged) (bytes : ℕ → List ℕ) (q : SubmitQueue) (g : GarbageAndRoom) (ending : Ending) (promised : ℕ) → Holds h journal bytes q g ending promised → is_stopped ending ≡ false → 1 ≤ promised
stopped_room laws h stop journal bytes q g ending promised holds runs = let less = owed_stopped laws h stop (ap is_stopped (sym holds.ends) ∙ runs) in omega (arith, holds.room)

-- a back that nothing happened to
pub holds_new : IsRun [] → journal_of [] ≡ [] → garbage_of [] ≡ [] → ((b : ℕ → List ℕ) → IsInOrder [] b) → (h : List BackEvent) (journal : List Logged) (bytes : ℕ → List ℕ) (q : SubmitQueue) (g : GarbageAndRoom) → h ≡ [] → journal ≡ [] → Keeps [] q → g.items ≡ [] → Holds h journal bytes q g Runs.Running 2
unfolding holdings_of ending_of
holds_new run opening clean starts h journal bytes q g none nothing kept empty = subst (λ l. Holds l journal bytes q g Runs.Running 2) (sym none) (record {
  run = run;
  logged = nothing ∙ sym opening;
  in_order = subst (λ j. IsInOrder j bytes) (sym nothing) (starts bytes);
  kept = kept;
  waiting = empty ∙ sym clean;
  ends = refl;
  room = let e : length (garbage_of []) ≡ 0 = ap length clean in omega arith;
  garbage_room = omega arith;
})
