-- What a back keeps after each of its calls.
use Rattle.std.proofs.Common.{◌≡◌, ℕ, ◌+◌, ◌-◌, ◌<◌, ◌≤◌, true, List, [], ◌∷◌, ◌++◌, length, refl, sym, ap, ◌∙◌, arith}
use Rattle.std.specs.Prelude.{◌/◌, zero, suc, slice_get, Some}
use Rattle.std.proofs.lemmas.List.{append-nil}
use Rattle.vk_types.specs.declared.handles.HandleId.{HandleId}
use Rattle.vk_types.specs.declared.handles.Kind.{Kind}
use Rattle.vk_types.specs.declared.batches.Batch.{Batch}
use Rattle.vk_types.specs.declared.batches.QueueSerial.{QueueSerial}
use Rattle.vk_model.specs.Fitting.{IsKind}
use Rattle.vk_device.specs.declared.logged.Logged.{Logged}
use Rattle.vk_device.specs.declared.logged.Logged.TheVariants as logged
use Rattle.vk_device.specs.Journal.{creates}
use Rattle.vk_device.specs.Running.{IsInOrder}
use Rattle.garbage.specs.declared.entry.Garbage.{Garbage}
use Rattle.garbage.specs.Steps.{GarbageAndRoom}
use Rattle.submit_queue.specs.Histories as queue
use Rattle.submit_queue.specs.declared.queue.SubmitQueue.{SubmitQueue}
use Rattle.submit_queue.specs.Kept.{Keeps}
use Rattle.back_core.specs.declared.back_event.BackEvent.{BackEvent}
use Rattle.back_core.specs.declared.back_event.BackEvent.TheVariants.{Created, Enqueued, Gave, Abandoned, Cleaned}
use Rattle.back_core.specs.declared.ending.Ending.{Ending}
use Rattle.back_core.specs.Needs.{MayEnqueue}
use Rattle.back_core.specs.History.{queue_event, queue_history, link_of}
use Rattle.back_core.specs.Run.{garbage_of, garbage_after, logged_by, covered_in, MayHappen, WereRead, IsGiven, IsRun, work_left, IsProgress}
use Rattle.back_core.specs.Back.{Holds, ending_of, ending_after, holdings_of, holdings_after}
use Rattle.back_core.proofs.Room.{held_in, length-without}
use Rattle.back_core.proofs.Holding.{GoesOn, holds_then, quiet_kept, owed_created, owed_same, owed_enqueued, owed_gave, owed_abandoned, owed_cleaned, owed_progress}

-- a step of the batches makes work less, as a law tells it
abbrev pub MakesLess : Type 0
MakesLess = (h : List BackEvent) (e : BackEvent) → IsRun h → MayHappen h e → IsProgress e → work_left (h ++ e ∷ []) < work_left h

module _ (laws : GoesOn) (h : List BackEvent) (old new : List Logged) (bytes bytes' : ℕ → List ℕ) (q : SubmitQueue) (g : GarbageAndRoom) (ending : Ending) (promised : ℕ) (holds : Holds h old bytes q g ending promised) where
  pub holds_created : (group : ℕ) (id : HandleId) (kind : Kind) (g' : GarbageAndRoom) → id.0 ≡ creates old → IsKind kind → new ≡ old ++ logged.Created id kind ∷ [] → IsInOrder new bytes' → g'.items ≡ g.items → g.room + 1 ≤ g'.room
      → Holds (h ++ Created group id kind ∷ []) new bytes' q g' ending (promised + 2)
  holds_created group id kind g' number is_kind logged in_order items room =
      let more = owed_created laws h group id kind in
      holds_then laws h (Created group id kind) old new bytes bytes' q q g g' ending ending promised _ holds (record {
        may = (number ∙ ap creates holds.logged, is_kind);
        logged = logged;
        in_order = in_order;
        kept = quiet_kept h (Created group id kind) q refl holds.kept;
        waiting = items;
        ends = refl;
        room = omega (arith, holds.room);
        garbage_room = omega (arith, holds.garbage_room);
      })

  -- an event that needs no more room than its own
  pub holds_noted : (e : BackEvent) → queue_event e ≡ [] → holdings_after (holdings_of h) e ≡ holdings_of h → garbage_after (garbage_of h) e ≡ garbage_of h → garbage_after g.items e ≡ g.items → ending_after (ending_of h) e ≡ ending_of h → ending_after ending e ≡ ending
      → MayHappen h e → new ≡ old ++ logged_by h e → IsInOrder new bytes' → Holds (h ++ e ∷ []) new bytes' q g ending promised
  holds_noted e none held waits waits' ends ends' may logged in_order =
      let same = owed_same laws h e none held waits ends in
      holds_then laws h e old new bytes bytes' q q g g ending ending promised _ holds (record {
        may = may;
        logged = logged;
        in_order = in_order;
        kept = quiet_kept h e q none holds.kept;
        waiting = sym waits';
        ends = sym ends';
        room = omega (arith, holds.room);
        garbage_room = rw held holds.garbage_room;
      })

  pub holds_enqueued : (batch : Batch) (q' : SubmitQueue) (more : ℕ) → batch.index < 64 → MayEnqueue (link_of h (batch.index / 8)) batch → Keeps (queue_history h ++ queue.Pushed batch ∷ []) q' → queue.item_count batch + 2 ≤ more → new ≡ old → IsInOrder new bytes'
      → Holds (h ++ Enqueued batch ∷ []) new bytes' q' g ending (promised + more)
  holds_enqueued batch q' more index may kept enough same in_order =
      let owes = owed_enqueued laws h batch in
      holds_then laws h (Enqueued batch) old new bytes bytes' q q' g g ending ending promised _ holds (record {
        may = (index, may);
        logged = same ∙ sym (append-nil old);
        in_order = in_order;
        kept = kept;
        waiting = refl;
        ends = refl;
        room = omega (arith, holds.room);
        garbage_room = holds.garbage_room;
      })

  pub progress_room : MakesLess → (e : BackEvent) → MayHappen h e → IsProgress e → 1 ≤ promised
  progress_room less e may progress = let l = less h e holds.run may progress in omega (arith, holds.room)

  pub holds_progress : MakesLess → (e : BackEvent) (q' : SubmitQueue) → holdings_after (holdings_of h) e ≡ holdings_of h → garbage_after (garbage_of h) e ≡ garbage_of h → garbage_after g.items e ≡ g.items → ending_after (ending_of h) e ≡ ending_of h → ending_after ending e ≡ ending
      → MayHappen h e → IsProgress e → new ≡ old ++ logged_by h e → IsInOrder new bytes' → Keeps (queue_history h ++ queue_event e) q' → Holds (h ++ e ∷ []) new bytes' q' g ending (promised - 1)
  holds_progress less e q' held waits waits' ends ends' may progress logged in_order kept =
      let fewer = owed_progress laws h e held waits ends (less h e holds.run may progress) in
      holds_then laws h e old new bytes bytes' q q' g g ending ending promised _ holds (record {
        may = may;
        logged = logged;
        in_order = in_order;
        kept = kept;
        waiting = sym waits';
        ends = sym ends';
        room = omega (arith, holds.room);
        garbage_room = rw held holds.garbage_room;
      })

  pub gave_room : (group : ℕ) (id : HandleId) (uses : List QueueSerial) → IsGiven (link_of h group) id.0 uses → (1 ≤ promised) × (0 < g.room)
  gave_room group id uses may =
      let less = owed_gave laws h group id uses may.held in
      let fewer = length-without (holdings_of h) group id.0 (held_in h group id.0 may.held) in
      (omega (arith, holds.room), omega (arith, holds.garbage_room))

  pub holds_gave : (group : ℕ) (item : Garbage) (g' : GarbageAndRoom) → IsGiven (link_of h group) item.handle.0 item.uses → new ≡ old → IsInOrder new bytes' → g'.items ≡ g.items ++ item ∷ [] → g.room ≤ g'.room + 1
      → Holds (h ++ Gave group item.handle item.uses ∷ []) new bytes' q g' ending (promised - 1)
  holds_gave group item g' may same in_order items room =
      let less = owed_gave laws h group item.handle item.uses may.held in
      let fewer = length-without (holdings_of h) group item.handle.0 (held_in h group item.handle.0 may.held) in
      holds_then laws h (Gave group item.handle item.uses) old new bytes bytes' q q g g' ending ending promised _ holds (record {
        may = may;
        logged = same ∙ sym (append-nil old);
        in_order = in_order;
        kept = quiet_kept h (Gave group item.handle item.uses) q refl holds.kept;
        waiting = items;
        ends = refl;
        room = omega (arith, holds.room);
        garbage_room = omega (arith, holds.garbage_room);
      })

  pub abandoned_room : (group : ℕ) (id : HandleId) → (link_of h group).held id.0 ≡ true → 2 ≤ promised
  abandoned_room group id held = let less = owed_abandoned laws h group id held in omega (arith, holds.room)

  pub holds_abandoned : (group : ℕ) (id : HandleId) → (link_of h group).held id.0 ≡ true → new ≡ old → IsInOrder new bytes' → Holds (h ++ Abandoned group id ∷ []) new bytes' q g ending (promised - 2)
  holds_abandoned group id held same in_order =
      let less = owed_abandoned laws h group id held in
      let fewer = length-without (holdings_of h) group id.0 (held_in h group id.0 held) in
      holds_then laws h (Abandoned group id) old new bytes bytes' q q g g ending ending promised _ holds (record {
        may = held;
        logged = same ∙ sym (append-nil old);
        in_order = in_order;
        kept = quiet_kept h (Abandoned group id) q refl holds.kept;
        waiting = refl;
        ends = refl;
        room = omega (arith, holds.room);
        garbage_room = omega (arith, holds.garbage_room);
      })

  pub cleaned_room : (read : List ℕ) (count : ℕ) (g' : GarbageAndRoom) → length g'.items < length g.items → 1 ≤ promised
  cleaned_room read count g' fewer = let l : length g.items ≡ length (garbage_of h) = ap length holds.waiting in omega (arith, holds.room)

  pub holds_cleaned : (read : List ℕ) (count : ℕ) (g' : GarbageAndRoom) → WereRead h read → count ≤ length (covered_in h read) → new ≡ old ++ logged_by h (Cleaned read count) → IsInOrder new bytes' → g'.items ≡ garbage_after g.items (Cleaned read count) → length g'.items < length g.items → g.room ≤ g'.room
      → Holds (h ++ Cleaned read count ∷ []) new bytes' q g' ending (promised - 1)
  holds_cleaned read count g' were few logged in_order items fewer room =
      let same : length (garbage_after (garbage_of h) (Cleaned read count)) ≡ length g'.items = sym (ap length (items ∙ ap (λ l. garbage_after l (Cleaned read count)) holds.waiting)) in
      let l : length g.items ≡ length (garbage_of h) = ap length holds.waiting in
      let less = owed_cleaned laws h read count (omega arith) in
      holds_then laws h (Cleaned read count) old new bytes bytes' q q g g' ending ending promised _ holds (record {
        may = (were, few);
        logged = logged;
        in_order = in_order;
        kept = quiet_kept h (Cleaned read count) q refl holds.kept;
        waiting = items;
        ends = refl;
        room = omega (arith, holds.room);
        garbage_room = omega (arith, holds.garbage_room);
      })

pub within : {X : Type 0} (xs : List X) (k : ℕ) (x : X) → slice_get xs k ≡ Some x → k < length xs
within [] k x e = absurd (cc e)
within (y ∷ ys) zero x e = omega arith
within (y ∷ ys) (suc k) x e = let l = within ys k x e in omega arith

-- a cleanup that did nothing
pub holds_still : (h : List BackEvent) (old new : List Logged) (bytes bytes' : ℕ → List ℕ) (q : SubmitQueue) (g g' : GarbageAndRoom) (ending : Ending) (promised : ℕ) → Holds h old bytes q g ending promised → new ≡ old → IsInOrder new bytes' → g'.items ≡ g.items → g.room ≤ g'.room → Holds h new bytes' q g' ending promised
holds_still h old new bytes bytes' q g g' ending promised holds same in_order items room = record {
  run = holds.run;
  logged = same ∙ holds.logged;
  in_order = in_order;
  kept = holds.kept;
  waiting = items ∙ holds.waiting;
  ends = holds.ends;
  room = holds.room;
  garbage_room = omega (arith, holds.garbage_room);
}

-- what is garbage is counted in the room
pub garbage_few : (h : List BackEvent) (old : List Logged) (bytes : ℕ → List ℕ) (q : SubmitQueue) (g : GarbageAndRoom) (ending : Ending) (promised : ℕ) → Holds h old bytes q g ending promised → length g.items ≤ promised
garbage_few h old bytes q g ending promised holds = let l : length g.items ≡ length (garbage_of h) = ap length holds.waiting in omega (arith, holds.room)
