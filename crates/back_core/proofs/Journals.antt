-- The journal of a run beside the history of the queue.
use Rattle.std.proofs.Common.{◌≡◌, ℕ, suc, ◌≤◌, ◌==◌, true, List, [], ◌∷◌, ◌++◌, length, take, refl, sym, ap, ◌∙◌, subst, inl, inr, arith}
use Rattle.std.specs.Prelude.{◌⊎◌, Some, slice_get}
use Rattle.std.proofs.lemmas.Bool.{and_parts, and_from, eqb-true, eq-eqb, or_cases, or_left, or_right}
use Rattle.std.proofs.lemmas.List.{append-nil, append_assoc, take-append-le}
use Rattle.vk_types.specs.declared.batches.Batch.{Batch}
use Rattle.vk_types.specs.declared.batches.QueueSerial.{QueueSerial}
use Rattle.garbage.specs.declared.entry.Garbage.{Garbage}
use Rattle.vk_device.specs.declared.logged.Logged.{Logged}
use Rattle.vk_device.specs.declared.logged.Logged.TheVariants as logged
use Rattle.vk_device.specs.Journal.{accepts, accepted}
use Rattle.vk_device.specs.Order.{entry_items, executes, IsOfOneQueue}
use Rattle.vk_device.proofs.Starts.{accepted-nil, accepted-push}
use Rattle.submit_queue.specs.Histories as queue
use Rattle.back_core.specs.declared.back_event.BackEvent.{BackEvent}
use Rattle.back_core.specs.declared.back_event.BackEvent.TheVariants.{Created, Wrote, Enqueued, Submitted, Ran, Retired, Fetched, Gave, Abandoned, Cleaned, Closing, Stopped}
use Rattle.back_core.specs.History.{queue_event, queue_history}
use Rattle.back_core.specs.Run.{covered_in, submission, destroys, logged_by, journal_of, MayHappen, IsRun}
use Rattle.back_core.proofs.Sees.{queue_then, queue_same}
use Rattle.back_core.proofs.Runs.{of_each_run, journal_nil, journal_then}
use Rattle.back_core.proofs.Lists.{some_at, take_then, get_taken}
use Rattle.back_core.proofs.Parts.{pushed}
use Rattle.back_core.proofs.Going.{numbered, goes, accepted_next, batches_next, batches_stay, ran_next, ran_stays}
use Rattle.back_core.proofs.Placed.{IsPlaced, none_placed, placed_quiet, placed_wrote, placed_submitted, placed_ran}
use Rattle.vk_types.specs.declared.handles.HandleId.{HandleId}

-- the device accepted the first batches of the queue, and its log has their nodes
pub record AreInStep (q : List queue.Event) (journal : List Logged) : Type 0 where
  pub accepted_is : accepted journal ≡ take (queue.accepted q) (queue.batches q)
  pub placed : IsPlaced journal (queue.has_run q)

none_in_step : AreInStep [] []
none_in_step = record { accepted_is = accepted-nil; placed = none_placed (queue.has_run []) (λ k i. refl) }

accepted_same : (journal : List Logged) (entry : Logged) → accepts entry ≡ [] → accepted (journal ++ entry ∷ []) ≡ accepted journal
accepted_same journal entry none = accepted-push journal entry ∙ (ap (λ l. accepted journal ++ l) none ∙ append-nil (accepted journal))

module _ (q : List queue.Event) (journal : List Logged) (has : AreInStep q journal) where
  -- the device's journal goes on alone

  in_step_quiet : (entry : Logged) → entry_items entry ≡ [] → accepts entry ≡ [] → executes journal entry ≡ [] → AreInStep q (journal ++ entry ∷ [])
  in_step_quiet entry no_item no_batch no_place = record {
    accepted_is = accepted_same journal entry no_batch ∙ has.accepted_is;
    placed = placed_quiet journal entry (queue.has_run q) no_item no_batch no_place has.placed;
  }

  in_step_wrote : (id : HandleId) (at : ℕ) (bytes : List ℕ) → AreInStep q (journal ++ logged.Wrote id at bytes ∷ [])
  in_step_wrote id at bytes = record {
    accepted_is = accepted_same journal (logged.Wrote id at bytes) refl ∙ has.accepted_is;
    placed = placed_wrote journal id at bytes (queue.has_run q) has.placed;
  }

  -- the queue's history goes on alone

  in_step_pushed : (b : Batch) → queue.accepted q ≤ length (queue.batches q) → AreInStep (q ++ queue.Pushed b ∷ []) journal
  in_step_pushed b le =
      let same : queue.accepted (q ++ queue.Pushed b ∷ []) ≡ queue.accepted q = omega (arith, accepted_next q (queue.Pushed b)) in
      record {
        accepted_is =
            has.accepted_is
            ∙ sym (take-append-le (queue.accepted q) (queue.batches q) (b ∷ []) le)
            ∙ ap (λ l. take (queue.accepted q) l) (sym (batches_next q (queue.Pushed b)))
            ∙ ap (λ n. take n (queue.batches (q ++ queue.Pushed b ∷ []))) (sym same);
        placed = subst (IsPlaced journal) (sym (ran_stays q (queue.Pushed b) (λ k i. refl))) has.placed;
      }

  in_step_retired : (serial : QueueSerial) → AreInStep (q ++ queue.Retired serial ∷ []) journal
  in_step_retired serial =
      let same : queue.accepted (q ++ queue.Retired serial ∷ []) ≡ queue.accepted q = omega (arith, accepted_next q (queue.Retired serial)) in
      record {
        accepted_is = has.accepted_is ∙ ap (λ l. take (queue.accepted q) l) (sym (batches_stay q (queue.Retired serial) refl)) ∙ ap (λ n. take n (queue.batches (q ++ queue.Retired serial ∷ []))) (sym same);
        placed = subst (IsPlaced journal) (sym (ran_stays q (queue.Retired serial) (λ k i. refl))) has.placed;
      }

  -- both go on

  in_step_accepted : (b : Batch) → slice_get (queue.batches q) (queue.accepted q) ≡ Some b → IsOfOneQueue b → AreInStep (q ++ queue.Accepted ∷ []) (journal ++ logged.Submitted b ∷ [])
  in_step_accepted b at one =
      let more : queue.accepted (q ++ queue.Accepted ∷ []) ≡ suc (queue.accepted q) = omega (arith, accepted_next q queue.Accepted) in
      record {
        accepted_is =
            accepted-push journal (logged.Submitted b)
            ∙ ap (λ l. l ++ b ∷ []) has.accepted_is
            ∙ sym (take_then (queue.batches q) (queue.accepted q) b at)
            ∙ ap (λ l. take (suc (queue.accepted q)) l) (sym (batches_stay q queue.Accepted refl))
            ∙ ap (λ n. take n (queue.batches (q ++ queue.Accepted ∷ []))) (sym more);
        placed = subst (IsPlaced (journal ++ logged.Submitted b ∷ [])) (sym (ran_stays q queue.Accepted (λ k i. refl))) (placed_submitted journal b one (queue.has_run q) has.placed);
      }

  in_step_ran : (k i : ℕ) (may : queue.MayRun q k i) → IsOfOneQueue may.what → AreInStep (q ++ queue.Ran k i ∷ []) (journal ++ logged.Ran k i ∷ [])
  in_step_ran k i may one =
      let same : queue.accepted (q ++ queue.Ran k i ∷ []) ≡ queue.accepted q = omega (arith, accepted_next q (queue.Ran k i)) in
      record {
        accepted_is = accepted_same journal (logged.Ran k i) refl ∙ has.accepted_is ∙ ap (λ l. take (queue.accepted q) l) (sym (batches_stay q (queue.Ran k i) refl)) ∙ ap (λ n. take n (queue.batches (q ++ queue.Ran k i ∷ []))) (sym same);
        placed = placed_ran journal k i may.what (queue.has_run q) (queue.has_run (q ++ queue.Ran k i ∷ [])) has.placed
            (subst (λ l. slice_get l k ≡ Some may.what) (sym has.accepted_is) (get_taken (queue.batches q) (queue.accepted q) k may.what may.accepted_before may.at))
            (omega (arith, may.within, ap length one.waits, ap length one.signals))
            (λ l j was. ran_next q (queue.Ran k i) l j ∙ or_left (queue.has_run q l j) (queue.is_run l j (queue.Ran k i)) was)
            (ran_next q (queue.Ran k i) k i ∙ or_right (queue.has_run q k i) _ (and_from (k == k) (i == i) (eq-eqb k k refl) (eq-eqb i i refl)))
            (λ l j was. only l j (or_cases (queue.has_run q l j) (queue.is_run l j (queue.Ran k i)) (sym (ran_next q (queue.Ran k i) l j) ∙ was)));
      }
    where
      only : (l j : ℕ) → (queue.has_run q l j ≡ true) ⊎ (queue.is_run l j (queue.Ran k i) ≡ true) → (queue.has_run q l j ≡ true) ⊎ ((k ≡ l) × (i ≡ j))
      only l j (inl old) = inl old
      only l j (inr new) = let both = and_parts (k == l) (i == j) new in inr (eqb-true k l both.0, eqb-true i j both.1)

in_step_cleaned : (q : List queue.Event) (items : List Garbage) (journal : List Logged) → AreInStep q journal → AreInStep q (journal ++ destroys items)
in_step_cleaned q [] journal has = subst (AreInStep q) (sym (append-nil journal)) has
in_step_cleaned q (item ∷ items) journal has =
    subst (AreInStep q) (append_assoc journal (logged.Destroyed item.handle ∷ []) (destroys items))
    (in_step_cleaned q items (journal ++ logged.Destroyed item.handle ∷ []) (in_step_quiet q journal has (logged.Destroyed item.handle) refl refl refl))

pub in_step : (h : List BackEvent) → IsRun h → AreInStep (queue_history h) (journal_of h)
in_step = of_each_run (λ h. AreInStep (queue_history h) (journal_of h)) (subst (AreInStep []) (sym journal_nil) none_in_step) step
  where
    both : (h : List BackEvent) (e : BackEvent) (q : List queue.Event) → queue_history (h ++ e ∷ []) ≡ q → AreInStep q (journal_of h ++ logged_by h e) → AreInStep (queue_history (h ++ e ∷ [])) (journal_of (h ++ e ∷ []))
    both h e q is has = subst (λ p. AreInStep p (journal_of (h ++ e ∷ []))) (sym is) (subst (AreInStep q) (sym (journal_then h e)) has)

    alone : (h : List BackEvent) (e : BackEvent) → queue_event e ≡ [] → AreInStep (queue_history h) (journal_of h ++ logged_by h e) → AreInStep (queue_history (h ++ e ∷ [])) (journal_of (h ++ e ∷ []))
    alone h e none has = both h e (queue_history h) (queue_same h e none) has

    nothing : (h : List BackEvent) → AreInStep (queue_history h) (journal_of h) → AreInStep (queue_history h) (journal_of h ++ [])
    nothing h has = subst (AreInStep (queue_history h)) (sym (append-nil (journal_of h))) has

    step : (h : List BackEvent) (e : BackEvent) → IsRun h → MayHappen h e → AreInStep (queue_history h) (journal_of h) → AreInStep (queue_history (h ++ e ∷ [])) (journal_of (h ++ e ∷ []))
    step h (Created group id kind) run may has = alone h (Created group id kind) refl (in_step_quiet (queue_history h) (journal_of h) has (logged.Created id kind) refl refl refl)
    step h (Wrote group id at bytes) run may has = alone h (Wrote group id at bytes) refl (in_step_wrote (queue_history h) (journal_of h) has id at bytes)
    step h (Enqueued b) run may has =
        both h (Enqueued b) (queue_history h ++ queue.Pushed b ∷ []) (queue_then h (Enqueued b))
        (subst (AreInStep (queue_history h ++ queue.Pushed b ∷ [])) (sym (append-nil (journal_of h))) (in_step_pushed (queue_history h) (journal_of h) has b (goes h run).taken))
    step h Submitted run may has =
        let b = some_at (pushed h) (queue.accepted (queue_history h)) may in
        both h Submitted (queue_history h ++ queue.Accepted ∷ []) (queue_then h Submitted)
        (subst (λ o. AreInStep (queue_history h ++ queue.Accepted ∷ []) (journal_of h ++ submission o)) (sym b.1)
        (in_step_accepted (queue_history h) (journal_of h) has b.0 b.1 ((numbered h run).one_queue (queue.accepted (queue_history h)) b.0 b.1)))
    step h (Ran batch node) run may has =
        both h (Ran batch node) (queue_history h ++ queue.Ran batch node ∷ []) (queue_then h (Ran batch node))
        (in_step_ran (queue_history h) (journal_of h) has batch node may ((numbered h run).one_queue batch may.what may.at))
    step h (Retired serial) run may has =
        both h (Retired serial) (queue_history h ++ queue.Retired serial ∷ []) (queue_then h (Retired serial))
        (subst (AreInStep (queue_history h ++ queue.Retired serial ∷ [])) (sym (append-nil (journal_of h))) (in_step_retired (queue_history h) (journal_of h) has serial))
    step h (Fetched group id at bytes) run may has = alone h (Fetched group id at bytes) refl (in_step_quiet (queue_history h) (journal_of h) has (logged.Fetched id at bytes) refl refl refl)
    step h (Gave group id uses) run may has = alone h (Gave group id uses) refl (nothing h has)
    step h (Abandoned group id) run may has = alone h (Abandoned group id) refl (nothing h has)
    step h (Cleaned read destroyed) run may has =
        alone h (Cleaned read destroyed) refl (in_step_cleaned (queue_history h) (take destroyed (covered_in h read)) (journal_of h) has)
    step h Closing run may has = alone h Closing refl (nothing h has)
    step h (Stopped stop) run may has = alone h (Stopped stop) refl (nothing h has)
