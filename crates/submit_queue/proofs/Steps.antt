-- What a queue keeps, event by event.
use Rattle.std.proofs.Common.{◌≡◌, ◌≢◌, ℕ, zero, suc, ◌+◌, ◌-◌, ◌<◌, ◌≤◌, ◌^◌, ◌==◌, Bool, true, false, cond, List, [], ◌∷◌, ◌++◌, length, map, take, set, replicate, refl, sym, ap, subst, ◌∙◌, inl, inr, arith}
use Rattle.std.specs.Prelude.{◌⊎◌, ◌||◌, min, Some, slice_get, slice_index, option_map, IfSome}
use Rattle.std.specs.List.{list_any}
use Rattle.std.proofs.lemmas.Bool.{and_from, and_parts, or_cases, eqb-true, not-true, not_from_false, eqb-false, cases_eq, cases_lt, false≢true, ne_eqb, eq-eqb, or_left, or_right, false_from_ne_true, and_left, and_right}
use Rattle.std.proofs.lemmas.List.{append_assoc, map-append, length-append, length-map, take-append-le, take_all, get_or-replicate, get_or-set_same, get_or-set_other}
use Rattle.std.proofs.lemmas.Option.{slice_get_within, slice_get-map}
use Rattle.vk_types.specs.declared.batches.Batch.{Batch}
use Rattle.vk_types.specs.declared.batches.QueueSerial.{QueueSerial}
use Rattle.submit_queue.specs.declared.pending.Pending.{Pending}
use Rattle.submit_queue.specs.Histories.{Event, is_retirement, retired, Pushed, Accepted, Ran, Retired, batches, accepted, has_run, is_retired, item_count, last_number, first_flushed, MayPush, MayAccept, MayRun, CanRetire, IsCompleted, completed, reach, IsLeft}
use Rattle.submit_queue.specs.Kept.{batch_of, not_run, LeftAre, AreNumbered, IsKept, HasNumber, lowered, has_left}
use Rattle.submit_queue.proofs.Lists.{same_Some, not_Some, slice_get-left, slice_get-right, slice_get-before, slice_get-then, some_at, any_at, any_from}
use Rattle.submit_queue.proofs.Events.{batches-then, batches-same, accepted-then, retired-then, has_run-same, has_run-kept, has_run-now, is_retired-then, is_retired-same}
use Rattle.submit_queue.proofs.Counts.{not_run-none, not_run-all, not_run-done, not_run-some, LeftAre-same, LeftAre-push, LeftAre-at, LeftAre-run, map-lowered, length-lowered}
use Rattle.submit_queue.proofs.Numbers.{IsCounted, counted, numbered-then, rises, last_number-own, last_number-other, last_number-le}

-- no history is kept by a new queue but the empty one
pub new_kept : IsKept [] [] 0 0 (replicate 64 0)
new_kept = record {
  past = [];
  pushed = refl;
  count = refl;
  gone = λ k b at. absurd (not_Some b at);
  no_other = λ i n was. absurd (false≢true was);
  so_many = refl;
  taken = refl;
  within = omega arith;
  done = λ k i b at lt. absurd (not_Some b at);
  left = tt;
  not_early = λ k i le. refl;
  numbered = λ k b at. absurd (not_Some b at);
  one_queue = λ k b at. absurd (not_Some b at);
  completed = λ i lt. get_or-replicate 64 i 0 0 lt;
}

-- a reach ends where the test fails for the first time
reach_is : (test : ℕ → Bool) (last : ℕ) → ((n : ℕ) → 1 ≤ n → n ≤ last → test n ≡ true) → test (suc last) ≡ false → (n more : ℕ) → n ≤ last → last ≤ n + more → reach test n more ≡ last
reach_is test last each stop n zero from upto = omega (arith, from, upto)
reach_is test last each stop n (suc more) from upto = go (cases_lt n last) (λ lt. reach_is test last each stop (suc n) more lt (omega (arith, upto)))
  where
    go : (n < last) ⊎ (last ≤ n) → (n < last → reach test (suc n) more ≡ last) → reach test n (suc more) ≡ last
    go (inl lt) further = ap (λ b. cond b (reach test (suc n) more) n) (each (suc n) (omega arith) lt) ∙ further lt
    go (inr le) further = let e : n ≡ last = omega (arith, from, le) in ap (λ b. cond b (reach test (suc n) more) n) (ap (λ k. test (suc k)) e ∙ stop) ∙ e

module _ (h : List Event) (ps : List Pending) (a r : ℕ) (cs : List ℕ) (kept : IsKept h ps a r cs) where
  -- A batch was pushed

  batches_pushed : (one : Pending) (b : Batch) → one.batch ≡ b → batches (h ++ Pushed b ∷ []) ≡ kept.past ++ map batch_of (ps ++ one ∷ [])
  batches_pushed one b is =
      batches-then h (Pushed b)
      ∙ (ap (λ l. l ++ b ∷ []) kept.pushed
      ∙ (append_assoc kept.past (map batch_of ps) (b ∷ [])
      ∙ ap (λ l. kept.past ++ l) (ap (λ c. map batch_of ps ++ c ∷ []) (sym is) ∙ sym (map-append batch_of ps (one ∷ [])))))

  queue_pushed : (b : Batch) → b.queue ≡ 0 → (k : ℕ) (c : Batch) → slice_get (batches h ++ b ∷ []) k ≡ Some c → c.queue ≡ 0
  queue_pushed b zero_ k c at = go (slice_get-then (batches h) b k c at)
    where
      go : (slice_get (batches h) k ≡ Some c) ⊎ ((k ≡ length (batches h)) × (c ≡ b)) → c.queue ≡ 0
      go (inl old) = kept.one_queue k c old
      go (inr new) = ap (λ (d : Batch). d.queue) new.1 ∙ zero_

  accepted_pushed : (b : Batch) → accepted (h ++ Pushed b ∷ []) ≡ accepted h
  accepted_pushed b = omega (arith, accepted-then h (Pushed b))

  pub pushed_kept : (b : Batch) → MayPush h b → (one : Pending) → one.batch ≡ b → one.left ≡ item_count b → IsKept (h ++ Pushed b ∷ []) (ps ++ one ∷ []) a r cs
  pushed_kept b may one is left = record {
    past = kept.past;
    pushed = batches_pushed one b is;
    count = kept.count;
    gone = λ k c at. is_retired-same h (Pushed b) c.index c.number refl ∙ kept.gone k c at;
    no_other = λ x y was. kept.no_other x y (sym (is_retired-same h (Pushed b) x y refl) ∙ was);
    so_many = omega (arith, retired-then h (Pushed b), kept.so_many);
    taken = omega (arith, accepted_pushed b, kept.taken);
    within = omega (arith, length-append ps (one ∷ []), kept.within);
    done = λ k i c at lt. has_run-kept h (Pushed b) k i (kept.done k i c at lt);
    left = LeftAre-push _ (length kept.past) ps one (length kept.past + length ps) refl
        (left ∙ (sym (not_run-none (has_run (h ++ Pushed b ∷ []) (length kept.past + length ps)) (item_count b) (λ i lt. has_run-same h (Pushed b) _ i refl ∙ kept.not_early _ i (omega (arith, kept.taken, kept.within)))) ∙ ap (λ c. not_run (has_run (h ++ Pushed b ∷ []) (length kept.past + length ps)) (item_count c)) (sym is)))
        (LeftAre-same (has_run h) _ (length kept.past) ps (λ k i le. has_run-same h (Pushed b) k i refl) kept.left);
    not_early = λ k i le. has_run-same h (Pushed b) k i refl ∙ kept.not_early k i (omega (arith, le, accepted_pushed b));
    numbered = subst AreNumbered (sym (batches-then h (Pushed b))) (numbered-then (batches h) b kept.numbered may.number);
    one_queue = λ k c at. queue_pushed b may.one_queue k c (subst (λ l. slice_get l k ≡ Some c) (batches-then h (Pushed b)) at);
    completed = kept.completed;
  }

  -- The first flushed batch was accepted

  -- so many batches were pushed
  many : length (batches h) ≡ length kept.past + length ps
  many = omega (arith, ap (λ (l : List Batch). length l) kept.pushed, length-append kept.past (map batch_of ps), length-map ps batch_of)

  pub accepted_kept : MayAccept h → IsKept (h ++ Accepted ∷ []) ps (a + 1) r cs
  accepted_kept may =
      let more : accepted (h ++ Accepted ∷ []) ≡ accepted h + 1 = accepted-then h Accepted in
      record {
        past = kept.past;
        pushed = batches-same h Accepted refl ∙ kept.pushed;
        count = kept.count;
        gone = λ k c at. is_retired-same h Accepted c.index c.number refl ∙ kept.gone k c at;
        no_other = λ x y was. kept.no_other x y (sym (is_retired-same h Accepted x y refl) ∙ was);
        so_many = omega (arith, retired-then h Accepted, kept.so_many);
        taken = omega (arith, more, kept.taken);
        within = omega (arith, kept.taken, may, many);
        done = λ k i c at lt. has_run-kept h Accepted k i (kept.done k i c at lt);
        left = LeftAre-same (has_run h) _ (length kept.past) ps (λ k i le. has_run-same h Accepted k i refl) kept.left;
        not_early = λ k i le. has_run-same h Accepted k i refl ∙ kept.not_early k i (omega (arith, le, more));
        numbered = subst AreNumbered (sym (batches-same h Accepted refl)) kept.numbered;
        one_queue = λ k c at. kept.one_queue k c (subst (λ l. slice_get l k ≡ Some c) (batches-same h Accepted refl) at);
        completed = kept.completed;
      }

  -- it stands there only where one is left
  pub accepted_never : length ps ≤ a → MayAccept h → ⊥
  accepted_never le may = omega (arith, le, kept.taken, may, many)

  -- the batch at a place behind the retired ones
  pub batch_at : (k j : ℕ) → k ≡ length kept.past + j → slice_get (batches h) k ≡ slice_get (map batch_of ps) j
  batch_at k j e = ap (λ l. slice_get l k) kept.pushed ∙ slice_get-right kept.past (map batch_of ps) k j e

  past_at : (k : ℕ) → k < length kept.past → slice_get (batches h) k ≡ slice_get kept.past k
  past_at k lt = ap (λ l. slice_get l k) kept.pushed ∙ slice_get-before kept.past (map batch_of ps) k lt

  pub is_past : (k : ℕ) (b : Batch) → k < length kept.past → slice_get (batches h) k ≡ Some b → is_retired h b.index b.number ≡ true
  is_past k b lt at = kept.gone k b (sym (past_at k lt) ∙ at)

  not_past : (k : ℕ) (b : Batch) → slice_get (batches h) k ≡ Some b → is_retired h b.index b.number ≡ false → length kept.past ≤ k
  not_past k b at e = go (cases_lt k (length kept.past))
    where
      go : (k < length kept.past) ⊎ (length kept.past ≤ k) → length kept.past ≤ k
      go (inl lt) = absurd (false≢true (sym e ∙ is_past k b lt at))
      go (inr le) = le

  -- what stands behind the retired ones was not retired
  pub still_kept : (k : ℕ) (b : Batch) → length kept.past ≤ k → slice_get (batches h) k ≡ Some b → is_retired h b.index b.number ≡ false
  still_kept k b le at = false_from_ne_true (is_retired h b.index b.number) (λ was.
      let one : HasNumber kept.past b.index b.number = kept.no_other b.index b.number was in
      let early : one.place < length kept.past = slice_get_within kept.past one.place one.batch one.at in
      let less : one.batch.number < b.number = rises (batches h) kept.numbered one.place k one.batch b (omega (arith, early, le)) (past_at one.place early ∙ one.at) at one.of_index in
      omega (arith, less, one.of_number))

  -- An item ran

  -- what runs was not retired
  runs_later : (k i : ℕ) → MayRun h k i → length kept.past ≤ k
  runs_later k i may = go (cases_lt k (length kept.past))
    where
      go : (k < length kept.past) ⊎ (length kept.past ≤ k) → length kept.past ≤ k
      go (inl lt) = absurd (false≢true (sym may.not_before ∙ kept.done k i may.what (sym (past_at k lt) ∙ may.at) may.within))
      go (inr le) = le

  pub ran_kept : (k i : ℕ) → k < 2 ^ 64 → MayRun h k i → IsKept (h ++ Ran k i ∷ []) (lowered ps (k - r)) a r cs
  ran_kept k i small may =
      let later : length kept.past ≤ k = runs_later k i may in
      let e : k ≡ length kept.past + (k - r) = omega (arith, later, kept.count, small) in
      let same : accepted (h ++ Ran k i ∷ []) ≡ accepted h = omega (arith, accepted-then h (Ran k i)) in
      let others : (l m : ℕ) → (l ≡ k → ⊥) → has_run (h ++ Ran k i ∷ []) l m ≡ has_run h l m
      = λ l m ne. has_run-same h (Ran k i) l m (and_left (k == l) (i == m) (ne_eqb k l (λ s. ne (sym s)))) in
      let items : (m : ℕ) → (m ≡ i → ⊥) → has_run (h ++ Ran k i ∷ []) k m ≡ has_run h k m
      = λ m ne. has_run-same h (Ran k i) k m (and_right (k == k) (i == m) (ne_eqb i m (λ s. ne (sym s)))) in
      record {
        past = kept.past;
        pushed = batches-same h (Ran k i) refl ∙ (kept.pushed ∙ ap (λ l. kept.past ++ l) (sym (map-lowered ps (k - r))));
        count = kept.count;
        gone = λ l c at. is_retired-same h (Ran k i) c.index c.number refl ∙ kept.gone l c at;
        no_other = λ x y was. kept.no_other x y (sym (is_retired-same h (Ran k i) x y refl) ∙ was);
        so_many = omega (arith, retired-then h (Ran k i), kept.so_many);
        taken = omega (arith, same, kept.taken);
        within = omega (arith, kept.within, length-lowered ps (k - r));
        done = λ l m c at lt. has_run-kept h (Ran k i) l m (kept.done l m c at lt);
        left = LeftAre-run (has_run h) (has_run (h ++ Ran k i ∷ [])) (length kept.past) ps (k - r) i k may.what e
            (sym (batch_at k (k - r) e) ∙ may.at) may.within may.not_before (has_run-now h k i) others items kept.left;
        not_early = λ l m le. others l m (λ s. omega (arith, s, le, same, may.accepted_before)) ∙ kept.not_early l m (omega (arith, le, same));
        numbered = subst AreNumbered (sym (batches-same h (Ran k i) refl)) kept.numbered;
        one_queue = λ l c at. kept.one_queue l c (subst (λ xs. slice_get xs l ≡ Some c) (batches-same h (Ran k i) refl) at);
        completed = kept.completed;
      }

  -- What a queue tells

  pub first_is : slice_get (map batch_of ps) a ≡ first_flushed h
  first_is = sym (batch_at (accepted h) a kept.taken)

  -- an item that may run is left of an accepted batch
  pub may_run_left : (k i : ℕ) → MayRun h k i → list_any has_left (take a ps) ≡ true
  may_run_left k i may =
      let later : length kept.past ≤ k = runs_later k i may in
      let j : ℕ = k - length kept.past in
      let e : k ≡ length kept.past + j = omega (arith, later) in
      let lt : j < a = omega (arith, e, may.accepted_before, kept.taken) in
      let s = some_at ps j (omega (arith, lt, kept.within)) in
      let same : s.0.batch ≡ may.what = same_Some s.0.batch may.what (sym (slice_get-map batch_of ps j ∙ ap (λ o. option_map batch_of o) s.1) ∙ (sym (batch_at k j e) ∙ may.at)) in
      let inside : i < item_count s.0.batch = subst (λ (b : Batch). i < item_count b) (sym same) may.within in
      let left : s.0.left ≡ not_run (has_run h k) (item_count s.0.batch) = LeftAre-at (has_run h) (length kept.past) ps j s.0 k e s.1 kept.left in
      let some : (s.0.left ≡ 0) → ⊥ = λ none. false≢true (sym may.not_before ∙ not_run-done (has_run h k) (item_count s.0.batch) (sym left ∙ none) i inside) in
      any_from has_left ps a j s.0 lt s.1 (not_from_false (s.0.left == 0) (ne_eqb s.0.left 0 some))

  pub left_may_run : list_any has_left (take a ps) ≡ true → (k : ℕ) × (i : ℕ) × MayRun h k i
  left_may_run e =
      let w = any_at has_left ps a e in
      let k : ℕ = length kept.past + w.0 in
      let left : w.1.left ≡ not_run (has_run h k) (item_count w.1.batch) = LeftAre-at (has_run h) (length kept.past) ps w.0 w.1 k refl w.3 kept.left in
      let some : (w.1.left ≡ 0) → ⊥ = eqb-false w.1.left 0 (not-true (w.1.left == 0) w.4) in
      let item = not_run-some (has_run h k) (item_count w.1.batch) (omega (arith, left, some)) in (
        k,
        item.0,
        record {
          accepted_before = omega (arith, w.2, kept.taken);
          what = w.1.batch;
          at = batch_at k w.0 refl ∙ (slice_get-map batch_of ps w.0 ∙ ap (λ o. option_map batch_of o) w.3);
          within = item.1;
          not_before = item.2;
        },
      )

  pub some_is_left : 0 < length ps → (k : ℕ) × IsLeft h k
  some_is_left lt =
      let s = some_at (batches h) (length kept.past) (omega (arith, lt, many)) in
      (length kept.past, record { batch = s.0; at = s.1; kept = still_kept (length kept.past) s.0 (omega arith) s.1 })

  pub left_is_some : (k : ℕ) → IsLeft h k → 0 < length ps
  left_is_some k left = omega (arith, slice_get_within (batches h) k left.batch left.at, many, not_past k left.batch left.at left.kept)

  past_counted : IsCounted kept.past
  past_counted =
      let e : take (length kept.past) (batches h) ≡ kept.past
      = ap (λ l. take (length kept.past) l) kept.pushed ∙ (take-append-le (length kept.past) kept.past (map batch_of ps) (omega arith) ∙ take_all (length kept.past) kept.past (omega arith)) in
      subst IsCounted e (counted (batches h) kept.numbered (length kept.past) (omega (arith, many)))

  -- each number that was retired is at most the last one
  retired_below : (i n : ℕ) → is_retired h i n ≡ true → n ≤ last_number kept.past i
  retired_below i n was =
      let one : HasNumber kept.past i n = kept.no_other i n was in
      let below : one.batch.number ≤ last_number kept.past one.batch.index = past_counted.below one.place one.batch one.at in
      let same : last_number kept.past one.batch.index ≡ last_number kept.past i = ap (last_number kept.past) one.of_index in
      omega (arith, below, same, one.of_number)

  each_retired : (i n : ℕ) → 1 ≤ n → n ≤ last_number kept.past i → is_retired h i n ≡ true
  each_retired i n one le =
      let has : HasNumber kept.past i n = past_counted.has i n one le in
      subst (λ m. is_retired h i m ≡ true) has.of_number (subst (λ x. is_retired h x has.batch.number ≡ true) has.of_index (kept.gone has.place has.batch has.at))

  next_not_retired : (i : ℕ) → is_retired h i (suc (last_number kept.past i)) ≡ false
  next_not_retired i = false_from_ne_true _ (λ was. omega (arith, retired_below i (suc (last_number kept.past i)) was))

  last_past : (i : ℕ) → last_number kept.past i ≤ length kept.past
  last_past i =
      let e : take (length kept.past) (batches h) ≡ kept.past
      = ap (λ l. take (length kept.past) l) kept.pushed ∙ (take-append-le (length kept.past) kept.past (map batch_of ps) (omega arith) ∙ take_all (length kept.past) kept.past (omega arith)) in
      subst (λ l. last_number l i ≤ length kept.past) e (last_number-le (batches h) kept.numbered i (length kept.past) (omega (arith, many)))

  pub completed_is : (i : ℕ) → i < 64 → IsCompleted h i (slice_index cs i)
  completed_is i lt = record {
    each = λ n one le. let has : HasNumber kept.past i n = past_counted.has i n one (omega (arith, le, kept.completed i lt)) in record {
      place = has.place;
      batch = has.batch;
      at = past_at has.place (slice_get_within kept.past has.place has.batch has.at) ∙ has.at;
      of_index = has.of_index;
      of_number = has.of_number;
      retired = each_retired i n one (omega (arith, le, kept.completed i lt));
    };
    no_more = λ next. omega (arith, retired_below i (slice_index cs i + 1) next.retired, kept.completed i lt);
  }

  -- the completed number as a function of the history
  pub completed_number : (i : ℕ) → i < 64 → slice_index cs i ≡ completed h i
  completed_number i lt =
      let le : last_number kept.past i ≤ length kept.past = last_past i in
      kept.completed i lt ∙ sym (reach_is (is_retired h i) (last_number kept.past i) (each_retired i) (next_not_retired i) 0 (retired h) (omega arith) (omega (arith, le, kept.so_many)))

  -- No batch can be retired

  pub none_accepted : a ≡ 0 → (k : ℕ) → CanRetire h k → ⊥
  none_accepted e k can = omega (arith, e, kept.taken, can.accepted_before, not_past k can.batch can.at can.not_before)

  pub none_executed : (f : Pending) (rest : List Pending) → ps ≡ f ∷ rest → 0 < f.left → (k : ℕ) → CanRetire h k → ⊥
  none_executed f rest is some k can = go (cases_lt (length kept.past) k)
    where
      at_front : slice_get (batches h) (length kept.past) ≡ Some f.batch
      at_front = batch_at (length kept.past) 0 (omega arith) ∙ ap (λ l. slice_get (map batch_of l) 0) is

      left_of : f.left ≡ not_run (has_run h (length kept.past)) (item_count f.batch)
      left_of = LeftAre-at (has_run h) (length kept.past) ps 0 f (length kept.past) (omega arith) (ap (λ l. slice_get l 0) is) kept.left

      go : (length kept.past < k) ⊎ (k ≤ length kept.past) → ⊥
      go (inl later) =
          let early : is_retired h f.batch.index f.batch.number ≡ true
          = can.in_order (length kept.past) f.batch later at_front (kept.one_queue (length kept.past) f.batch at_front ∙ sym (kept.one_queue k can.batch can.at)) in
          false≢true (sym (still_kept (length kept.past) f.batch (omega arith) at_front) ∙ early)
      go (inr le) =
          let here : k ≡ length kept.past = omega (arith, le, not_past k can.batch can.at can.not_before) in
          let same : can.batch ≡ f.batch = same_Some can.batch f.batch (sym can.at ∙ (ap (λ l. slice_get (batches h) l) here ∙ at_front)) in
          let all : not_run (has_run h k) (item_count can.batch) ≡ 0 = not_run-all (has_run h k) (item_count can.batch) can.executed in
          let none : not_run (has_run h (length kept.past)) (item_count f.batch) ≡ 0
          = subst (λ l. not_run (has_run h l) (item_count f.batch) ≡ 0) here (subst (λ (b : Batch). not_run (has_run h k) (item_count b) ≡ 0) same all) in
          omega (arith, none, left_of, some)

-- No batch can be retired where the first one has an item left, or there is none.
pub none_left : (h : List Event) (ps : List Pending) (a r : ℕ) (cs : List ℕ) → IsKept h ps a r cs → IfSome (slice_get ps 0) (λ first. 0 < first.left) → (k : ℕ) → CanRetire h k → ⊥
none_left h [] a r cs kept left = none_accepted h [] a r cs kept (omega (arith, kept.within))
none_left h (f ∷ rest) a r cs kept left = none_executed h (f ∷ rest) a r cs kept f rest refl left

-- The front was retired

module _ (h : List Event) (f : Pending) (rest : List Pending) (a r : ℕ) (cs : List ℕ) (kept : IsKept h (f ∷ rest) a r cs) (some : 0 < a) (none : f.left ≡ 0) (index : f.batch.index < 64) (sixty : length cs ≡ 64) where
  abbrev pub front_can : CanRetire h (length kept.past)
  front_can = record {
    batch = f.batch;
    at = batch_at h (f ∷ rest) a r cs kept (length kept.past) 0 (omega arith);
    accepted_before = omega (arith, kept.taken, some);
    executed = not_run-done (has_run h (length kept.past)) (item_count f.batch) (sym kept.left.0 ∙ none);
    in_order = λ k earlier lt at same. is_past h (f ∷ rest) a r cs kept k earlier lt at;
    not_before = still_kept h (f ∷ rest) a r cs kept (length kept.past) f.batch (omega arith) (batch_at h (f ∷ rest) a r cs kept (length kept.past) 0 (omega arith));
  }

  -- the retired batches are one more
  longer : length (kept.past ++ f.batch ∷ []) ≡ length kept.past + 1
  longer = length-append kept.past (f.batch ∷ [])

  -- the event
  abbrev retirement : Event
  retirement = Retired (record { index = f.batch.index; number = f.batch.number })

  its_own : is_retirement f.batch.index f.batch.number retirement ≡ true
  its_own = and_from (f.batch.index == f.batch.index) (f.batch.number == f.batch.number) (eq-eqb f.batch.index f.batch.index refl) (eq-eqb f.batch.number f.batch.number refl)

  now_gone : (k : ℕ) (b : Batch) → slice_get (kept.past ++ f.batch ∷ []) k ≡ Some b → is_retired (h ++ retirement ∷ []) b.index b.number ≡ true
  now_gone k b at = is_retired-then h retirement b.index b.number ∙ go (slice_get-then kept.past f.batch k b at)
    where
      go : (slice_get kept.past k ≡ Some b) ⊎ ((k ≡ length kept.past) × (b ≡ f.batch)) → (is_retired h b.index b.number || is_retirement b.index b.number retirement) ≡ true
      go (inl old) = or_left (is_retired h b.index b.number) _ (kept.gone k b old)
      go (inr new) = subst (λ (c : Batch). (is_retired h c.index c.number || is_retirement c.index c.number retirement) ≡ true) (sym new.1) (or_right (is_retired h f.batch.index f.batch.number) _ its_own)

  now_no_other : (i n : ℕ) → is_retired (h ++ retirement ∷ []) i n ≡ true → HasNumber (kept.past ++ f.batch ∷ []) i n
  now_no_other i n was = go (or_cases (is_retired h i n) (is_retirement i n retirement) (sym (is_retired-then h retirement i n) ∙ was))
    where
      go : (is_retired h i n ≡ true) ⊎ (is_retirement i n retirement ≡ true) → HasNumber (kept.past ++ f.batch ∷ []) i n
      go (inl old) = let one : HasNumber kept.past i n = kept.no_other i n old in record {
        place = one.place;
        batch = one.batch;
        at = slice_get-left kept.past (f.batch ∷ []) one.place one.batch one.at;
        of_index = one.of_index;
        of_number = one.of_number;
      }
      go (inr own) = let both = and_parts (f.batch.index == i) (f.batch.number == n) own in record {
        place = length kept.past;
        batch = f.batch;
        at = slice_get-right kept.past (f.batch ∷ []) (length kept.past) 0 (omega arith);
        of_index = eqb-true f.batch.index i both.0;
        of_number = eqb-true f.batch.number n both.1;
      }

  now_done : (k i : ℕ) (b : Batch) → slice_get (kept.past ++ f.batch ∷ []) k ≡ Some b → i < item_count b → has_run (h ++ retirement ∷ []) k i ≡ true
  now_done k i b at lt = has_run-kept h retirement k i (go (slice_get-then kept.past f.batch k b at))
    where
      go : (slice_get kept.past k ≡ Some b) ⊎ ((k ≡ length kept.past) × (b ≡ f.batch)) → has_run h k i ≡ true
      go (inl old) = kept.done k i b old lt
      go (inr new) = subst (λ l. has_run h l i ≡ true) (sym new.0) (front_can.executed i (subst (λ (c : Batch). i < item_count c) new.1 lt))

  now_completed : (i : ℕ) → i < 64 → slice_index (set cs f.batch.index f.batch.number) i ≡ last_number (kept.past ++ f.batch ∷ []) i
  now_completed i lt = go (cases_eq f.batch.index i)
    where
      go : (f.batch.index ≡ i) ⊎ (f.batch.index ≡ i → ⊥) → slice_index (set cs f.batch.index f.batch.number) i ≡ last_number (kept.past ++ f.batch ∷ []) i
      go (inl own) =
          subst (λ k. slice_index (set cs f.batch.index f.batch.number) k ≡ f.batch.number) own (get_or-set_same cs f.batch.index f.batch.number 0 (omega (arith, index, sixty)))
          ∙ sym (last_number-own kept.past f.batch i own)
      go (inr other) =
          get_or-set_other cs f.batch.index i f.batch.number 0 (λ e. other (sym e)) ∙ (kept.completed i lt ∙ sym (last_number-other kept.past f.batch i other))

  pub retired_kept : IsKept (h ++ retirement ∷ []) rest (a - 1) (min (r + 1) (2 ^ 64 - 1)) (set cs f.batch.index f.batch.number)
  retired_kept =
      let same : accepted (h ++ retirement ∷ []) ≡ accepted h = omega (arith, accepted-then h retirement) in
      record {
        past = kept.past ++ f.batch ∷ [];
        pushed = batches-same h retirement refl ∙ (kept.pushed ∙ sym (append_assoc kept.past (f.batch ∷ []) (map batch_of rest)));
        count = omega (arith, kept.count, longer);
        gone = now_gone;
        no_other = now_no_other;
        so_many = omega (arith, retired-then h retirement, kept.so_many, longer);
        taken = omega (arith, same, kept.taken, longer, some);
        within = omega (arith, kept.within, some);
        done = now_done;
        left = subst (λ n. LeftAre (has_run (h ++ retirement ∷ [])) n rest) (let e : suc (length kept.past) ≡ length (kept.past ++ f.batch ∷ []) = omega (arith, longer) in e)
            (LeftAre-same (has_run h) _ (suc (length kept.past)) rest (λ k i le. has_run-same h retirement k i refl) kept.left.1);
        not_early = λ k i le. has_run-same h retirement k i refl ∙ kept.not_early k i (omega (arith, le, same));
        numbered = subst AreNumbered (sym (batches-same h retirement refl)) kept.numbered;
        one_queue = λ k c at. kept.one_queue k c (subst (λ l. slice_get l k ≡ Some c) (batches-same h retirement refl) at);
        completed = now_completed;
      }

-- a retirement of one index leaves the completed numbers of the others
pub others_same : (h : List Event) (serial : QueueSerial) (at : ℕ) (p p' : List Pending) (a a' r r' : ℕ) (cs : List ℕ) → IsKept h p a r cs → IsKept (h ++ Retired serial ∷ []) p' a' r' (set cs at serial.number)
    → (i : ℕ) → i < 64 → i ≢ at → completed (h ++ Retired serial ∷ []) i ≡ completed h i
others_same h serial at p p' a a' r r' cs was now i low apart =
    sym (completed_number (h ++ Retired serial ∷ []) p' a' r' (set cs at serial.number) now i low)
    ∙ (get_or-set_other cs at i serial.number 0 apart ∙ completed_number h p a r cs was i low)
