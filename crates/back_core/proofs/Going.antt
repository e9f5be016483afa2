-- How far the batches of a run are.
use mathlib.Core.Path.{fun_ext}
use Rattle.std.proofs.Common.{◌≡◌, ℕ, ◌+◌, ◌<◌, ◌≤◌, ◌==◌, Bool, true, false, cond, List, [], ◌∷◌, ◌++◌, refl, sym, ap, ◌∙◌, subst, inl, inr, arith}
use Rattle.std.specs.Prelude.{◌⊎◌, ◌||◌, ◌/◌, Some, slice_get}
use Rattle.std.proofs.lemmas.Bool.{cases_order, eq-eqb, eqb-true, and_from, and_parts, or_cases, or_left, or_right, false≢true}
use Rattle.std.proofs.lemmas.List.{append-nil}
use Rattle.std.proofs.lemmas.List.Concat.{flat_map-append}
use Rattle.std.proofs.lemmas.List.Folds.{list_any-append}
use Rattle.std.proofs.lemmas.List.Sums.{sum_by-append}
use Rattle.std.proofs.lemmas.Option.{slice_get_within, none-some}
use Rattle.vk_types.specs.declared.batches.Batch.{Batch}
use Rattle.vk_types.specs.declared.batches.QueueSerial.{QueueSerial}
use Rattle.submit_queue.specs.Histories as queue
use Rattle.back_core.specs.declared.back_event.BackEvent.{BackEvent}
use Rattle.back_core.specs.declared.back_event.BackEvent.TheVariants.{Created, Wrote, Enqueued, Submitted, Ran, Retired, Fetched, Gave, Abandoned, Cleaned, Closing, Stopped}
use Rattle.back_core.specs.Needs.{MayEnqueue}
use Rattle.back_core.specs.History.{queue_history, completed, link_of, queue_event}
use Rattle.back_core.specs.Run.{MayHappen, IsRun}
use Rattle.back_core.proofs.Sees.{queue_then, queue_same}
use Rattle.back_core.proofs.Runs.{of_each_run}
use Rattle.back_core.proofs.Lists.{some_at}
use Rattle.back_core.proofs.Parts.{pushed, pushed_then, pushed_same, own_last_number, pushed_in}
use Rattle.back_core.proofs.Numbered.{AreNumbered, none_numbered, numbered_then, AreGoing, is_past, going_pushed, going_accepted, going_ran, going_retired, reach_holds, reach_known}

-- Numbers

-- the number of a batch that a group may hand over is the next one of its index
pub next_in_all : (h : List BackEvent) (b : Batch) → MayEnqueue (link_of h (b.index / 8)) b → b.number ≡ queue.last_number (pushed h) b.index + 1
next_in_all h b may = may.next ∙ ap (λ n. n + 1) (own_last_number h (b.index / 8) b.index refl)

pub numbered : (h : List BackEvent) → IsRun h → AreNumbered (pushed h)
numbered = of_each_run (λ h. AreNumbered (pushed h)) none_numbered step
  where
    same : (h : List BackEvent) (e : BackEvent) → pushed_in e ≡ [] → AreNumbered (pushed h) → AreNumbered (pushed (h ++ e ∷ []))
    same h e none are = subst AreNumbered (sym (pushed_same h e none)) are

    step : (h : List BackEvent) (e : BackEvent) → IsRun h → MayHappen h e → AreNumbered (pushed h) → AreNumbered (pushed (h ++ e ∷ []))
    step h (Created group id kind) run may are = same h (Created group id kind) refl are
    step h (Wrote group id at bytes) run may are = same h (Wrote group id at bytes) refl are
    step h (Enqueued b) run may are =
        subst AreNumbered (sym (pushed_then h (Enqueued b))) (numbered_then (pushed h) b are (next_in_all h b may.1) may.1.one_queue may.1.few may.0)
    step h Submitted run may are = same h Submitted refl are
    step h (Ran batch node) run may are = same h (Ran batch node) refl are
    step h (Retired serial) run may are = same h (Retired serial) refl are
    step h (Fetched group id at bytes) run may are = same h (Fetched group id at bytes) refl are
    step h (Gave group id uses) run may are = same h (Gave group id uses) refl are
    step h (Abandoned group id) run may are = same h (Abandoned group id) refl are
    step h (Cleaned read destroyed) run may are = same h (Cleaned read destroyed) refl are
    step h Closing run may are = same h Closing refl are
    step h (Stopped stop) run may are = same h (Stopped stop) refl are

-- The queue's history with one event more

or_false : (b : Bool) → (b || false) ≡ b
or_false true = refl
or_false false = refl

module _ (q : List queue.Event) (x : queue.Event) where
  pub accepted_next : queue.accepted (q ++ x ∷ []) ≡ queue.accepted q + cond (queue.is_accept x) 1 0
  accepted_next = omega (arith, sum_by-append (λ y. cond (queue.is_accept y) 1 0) q (x ∷ []))

  pub retired_next : queue.retired (q ++ x ∷ []) ≡ queue.retired q + cond (queue.is_retire x) 1 0
  retired_next = omega (arith, sum_by-append (λ y. cond (queue.is_retire y) 1 0) q (x ∷ []))

  pub ran_next : (k i : ℕ) → queue.has_run (q ++ x ∷ []) k i ≡ (queue.has_run q k i || queue.is_run k i x)
  ran_next k i = list_any-append (queue.is_run k i) q (x ∷ []) ∙ ap (λ b. queue.has_run q k i || b) (or_false (queue.is_run k i x))

  pub gone_next : (i n : ℕ) → queue.is_retired (q ++ x ∷ []) i n ≡ (queue.is_retired q i n || queue.is_retirement i n x)
  gone_next i n = list_any-append (queue.is_retirement i n) q (x ∷ []) ∙ ap (λ b. queue.is_retired q i n || b) (or_false (queue.is_retirement i n x))

  pub batches_next : queue.batches (q ++ x ∷ []) ≡ queue.batches q ++ queue.pushed_by x
  batches_next = flat_map-append queue.pushed_by q (x ∷ []) ∙ ap (λ l. queue.batches q ++ l) (append-nil (queue.pushed_by x))

  pub batches_stay : queue.pushed_by x ≡ [] → queue.batches (q ++ x ∷ []) ≡ queue.batches q
  batches_stay none = batches_next ∙ (ap (λ l. queue.batches q ++ l) none ∙ append-nil (queue.batches q))

  pub ran_stays : ((k i : ℕ) → queue.is_run k i x ≡ false) → queue.has_run (q ++ x ∷ []) ≡ queue.has_run q
  ran_stays none = fun_ext (λ k. fun_ext (λ i. ran_next k i ∙ (ap (λ b. queue.has_run q k i || b) (none k i) ∙ or_false (queue.has_run q k i))))

  pub gone_stays : ((i n : ℕ) → queue.is_retirement i n x ≡ false) → queue.is_retired (q ++ x ∷ []) ≡ queue.is_retired q
  gone_stays none = fun_ext (λ i. fun_ext (λ n. gone_next i n ∙ (ap (λ b. queue.is_retired q i n || b) (none i n) ∙ or_false (queue.is_retired q i n))))

-- how far the batches of a queue's history are
abbrev pub Goes : List queue.Event → Type 0
Goes q = AreGoing (queue.batches q) (queue.accepted q) (queue.retired q) (queue.has_run q) (queue.is_retired q)

moved : {xs ys : List Batch} {a b r s : ℕ} {f g gone gone' : ℕ → ℕ → Bool} → xs ≡ ys → a ≡ b → r ≡ s → f ≡ g → gone ≡ gone' → AreGoing xs a r f gone → AreGoing ys b s g gone'
moved {xs = xs} {ys = ys} {a = a} {b = b} {r = r} {s = s} {f = f} {g = g} {gone = gone} {gone' = gone'} e1 e2 e3 e4 e5 is =
    subst (λ x. AreGoing ys b s g x) e5 (subst (λ x. AreGoing ys b s x gone) e4 (subst (λ x. AreGoing ys b x f gone) e3 (subst (λ x. AreGoing ys x r f gone) e2 (subst (λ x. AreGoing x a r f gone) e1 is))))

-- the batch that can be retired stands behind the retired ones
pub next_to_retire : (q : List queue.Event) (place : ℕ) → AreNumbered (queue.batches q) → Goes q → queue.CanRetire q place → place ≡ queue.retired q
next_to_retire q place are going can = go (cases_order place (queue.retired q))
  where
    go : (place ≡ queue.retired q) ⊎ ((place < queue.retired q) ⊎ (queue.retired q < place)) → place ≡ queue.retired q
    go (inl same) = same
    go (inr (inl lt)) = absurd (false≢true (sym can.not_before ∙ going.past place can.batch can.at lt))
    go (inr (inr lt)) =
        let c = some_at (queue.batches q) (queue.retired q) (omega (arith, slice_get_within (queue.batches q) place can.batch can.at, lt)) in
        let same : c.0.queue ≡ can.batch.queue = (are.one_queue (queue.retired q) c.0 c.1).queue ∙ sym (are.one_queue place can.batch can.at).queue in
        absurd (false≢true (sym (going.left (queue.retired q) c.0 c.1 (omega arith)) ∙ can.in_order (queue.retired q) c.0 lt c.1 same))

module _ (q : List queue.Event) (are : AreNumbered (queue.batches q)) (going : Goes q) where
  goes_pushed : (b : Batch) → b.number ≡ queue.last_number (queue.batches q) b.index + 1 → Goes (q ++ queue.Pushed b ∷ [])
  goes_pushed b next =
      moved (sym (batches_next q (queue.Pushed b))) (omega (arith, accepted_next q (queue.Pushed b))) (omega (arith, retired_next q (queue.Pushed b))) (sym (ran_stays q (queue.Pushed b) (λ k i. refl))) (sym (gone_stays q (queue.Pushed b) (λ i n. refl)))
      (going_pushed (queue.batches q) (queue.accepted q) (queue.retired q) (queue.has_run q) (queue.is_retired q) are going b next)

  goes_accepted : queue.MayAccept q → Goes (q ++ queue.Accepted ∷ [])
  goes_accepted may =
      moved (sym (batches_stay q queue.Accepted refl)) (omega (arith, accepted_next q queue.Accepted)) (omega (arith, retired_next q queue.Accepted)) (sym (ran_stays q queue.Accepted (λ k i. refl))) (sym (gone_stays q queue.Accepted (λ i n. refl)))
      (going_accepted (queue.batches q) (queue.accepted q) (queue.retired q) (queue.has_run q) (queue.is_retired q) are going may)

  goes_ran : (k i : ℕ) → queue.MayRun q k i → Goes (q ++ queue.Ran k i ∷ [])
  goes_ran k i may =
      moved (sym (batches_stay q (queue.Ran k i) refl)) (omega (arith, accepted_next q (queue.Ran k i))) (omega (arith, retired_next q (queue.Ran k i))) refl (sym (gone_stays q (queue.Ran k i) (λ j n. refl)))
      (going_ran (queue.batches q) (queue.accepted q) (queue.retired q) (queue.has_run q) (queue.is_retired q) are going (queue.has_run (q ++ queue.Ran k i ∷ []))
      (λ l j was. ran_next q (queue.Ran k i) l j ∙ or_left (queue.has_run q l j) (queue.is_run l j (queue.Ran k i)) was)
      (λ l j was. early l j (or_cases (queue.has_run q l j) (queue.is_run l j (queue.Ran k i)) (sym (ran_next q (queue.Ran k i) l j) ∙ was))))
    where
      early : (l j : ℕ) → (queue.has_run q l j ≡ true) ⊎ (queue.is_run l j (queue.Ran k i) ≡ true) → l < queue.accepted q
      early l j (inl old) = going.early l j old
      early l j (inr new) = let same : k ≡ l = eqb-true k l (and_parts (k == l) (i == j) new).0 in omega (arith, may.accepted_before, same)

  goes_retired : (serial : QueueSerial) (place : ℕ) (can : queue.CanRetire q place) → serial.index ≡ can.batch.index → serial.number ≡ can.batch.number → Goes (q ++ queue.Retired serial ∷ [])
  goes_retired serial place can index number =
      moved (sym (batches_stay q (queue.Retired serial) refl)) (omega (arith, accepted_next q (queue.Retired serial))) (omega (arith, retired_next q (queue.Retired serial))) (sym (ran_stays q (queue.Retired serial) (λ k i. refl))) refl
      (going_retired (queue.batches q) (queue.accepted q) (queue.retired q) (queue.has_run q) (queue.is_retired q) are going can.batch
      (ap (slice_get (queue.batches q)) (sym here) ∙ can.at) (omega (arith, here, can.accepted_before)) (λ i lt. subst (λ k. queue.has_run q k i ≡ true) here (can.executed i lt))
      (queue.is_retired (q ++ queue.Retired serial ∷ []))
      (gone_next q (queue.Retired serial) can.batch.index can.batch.number ∙ or_right (queue.is_retired q can.batch.index can.batch.number) _ (and_from (serial.index == can.batch.index) (serial.number == can.batch.number) (eq-eqb serial.index can.batch.index index) (eq-eqb serial.number can.batch.number number)))
      (λ i n was. gone_next q (queue.Retired serial) i n ∙ or_left (queue.is_retired q i n) (queue.is_retirement i n (queue.Retired serial)) was)
      (λ i n was. only i n (or_cases (queue.is_retired q i n) (queue.is_retirement i n (queue.Retired serial)) (sym (gone_next q (queue.Retired serial) i n) ∙ was))))
    where
      here : place ≡ queue.retired q
      here = next_to_retire q place are going can

      only : (i n : ℕ) → (queue.is_retired q i n ≡ true) ⊎ (queue.is_retirement i n (queue.Retired serial) ≡ true) → (queue.is_retired q i n ≡ true) ⊎ ((can.batch.index ≡ i) × (can.batch.number ≡ n))
      only i n (inl old) = inl old
      only i n (inr new) =
          let both = and_parts (serial.index == i) (serial.number == n) new in
          inr (sym index ∙ eqb-true serial.index i both.0, sym number ∙ eqb-true serial.number n both.1)

none_goes : Goes []
none_goes = record {
  few = omega arith;
  taken = omega arith;
  early = λ k i was. absurd (false≢true was);
  past = λ k b at. absurd (none-some b at);
  left = λ k b at. absurd (none-some b at);
  known = λ i n was. absurd (false≢true was);
  done = λ k i b at. absurd (none-some b at);
}

pub goes : (h : List BackEvent) → IsRun h → Goes (queue_history h)
goes = of_each_run (λ h. Goes (queue_history h)) none_goes step
  where
    same : (h : List BackEvent) (e : BackEvent) → queue_event e ≡ [] → Goes (queue_history h) → Goes (queue_history (h ++ e ∷ []))
    same h e none going = subst Goes (sym (queue_same h e none)) going

    step : (h : List BackEvent) (e : BackEvent) → IsRun h → MayHappen h e → Goes (queue_history h) → Goes (queue_history (h ++ e ∷ []))
    step h (Created group id kind) run may going = same h (Created group id kind) refl going
    step h (Wrote group id at bytes) run may going = same h (Wrote group id at bytes) refl going
    step h (Enqueued b) run may going = subst Goes (sym (queue_then h (Enqueued b))) (goes_pushed (queue_history h) (numbered h run) going b (next_in_all h b may.1))
    step h Submitted run may going = subst Goes (sym (queue_then h Submitted)) (goes_accepted (queue_history h) (numbered h run) going may)
    step h (Ran batch node) run may going = subst Goes (sym (queue_then h (Ran batch node))) (goes_ran (queue_history h) (numbered h run) going batch node may)
    step h (Retired serial) run may going = subst Goes (sym (queue_then h (Retired serial))) (goes_retired (queue_history h) (numbered h run) going serial may.place may.can may.index may.number)
    step h (Fetched group id at bytes) run may going = same h (Fetched group id at bytes) refl going
    step h (Gave group id uses) run may going = same h (Gave group id uses) refl going
    step h (Abandoned group id) run may going = same h (Abandoned group id) refl going
    step h (Cleaned read destroyed) run may going = same h (Cleaned read destroyed) refl going
    step h Closing run may going = same h Closing refl going
    step h (Stopped stop) run may going = same h (Stopped stop) refl going

-- What the completed numbers say

-- a batch whose number is no greater than the completed one was accepted, and its items ran
pub record IsExecuted (h : List BackEvent) (k : ℕ) (b : Batch) : Type 0 where
  pub accepted : k < queue.accepted (queue_history h)
  pub ran : (i : ℕ) → i < queue.item_count b → queue.has_run (queue_history h) k i ≡ true

pub completed_ran : (h : List BackEvent) → IsRun h → (k : ℕ) (b : Batch) → slice_get (pushed h) k ≡ Some b → b.number ≤ completed h b.index → IsExecuted h k b
completed_ran h run k b at le =
    let q : List queue.Event = queue_history h in
    let gone : queue.is_retired (queue_history h) b.index b.number ≡ true
    = reach_holds (queue.is_retired (queue_history h) b.index) 0 (queue.retired (queue_history h)) b.number (omega (arith, (numbered h run).first k b at)) le in
    let past : k < queue.retired (queue_history h)
    = is_past (pushed h) (queue.accepted (queue_history h)) (queue.retired (queue_history h)) (queue.has_run (queue_history h)) (queue.is_retired (queue_history h)) (numbered h run) (goes h run) k b at gone in
    record { accepted = omega (arith, past, (goes h run).few); ran = λ i lt. (goes h run).done k i b at past lt }

-- no completed number is above the last one of its index
pub completed_below : (h : List BackEvent) → IsRun h → (i : ℕ) → completed h i ≤ queue.last_number (pushed h) i
completed_below h run i = reach_known (queue.is_retired (queue_history h) i) (queue.last_number (pushed h) i) ((goes h run).known i) 0 (queue.retired (queue_history h)) (omega arith)
