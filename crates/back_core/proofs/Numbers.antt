-- Numbers of batches, and bytes that are replaced.
use Rattle.std.proofs.Common.{◌≡◌, ℕ, zero, suc, ◌+◌, ◌≤◌, ◌==◌, Bool, true, false, cond, List, [], ◌∷◌, ◌++◌, length, take, drop, refl, ap, ◌∙◌, subst, arith, length-append}
use Rattle.std.specs.Prelude.{map, Option, Some, None, slice_get}
use Rattle.std.proofs.lemmas.List.{append-nil}
use Rattle.std.proofs.lemmas.List.Sums.{fold-append}
use Rattle.std.proofs.lemmas.List.Concat.{flat_map-append}
use Rattle.cells.specs.Contents.{overwritten}
use Rattle.vk_types.specs.declared.batches.Batch.{Batch}
use Rattle.submit_queue.specs.Histories as queue
use Rattle.submit_queue.specs.Kept.{AreNumbered}
use Rattle.back_core.specs.declared.back_event.BackEvent.{BackEvent}
use Rattle.back_core.specs.declared.back_event.BackEvent.TheVariants.{Created, Wrote, Enqueued, Submitted, Ran, Retired, Fetched, Gave, Abandoned, Cleaned, Closing, Stopped}
use Rattle.back_core.specs.declared.stored.Stored.{Stored}
use Rattle.back_core.specs.History.{queue_event, queue_history}
use Rattle.back_core.specs.Back.{event_of}

-- A number is at most the count of the batches.

take_next : (list : List Batch) (k : ℕ) (b : Batch) → slice_get list k ≡ Some b → take (suc k) list ≡ take k list ++ b ∷ []
take_next [] k b e = absurd (cc e)
take_next (x ∷ list) zero b e = cc e
take_next (x ∷ list) (suc k) b e = ap (λ l. x ∷ l) (take_next list k b e)

take_end : (list : List Batch) (k : ℕ) → slice_get list k ≡ None → take (suc k) list ≡ take k list
take_end [] zero e = refl
take_end [] (suc k) e = refl
take_end (x ∷ list) zero e = absurd (cc e)
take_end (x ∷ list) (suc k) e = ap (λ l. x ∷ l) (take_end list k e)

take_all : (list : List Batch) → take (length list) list ≡ list
take_all [] = refl
take_all (x ∷ list) = ap (λ l. x ∷ l) (take_all list)

chosen : (b : Bool) (n m k : ℕ) → n ≤ suc k → m ≤ k → cond b n m ≤ suc k
chosen true n m k a c = a
chosen false n m k a c = omega arith

taken_at : (list : List Batch) (k i : ℕ) → AreNumbered list → ((j : ℕ) → queue.last_number (take k list) j ≤ k) → (o : Option Batch) → slice_get list k ≡ o → queue.last_number (take (suc k) list) i ≤ suc k
taken_at list k i numbered before None e = let few = before i in rw (take_end list k e) (omega arith)
taken_at list k i numbered before (Some b) e =
    let few = before i in
    let here = before b.index in
    let next = numbered k b e in
    rw (take_next list k b e, fold-append (λ n (x : Batch). cond (x.index == i) x.number n) 0 (take k list) (b ∷ [])) (chosen (b.index == i) b.number _ k (omega arith) few)

taken : (list : List Batch) (k i : ℕ) → AreNumbered list → queue.last_number (take k list) i ≤ k
taken list zero i numbered = omega arith
taken list (suc k) i numbered = taken_at list k i numbered (λ j. taken list k j numbered) (slice_get list k) refl

pub numbers_few : (list : List Batch) (i : ℕ) → AreNumbered list → queue.last_number list i ≤ length list
numbers_few list i numbered = subst (λ l. queue.last_number l i ≤ length list) (take_all list) (taken list (length list) i numbered)

event_few : (e : BackEvent) → length (queue.batches (queue_event e)) ≤ 1
event_few (Created group id kind) = omega arith
event_few (Wrote group id at bytes) = omega arith
event_few (Enqueued batch) = omega arith
event_few Submitted = omega arith
event_few (Ran batch node) = omega arith
event_few (Retired serial) = omega arith
event_few (Fetched group id at bytes) = omega arith
event_few (Gave group id uses) = omega arith
event_few (Abandoned group id) = omega arith
event_few (Cleaned read destroyed) = omega arith
event_few Closing = omega arith
event_few (Stopped stop) = omega arith

-- no more batches than events
pub batches_few : (items : List Stored) → length (queue.batches (queue_history (map event_of items))) ≤ length items
batches_few [] = omega arith
batches_few (s ∷ items) =
    let more = batches_few items in
    let one = event_few (event_of s) in
    let parts : length (queue.batches (queue_history (map event_of (s ∷ items)))) ≡ length (queue.batches (queue_event (event_of s))) + length (queue.batches (queue_history (map event_of items)))
    = ap length (flat_map-append queue.pushed_by (queue_event (event_of s)) (queue_history (map event_of items))) ∙ length-append (queue.batches (queue_event (event_of s))) (queue.batches (queue_history (map event_of items))) in
    omega arith

drop_all : (items : List ℕ) → drop (length items) items ≡ []
drop_all [] = refl
drop_all (x ∷ items) = drop_all items

-- all bytes are replaced
pub overwritten-all : (items others : List ℕ) → length others ≡ length items → overwritten items 0 others ≡ others
overwritten-all items others e =
    let size : 0 + length others ≡ length items = omega arith in
    ap (λ k. others ++ drop k items) size ∙ (ap (λ l. others ++ l) (drop_all items) ∙ append-nil others)
