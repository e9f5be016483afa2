-- A back is stopped by a lost device only where the device's count of faults rose.
use Rattle.std.proofs.Common.{◌≡◌, ℕ, ◌≤◌, ◌==◌, Bool, true, false, cond, List, [], ◌∷◌, ◌++◌, refl, sym, ap, ◌∙◌, subst, arith}
use Rattle.std.specs.Prelude.{◌⊎◌, All, Result, Ok, Err, OnOk, IfErr}
use Rattle.std.proofs.Common.{inl, inr}
use Rattle.std.proofs.lemmas.Bool.{cases_Bool, cond-true, cond-false}
use Rattle.std.proofs.lemmas.List.{append-nil, append_assoc}
use Rattle.std.proofs.lemmas.List.Elements.{All-head, All-tail}
use Rattle.faults.specs.Faults.{Rose}
use Rattle.vk_types.specs.declared.stops.Stop.{Stop}
use Rattle.vk_types.specs.declared.stops.Stop.TheVariants.{Lost}
use Rattle.vk_device.specs.Faults.{HasCause}
use Rattle.back_core.specs.declared.back_event.BackEvent.{BackEvent}
use Rattle.back_core.specs.declared.back_event.BackEvent.TheVariants as event
use Rattle.back_core.specs.declared.ending.Ending.{Ending}
use Rattle.back_core.specs.declared.ending.Ending.TheVariants.{Running, Closing, Stopped}
use Rattle.back_core.specs.Back.{ending_of, ending_after, closed, stopped, is_running, is_stopped, closed_by, stopped_by}
use Rattle.back_core.specs.Run.{IsProgress}
use Rattle.back_core.specs.Steps.{HasGoneOn, HasStopped, cleaned}
use Rattle.back_core.specs.Losses.{LossHasCause}
use Rattle.back_core.proofs.Room.{ending_then}

rose_later : (first before now : ℕ) → Rose first before → before ≤ now → Rose first now
rose_later first before now rose le = omega arith

rose_since : (first before now : ℕ) → first ≤ before → Rose before now → Rose first now
rose_since first before now le rose = omega arith

ending_nil : ending_of [] ≡ Running
unfolding ending_of
ending_nil = refl

pub loss_starts : (count : ℕ) (h : List BackEvent) → (ending_of h ≡ Stopped Lost → ⊥) → LossHasCause count count h
loss_starts count h never = record { later = omega arith; lost = λ is. absurd (never is) }

pub loss_opening : (count : ℕ) → LossHasCause count count []
loss_opening count = loss_starts count [] (λ is. absurd (running (sym ending_nil ∙ is)))
  where
    running : Running ≡ Stopped Lost → ⊥
    running is = cc is

-- what keeps that no loss stopped the back
pub loss_kept : (first before now : ℕ) (h k : List BackEvent) → LossHasCause first before h → before ≤ now → (ending_of k ≡ Stopped Lost → ending_of h ≡ Stopped Lost) → LossHasCause first now k
loss_kept first before now h k known le back = record {
  later = omega (arith, known.later, le);
  lost = λ is. rose_later first before now (known.lost (back is)) le;
}

pub loss_later : (first before now : ℕ) (h : List BackEvent) → LossHasCause first before h → before ≤ now → LossHasCause first now h
loss_later first before now h known le = loss_kept first before now h h known le (λ is. is)

still_closed : (x : Ending) → closed x ≡ Stopped Lost → x ≡ Stopped Lost
still_closed Running is = absurd (cc is)
still_closed Closing is = absurd (cc is)
still_closed (Stopped stop) is = is

no_stop : (x : Ending) (e : BackEvent) → is_stopped (ending_after Running e) ≡ false → ending_after x e ≡ Stopped Lost → x ≡ Stopped Lost
no_stop x (event.Created group id kind) none is = is
no_stop x (event.Wrote group id at bytes) none is = is
no_stop x (event.Enqueued batch) none is = is
no_stop x event.Submitted none is = is
no_stop x (event.Ran batch node) none is = is
no_stop x (event.Retired serial) none is = is
no_stop x (event.Fetched group id at bytes) none is = is
no_stop x (event.Gave group id uses) none is = is
no_stop x (event.Abandoned group id) none is = is
no_stop x (event.Cleaned read destroyed) none is = is
no_stop x event.Closing none is = still_closed x is
no_stop x (event.Stopped stop) none is = absurd (cc none)

pub loss_then : (first before now : ℕ) (h : List BackEvent) (e : BackEvent) → LossHasCause first before h → before ≤ now → is_stopped (ending_after Running e) ≡ false → LossHasCause first now (h ++ e ∷ [])
loss_then first before now h e known le none = loss_kept first before now h (h ++ e ∷ []) known le (λ is. no_stop (ending_of h) e none (sym (ending_then h e) ∙ is))

progress_no_stop : (e : BackEvent) → IsProgress e → is_stopped (ending_after Running e) ≡ false
progress_no_stop (event.Created group id kind) bad = absurd bad
progress_no_stop (event.Wrote group id at bytes) bad = absurd bad
progress_no_stop (event.Enqueued batch) bad = absurd bad
progress_no_stop event.Submitted step = refl
progress_no_stop (event.Ran batch node) step = refl
progress_no_stop (event.Retired serial) step = refl
progress_no_stop (event.Fetched group id at bytes) bad = absurd bad
progress_no_stop (event.Gave group id uses) bad = absurd bad
progress_no_stop (event.Abandoned group id) bad = absurd bad
progress_no_stop (event.Cleaned read destroyed) bad = absurd bad
progress_no_stop event.Closing bad = absurd bad
progress_no_stop (event.Stopped s) bad = absurd bad

loss_more : (first now : ℕ) (h more : List BackEvent) → LossHasCause first now h → All IsProgress more → LossHasCause first now (h ++ more)
loss_more first now h [] known all = subst (LossHasCause first now) (sym (append-nil h)) known
loss_more first now h (e ∷ more) known all =
    subst (LossHasCause first now) (append_assoc h (e ∷ []) more)
    (loss_more first now (h ++ e ∷ []) more (loss_then first now now h e known (omega arith) (progress_no_stop e (All-head IsProgress e more all))) (All-tail IsProgress e more all))

pub loss_batches : (first before now : ℕ) (h k : List BackEvent) → LossHasCause first before h → before ≤ now → HasGoneOn h k → LossHasCause first now k
loss_batches first before now h k known le on = subst (LossHasCause first now) (sym on.is) (loss_more first now h on.more (loss_later first before now h known le) on.progress)

pub loss_cleans : (first before now : ℕ) (h : List BackEvent) (read : List ℕ) (count : ℕ) → LossHasCause first before h → before ≤ now → LossHasCause first now (cleaned h read count)
loss_cleans first before now h read count known le = by_count (count == 0)
  where
    by_count : (b : Bool) → LossHasCause first now (cond b h (h ++ event.Cleaned read count ∷ []))
    by_count true = loss_later first before now h known le
    by_count false = loss_then first before now h (event.Cleaned read count) known le refl

pub loss_closes : (first before now : ℕ) (h : List BackEvent) → LossHasCause first before h → before ≤ now → LossHasCause first now (closed_by h)
loss_closes first before now h known le = by_ending (is_running (ending_of h))
  where
    by_ending : (b : Bool) → LossHasCause first now (cond b (h ++ event.Closing ∷ []) h)
    by_ending true = loss_then first before now h event.Closing known le refl
    by_ending false = loss_later first before now h known le

first_stop : (x : Ending) (stop : Stop) → is_stopped x ≡ false → stopped x stop ≡ Stopped Lost → stop ≡ Lost
first_stop Running stop none is = cc is
first_stop Closing stop none is = cc is
first_stop (Stopped s) stop none is = absurd (cc none)

pub loss_stops : (first before now : ℕ) (h : List BackEvent) (stop : Stop) → LossHasCause first before h → before ≤ now → (stop ≡ Lost → Rose before now) → LossHasCause first now (stopped_by h stop)
loss_stops first before now h stop known le cause = go (cases_Bool (is_stopped (ending_of h)))
  where
    go : (is_stopped (ending_of h) ≡ true) ⊎ (is_stopped (ending_of h) ≡ false) → LossHasCause first now (stopped_by h stop)
    go (inl was) = subst (LossHasCause first now) (sym (cond-true (is_stopped (ending_of h)) h (h ++ event.Stopped stop ∷ []) was)) (loss_later first before now h known le)
    go (inr none) = subst (LossHasCause first now) (sym (cond-false (is_stopped (ending_of h)) h (h ++ event.Stopped stop ∷ []) none)) (record {
      later = omega (arith, known.later, le);
      lost = λ is. rose_since first before now known.later (cause (first_stop (ending_of h) stop none (sym (ending_then h (event.Stopped stop)) ∙ is)));
    })

pub loss_waits : (first before now : ℕ) (h k : List BackEvent) (stop : Stop) → LossHasCause first before h → before ≤ now → (stop ≡ Lost → Rose before now) → HasStopped h k stop → LossHasCause first now k
loss_waits first before now h k stop known le cause has =
    subst (LossHasCause first now) (sym has.is) (loss_stops first before now has.before stop (loss_batches first before before h has.before known (omega arith) has.gone_on) le cause)

-- a call that answers with its cause
pub loss_answered : {T : Type 0} (first before now : ℕ) (h k : List BackEvent) (r : Result T Stop) → LossHasCause first before h → HasCause before now r
    → OnOk r (LossHasCause first before k) → IfErr r (λ stop. k ≡ stopped_by h stop) → LossHasCause first now k
loss_answered first before now h k (Ok x) known cause ok err = loss_later first before now k ok cause.later
loss_answered first before now h k (Err stop) known cause ok err =
    subst (LossHasCause first now) (sym err) (loss_stops first before now h stop known cause.later (λ is. cause.lost (ap (λ s. Err s) is)))
