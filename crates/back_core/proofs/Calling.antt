-- What the calls of a direct link do at the back.
use Rattle.std.proofs.Common.{◌≡◌, ℕ, ◌/◌, ◌==◌, Bool, true, false, cond, not, List, [], ◌∷◌, ◌++◌, length, refl, sym, ap, ◌∙◌, subst, arith}
use Rattle.std.specs.Prelude.{All, Some, Result, Ok, Err, IfOk, IfErr, OnOk, OnErr, is_err, ⊤}
use Rattle.std.proofs.lemmas.Bool.{eq-eqb, false≢true}
use Rattle.std.proofs.lemmas.List.Elements.{All-head, All-tail}
use Rattle.std.proofs.lemmas.List.{append-nil, append_assoc}
use Rattle.vk_types.specs.declared.stops.Stop.{Stop}
use Rattle.vk_types.specs.declared.handles.HandleId.{HandleId}
use Rattle.vk_types.specs.declared.handles.Kind.{Kind}
use Rattle.vk_types.specs.declared.batches.Batch.{Batch}
use Rattle.vk_types.specs.declared.batches.QueueSerial.{QueueSerial}
use Rattle.back_core.specs.declared.back_event.BackEvent.{BackEvent}
use Rattle.back_core.specs.declared.back_event.BackEvent.TheVariants as event
use Rattle.back_core.specs.declared.ending.Ending.{Ending}
use Rattle.back_core.specs.Own.{next_number}
use Rattle.back_core.specs.Link.{enqueued}
use Rattle.back_core.specs.Answers.{Learns}
use Rattle.back_core.specs.History.{link_of}
use Rattle.back_core.specs.Frame.{GoesOn, IsGoing, NoBatch, AtBack}
use Rattle.back_core.specs.Run.{IsProgress}
use Rattle.back_core.specs.Steps.{HasGoneOn, HasStopped, cleaned}
use Rattle.back_core.specs.Back.{is_stopped, ending_of, ending_after, stopped_by}
use Rattle.back_core.proofs.Sees.{group_of, create_then, write_then, fetch_then, give_then, abandon_then, stop_then}
use Rattle.back_core.proofs.Room.{ending_then}
use Rattle.back_core.proofs.Outside.{part_none, part_one, part_on, part_ended}
use Rattle.back_core.proofs.Frames.{nothing_done, create_done, write_done, enqueue_done, fetch_done, give_done, abandon_done, learn_done, stop_done, within, no_batch}
use Rattle.back_core.proofs.Waiting.{learns_nothing}

own_event : (g : ℕ) → not (g == g) ≡ false
own_event g = ap not (eq-eqb g g refl)

-- the group of a link is the group
on_link : (h k : List BackEvent) (g : ℕ) → GoesOn g (Some h) (Some k) → GoesOn (link_of h g).group (Some h) (Some k)
on_link h k g on = subst (λ x. GoesOn x (Some h) (Some k)) (sym (group_of h g)) on

-- an event that leaves the ending
pub still_going : (h : List BackEvent) (e : BackEvent) → ending_after (ending_of h) e ≡ ending_of h → IsGoing (Some h) → IsGoing (Some (h ++ e ∷ []))
still_going h e same was = ap is_stopped (ending_then h e ∙ same) ∙ was

stop_acts : (h : List BackEvent) (g : ℕ) (stop : Stop) → AtBack (link_of h g) (link_of (stopped_by h stop) g) (Some h) (Some (stopped_by h stop)) 0 false true NoBatch
stop_acts h g stop = by_ending (is_stopped (ending_of h))
  where
    by_ending : (b : Bool) → AtBack (link_of h g) (link_of (cond b h (h ++ event.Stopped stop ∷ [])) g) (Some h) (Some (cond b h (h ++ event.Stopped stop ∷ []))) 0 false true NoBatch
    by_ending true = stop_done (link_of h g) (link_of h g) (Some h) (Some h) false (learns_nothing (link_of h g)) (λ no. refl) (on_link h h g (part_none h g))
    by_ending false = subst (λ l. AtBack (link_of h g) l (Some h) (Some (h ++ event.Stopped stop ∷ [])) 0 false true NoBatch) (sym (stop_then h g stop))
        (stop_done (link_of h g) (link_of h g) (Some h) (Some (h ++ event.Stopped stop ∷ [])) false (learns_nothing (link_of h g)) (λ no. refl)
        (on_link h (h ++ event.Stopped stop ∷ []) g (part_one h g (event.Stopped stop) refl)))

-- one event of the group's own, or a stop
by_one : {T : Type 0} (r : Result T Stop) (h k : List BackEvent) (g due : ℕ) (e : T → BackEvent) → IfOk r (λ v. k ≡ h ++ e v ∷ []) → IfErr r (λ stop. k ≡ stopped_by h stop) →
    ((v : T) → AtBack (link_of h g) (link_of (h ++ e v ∷ []) g) (Some h) (Some (h ++ e v ∷ [])) due false false NoBatch) →
    ((stop : Stop) → AtBack (link_of h g) (link_of (stopped_by h stop) g) (Some h) (Some (stopped_by h stop)) due false true NoBatch) →
    AtBack (link_of h g) (link_of k g) (Some h) (Some k) due false (is_err r) NoBatch
by_one (Ok v) h k g due e ok err did stopped = subst (λ l. AtBack (link_of h g) (link_of l g) (Some h) (Some l) due false false NoBatch) (sym ok) (did v)
by_one (Err stop) h k g due e ok err did stopped = subst (λ l. AtBack (link_of h g) (link_of l g) (Some h) (Some l) due false true NoBatch) (sym err) (stopped stop)

pub create_acts : (r : Result HandleId Stop) (h k : List BackEvent) (g : ℕ) (kind : Kind) → IfOk r (λ id. k ≡ h ++ event.Created g id kind ∷ []) → IfErr r (λ stop. k ≡ stopped_by h stop) →
    AtBack (link_of h g) (link_of k g) (Some h) (Some k) 0 false (is_err r) NoBatch
create_acts r h k g kind ok err = by_one r h k g 0 (λ id. event.Created g id kind) ok err
    (λ id. create_done (link_of h g) (link_of (h ++ event.Created g id kind ∷ []) g) (Some h) (Some (h ++ event.Created g id kind ∷ [])) id.0 kind (create_then h g id kind)
    (on_link h (h ++ event.Created g id kind ∷ []) g (part_one h g (event.Created g id kind) (own_event g))) (still_going h (event.Created g id kind) refl)) (stop_acts h g)

pub write_acts : (r : Result ⊤ Stop) (h k : List BackEvent) (g : ℕ) (id : HandleId) (at : ℕ) (bytes : List ℕ) → OnOk r (k ≡ h ++ event.Wrote g id at bytes ∷ []) → IfErr r (λ stop. k ≡ stopped_by h stop) →
    AtBack (link_of h g) (link_of k g) (Some h) (Some k) (length bytes) false (is_err r) NoBatch
write_acts r h k g id at bytes ok err = by_one r h k g (length bytes) (λ u. event.Wrote g id at bytes) ok err
    (λ u. write_done (link_of h g) (link_of (h ++ event.Wrote g id at bytes ∷ []) g) (Some h) (Some (h ++ event.Wrote g id at bytes ∷ [])) id.0 at bytes (write_then h g id at bytes)
    (on_link h (h ++ event.Wrote g id at bytes ∷ []) g (part_one h g (event.Wrote g id at bytes) (own_event g))) (still_going h (event.Wrote g id at bytes) refl))
    (λ stop. within (length bytes) false true NoBatch (omega arith) (λ on. on) (λ on. on) (λ batch none. none) (stop_acts h g stop))

pub fetch_acts : (r : Result ⊤ Stop) (h k : List BackEvent) (g : ℕ) (id : HandleId) (at : ℕ) (bytes : List ℕ) → OnOk r (k ≡ h ++ event.Fetched g id at bytes ∷ []) → IfErr r (λ stop. k ≡ stopped_by h stop) →
    AtBack (link_of h g) (link_of k g) (Some h) (Some k) 0 false (is_err r) NoBatch
fetch_acts r h k g id at bytes ok err = by_one r h k g 0 (λ u. event.Fetched g id at bytes) ok err
    (λ u. fetch_done (link_of h g) (link_of (h ++ event.Fetched g id at bytes ∷ []) g) (Some h) (Some (h ++ event.Fetched g id at bytes ∷ [])) id.0 at bytes (fetch_then h g id at bytes)
    (on_link h (h ++ event.Fetched g id at bytes ∷ []) g (part_one h g (event.Fetched g id at bytes) (own_event g))) (still_going h (event.Fetched g id at bytes) refl)) (stop_acts h g)

pub enqueue_acts : {A B : Type 0} (r : Result A B) (h k : List BackEvent) (g : ℕ) (batch : Batch) → batch.index / 8 ≡ g → batch.number ≡ next_number (link_of h g).mine batch.index →
    link_of (h ++ event.Enqueued batch ∷ []) g ≡ enqueued (link_of h g) batch → OnOk r (k ≡ h ++ event.Enqueued batch ∷ []) → OnErr r (k ≡ h) →
    AtBack (link_of h g) (link_of k g) (Some h) (Some k) 0 false false (λ b. b ≡ batch)
enqueue_acts (Ok v) h k g batch own next then_ ok err = subst (λ l. AtBack (link_of h g) (link_of l g) (Some h) (Some l) 0 false false (λ b. b ≡ batch)) (sym ok)
    (enqueue_done (λ b. b ≡ batch) (link_of h g) (link_of (h ++ event.Enqueued batch ∷ []) g) (Some h) (Some (h ++ event.Enqueued batch ∷ [])) batch refl next then_
    (on_link h (h ++ event.Enqueued batch ∷ []) g (part_one h g (event.Enqueued batch) (ap not (eq-eqb (batch.index / 8) g own)))) (still_going h (event.Enqueued batch) refl))
enqueue_acts (Err e) h k g batch own next then_ ok err = subst (λ l. AtBack (link_of h g) (link_of l g) (Some h) (Some l) 0 false false (λ b. b ≡ batch)) (sym err)
    (within 0 false false (λ b. b ≡ batch) (omega arith) (λ on. on) (λ on. on) (no_batch (λ b. b ≡ batch))
    (nothing_done (link_of h g) (link_of h g) (Some h) (Some h) refl (on_link h h g (part_none h g)) (λ was. was)))

pub ask_acts : (h : List BackEvent) (g : ℕ) → AtBack (link_of h g) (link_of h g) (Some h) (Some h) 0 false false NoBatch
ask_acts h g = nothing_done (link_of h g) (link_of h g) (Some h) (Some h) refl (on_link h h g (part_none h g)) (λ was. was)

pub give_acts : (h k : List BackEvent) (g : ℕ) (id : HandleId) (uses : List QueueSerial) → k ≡ h ++ event.Gave g id uses ∷ [] → AtBack (link_of h g) (link_of k g) (Some h) (Some k) 0 false false NoBatch
give_acts h k g id uses is = subst (λ l. AtBack (link_of h g) (link_of l g) (Some h) (Some l) 0 false false NoBatch) (sym is)
    (give_done (link_of h g) (link_of (h ++ event.Gave g id uses ∷ []) g) (Some h) (Some (h ++ event.Gave g id uses ∷ [])) id.0 uses (give_then h g id uses)
    (on_link h (h ++ event.Gave g id uses ∷ []) g (part_one h g (event.Gave g id uses) (own_event g))) (still_going h (event.Gave g id uses) refl))

pub abandon_acts : (h k : List BackEvent) (g : ℕ) (id : HandleId) → k ≡ h ++ event.Abandoned g id ∷ [] → AtBack (link_of h g) (link_of k g) (Some h) (Some k) 0 false false NoBatch
abandon_acts h k g id is = subst (λ l. AtBack (link_of h g) (link_of l g) (Some h) (Some l) 0 false false NoBatch) (sym is)
    (abandon_done (link_of h g) (link_of (h ++ event.Abandoned g id ∷ []) g) (Some h) (Some (h ++ event.Abandoned g id ∷ [])) id.0 (abandon_then h g id)
    (on_link h (h ++ event.Abandoned g id ∷ []) g (part_one h g (event.Abandoned g id) (own_event g))) (still_going h (event.Abandoned g id) refl))

-- Waits

progress_going : (ending : Ending) (e : BackEvent) → IsProgress e → ending_after ending e ≡ ending
progress_going ending (event.Created group id kind) bad = absurd bad
progress_going ending (event.Wrote group id at bytes) bad = absurd bad
progress_going ending (event.Enqueued batch) bad = absurd bad
progress_going ending event.Submitted step = refl
progress_going ending (event.Ran batch node) step = refl
progress_going ending (event.Retired serial) step = refl
progress_going ending (event.Fetched group id at bytes) bad = absurd bad
progress_going ending (event.Gave group id uses) bad = absurd bad
progress_going ending (event.Abandoned group id) bad = absurd bad
progress_going ending (event.Cleaned read destroyed) bad = absurd bad
progress_going ending event.Closing bad = absurd bad
progress_going ending (event.Stopped s) bad = absurd bad

pub going_on : (h more : List BackEvent) → All IsProgress more → IsGoing (Some h) → IsGoing (Some (h ++ more))
going_on h [] all was = subst (λ l. IsGoing (Some l)) (sym (append-nil h)) was
going_on h (e ∷ more) all was = subst (λ l. IsGoing (Some l)) (append_assoc h (e ∷ []) more)
    (going_on (h ++ e ∷ []) more (All-tail IsProgress e more all) (still_going h e (progress_going (ending_of h) e (All-head IsProgress e more all)) was))

pub wait_acts : {A : Type 0} (r : Result A Stop) (h k : List BackEvent) (g : ℕ) → Learns (link_of h g) (link_of k g) → OnOk r (HasGoneOn h k) → IfErr r (λ stop. HasStopped h k stop) →
    AtBack (link_of h g) (link_of k g) (Some h) (Some k) 0 true (is_err r) NoBatch
wait_acts (Ok v) h k g learns ok err = learn_done (link_of h g) (link_of k g) (Some h) (Some k) learns (on_link h k g (part_on h k g ok))
    (λ was. subst (λ l. IsGoing (Some l)) (sym ok.is) (going_on h ok.more ok.progress was))
wait_acts (Err stop) h k g learns ok err = stop_done (link_of h g) (link_of k g) (Some h) (Some k) true learns (λ no. absurd (false≢true (sym no))) (on_link h k g (part_ended h k g stop err))

pub start_going : IsGoing (Some [])
unfolding ending_of
start_going = refl

pub gone_going : (h k : List BackEvent) → HasGoneOn h k → IsGoing (Some h) → IsGoing (Some k)
gone_going h k gone was = subst (λ l. IsGoing (Some l)) (sym gone.is) (going_on h gone.more gone.progress was)

pub cleaned_going : (h : List BackEvent) (read : List ℕ) (count : ℕ) → IsGoing (Some h) → IsGoing (Some (cleaned h read count))
cleaned_going h read count was = by_count (count == 0)
  where
    by_count : (b : Bool) → IsGoing (Some (cond b h (h ++ event.Cleaned read count ∷ [])))
    by_count true = was
    by_count false = still_going h (event.Cleaned read count) refl was
