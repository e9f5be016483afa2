-- Objects that are held, were let go or wait to be destroyed are live, with the kinds that their groups know.
use Rattle.std.proofs.Common.{◌≡◌, ℕ, zero, suc, ◌+◌, ◌<◌, ◌≤◌, ◌==◌, Bool, true, false, cond, List, [], ◌∷◌, ◌++◌, take, refl, sym, ap, ◌∙◌, subst, inl, inr, arith}
use Rattle.std.specs.Prelude.{◌⊎◌, Some, None, Option}
use Rattle.std.proofs.lemmas.Bool.{cases_Bool, cond-true, cond-false, eq-eqb, ne_eqb, or_left}
use Rattle.std.proofs.lemmas.List.{append-nil, append_assoc}
use Rattle.std.proofs.lemmas.List.Folds.{list_any-append}
use Rattle.std.proofs.lemmas.List.Sums.{sum_by-append}
use Rattle.std.proofs.lemmas.Option.{same_Some, none-some}
use Rattle.vk_types.specs.declared.handles.Kind.{Kind}
use Rattle.vk_types.specs.declared.batches.QueueSerial.{QueueSerial}
use Rattle.resource_use.specs.Uses.{number_of}
use Rattle.garbage.specs.declared.entry.Garbage.{Garbage}
use Rattle.garbage.specs.Collecting.{is_covered}
use Rattle.vk_device.specs.declared.logged.Logged.{Logged}
use Rattle.vk_device.specs.declared.logged.Logged.TheVariants as logged
use Rattle.vk_device.specs.Journal.{kind_of}
use Rattle.vk_device.proofs.Running.{kind_after}
use Rattle.submit_queue.specs.Histories as queue
use Rattle.back_core.specs.declared.back_event.BackEvent.{BackEvent}
use Rattle.back_core.specs.declared.back_event.BackEvent.TheVariants.{Created, Wrote, Enqueued, Submitted, Ran, Retired, Fetched, Gave, Abandoned, Cleaned, Closing, Stopped}
use Rattle.back_core.specs.History.{queue_event, queue_history, completed, own_part}
use Rattle.back_core.specs.Run.{garbage_of, garbage_after, without_covered, covered_in, submission, destroys, logged_by, journal_of, MayHappen, IsRun}
use Rattle.back_core.proofs.Sees.{queue_then}
use Rattle.back_core.proofs.Runs.{of_each_run, garbage_then, journal_then}
use Rattle.back_core.proofs.Numbered.{reach_holds, reach_far}
use Rattle.back_core.proofs.Made.{IsMade}
use Rattle.back_core.proofs.Adding.{IsCreated, made_then}
use Rattle.back_core.proofs.Known.{known, one_group}
use Rattle.back_core.proofs.Piles.{IsIn, in_front, in_back, in_parts, IsAway, left_in, left_or_covered, away_part, away_from_taken, covered_number}
use Rattle.back_core.proofs.Given.{Gives, given_before, none_before, WasGiven, garbage_given}
use Rattle.vk_types.specs.declared.batches.Batch.{Batch}
use Rattle.submit_queue.specs.Histories.{reach}

-- Completed numbers do not fall

reach_short : (test : ℕ → Bool) (n more : ℕ) → reach test n more ≤ n + more
reach_short test n zero = omega arith
reach_short test n (suc more) = go (cases_Bool (test (suc n))) (reach_short test (suc n) more)
  where
    go : (test (suc n) ≡ true) ⊎ (test (suc n) ≡ false) → queue.reach test (suc n) more ≤ suc n + more → queue.reach test n (suc more) ≤ n + suc more
    go (inl t) rest = omega (arith, cond-true (test (suc n)) (queue.reach test (suc n) more) n t, rest)
    go (inr f) rest = omega (arith, cond-false (test (suc n)) (queue.reach test (suc n) more) n f)

pub completed_rises : (h : List BackEvent) (e : BackEvent) (i : ℕ) → completed h i ≤ completed (h ++ e ∷ []) i
completed_rises h e i = subst (λ q. completed h i ≤ queue.completed q i) (sym (queue_then h e)) (reach_far (queue.is_retired next i) (completed h i) each 0 (queue.retired next) (omega (arith, many, reach_short (queue.is_retired (queue_history h) i) 0 (queue.retired (queue_history h)))))
  where
    next : List queue.Event
    next = queue_history h ++ queue_event e

    many : queue.retired (queue_history h) ≤ queue.retired (queue_history h ++ queue_event e)
    many = omega (arith, sum_by-append (λ x. cond (queue.is_retire x) 1 0) (queue_history h) (queue_event e))

    each : (m : ℕ) → 1 ≤ m → m ≤ completed h i → queue.is_retired (queue_history h ++ queue_event e) i m ≡ true
    each m one le =
        list_any-append (queue.is_retirement i m) (queue_history h) (queue_event e)
        ∙ or_left (queue.is_retired (queue_history h) i m) _ (reach_holds (queue.is_retired (queue_history h) i) 0 (queue.retired (queue_history h)) m (omega (arith, one)) le)

-- What was given is garbage, or its uses are covered for good

-- the object is among the garbage
abbrev pub HasItem : List BackEvent → ℕ → Type 0
HasItem h i = (item : Garbage) × IsIn item (garbage_of h) × (item.handle.0 ≡ i)

abbrev pub IsCompleted : List BackEvent → List QueueSerial → Type 0
IsCompleted h uses = (j : ℕ) → j < 64 → number_of uses j ≤ completed h j

abbrev AllGone : List BackEvent → Type 0
AllGone h = (g i : ℕ) (uses : List QueueSerial) → (own_part h g).given i ≡ Some uses → HasItem h i ⊎ IsCompleted h uses

-- a group's object that is garbage has the uses with which it was given
pub item_uses : (h : List BackEvent) → IsRun h → (g i : ℕ) (uses : List QueueSerial) (item : Garbage) → (own_part h g).given i ≡ Some uses → IsIn item (garbage_of h) → item.handle.0 ≡ i → item.uses ≡ uses
item_uses h run g i uses item given is here =
    let was : WasGiven h item = (garbage_given h run).given item is in
    let there : (own_part h was.0).given i ≡ Some item.uses = subst (λ j. (own_part h was.0).given j ≡ Some item.uses) here was.1 in
    let own : was.0 ≡ g = one_group h run was.0 g i ((known h run was.0).given_made i item.uses there) ((known h run g).given_made i uses given) in
    same_Some item.uses uses (sym (subst (λ k. (own_part h k).given i ≡ Some item.uses) own there) ∙ given)

completed_still : (h : List BackEvent) (e : BackEvent) (uses : List QueueSerial) → IsCompleted h uses → IsCompleted (h ++ e ∷ []) uses
completed_still h e uses all j lt = omega (arith, all j lt, completed_rises h e j)

pub all_gone : (h : List BackEvent) → IsRun h → AllGone h
all_gone = of_each_run AllGone (λ g i uses given. absurd (none-some uses given)) step
  where
    same : (h : List BackEvent) (e : BackEvent) → garbage_after (garbage_of h) e ≡ garbage_of h → ((g i : ℕ) (uses : List QueueSerial) → Gives e g i uses → ⊥) → AllGone h → AllGone (h ++ e ∷ [])
    same h e is gives so_far g i uses given = go (given_before h g i uses e given)
      where
        still : HasItem h i ⊎ IsCompleted h uses → HasItem (h ++ e ∷ []) i ⊎ IsCompleted (h ++ e ∷ []) uses
        still (inl has) = inl (has.0, subst (IsIn has.0) (sym (garbage_then h e ∙ is)) has.1, has.2)
        still (inr done) = inr (completed_still h e uses done)

        go : ((own_part h g).given i ≡ Some uses) ⊎ Gives e g i uses → HasItem (h ++ e ∷ []) i ⊎ IsCompleted (h ++ e ∷ []) uses
        go (inl old) = still (so_far g i uses old)
        go (inr new) = absurd (gives g i uses new)

    step : (h : List BackEvent) (e : BackEvent) → IsRun h → MayHappen h e → AllGone h → AllGone (h ++ e ∷ [])
    step h (Created group id kind) run may so_far = same h (Created group id kind) refl (λ g i uses gives. gives) so_far
    step h (Wrote group id at bytes) run may so_far = same h (Wrote group id at bytes) refl (λ g i uses gives. gives) so_far
    step h (Enqueued b) run may so_far = same h (Enqueued b) refl (λ g i uses gives. gives) so_far
    step h Submitted run may so_far = same h Submitted refl (λ g i uses gives. gives) so_far
    step h (Ran batch node) run may so_far = same h (Ran batch node) refl (λ g i uses gives. gives) so_far
    step h (Retired serial) run may so_far = same h (Retired serial) refl (λ g i uses gives. gives) so_far
    step h (Fetched group id at bytes) run may so_far = same h (Fetched group id at bytes) refl (λ g i uses gives. gives) so_far
    step h (Gave group id us) run may so_far = λ g i uses given. go g i uses (given_before h g i uses (Gave group id us) given)
      where
        in_all : (item : Garbage) → IsIn item (garbage_of h ++ record { handle = id; uses = us } ∷ []) → IsIn item (garbage_of (h ++ Gave group id us ∷ []))
        in_all item is = subst (IsIn item) (sym (garbage_then h (Gave group id us))) is

        still : (i : ℕ) (uses : List QueueSerial) → HasItem h i ⊎ IsCompleted h uses → HasItem (h ++ Gave group id us ∷ []) i ⊎ IsCompleted (h ++ Gave group id us ∷ []) uses
        still i uses (inl has) = inl (has.0, in_all has.0 (in_front (garbage_of h) (record { handle = id; uses = us } ∷ []) has.0 has.1), has.2)
        still i uses (inr done) = inr (completed_still h (Gave group id us) uses done)

        go : (g i : ℕ) (uses : List QueueSerial) → ((own_part h g).given i ≡ Some uses) ⊎ ((group ≡ g) × (i ≡ id.0) × (us ≡ uses)) → HasItem (h ++ Gave group id us ∷ []) i ⊎ IsCompleted (h ++ Gave group id us ∷ []) uses
        go g i uses (inl old) = still i uses (so_far g i uses old)
        go g i uses (inr new) = inl (record { handle = id; uses = us }, in_all (record { handle = id; uses = us }) (in_back (garbage_of h) (record { handle = id; uses = us } ∷ []) (record { handle = id; uses = us }) (inl refl)), sym new.1)
    step h (Abandoned group id) run may so_far = same h (Abandoned group id) refl (λ g i uses gives. gives) so_far
    step h (Cleaned read destroyed) run may so_far = λ g i uses given. go g i uses (given_before h g i uses (Cleaned read destroyed) given)
      where
        item : (g i : ℕ) (uses : List QueueSerial) → (own_part h g).given i ≡ Some uses → (has : HasItem h i) → IsIn has.0 (without_covered read (destroyed + 1) (garbage_of h)) ⊎ (is_covered read has.0 ≡ true)
            → HasItem (h ++ Cleaned read destroyed ∷ []) i ⊎ IsCompleted (h ++ Cleaned read destroyed ∷ []) uses
        item g i uses given has (inl left) = inl (has.0, subst (IsIn has.0) (sym (garbage_then h (Cleaned read destroyed))) left, has.2)
        item g i uses given has (inr covered) = inr (completed_still h (Cleaned read destroyed) uses (λ j lt.
            let same_uses : number_of has.0.uses j ≡ number_of uses j = ap (λ u. number_of u j) (item_uses h run g i uses has.0 given has.1 has.2) in
            omega (arith, covered_number read has.0.uses j covered, may.0 j lt, same_uses)))

        still : (g i : ℕ) (uses : List QueueSerial) → (own_part h g).given i ≡ Some uses → HasItem h i ⊎ IsCompleted h uses → HasItem (h ++ Cleaned read destroyed ∷ []) i ⊎ IsCompleted (h ++ Cleaned read destroyed ∷ []) uses
        still g i uses given (inl has) = item g i uses given has (left_or_covered read (destroyed + 1) (garbage_of h) has.0 has.1)
        still g i uses given (inr done) = inr (completed_still h (Cleaned read destroyed) uses done)

        go : (g i : ℕ) (uses : List QueueSerial) → ((own_part h g).given i ≡ Some uses) ⊎ ⊥ → HasItem (h ++ Cleaned read destroyed ∷ []) i ⊎ IsCompleted (h ++ Cleaned read destroyed ∷ []) uses
        go g i uses (inl old) = still g i uses old (so_far g i uses old)
        go g i uses (inr none) = absurd none
    step h Closing run may so_far = same h Closing refl (λ g i uses gives. gives) so_far
    step h (Stopped stop) run may so_far = same h (Stopped stop) refl (λ g i uses gives. gives) so_far

-- Live objects

-- destroys of other objects leave an object
pub others_destroyed : (items : List Garbage) (journal : List Logged) (i : ℕ) → IsAway i items → kind_of (journal ++ destroys items) i ≡ kind_of journal i
others_destroyed [] journal i away = ap (λ j. kind_of j i) (append-nil journal)
others_destroyed (item ∷ items) journal i away =
    ap (λ j. kind_of j i) (sym (append_assoc journal (logged.Destroyed item.handle ∷ []) (destroys items)))
    ∙ others_destroyed items (journal ++ logged.Destroyed item.handle ∷ []) i (λ x is. away x (inr is))
    ∙ kind_after journal (logged.Destroyed item.handle) i
    ∙ cond-false (i == item.handle.0) None (kind_of journal i) (ne_eqb i item.handle.0 (λ same. away item (inl refl) (sym same)))

-- an object that its group did not give, or that is garbage
abbrev pub IsKept : List BackEvent → ℕ → ℕ → Type 0
IsKept h g i = ((own_part h g).given i ≡ None) ⊎ HasItem h i

abbrev AllLive : List BackEvent → Type 0
AllLive h = (g i : ℕ) (kind : Kind) → (own_part h g).kinds i ≡ Some kind → IsKept h g i → kind_of (journal_of h) i ≡ Some kind

pub all_live : (h : List BackEvent) → IsRun h → AllLive h
all_live = of_each_run AllLive (λ g i kind made. absurd (none-some kind made)) step
  where
    -- an event that makes no object, gives none away, and destroys none
    same : (h : List BackEvent) (e : BackEvent) → IsRun h → MayHappen h e → garbage_after (garbage_of h) e ≡ garbage_of h → ((g i : ℕ) (kind : Kind) → IsCreated g i kind e → ⊥)
        → ((i : ℕ) → kind_of (journal_of h ++ logged_by h e) i ≡ kind_of (journal_of h) i) → AllLive h → AllLive (h ++ e ∷ [])
    same h e run may is makes kinds so_far g i kind made kept = ap (λ j. kind_of j i) (journal_then h e) ∙ (kinds i ∙ go (made_then h e g i kind made))
      where
        was : IsKept (h ++ e ∷ []) g i → IsKept h g i
        was (inl none) = inl (none_before h e run may g i none)
        was (inr has) = inr (has.0, subst (IsIn has.0) (garbage_then h e ∙ is) has.1, has.2)

        go : ((own_part h g).kinds i ≡ Some kind) ⊎ IsCreated g i kind e → kind_of (journal_of h) i ≡ Some kind
        go (inl old) = so_far g i kind old (was kept)
        go (inr new) = absurd (makes g i kind new)

    nothing : (h : List BackEvent) (i : ℕ) → kind_of (journal_of h ++ []) i ≡ kind_of (journal_of h) i
    nothing h i = ap (λ j. kind_of j i) (append-nil (journal_of h))

    accepted : (h : List BackEvent) (o : Option Batch) (i : ℕ) → kind_of (journal_of h ++ submission o) i ≡ kind_of (journal_of h) i
    accepted h None i = nothing h i
    accepted h (Some b) i = kind_after (journal_of h) (logged.Submitted b) i

    step : (h : List BackEvent) (e : BackEvent) → IsRun h → MayHappen h e → AllLive h → AllLive (h ++ e ∷ [])
    step h (Created group id new) run may so_far = λ g i kind made kept. ap (λ j. kind_of j i) (journal_then h (Created group id new)) ∙ (kind_after (journal_of h) (logged.Created id new) i ∙ go g i kind kept (made_then h (Created group id new) g i kind made))
      where
        was : (g i : ℕ) → IsKept (h ++ Created group id new ∷ []) g i → IsKept h g i
        was g i (inl none) = inl (none_before h (Created group id new) run may g i none)
        was g i (inr has) = inr (has.0, subst (IsIn has.0) (garbage_then h (Created group id new)) has.1, has.2)

        go : (g i : ℕ) (kind : Kind) → IsKept (h ++ Created group id new ∷ []) g i → ((own_part h g).kinds i ≡ Some kind) ⊎ ((group ≡ g) × (i ≡ id.0) × (new ≡ kind)) → cond (i == id.0) (Some new) (kind_of (journal_of h) i) ≡ Some kind
        go g i kind kept (inl old) = cond-false (i == id.0) (Some new) (kind_of (journal_of h) i) (ne_eqb i id.0 (λ here. omega (arith, (known h run g).low i kind old, here, may.0))) ∙ so_far g i kind old (was g i kept)
        go g i kind kept (inr is) = cond-true (i == id.0) (Some new) (kind_of (journal_of h) i) (eq-eqb i id.0 is.1) ∙ ap (λ k. Some k) is.2
    step h (Wrote group id at bytes) run may so_far = same h (Wrote group id at bytes) run may refl (λ g i kind makes. makes) (λ i. kind_after (journal_of h) (logged.Wrote id at bytes) i) so_far
    step h (Enqueued b) run may so_far = same h (Enqueued b) run may refl (λ g i kind makes. makes) (nothing h) so_far
    step h Submitted run may so_far = same h Submitted run may refl (λ g i kind makes. makes) (accepted h (queue.first_flushed (queue_history h))) so_far
    step h (Ran batch node) run may so_far = same h (Ran batch node) run may refl (λ g i kind makes. makes) (λ i. kind_after (journal_of h) (logged.Ran batch node) i) so_far
    step h (Retired serial) run may so_far = same h (Retired serial) run may refl (λ g i kind makes. makes) (nothing h) so_far
    step h (Fetched group id at bytes) run may so_far = same h (Fetched group id at bytes) run may refl (λ g i kind makes. makes) (λ i. kind_after (journal_of h) (logged.Fetched id at bytes) i) so_far
    step h (Gave group id us) run may so_far = λ g i kind made kept. ap (λ j. kind_of j i) (journal_then h (Gave group id us)) ∙ (nothing h i ∙ go g i kind kept (made_then h (Gave group id us) g i kind made))
      where
        -- what is put to the garbage was not given before
        fresh : (g i : ℕ) (kind : Kind) → (own_part h g).kinds i ≡ Some kind → i ≡ id.0 → (own_part h g).given i ≡ None
        fresh g i kind made here =
            let own : group ≡ g = one_group h run group g id.0 ((known h run group).held_made id.0 may.held) (subst (λ j. IsMade (own_part h g) j) here (kind, made)) in
            subst (λ k. (own_part h k).given i ≡ None) own (ap (own_part h group).given here ∙ (known h run group).held_kept id.0 may.held)

        old_or_new : (g i : ℕ) (kind : Kind) → (own_part h g).kinds i ≡ Some kind → (item : Garbage) → item.handle.0 ≡ i → IsIn item (garbage_of h) ⊎ IsIn item (record { handle = id; uses = us } ∷ []) → IsKept h g i
        old_or_new g i kind made item here (inl old) = inr (item, old, here)
        old_or_new g i kind made item here (inr (inl new)) = inl (fresh g i kind made (sym here ∙ ap (λ (x : Garbage). x.handle.0) (sym new)))
        old_or_new g i kind made item here (inr (inr none)) = absurd none

        was : (g i : ℕ) (kind : Kind) → (own_part h g).kinds i ≡ Some kind → IsKept (h ++ Gave group id us ∷ []) g i → IsKept h g i
        was g i kind made (inl none) = inl (none_before h (Gave group id us) run may g i none)
        was g i kind made (inr has) = old_or_new g i kind made has.0 has.2 (in_parts (garbage_of h) (record { handle = id; uses = us } ∷ []) has.0 (subst (IsIn has.0) (garbage_then h (Gave group id us)) has.1))

        go : (g i : ℕ) (kind : Kind) → IsKept (h ++ Gave group id us ∷ []) g i → ((own_part h g).kinds i ≡ Some kind) ⊎ ⊥ → kind_of (journal_of h) i ≡ Some kind
        go g i kind kept (inl old) = so_far g i kind old (was g i kind old kept)
        go g i kind kept (inr none) = absurd none
    step h (Abandoned group id) run may so_far = same h (Abandoned group id) run may refl (λ g i kind makes. makes) (nothing h) so_far
    step h (Cleaned read destroyed) run may so_far = λ g i kind made kept. ap (λ j. kind_of j i) (journal_then h (Cleaned read destroyed)) ∙ go g i kind kept (made_then h (Cleaned read destroyed) g i kind made)
      where
        -- an object that was not given is no garbage
        no_garbage : (g i : ℕ) (kind : Kind) → (own_part h g).kinds i ≡ Some kind → (own_part h g).given i ≡ None → IsAway i (garbage_of h)
        no_garbage g i kind made none item is here =
            let given : WasGiven h item = (garbage_given h run).given item is in
            let there : (own_part h given.0).given i ≡ Some item.uses = subst (λ j. (own_part h given.0).given j ≡ Some item.uses) here given.1 in
            let own : given.0 ≡ g = one_group h run given.0 g i ((known h run given.0).given_made i item.uses there) (kind, made) in
            none-some item.uses (sym none ∙ subst (λ k. (own_part h k).given i ≡ Some item.uses) own there)

        away : (g i : ℕ) (kind : Kind) → (own_part h g).kinds i ≡ Some kind → IsKept (h ++ Cleaned read destroyed ∷ []) g i → IsAway i (take destroyed (covered_in h read)) × IsKept h g i
        away g i kind made (inl none) =
            let before : (own_part h g).given i ≡ None = none_before h (Cleaned read destroyed) run may g i none in
            (away_part i destroyed (is_covered read) (garbage_of h) (no_garbage g i kind made before), inl before)
        away g i kind made (inr has) =
            let left : IsIn has.0 (without_covered read (destroyed + 1) (garbage_of h)) = subst (IsIn has.0) (garbage_then h (Cleaned read destroyed)) has.1 in (
              subst (λ j. IsAway j (take destroyed (covered_in h read))) has.2 (away_from_taken read (destroyed + 1) destroyed (garbage_of h) has.0 (garbage_given h run).apart (omega arith) left),
              inr (has.0, left_in read (destroyed + 1) (garbage_of h) has.0 left, has.2),
            )

        go : (g i : ℕ) (kind : Kind) → IsKept (h ++ Cleaned read destroyed ∷ []) g i → ((own_part h g).kinds i ≡ Some kind) ⊎ ⊥ → kind_of (journal_of h ++ destroys (take destroyed (covered_in h read))) i ≡ Some kind
        go g i kind kept (inl old) =
            let both = away g i kind old kept in
            others_destroyed (take destroyed (covered_in h read)) (journal_of h) i both.0 ∙ so_far g i kind old both.1
        go g i kind kept (inr none) = absurd none
    step h Closing run may so_far = same h Closing run may refl (λ g i kind makes. makes) (nothing h) so_far
    step h (Stopped stop) run may so_far = same h (Stopped stop) run may refl (λ g i kind makes. makes) (nothing h) so_far
