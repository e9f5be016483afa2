-- A run whose groups let go of all that they made by giving it leaves no object on the device.
use Rattle.std.proofs.Common.{◌≡◌, ℕ, zero, suc, ◌+◌, take, length, ◌==◌, Bool, true, false, cond, List, [], ◌∷◌, ◌++◌, refl, sym, ap, ◌∙◌, subst, inl, inr, arith}
use Rattle.std.specs.Prelude.{◌⊎◌, ◌<◌, slice_get, fold, ◌≤◌, nat_le, Some, None, Option, IsSome, slice_index}
use Rattle.std.specs.List.{filter}
use Rattle.std.proofs.lemmas.Bool.{cases_eq, cases_Bool, cases_order, cond-true, cond-false, eq-eqb, ne_eqb, false≢true, and_from, le-leb}
use Rattle.std.proofs.lemmas.List.{append-nil, append_assoc, take_all, nil_from_length}
use Rattle.std.proofs.lemmas.Option.{none-some}
use Rattle.vk_types.specs.declared.handles.HandleId.{HandleId}
use Rattle.vk_types.specs.declared.handles.Kind.{Kind}
use Rattle.vk_types.specs.declared.batches.Batch.{Batch}
use Rattle.vk_types.specs.declared.batches.QueueSerial.{QueueSerial}
use Rattle.resource_use.specs.Uses.{number_of, are_covered, IsAbsent, AreDistinct}
use Rattle.garbage.specs.declared.entry.Garbage.{Garbage}
use Rattle.garbage.specs.Collecting.{is_covered, collect}
use Rattle.vk_device.specs.declared.logged.Logged.{Logged}
use Rattle.vk_device.specs.declared.logged.Logged.TheVariants as logged
use Rattle.vk_device.specs.Journal.{kind_of}
use Rattle.vk_device.proofs.Running.{kind_after}
use Rattle.submit_queue.specs.Histories as queue
use Rattle.back_core.specs.declared.back_event.BackEvent.{BackEvent}
use Rattle.back_core.specs.declared.back_event.BackEvent.TheVariants.{Created, Wrote, Enqueued, Submitted, Ran, Retired, Fetched, Gave, Abandoned, Cleaned, Closing, Stopped}
use Rattle.back_core.specs.Link.{Link, created}
use Rattle.back_core.specs.History.{queue_history, completed, own_part, link_of}
use Rattle.back_core.specs.Run.{garbage_of, garbage_after, without_covered, covered_in, submission, destroys, logged_by, journal_of, MayHappen, IsRun}
use Rattle.back_core.specs.Steps.{AreCompleted, IsAllGiven, IsWhole, CleansWhole, cleaned}
use Rattle.back_core.proofs.Sees.{part_then, if_own_is, group_of}
use Rattle.back_core.proofs.Runs.{of_each_run, journal_nil, journal_then, garbage_then}
use Rattle.back_core.proofs.Parts.{pushed}
use Rattle.back_core.proofs.Going.{numbered, completed_below}
use Rattle.back_core.proofs.Made.{put_here, IsMade}
use Rattle.back_core.proofs.Known.{known}
use Rattle.back_core.proofs.Whole.{whole_before}
use Rattle.back_core.proofs.Adding.{made_still}
use Rattle.back_core.proofs.Piles.{IsIn, in_front, in_back, left_or_covered}
use Rattle.back_core.proofs.Given.{Gives, given_before, given_distinct}
use Rattle.back_core.proofs.Lives.{HasItem, item_uses}

-- Destroyed objects

-- an object that is not live stays so
pub gone_stays : (items : List Garbage) (journal : List Logged) (i : ℕ) → kind_of journal i ≡ None → kind_of (journal ++ destroys items) i ≡ None
gone_stays [] journal i none = ap (λ j. kind_of j i) (append-nil journal) ∙ none
gone_stays (item ∷ items) journal i none =
    ap (λ j. kind_of j i) (sym (append_assoc journal (logged.Destroyed item.handle ∷ []) (destroys items)))
    ∙ gone_stays items (journal ++ logged.Destroyed item.handle ∷ []) i (kind_after journal (logged.Destroyed item.handle) i ∙ by_case (i == item.handle.0))
  where
    by_case : (b : Bool) → cond b None (kind_of journal i) ≡ None
    by_case true = refl
    by_case false = none

-- an object that is destroyed is not live then
pub destroyed_gone : (items : List Garbage) (journal : List Logged) (item : Garbage) → IsIn item items → kind_of (journal ++ destroys items) item.handle.0 ≡ None
destroyed_gone [] journal item is = absurd is
destroyed_gone (x ∷ items) journal item (inl same) =
    ap (λ j. kind_of j item.handle.0) (sym (append_assoc journal (logged.Destroyed x.handle ∷ []) (destroys items)))
    ∙ gone_stays items (journal ++ logged.Destroyed x.handle ∷ []) item.handle.0
    (kind_after journal (logged.Destroyed x.handle) item.handle.0 ∙ cond-true (item.handle.0 == x.handle.0) None (kind_of journal item.handle.0) (eq-eqb item.handle.0 x.handle.0 (ap (λ (y : Garbage). y.handle.0) (sym same))))
destroyed_gone (x ∷ items) journal item (inr more) =
    ap (λ j. kind_of j item.handle.0) (sym (append_assoc journal (logged.Destroyed x.handle ∷ []) (destroys items)))
    ∙ destroyed_gone items (journal ++ logged.Destroyed x.handle ∷ []) item more

-- what passes a test is among what passes it
pub kept_by : (p : Garbage → Bool) (xs : List Garbage) (item : Garbage) → IsIn item xs → p item ≡ true → IsIn item (filter p xs)
kept_by p [] item is t = absurd is
kept_by p (x ∷ xs) item (inl same) t = subst (IsIn item) (sym (cond-true (p x) (x ∷ filter p xs) (filter p xs) (ap p same ∙ t))) (inl same)
kept_by p (x ∷ xs) item (inr more) t = go (cases_Bool (p x)) (kept_by p xs item more t)
  where
    go : (p x ≡ true) ⊎ (p x ≡ false) → IsIn item (filter p xs) → IsIn item (cond (p x) (x ∷ filter p xs) (filter p xs))
    go (inl y) there = subst (IsIn item) (sym (cond-true (p x) (x ∷ filter p xs) (filter p xs) y)) (inr there)
    go (inr n) there = subst (IsIn item) (sym (cond-false (p x) (x ∷ filter p xs) (filter p xs) n)) there

-- Creates

abbrev IsNoCreate : BackEvent → ℕ → Type 0
IsNoCreate (Created group id kind) i = i ≡ id.0 → ⊥
IsNoCreate (Wrote group id at bytes) i = Unit {0}
IsNoCreate (Enqueued b) i = Unit {0}
IsNoCreate Submitted i = Unit {0}
IsNoCreate (Ran batch node) i = Unit {0}
IsNoCreate (Retired serial) i = Unit {0}
IsNoCreate (Fetched group id at bytes) i = Unit {0}
IsNoCreate (Gave group id uses) i = Unit {0}
IsNoCreate (Abandoned group id) i = Unit {0}
IsNoCreate (Cleaned read destroyed) i = Unit {0}
IsNoCreate Closing i = Unit {0}
IsNoCreate (Stopped stop) i = Unit {0}

-- Each live object was made by a group

abbrev MadeOrGone : List BackEvent → ℕ → Type 0
MadeOrGone h i = (kind_of (journal_of h) i ≡ None) ⊎ ((g : ℕ) × IsSome ((own_part h g).kinds i))

made_now : (h : List BackEvent) (g : ℕ) (id : HandleId) (kind : Kind) → IsSome ((own_part (h ++ Created g id kind ∷ []) g).kinds id.0)
made_now h g id kind =
    let is : (own_part (h ++ Created g id kind ∷ []) g).kinds id.0 ≡ Some kind
    = ap (λ (l : Link). l.kinds id.0) (part_then h g (Created g id kind) ∙ if_own_is (own_part h g) g (created (own_part h g) id.0 kind) (sym (group_of h g))) ∙ put_here (own_part h g).kinds id.0 (Some kind) id.0 refl in
    subst IsSome (sym is) refl

nothing_live : (i : ℕ) → kind_of [] i ≡ None
unfolding kind_of
nothing_live i = refl

-- an object that is not live stays so, but for a create
module _ (h : List BackEvent) (i : ℕ) (none : kind_of (journal_of h) i ≡ None) where
  nothing : kind_of (journal_of h ++ []) i ≡ None
  nothing = ap (λ j. kind_of j i) (append-nil (journal_of h)) ∙ none

  accepted : (o : Option Batch) → kind_of (journal_of h ++ submission o) i ≡ None
  accepted None = nothing
  accepted (Some b) = kind_after (journal_of h) (logged.Submitted b) i ∙ none

  still_gone : (e : BackEvent) → IsNoCreate e i → kind_of (journal_of h ++ logged_by h e) i ≡ None
  still_gone (Created group id kind) other = kind_after (journal_of h) (logged.Created id kind) i ∙ cond-false (i == id.0) (Some kind) (kind_of (journal_of h) i) (ne_eqb i id.0 other) ∙ none
  still_gone (Wrote group id at bytes) other = kind_after (journal_of h) (logged.Wrote id at bytes) i ∙ none
  still_gone (Enqueued b) other = nothing
  still_gone Submitted other = accepted (queue.first_flushed (queue_history h))
  still_gone (Ran batch node) other = kind_after (journal_of h) (logged.Ran batch node) i ∙ none
  still_gone (Retired serial) other = nothing
  still_gone (Fetched group id at bytes) other = kind_after (journal_of h) (logged.Fetched id at bytes) i ∙ none
  still_gone (Gave group id uses) other = nothing
  still_gone (Abandoned group id) other = nothing
  still_gone (Cleaned read destroyed) other = gone_stays (take destroyed (covered_in h read)) (journal_of h) i none
  still_gone Closing other = nothing
  still_gone (Stopped stop) other = nothing

  gone_then : (e : BackEvent) → IsNoCreate e i → kind_of (journal_of (h ++ e ∷ [])) i ≡ None
  gone_then e other = ap (λ j. kind_of j i) (journal_then h e) ∙ still_gone e other

pub made_or_gone : (h : List BackEvent) → IsRun h → (i : ℕ) → MadeOrGone h i
made_or_gone = of_each_run (λ h. (i : ℕ) → MadeOrGone h i) (λ i. inl (ap (λ j. kind_of j i) journal_nil ∙ nothing_live i)) (λ h e run may so_far i. go h e i (no_create e i) (so_far i))
  where
    -- the event makes the object, or does not
    Creates : BackEvent → ℕ → Type 0
    Creates e i = (group : ℕ) × (id : HandleId) × (kind : Kind) × (e ≡ Created group id kind) × (i ≡ id.0)

    no_create : (e : BackEvent) (i : ℕ) → IsNoCreate e i ⊎ Creates e i
    no_create (Created group id kind) i = by_case (cases_eq i id.0)
      where
        by_case : (i ≡ id.0) ⊎ (i ≡ id.0 → ⊥) → (i ≡ id.0 → ⊥) ⊎ Creates (Created group id kind) i
        by_case (inl here) = inr (group, id, kind, refl, here)
        by_case (inr other) = inl other
    no_create (Wrote group id at bytes) i = inl tt
    no_create (Enqueued b) i = inl tt
    no_create Submitted i = inl tt
    no_create (Ran batch node) i = inl tt
    no_create (Retired serial) i = inl tt
    no_create (Fetched group id at bytes) i = inl tt
    no_create (Gave group id uses) i = inl tt
    no_create (Abandoned group id) i = inl tt
    no_create (Cleaned read destroyed) i = inl tt
    no_create Closing i = inl tt
    no_create (Stopped stop) i = inl tt

    go : (h : List BackEvent) (e : BackEvent) (i : ℕ) → IsNoCreate e i ⊎ Creates e i → MadeOrGone h i → MadeOrGone (h ++ e ∷ []) i
    go h e i (inr new) so_far = inr (new.0, subst (λ d. IsSome ((own_part (h ++ d ∷ []) new.0).kinds i)) (sym new.3) (subst (λ j. IsSome ((own_part (h ++ Created new.0 new.1 new.2 ∷ []) new.0).kinds j)) (sym new.4) (made_now h new.0 new.1 new.2)))
    go h e i (inl other) (inl none) = inl (gone_then h i none e other)
    go h e i (inl other) (inr made) = inr (made.0, made_still h e made.0 i made.1)

-- Each object that was given waits, or is destroyed

abbrev WaitsOrGone : List BackEvent → ℕ → Type 0
WaitsOrGone h i = HasItem h i ⊎ (kind_of (journal_of h) i ≡ None)

abbrev AllWait : List BackEvent → Type 0
AllWait h = (g i : ℕ) (uses : List QueueSerial) → (own_part h g).given i ≡ Some uses → WaitsOrGone h i

pub given_waits : (h : List BackEvent) → IsRun h → CleansWhole h → AllWait h
given_waits = of_each_run (λ h. CleansWhole h → AllWait h) (λ whole g i uses given. absurd (none-some uses given))
    (λ h e run may so_far whole g i uses given. let before = whole_before h e whole in go h e run may before.1 g i uses (so_far before.0 g i uses) (given_before h g i uses e given))
  where
    -- an object that was made is not made again
    no_more : (h : List BackEvent) (e : BackEvent) → IsRun h → MayHappen h e → (g i : ℕ) → IsMade (own_part h g) i → IsNoCreate e i
    no_more h (Created group id kind) run may g i made = λ here. omega (arith, (known h run g).low i made.0 made.1, here, may.0)
    no_more h (Wrote group id at bytes) run may g i made = tt
    no_more h (Enqueued b) run may g i made = tt
    no_more h Submitted run may g i made = tt
    no_more h (Ran batch node) run may g i made = tt
    no_more h (Retired serial) run may g i made = tt
    no_more h (Fetched group id at bytes) run may g i made = tt
    no_more h (Gave group id uses) run may g i made = tt
    no_more h (Abandoned group id) run may g i made = tt
    no_more h (Cleaned read destroyed) run may g i made = tt
    no_more h Closing run may g i made = tt
    no_more h (Stopped stop) run may g i made = tt

    -- an event that leaves the garbage
    same : (h : List BackEvent) (e : BackEvent) (i : ℕ) → garbage_after (garbage_of h) e ≡ garbage_of h → HasItem h i → WaitsOrGone (h ++ e ∷ []) i
    same h e i is has = inl (has.0, subst (IsIn has.0) (sym (garbage_then h e ∙ is)) has.1, has.2)

    -- what waits goes on waiting, or is destroyed by a cleanup that is whole
    waits : (h : List BackEvent) (e : BackEvent) (i : ℕ) → IsWhole h e → HasItem h i → WaitsOrGone (h ++ e ∷ []) i
    waits h (Created group id kind) i whole has = same h (Created group id kind) i refl has
    waits h (Wrote group id at bytes) i whole has = same h (Wrote group id at bytes) i refl has
    waits h (Enqueued b) i whole has = same h (Enqueued b) i refl has
    waits h Submitted i whole has = same h Submitted i refl has
    waits h (Ran batch node) i whole has = same h (Ran batch node) i refl has
    waits h (Retired serial) i whole has = same h (Retired serial) i refl has
    waits h (Fetched group id at bytes) i whole has = same h (Fetched group id at bytes) i refl has
    waits h (Gave group id uses) i whole has =
        inl (has.0, subst (IsIn has.0) (sym (garbage_then h (Gave group id uses))) (in_front (garbage_of h) (record { handle = id; uses = uses } ∷ []) has.0 has.1), has.2)
    waits h (Abandoned group id) i whole has = same h (Abandoned group id) i refl has
    waits h (Cleaned read destroyed) i whole has = by_case (left_or_covered read (destroyed + 1) (garbage_of h) has.0 has.1)
      where
        all : take destroyed (covered_in h read) ≡ covered_in h read
        all = take_all destroyed (covered_in h read) (omega (arith, whole))

        by_case : IsIn has.0 (without_covered read (destroyed + 1) (garbage_of h)) ⊎ (is_covered read has.0 ≡ true) → WaitsOrGone (h ++ Cleaned read destroyed ∷ []) i
        by_case (inl left) = inl (has.0, subst (IsIn has.0) (sym (garbage_then h (Cleaned read destroyed))) left, has.2)
        by_case (inr covered) = inr (subst (λ k. kind_of (journal_of (h ++ Cleaned read destroyed ∷ [])) k ≡ None) has.2
            (ap (λ j. kind_of j has.0.handle.0) (journal_then h (Cleaned read destroyed) ∙ ap (λ l. journal_of h ++ destroys l) all)
            ∙ destroyed_gone (covered_in h read) (journal_of h) has.0 (kept_by (is_covered read) (garbage_of h) has.0 has.1 covered)))
    waits h Closing i whole has = same h Closing i refl has
    waits h (Stopped stop) i whole has = same h (Stopped stop) i refl has

    new_waits : (h : List BackEvent) (e : BackEvent) (g i : ℕ) (uses : List QueueSerial) → Gives e g i uses → WaitsOrGone (h ++ e ∷ []) i
    new_waits h (Created group id kind) g i uses gives = absurd gives
    new_waits h (Wrote group id at bytes) g i uses gives = absurd gives
    new_waits h (Enqueued b) g i uses gives = absurd gives
    new_waits h Submitted g i uses gives = absurd gives
    new_waits h (Ran batch node) g i uses gives = absurd gives
    new_waits h (Retired serial) g i uses gives = absurd gives
    new_waits h (Fetched group id at bytes) g i uses gives = absurd gives
    new_waits h (Gave group id us) g i uses new =
        inl (
          record { handle = id; uses = us },
          subst (IsIn (record { handle = id; uses = us })) (sym (garbage_then h (Gave group id us))) (in_back (garbage_of h) (record { handle = id; uses = us } ∷ []) (record { handle = id; uses = us }) (inl refl)),
          sym new.1,
        )
    new_waits h (Abandoned group id) g i uses gives = absurd gives
    new_waits h (Cleaned read destroyed) g i uses gives = absurd gives
    new_waits h Closing g i uses gives = absurd gives
    new_waits h (Stopped stop) g i uses gives = absurd gives

    go : (h : List BackEvent) (e : BackEvent) → IsRun h → MayHappen h e → IsWhole h e → (g i : ℕ) (uses : List QueueSerial) → ((own_part h g).given i ≡ Some uses → WaitsOrGone h i)
        → ((own_part h g).given i ≡ Some uses) ⊎ Gives e g i uses → WaitsOrGone (h ++ e ∷ []) i
    go h e run may whole g i uses so_far (inr new) = new_waits h e g i uses new
    go h e run may whole g i uses so_far (inl old) = by_case (so_far old)
      where
        by_case : WaitsOrGone h i → WaitsOrGone (h ++ e ∷ []) i
        by_case (inl has) = waits h e i whole has
        by_case (inr none) = inr (gone_then h i none e (no_more h e run may g i ((known h run g).given_made i uses old)))

-- The end

some_is : {A : Type 0} (o : Option A) → IsSome o → (x : A) × (o ≡ Some x)
some_is None some = absurd (false≢true some)
some_is (Some x) some = (x, refl)

pub ends_clean : (h : List BackEvent) (read : List ℕ) → IsRun h → CleansWhole h
    → ((g id : ℕ) → IsSome ((link_of h g).kinds id) → IsSome ((link_of h g).given id))
    → ((g id : ℕ) (uses : List QueueSerial) → (link_of h g).given id ≡ Some uses → are_covered read uses ≡ true)
    → (id : ℕ) → kind_of (journal_of h ++ destroys (collect (garbage_of h) read).0) id ≡ None
ends_clean h read run whole given covered i = go (made_or_gone h run i)
  where
    gone : kind_of (journal_of h) i ≡ None → kind_of (journal_of h ++ destroys (filter (is_covered read) (garbage_of h))) i ≡ None
    gone none = gone_stays (filter (is_covered read) (garbage_of h)) (journal_of h) i none

    waits : (g : ℕ) (uses : List QueueSerial) → (own_part h g).given i ≡ Some uses → WaitsOrGone h i → kind_of (journal_of h ++ destroys (filter (is_covered read) (garbage_of h))) i ≡ None
    waits g uses is (inr none) = gone none
    waits g uses is (inl has) =
        let same : has.0.uses ≡ uses = item_uses h run g i uses has.0 is has.1 has.2 in
        let test : is_covered read has.0 ≡ true = ap (are_covered read) same ∙ covered g i uses is in
        subst (λ k. kind_of (journal_of h ++ destroys (filter (is_covered read) (garbage_of h))) k ≡ None) has.2
        (destroyed_gone (filter (is_covered read) (garbage_of h)) (journal_of h) has.0 (kept_by (is_covered read) (garbage_of h) has.0 has.1 test))

    go : MadeOrGone h i → kind_of (journal_of h ++ destroys (filter (is_covered read) (garbage_of h))) i ≡ None
    go (inl none) = gone none
    go (inr made) = let uses = some_is ((own_part h made.0).given i) (given made.0 i made.1) in waits made.0 uses.0 uses.1 (given_waits h run whole made.0 i uses.0 uses.1)

-- Covered uses

absent_zero : (uses : List QueueSerial) (index : ℕ) → IsAbsent uses index → number_of uses index ≡ 0
absent_zero [] index absent = refl
absent_zero (u ∷ uses) index absent = cond-false (u.index == index) u.number (number_of uses index) (ne_eqb u.index index absent.0) ∙ absent_zero uses index absent.1

pub all_covered : (read : List ℕ) (uses : List QueueSerial) → AreDistinct uses → ((index : ℕ) → number_of uses index ≤ slice_index read index) → are_covered read uses ≡ true
all_covered read [] distinct le = refl
all_covered read (u ∷ uses) distinct le = and_from (nat_le u.number (slice_index read u.index)) (are_covered read uses) first (all_covered read uses distinct.1 rest)
  where
    first : nat_le u.number (slice_index read u.index) ≡ true
    first =
        let e : cond (u.index == u.index) u.number (number_of uses u.index) ≡ u.number = cond-true (u.index == u.index) u.number (number_of uses u.index) (eq-eqb u.index u.index refl) in
        le-leb u.number (slice_index read u.index) (omega (arith, e, le u.index))

    rest : (index : ℕ) → number_of uses index ≤ slice_index read index
    rest index = go (cases_eq u.index index)
      where
        go : (u.index ≡ index) ⊎ (u.index ≡ index → ⊥) → number_of uses index ≤ slice_index read index
        go (inl same) = omega (arith, subst (λ k. number_of uses k ≡ 0) same (absent_zero uses u.index distinct.0))
        go (inr other) = omega (arith, le index, cond-false (u.index == index) u.number (number_of uses index) (ne_eqb u.index index other))

-- The cleanup

-- no number of an index that no batch has
none_last : (xs : List Batch) (n i : ℕ) → ((k : ℕ) (b : Batch) → slice_get xs k ≡ Some b → b.index ≡ i → ⊥) → fold (λ n (b : Batch). cond (b.index == i) b.number n) n xs ≡ n
none_last [] n i never = refl
none_last (b ∷ xs) n i never =
    ap (λ m. fold (λ n (b : Batch). cond (b.index == i) b.number n) m xs) (cond-false (b.index == i) b.number n (ne_eqb b.index i (never 0 b refl)))
    ∙ none_last xs n i (λ k c at. never (suc k) c at)

high_zero : (h : List BackEvent) → IsRun h → (i : ℕ) → 64 ≤ i → completed h i ≡ 0
high_zero h run i high =
    let none : queue.last_number (pushed h) i ≡ 0 = none_last (pushed h) 0 i (λ k b at same. omega (arith, (numbered h run).low k b at, same, high)) in
    omega (arith, completed_below h run i, none)

journal_cleaned : (h : List BackEvent) (read : List ℕ) (count : ℕ) → count ≡ length (covered_in h read) → journal_of (cleaned h read count) ≡ journal_of h ++ destroys (covered_in h read)
journal_cleaned h read zero all =
    let none : covered_in h read ≡ [] = nil_from_length (covered_in h read) (sym all) in
    sym (append-nil (journal_of h)) ∙ ap (λ l. journal_of h ++ destroys l) (sym none)
journal_cleaned h read (suc count) all =
    ap journal_of (cond-false (suc count == 0) h (h ++ Cleaned read (suc count) ∷ []) (ne_eqb (suc count) 0 (λ e. absurd (omega (arith, e)))))
    ∙ journal_then h (Cleaned read (suc count))
    ∙ ap (λ l. journal_of h ++ destroys l) (take_all (suc count) (covered_in h read) (omega (arith, all)))

pub cleaned_clean : (h : List BackEvent) (count : ℕ) (read : List ℕ) → IsRun h → CleansWhole h → ((g : ℕ) → IsAllGiven h g) → AreCompleted h read
    → count ≡ length (collect (garbage_of h) read).0 → (id : ℕ) → kind_of (journal_of (cleaned h read count)) id ≡ None
cleaned_clean h count read run whole all are counted id =
    ap (λ j. kind_of j id) (journal_cleaned h read count counted)
    ∙ ends_clean h read run whole (λ g. (all g).given) (λ g i uses given. all_covered read uses (given_distinct h run g i uses given) (λ index. low g i uses given index (cases_order index 64))) id
  where
    low : (g i : ℕ) (uses : List QueueSerial) → (link_of h g).given i ≡ Some uses → (index : ℕ) → (index ≡ 64) ⊎ ((index < 64) ⊎ (64 < index)) → number_of uses index ≤ slice_index read index
    low g i uses given index (inl is) = omega (arith, (all g).reached i uses given index, high_zero h run index (omega (arith, is)))
    low g i uses given index (inr (inl lt)) = omega (arith, (all g).reached i uses given index, are index lt)
    low g i uses given index (inr (inr high)) = omega (arith, (all g).reached i uses given index, high_zero h run index (omega (arith, high)))
