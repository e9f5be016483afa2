-- Which group made an object, and with which kind.
use Rattle.std.proofs.Common.{◌≡◌, ◌≢◌, ℕ, ◌+◌, ◌<◌, ◌==◌, cond, List, [], ◌∷◌, ◌++◌, fold, take, refl, sym, ap, ◌∙◌, subst, inl, inr, arith, append_assoc, eq-eqb}
use Rattle.std.specs.Prelude.{◌⊎◌, Option, Some, None, IsSome}
use Rattle.std.proofs.lemmas.Bool.{cond-true, cond-false, ne_eqb}
use Rattle.std.proofs.lemmas.List.{append-nil}
use Rattle.std.proofs.lemmas.List.Sums.{fold-append}
use Rattle.std.proofs.lemmas.Option.{none-some}
use Rattle.vk_types.specs.declared.handles.HandleId.{HandleId}
use Rattle.vk_types.specs.declared.handles.Kind.{Kind}
use Rattle.vk_types.specs.declared.batches.Batch.{Batch}
use Rattle.vk_device.specs.declared.logged.Logged.{Logged}
use Rattle.vk_device.specs.declared.logged.Logged.TheVariants as logged
use Rattle.vk_device.specs.Journal.{create_of, creates}
use Rattle.vk_device.specs.Order.{kinds_after, kinds_of}
use Rattle.vk_device.proofs.Laws.{creates-push}
use Rattle.vk_device.proofs.Orders.{kinds_of-push}
use Rattle.garbage.specs.declared.entry.Garbage.{Garbage}
use Rattle.submit_queue.specs.Histories as queue
use Rattle.back_core.specs.declared.back_event.BackEvent.{BackEvent}
use Rattle.back_core.specs.declared.back_event.BackEvent.TheVariants.{Created, Wrote, Enqueued, Submitted, Ran, Retired, Fetched, Gave, Abandoned, Cleaned, Closing, Stopped}
use Rattle.back_core.specs.History.{queue_history, own_part}
use Rattle.back_core.specs.Run.{submission, destroys, covered_in, logged_by, journal_of, MayHappen, IsRun}
use Rattle.back_core.proofs.Runs.{journal_then, of_each_run}
use Rattle.back_core.proofs.Each.{Each, Each-nil, Each-cons, Each-one, Each-head, Each-tail}
use Rattle.back_core.proofs.Adding.{IsCreated, made_then}

abbrev maker_after : (ℕ → ℕ) → BackEvent → ℕ → ℕ
maker_after maker (Created group id kind) = λ i. cond (i == id.0) group (maker i)
maker_after maker (Wrote group id at bytes) = maker
maker_after maker (Enqueued batch) = maker
maker_after maker Submitted = maker
maker_after maker (Ran batch node) = maker
maker_after maker (Retired serial) = maker
maker_after maker (Fetched group id at bytes) = maker
maker_after maker (Gave group id uses) = maker
maker_after maker (Abandoned group id) = maker
maker_after maker (Cleaned read destroyed) = maker
maker_after maker Closing = maker
maker_after maker (Stopped stop) = maker

-- the group that made each object, and 0 for one that was not made
pub maker : List BackEvent → ℕ → ℕ
maker h = fold maker_after (λ _. 0) h

maker_then : (h : List BackEvent) (e : BackEvent) → maker (h ++ e ∷ []) ≡ maker_after (maker h) e
unfolding maker
maker_then h e = fold-append maker_after (λ _. 0) h (e ∷ [])

-- Events that make no object

-- the entry makes no object
abbrev MakesNone : Logged → Type 0
MakesNone x = create_of x ≡ 0

record IsQuiet (h : List BackEvent) (e : BackEvent) : Type 0 where
  not_created : (g i : ℕ) (k : Kind) → IsCreated g i k e → ⊥
  same_maker : (m : ℕ → ℕ) → maker_after m e ≡ m
  entries : Each MakesNone (logged_by h e)

submission_quiet : (o : Option Batch) → Each MakesNone (submission o)
submission_quiet None = Each-nil MakesNone
submission_quiet (Some b) = Each-one MakesNone (logged.Submitted b) refl

destroys_quiet : (list : List Garbage) → Each MakesNone (destroys list)
destroys_quiet [] = Each-nil MakesNone
destroys_quiet (item ∷ list) = Each-cons MakesNone (logged.Destroyed item.handle) (destroys list) refl (destroys_quiet list)

by_making : (h : List BackEvent) (P : BackEvent → Type 0) → ((group : ℕ) (id : HandleId) (kind : Kind) → P (Created group id kind)) → ((e : BackEvent) → IsQuiet h e → P e) → (e : BackEvent) → P e
by_making h P make quiet (Created group id kind) = make group id kind
by_making h P make quiet (Wrote group id at bytes) = quiet (Wrote group id at bytes) (record { not_created = λ g i k not. not; same_maker = λ m. refl; entries = Each-one MakesNone (logged.Wrote id at bytes) refl })
by_making h P make quiet (Enqueued b) = quiet (Enqueued b) (record { not_created = λ g i k not. not; same_maker = λ m. refl; entries = Each-nil MakesNone })
by_making h P make quiet Submitted = quiet Submitted (record { not_created = λ g i k not. not; same_maker = λ m. refl; entries = submission_quiet (queue.first_flushed (queue_history h)) })
by_making h P make quiet (Ran b node) = quiet (Ran b node) (record { not_created = λ g i k not. not; same_maker = λ m. refl; entries = Each-one MakesNone (logged.Ran b node) refl })
by_making h P make quiet (Retired serial) = quiet (Retired serial) (record { not_created = λ g i k not. not; same_maker = λ m. refl; entries = Each-nil MakesNone })
by_making h P make quiet (Fetched group id at bytes) = quiet (Fetched group id at bytes) (record { not_created = λ g i k not. not; same_maker = λ m. refl; entries = Each-one MakesNone (logged.Fetched id at bytes) refl })
by_making h P make quiet (Gave group id uses) = quiet (Gave group id uses) (record { not_created = λ g i k not. not; same_maker = λ m. refl; entries = Each-nil MakesNone })
by_making h P make quiet (Abandoned group id) = quiet (Abandoned group id) (record { not_created = λ g i k not. not; same_maker = λ m. refl; entries = Each-nil MakesNone })
by_making h P make quiet (Cleaned read destroyed) = quiet (Cleaned read destroyed) (record { not_created = λ g i k not. not; same_maker = λ m. refl; entries = destroys_quiet (take destroyed (covered_in h read)) })
by_making h P make quiet Closing = quiet Closing (record { not_created = λ g i k not. not; same_maker = λ m. refl; entries = Each-nil MakesNone })
by_making h P make quiet (Stopped stop) = quiet (Stopped stop) (record { not_created = λ g i k not. not; same_maker = λ m. refl; entries = Each-nil MakesNone })

kinds_after-quiet : (kinds : ℕ → Kind) (x : Logged) → MakesNone x → kinds_after kinds x ≡ kinds
kinds_after-quiet kinds (logged.Created id kind) none = absurd (omega (arith, none))
kinds_after-quiet kinds (logged.Wrote id at bytes) none = refl
kinds_after-quiet kinds (logged.Submitted b) none = refl
kinds_after-quiet kinds (logged.Ran b node) none = refl
kinds_after-quiet kinds (logged.Fetched id at bytes) none = refl
kinds_after-quiet kinds (logged.Destroyed id) none = refl

kinds_of-quiet : (journal more : List Logged) → Each MakesNone more → kinds_of (journal ++ more) ≡ kinds_of journal
kinds_of-quiet journal [] none = ap kinds_of (append-nil journal)
kinds_of-quiet journal (x ∷ more) none =
    ap kinds_of (sym (append_assoc journal (x ∷ []) more))
    ∙ kinds_of-quiet (journal ++ x ∷ []) more (Each-tail MakesNone x more none)
    ∙ kinds_of-push journal x
    ∙ kinds_after-quiet (kinds_of journal) x (Each-head MakesNone x more none)

creates-quiet : (journal more : List Logged) → Each MakesNone more → creates (journal ++ more) ≡ creates journal
creates-quiet journal [] none = ap creates (append-nil journal)
creates-quiet journal (x ∷ more) none =
    let none_here : create_of x ≡ 0 = Each-head MakesNone x more none in
    let here : creates (journal ++ x ∷ []) ≡ creates journal = omega (arith, creates-push journal x, none_here) in
    ap creates (sym (append_assoc journal (x ∷ []) more)) ∙ creates-quiet (journal ++ x ∷ []) more (Each-tail MakesNone x more none) ∙ here

-- The objects that were made

-- the group made the object with this kind, and no group made it otherwise
pub record IsMade (h : List BackEvent) (g id : ℕ) (kind : Kind) : Type 0 where
  pub below : id < creates (journal_of h)
  pub by : maker h id ≡ g
  pub of_kind : kinds_of (journal_of h) id ≡ kind

abbrev AllMade : List BackEvent → Type 0
AllMade h = (g id : ℕ) (kind : Kind) → (own_part h g).kinds id ≡ Some kind → IsMade h g id kind

made_created : (h : List BackEvent) (group : ℕ) (id : HandleId) (kind : Kind) → id.0 ≡ creates (journal_of h) → AllMade h → AllMade (h ++ Created group id kind ∷ [])
made_created h group id kind next made g i k is = go (made_then h (Created group id kind) g i k is)
  where
    journal_is : journal_of (h ++ Created group id kind ∷ []) ≡ journal_of h ++ logged.Created id kind ∷ []
    journal_is = journal_then h (Created group id kind)

    count : creates (journal_of (h ++ Created group id kind ∷ [])) ≡ creates (journal_of h) + 1
    count = ap creates journal_is ∙ creates-push (journal_of h) (logged.Created id kind)

    kind_is : kinds_of (journal_of (h ++ Created group id kind ∷ [])) i ≡ cond (i == id.0) kind (kinds_of (journal_of h) i)
    kind_is = ap (λ j. kinds_of j i) journal_is ∙ ap (λ (f : ℕ → Kind). f i) (kinds_of-push (journal_of h) (logged.Created id kind))

    maker_is : maker (h ++ Created group id kind ∷ []) i ≡ cond (i == id.0) group (maker h i)
    maker_is = ap (λ (f : ℕ → ℕ). f i) (maker_then h (Created group id kind))

    go : ((own_part h g).kinds i ≡ Some k) ⊎ ((group ≡ g) × (i ≡ id.0) × (kind ≡ k)) → IsMade (h ++ Created group id kind ∷ []) g i k
    go (inl before) =
        let m : IsMade h g i k = made g i k before in
        let differs : i ≢ id.0 = λ same. omega (arith, m.below, next, same) in
        record {
          below = omega (arith, count, m.below);
          by = maker_is ∙ cond-false (i == id.0) group (maker h i) (ne_eqb i id.0 differs) ∙ m.by;
          of_kind = kind_is ∙ cond-false (i == id.0) kind (kinds_of (journal_of h) i) (ne_eqb i id.0 differs) ∙ m.of_kind;
        }
    go (inr now) = record {
      below = omega (arith, count, next, now.1);
      by = maker_is ∙ cond-true (i == id.0) group (maker h i) (eq-eqb i id.0 now.1) ∙ now.0;
      of_kind = kind_is ∙ cond-true (i == id.0) kind (kinds_of (journal_of h) i) (eq-eqb i id.0 now.1) ∙ now.2;
    }

made_quiet : (h : List BackEvent) (e : BackEvent) → IsQuiet h e → AllMade h → AllMade (h ++ e ∷ [])
made_quiet h e quiet made g i k is = go (made_then h e g i k is)
  where
    go : ((own_part h g).kinds i ≡ Some k) ⊎ IsCreated g i k e → IsMade (h ++ e ∷ []) g i k
    go (inr now) = absurd (quiet.not_created g i k now)
    go (inl before) =
        let m : IsMade h g i k = made g i k before in record {
          below = subst (λ n. i < n) (sym (ap creates (journal_then h e) ∙ creates-quiet (journal_of h) (logged_by h e) quiet.entries)) m.below;
          by = ap (λ (f : ℕ → ℕ). f i) (maker_then h e ∙ quiet.same_maker (maker h)) ∙ m.by;
          of_kind = ap (λ (f : ℕ → Kind). f i) (ap kinds_of (journal_then h e) ∙ kinds_of-quiet (journal_of h) (logged_by h e) quiet.entries) ∙ m.of_kind;
        }

-- what a group made
pub made : (h : List BackEvent) → IsRun h → (g id : ℕ) (kind : Kind) → (own_part h g).kinds id ≡ Some kind → IsMade h g id kind
made = of_each_run AllMade (λ g id kind is. absurd (none-some kind is)) (λ h e run may so_far.
    by_making h (λ e. MayHappen h e → AllMade (h ++ e ∷ []))
    (λ group id kind may. made_created h group id kind may.0 so_far)
    (λ e quiet may. made_quiet h e quiet so_far)
    e may)

-- each object that a group made is that group's
abbrev pub IsMaker : (ℕ → ℕ) → List BackEvent → Type 0
IsMaker group_of h = (g id : ℕ) → IsSome ((own_part h g).kinds id) → group_of id ≡ g

pub maker_is_maker : (h : List BackEvent) → IsRun h → IsMaker (maker h) h
maker_is_maker h run g id some = go ((own_part h g).kinds id) refl some
  where
    go : (o : Option Kind) → (own_part h g).kinds id ≡ o → IsSome o → maker h id ≡ g
    go None is some = absurd (cc)
    go (Some kind) is some = (made h run g id kind is).by
