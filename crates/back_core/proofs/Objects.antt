-- The objects of the device, over events in which a group has a part that makes none.
use Rattle.std.proofs.Common.{◌≡◌, ℕ, ◌==◌, Bool, true, false, not, List, [], ◌∷◌, ◌++◌, refl, sym, ap, ◌∙◌, subst}
use Rattle.std.specs.Prelude.{All, Option, Some, None}
use Rattle.std.proofs.lemmas.Bool.{true≢false, eqb-true}
use Rattle.std.proofs.lemmas.List.{append-nil, append_assoc}
use Rattle.std.proofs.lemmas.List.Elements.{All-head, All-tail}
use Rattle.vk_types.specs.declared.handles.HandleId.{HandleId}
use Rattle.vk_types.specs.declared.handles.Kind.{Kind}
use Rattle.vk_types.specs.declared.batches.Batch.{Batch}
use Rattle.vk_device.specs.declared.logged.Logged.{Logged}
use Rattle.vk_device.specs.declared.logged.Logged.TheVariants as logged
use Rattle.vk_device.specs.Journal.{kind_of}
use Rattle.vk_device.proofs.Running.{kind_after}
use Rattle.submit_queue.specs.Histories as queue
use Rattle.back_core.specs.declared.back_event.BackEvent.{BackEvent}
use Rattle.back_core.specs.declared.back_event.BackEvent.TheVariants.{Created, Wrote, Enqueued, Submitted, Ran, Retired, Fetched}
use Rattle.back_core.specs.declared.back_event.BackEvent.TheVariants.{Gave, Abandoned, Cleaned, Closing, Stopped}
use Rattle.back_core.specs.Link.{Link}
use Rattle.back_core.specs.History.{queue_history, own_part, link_of}
use Rattle.back_core.specs.Frame.{IsPartOf, GoesOn}
use Rattle.back_core.specs.Run.{submission, logged_by, journal_of, MayHappen, MayHappenAll, IsRun}
use Rattle.back_core.proofs.Sees.{create_then}
use Rattle.back_core.proofs.Runs.{run_then, run_parts, kept_on, journal_then}
use Rattle.back_core.proofs.Made.{IsMade, put_here}
use Rattle.back_core.proofs.Known.{new_is_new, made_stays}

-- the event makes no object of the group
abbrev MakesNone : List BackEvent → ℕ → BackEvent → Type 0
MakesNone h a e = (i : ℕ) → IsMade (own_part (h ++ e ∷ []) a) i → IsMade (own_part h a) i

module _ (h : List BackEvent) (id : ℕ) where
  abbrev Stays : List Logged → Type 0
  Stays entries = kind_of (journal_of h ++ entries) id ≡ kind_of (journal_of h) id

  nothing : Stays []
  nothing = ap (λ j. kind_of j id) (append-nil (journal_of h))

  accepted : (o : Option Batch) → Stays (submission o)
  accepted None = nothing
  accepted (Some b) = kind_after (journal_of h) (logged.Submitted b) id

  -- a group's new object was not made before
  created : IsRun h → (a : ℕ) (new : HandleId) (kind : Kind) → MayHappen h (Created a new kind) → MakesNone h a (Created a new kind) → ⊥
  created run a new kind may none =
      let now : (own_part (h ++ Created a new kind ∷ []) a).kinds new.0 ≡ Some kind
      = ap (λ (l : Link). l.kinds new.0) (create_then h a new kind) ∙ put_here (own_part h a).kinds new.0 (Some kind) new.0 refl in
      new_is_new h (Created a new kind) run may a a new.0 kind (refl, refl, refl) (none new.0 (kind, now))

  own : (group a : ℕ) → not (group == a) ≡ false → group ≡ a
  own group a part = eqb-true group a (not_not (group == a) part)
    where
      not_not : (b : Bool) → not b ≡ false → b ≡ true
      not_not true is = refl
      not_not false is = absurd (true≢false is)

  logged_stays : IsRun h → (a : ℕ) (e : BackEvent) → MayHappen h e → IsPartOf a e → MakesNone h a e → Stays (logged_by h e)
  logged_stays run a (Created group new kind) may part none =
      absurd (created run a new kind may (subst (λ g. MakesNone h a (Created g new kind)) (own group a part) none))
  logged_stays run a (Wrote group i at bytes) may part none = kind_after (journal_of h) (logged.Wrote i at bytes) id
  logged_stays run a (Enqueued b) may part none = nothing
  logged_stays run a Submitted may part none = accepted (queue.first_flushed (queue_history h))
  logged_stays run a (Ran batch node) may part none = kind_after (journal_of h) (logged.Ran batch node) id
  logged_stays run a (Retired serial) may part none = nothing
  logged_stays run a (Fetched group i at bytes) may part none = kind_after (journal_of h) (logged.Fetched i at bytes) id
  logged_stays run a (Gave group i uses) may part none = nothing
  logged_stays run a (Abandoned group i) may part none = nothing
  logged_stays run a (Cleaned read destroyed) may part none = absurd (true≢false part)
  logged_stays run a Closing may part none = absurd (true≢false part)
  logged_stays run a (Stopped stop) may part none = nothing

-- more events, in each of which the group has a part, that make no object of it
objects_stay : (h more : List BackEvent) (a id : ℕ) → IsRun h → MayHappenAll h more → All (IsPartOf a) more
    → ((i : ℕ) → IsMade (own_part (h ++ more) a) i → IsMade (own_part h a) i)
    → kind_of (journal_of (h ++ more)) id ≡ kind_of (journal_of h) id
objects_stay h [] a id run all parts none = ap (λ l. kind_of (journal_of l) id) (append-nil h)
objects_stay h (e ∷ more) a id run all parts none =
    ap (λ l. kind_of (journal_of l) id) (sym (append_assoc h (e ∷ []) more))
    ∙ objects_stay (h ++ e ∷ []) more a id next all.1 (All-tail (IsPartOf a) e more parts)
    (λ i made. made_stays h e run all.0 a i (before i made))
    ∙ ap (λ j. kind_of j id) (journal_then h e)
    ∙ logged_stays h id run a e all.0 (All-head (IsPartOf a) e more parts) (λ i made. before i (later i made))
  where
    next : IsRun (h ++ e ∷ [])
    next = run_then h e run all.0

    before : (i : ℕ) → IsMade (own_part (h ++ e ∷ [] ++ more) a) i → IsMade (own_part h a) i
    before i made = none i (subst (λ l. IsMade (own_part l a) i) (append_assoc h (e ∷ []) more) made)

    later : (i : ℕ) → IsMade (own_part (h ++ e ∷ []) a) i → IsMade (own_part (h ++ e ∷ [] ++ more) a) i
    later i made =
        kept_on (λ l. IsMade (own_part l a) i) (λ l x is may made. made_stays l x is may a i made) (h ++ e ∷ []) more next all.1 made

-- a group that made no object left the objects of the device as they were
pub same_objects : (h k : List BackEvent) (a : ℕ) → IsRun k → GoesOn a (Some h) (Some k) → (link_of k a).kinds ≡ (link_of h a).kinds
    → (id : ℕ) → kind_of (journal_of k) id ≡ kind_of (journal_of h) id
same_objects h k a run on same id =
    let parts = run_parts h on.0 (subst IsRun on.1 run) in
    let kinds : (own_part h a).kinds ≡ (own_part (h ++ on.0) a).kinds = sym same ∙ ap (λ l. (own_part l a).kinds) on.1 in
    ap (λ l. kind_of (journal_of l) id) on.1
    ∙ objects_stay h on.0 a id parts.0 parts.1 on.2 (λ i made. (made.0, ap (λ (f : ℕ → Option Kind). f i) kinds ∙ made.1))
