-- What the groups of a run made, and what they still hold.
use Rattle.std.proofs.Common.{◌≡◌, ℕ, ◌+◌, ◌≤◌, true, false, List, [], ◌∷◌, ◌++◌, length, refl, sym, ap, ◌∙◌, subst, inl, inr, arith}
use Rattle.std.specs.Prelude.{◌/◌, ◌⊎◌, Some, slice_get}
use Rattle.std.proofs.lemmas.Bool.{false≢true}
use Rattle.std.proofs.lemmas.List.{append-nil, append_assoc}
use Rattle.std.proofs.lemmas.List.Elements.{All-nil}
use Rattle.std.proofs.lemmas.Option.{none-some}
use Rattle.vk_types.specs.declared.handles.Kind.{Kind}
use Rattle.vk_types.specs.declared.batches.Batch.{Batch}
use Rattle.vk_device.specs.declared.logged.Logged.{Logged}
use Rattle.vk_device.specs.declared.logged.Logged.TheVariants as logged
use Rattle.vk_device.specs.Journal.{creates}
use Rattle.vk_device.proofs.Laws.{creates-push}
use Rattle.back_core.specs.declared.back_event.BackEvent.{BackEvent}
use Rattle.back_core.specs.declared.back_event.BackEvent.TheVariants.{Created, Wrote, Enqueued, Submitted, Ran, Retired, Fetched, Gave, Abandoned, Cleaned, Closing, Stopped}
use Rattle.back_core.specs.Own.{own_touches, batch_touches}
use Rattle.back_core.specs.Link.{Link, created, wrote, enqueued, fetched, gave, abandoned}
use Rattle.back_core.specs.History.{link_after, own_part}
use Rattle.back_core.specs.Run.{logged_by, journal_of, MayHappen, IsRun}
use Rattle.back_core.proofs.Sees.{part_then}
use Rattle.back_core.proofs.Runs.{of_each_run, journal_nil, journal_then}
use Rattle.back_core.proofs.Parts.{either, pushed, pushed_then, pushed_same, pushed_in}
use Rattle.back_core.proofs.Lists.{get_then}
use Rattle.back_core.proofs.Adding.{IsCreated, made_then}
use Rattle.back_core.proofs.Made.{put_other, IsMade, IsKnown, known_weaker, known_created, known_wrote, known_fetched, known_enqueued, known_abandoned, known_gave, touch_made}
use Rattle.back_core.specs.Needs.{MayTouch}

-- The count of creates

pub creates_grows : (entries journal : List Logged) → creates journal ≤ creates (journal ++ entries)
creates_grows [] journal = subst (λ l. creates journal ≤ creates l) (sym (append-nil journal)) (omega arith)
creates_grows (e ∷ es) journal =
    subst (λ l. creates journal ≤ creates l) (append_assoc journal (e ∷ []) es) (omega (arith, creates-push journal e, creates_grows es (journal ++ e ∷ [])))

creates_later : (h : List BackEvent) (e : BackEvent) → creates (journal_of h) ≤ creates (journal_of (h ++ e ∷ []))
creates_later h e = subst (λ l. creates (journal_of h) ≤ creates l) (sym (journal_then h e)) (creates_grows (logged_by h e) (journal_of h))

-- What each group made

abbrev AllKnown : List BackEvent → Type 0
AllKnown h = (g : ℕ) → IsKnown (creates (journal_of h)) (own_part h g)

module _ (h : List BackEvent) (so_far : AllKnown h) (g : ℕ) where
  known_after : (e : BackEvent) → MayHappen h e → IsKnown (creates (journal_of (h ++ e ∷ []))) (link_after (own_part h g) e)
  known_after (Created group id kind) may =
      let more : creates (journal_of (h ++ Created group id kind ∷ [])) ≡ creates (journal_of h) + 1 = ap creates (journal_then h (Created group id kind)) ∙ creates-push (journal_of h) (logged.Created id kind) in
      subst (λ n. IsKnown n (link_after (own_part h g) (Created group id kind))) (sym more)
      (either (IsKnown (creates (journal_of h) + 1)) h g group (created (own_part h g) id.0 kind)
      (λ e. known_created (creates (journal_of h)) (own_part h g) (so_far g) id.0 kind may.0)
      (λ d. known_weaker (creates (journal_of h)) (own_part h g) (so_far g) (creates (journal_of h) + 1) (omega arith)))
  known_after (Wrote group id at bytes) may =
      known_weaker (creates (journal_of h)) _
      (either (IsKnown (creates (journal_of h))) h g group (wrote (own_part h g) id.0 at bytes) (λ e. known_wrote (creates (journal_of h)) (own_part h g) (so_far g) id.0 at bytes (subst (λ k. (own_part h k).held id.0 ≡ true) e may.held)) (λ d. so_far g))
      (creates (journal_of (h ++ Wrote group id at bytes ∷ []))) (creates_later h (Wrote group id at bytes))
  known_after (Enqueued b) may =
      known_weaker (creates (journal_of h)) _
      (either (IsKnown (creates (journal_of h))) h g (b.index / 8) (enqueued (own_part h g) b)
      (λ e. known_enqueued (creates (journal_of h)) (own_part h g) (so_far g) b (subst (λ k. (id : ℕ) → batch_touches b id ≡ true → MayTouch (own_part h k) b.index b.number id) e may.1.touched)) (λ d. so_far g))
      (creates (journal_of (h ++ Enqueued b ∷ []))) (creates_later h (Enqueued b))
  known_after Submitted may = known_weaker (creates (journal_of h)) (own_part h g) (so_far g) (creates (journal_of (h ++ Submitted ∷ []))) (creates_later h Submitted)
  known_after (Ran batch node) may = known_weaker (creates (journal_of h)) (own_part h g) (so_far g) (creates (journal_of (h ++ Ran batch node ∷ []))) (creates_later h (Ran batch node))
  known_after (Retired serial) may = known_weaker (creates (journal_of h)) (own_part h g) (so_far g) (creates (journal_of (h ++ Retired serial ∷ []))) (creates_later h (Retired serial))
  known_after (Fetched group id at bytes) may =
      known_weaker (creates (journal_of h)) _
      (either (IsKnown (creates (journal_of h))) h g group (fetched (own_part h g) id.0 at bytes) (λ e. known_fetched (creates (journal_of h)) (own_part h g) (so_far g) id.0 at bytes (subst (λ k. (own_part h k).held id.0 ≡ true) e may.0.held)) (λ d. so_far g))
      (creates (journal_of (h ++ Fetched group id at bytes ∷ []))) (creates_later h (Fetched group id at bytes))
  known_after (Gave group id uses) may =
      known_weaker (creates (journal_of h)) _
      (either (IsKnown (creates (journal_of h))) h g group (gave (own_part h g) id.0 uses) (λ e. known_gave (creates (journal_of h)) (own_part h g) (so_far g) id.0 uses (subst (λ k. (own_part h k).held id.0 ≡ true) e may.held)) (λ d. so_far g))
      (creates (journal_of (h ++ Gave group id uses ∷ []))) (creates_later h (Gave group id uses))
  known_after (Abandoned group id) may =
      known_weaker (creates (journal_of h)) _
      (either (IsKnown (creates (journal_of h))) h g group (abandoned (own_part h g) id.0) (λ e. known_abandoned (creates (journal_of h)) (own_part h g) (so_far g) id.0) (λ d. so_far g))
      (creates (journal_of (h ++ Abandoned group id ∷ []))) (creates_later h (Abandoned group id))
  known_after (Cleaned read destroyed) may = known_weaker (creates (journal_of h)) (own_part h g) (so_far g) (creates (journal_of (h ++ Cleaned read destroyed ∷ []))) (creates_later h (Cleaned read destroyed))
  known_after Closing may = known_weaker (creates (journal_of h)) (own_part h g) (so_far g) (creates (journal_of (h ++ Closing ∷ []))) (creates_later h Closing)
  known_after (Stopped stop) may = known_weaker (creates (journal_of h)) (own_part h g) (so_far g) (creates (journal_of (h ++ Stopped stop ∷ []))) (creates_later h (Stopped stop))

pub known : (h : List BackEvent) → IsRun h → (g : ℕ) → IsKnown (creates (journal_of h)) (own_part h g)
known = of_each_run AllKnown (subst (λ j. (g : ℕ) → IsKnown (creates j) (own_part [] g)) (sym journal_nil) (λ g. lower g)) (λ h e run may so_far g. subst (IsKnown (creates (journal_of (h ++ e ∷ [])))) (sym (part_then h g e)) (known_after h so_far g e may))
  where
    lower : (g : ℕ) → IsKnown (creates []) (own_part [] g)
    lower g = record {
      low = λ id kind at. absurd (none-some kind at);
      held_made = λ id held. absurd (false≢true held);
      held_kept = λ id held. refl;
      given_made = λ id uses at. absurd (none-some uses at);
      untouched = λ id none. All-nil (λ x. own_touches x id ≡ false);
    }

-- Groups and kinds

-- a new object was made by no group before
pub new_is_new : (h : List BackEvent) (e : BackEvent) → IsRun h → MayHappen h e → (g g' i : ℕ) (k : Kind) → IsCreated g i k e → IsMade (own_part h g') i → ⊥
new_is_new h (Created group id kind) run may g g' i k makes made = omega (arith, (known h run g').low i made.0 made.1, makes.1, may.0)
new_is_new h (Wrote group id at bytes) run may g g' i k makes made = makes
new_is_new h (Enqueued b) run may g g' i k makes made = makes
new_is_new h Submitted run may g g' i k makes made = makes
new_is_new h (Ran batch node) run may g g' i k makes made = makes
new_is_new h (Retired serial) run may g g' i k makes made = makes
new_is_new h (Fetched group id at bytes) run may g g' i k makes made = makes
new_is_new h (Gave group id uses) run may g g' i k makes made = makes
new_is_new h (Abandoned group id) run may g g' i k makes made = makes
new_is_new h (Cleaned read destroyed) run may g g' i k makes made = makes
new_is_new h Closing run may g g' i k makes made = makes
new_is_new h (Stopped stop) run may g g' i k makes made = makes

one_maker : (e : BackEvent) (g g' i : ℕ) (k k' : Kind) → IsCreated g i k e → IsCreated g' i k' e → g ≡ g'
one_maker (Created group id kind) g g' i k k' a b = sym a.0 ∙ b.0
one_maker (Wrote group id at bytes) g g' i k k' a b = absurd a
one_maker (Enqueued batch) g g' i k k' a b = absurd a
one_maker Submitted g g' i k k' a b = absurd a
one_maker (Ran batch node) g g' i k k' a b = absurd a
one_maker (Retired serial) g g' i k k' a b = absurd a
one_maker (Fetched group id at bytes) g g' i k k' a b = absurd a
one_maker (Gave group id uses) g g' i k k' a b = absurd a
one_maker (Abandoned group id) g g' i k k' a b = absurd a
one_maker (Cleaned read destroyed) g g' i k k' a b = absurd a
one_maker Closing g g' i k k' a b = absurd a
one_maker (Stopped stop) g g' i k k' a b = absurd a

-- an object is of one group
pub one_group : (h : List BackEvent) → IsRun h → (g g' i : ℕ) → IsMade (own_part h g) i → IsMade (own_part h g') i → g ≡ g'
one_group = of_each_run (λ h. (g g' i : ℕ) → IsMade (own_part h g) i → IsMade (own_part h g') i → g ≡ g') (λ g g' i a b. absurd (none-some a.0 a.1))
    (λ h e run may so_far g g' i a b. go h e run may so_far g g' i a.0 b.0 (made_then h e g i a.0 a.1) (made_then h e g' i b.0 b.1))
  where
    go : (h : List BackEvent) (e : BackEvent) → IsRun h → MayHappen h e → ((g g' i : ℕ) → IsMade (own_part h g) i → IsMade (own_part h g') i → g ≡ g') → (g g' i : ℕ) (k k' : Kind)
        → ((own_part h g).kinds i ≡ Some k) ⊎ IsCreated g i k e → ((own_part h g').kinds i ≡ Some k') ⊎ IsCreated g' i k' e → g ≡ g'
    go h e run may so_far g g' i k k' (inl a) (inl b) = so_far g g' i (k, a) (k', b)
    go h e run may so_far g g' i k k' (inr a) (inl b) = absurd (new_is_new h e run may g g' i k a (k', b))
    go h e run may so_far g g' i k k' (inl a) (inr b) = absurd (new_is_new h e run may g' g i k' b (k, a))
    go h e run may so_far g g' i k k' (inr a) (inr b) = one_maker e g g' i k k' a b

-- a kind stays
module _ (h : List BackEvent) (run : IsRun h) (g i : ℕ) (k : Kind) (was : (own_part h g).kinds i ≡ Some k) where
  abbrev Same : Link → Type 0
  Same l = l.kinds i ≡ Some k

  kind_after : (e : BackEvent) → MayHappen h e → Same (link_after (own_part h g) e)
  kind_after (Created group id kind) may =
      either Same h g group (created (own_part h g) id.0 kind) (λ e. put_other (own_part h g).kinds id.0 (Some kind) i (λ same. omega (arith, (known h run g).low i k was, same, may.0)) ∙ was) (λ d. was)
  kind_after (Wrote group id at bytes) may = either Same h g group (wrote (own_part h g) id.0 at bytes) (λ e. was) (λ d. was)
  kind_after (Enqueued b) may = either Same h g (b.index / 8) (enqueued (own_part h g) b) (λ e. was) (λ d. was)
  kind_after Submitted may = was
  kind_after (Ran batch node) may = was
  kind_after (Retired serial) may = was
  kind_after (Fetched group id at bytes) may = either Same h g group (fetched (own_part h g) id.0 at bytes) (λ e. was) (λ d. was)
  kind_after (Gave group id uses) may = either Same h g group (gave (own_part h g) id.0 uses) (λ e. was) (λ d. was)
  kind_after (Abandoned group id) may = either Same h g group (abandoned (own_part h g) id.0) (λ e. was) (λ d. was)
  kind_after (Cleaned read destroyed) may = was
  kind_after Closing may = was
  kind_after (Stopped stop) may = was

  pub kind_stays : (e : BackEvent) → MayHappen h e → (own_part (h ++ e ∷ []) g).kinds i ≡ Some k
  kind_stays e may = subst Same (sym (part_then h g e)) (kind_after e may)

pub made_stays : (h : List BackEvent) (e : BackEvent) → IsRun h → MayHappen h e → (g i : ℕ) → IsMade (own_part h g) i → IsMade (own_part (h ++ e ∷ []) g) i
made_stays h e run may g i made = (made.0, kind_stays h run g i made.0 made.1 e may)

abbrev Owns : List BackEvent → Type 0
Owns h = (k i : ℕ) (b : Batch) → slice_get (pushed h) k ≡ Some b → batch_touches b i ≡ true → IsMade (own_part h (b.index / 8)) i

-- a batch touches objects of its own group alone
pub touches_own : (h : List BackEvent) → IsRun h → Owns h
touches_own = of_each_run Owns (λ k i b at. absurd (none-some b at)) step
  where
    same : (h : List BackEvent) (e : BackEvent) → IsRun h → MayHappen h e → pushed_in e ≡ [] → Owns h → Owns (h ++ e ∷ [])
    same h e run may none so_far k i b at touches = made_stays h e run may (b.index / 8) i (so_far k i b (subst (λ l. slice_get l k ≡ Some b) (pushed_same h e none) at) touches)

    step : (h : List BackEvent) (e : BackEvent) → IsRun h → MayHappen h e → Owns h → Owns (h ++ e ∷ [])
    step h (Created group id kind) run may so_far = same h (Created group id kind) run may refl so_far
    step h (Wrote group id at bytes) run may so_far = same h (Wrote group id at bytes) run may refl so_far
    step h (Enqueued c) run may so_far = λ k i b at touches. go k i b touches (get_then (pushed h) c k b (subst (λ l. slice_get l k ≡ Some b) (pushed_then h (Enqueued c)) at))
      where
        go : (k i : ℕ) (b : Batch) → batch_touches b i ≡ true → (slice_get (pushed h) k ≡ Some b) ⊎ ((k ≡ length (pushed h)) × (b ≡ c)) → IsMade (own_part (h ++ Enqueued c ∷ []) (b.index / 8)) i
        go k i b touches (inl old) = made_stays h (Enqueued c) run may (b.index / 8) i (so_far k i b old touches)
        go k i b touches (inr new) = made_stays h (Enqueued c) run may (b.index / 8) i
            (subst (λ (x : Batch). IsMade (own_part h (x.index / 8)) i) (sym new.1)
            (touch_made (creates (journal_of h)) (own_part h (c.index / 8)) (known h run (c.index / 8)) c.index c.number i (may.1.touched i (subst (λ x. batch_touches x i ≡ true) new.1 touches))))
    step h Submitted run may so_far = same h Submitted run may refl so_far
    step h (Ran batch node) run may so_far = same h (Ran batch node) run may refl so_far
    step h (Retired serial) run may so_far = same h (Retired serial) run may refl so_far
    step h (Fetched group id at bytes) run may so_far = same h (Fetched group id at bytes) run may refl so_far
    step h (Gave group id uses) run may so_far = same h (Gave group id uses) run may refl so_far
    step h (Abandoned group id) run may so_far = same h (Abandoned group id) run may refl so_far
    step h (Cleaned read destroyed) run may so_far = same h (Cleaned read destroyed) run may refl so_far
    step h Closing run may so_far = same h Closing run may refl so_far
    step h (Stopped stop) run may so_far = same h (Stopped stop) run may refl so_far
