-- What the groups of a run gave away.
use Rattle.std.proofs.Common.{◌≡◌, ℕ, ◌+◌, ◌≤◌, true, List, [], ◌∷◌, ◌++◌, length, refl, sym, ap, ◌∙◌, subst, inl, inr, arith}
use Rattle.std.specs.Prelude.{◌/◌, ◌⊎◌, Some, None, slice_get}
use Rattle.std.proofs.lemmas.Bool.{cases_eq}
use Rattle.std.proofs.lemmas.Option.{same_Some, none-some}
use Rattle.vk_types.specs.declared.batches.Batch.{Batch}
use Rattle.vk_types.specs.declared.batches.QueueSerial.{QueueSerial}
use Rattle.resource_use.specs.Uses.{number_of, AreDistinct}
use Rattle.garbage.specs.declared.entry.Garbage.{Garbage}
use Rattle.vk_device.specs.Journal.{creates}
use Rattle.back_core.specs.declared.back_event.BackEvent.{BackEvent}
use Rattle.back_core.specs.declared.back_event.BackEvent.TheVariants.{Created, Wrote, Enqueued, Submitted, Ran, Retired, Fetched, Gave, Abandoned, Cleaned, Closing, Stopped}
use Rattle.back_core.specs.Own.{batch_touches, last_use, next_number}
use Rattle.back_core.specs.Link.{Link, put, created, wrote, enqueued, fetched, gave, abandoned}
use Rattle.back_core.specs.Needs.{MayTouch, IsOfGroup}
use Rattle.back_core.specs.History.{link_after, own_part}
use Rattle.back_core.specs.Run.{garbage_of, garbage_after, journal_of, MayHappen, IsRun}
use Rattle.back_core.proofs.Sees.{part_then}
use Rattle.back_core.proofs.Runs.{of_each_run, garbage_nil, garbage_then}
use Rattle.back_core.proofs.Lists.{get_then}
use Rattle.back_core.proofs.Parts.{either, pushed, pushed_in, pushed_then, pushed_same, own_last_number, use_counts}
use Rattle.back_core.proofs.Going.{numbered}
use Rattle.back_core.proofs.Made.{put_here, put_other, none_or_some, IsMade, touch_made}
use Rattle.back_core.proofs.Known.{known, one_group, touches_own}
use Rattle.back_core.proofs.Piles.{IsIn, in_parts, IsAway, AreApart, apart_then, apart_left, left_in}

-- One more event

-- the uses with which an event gives an object of a group away
abbrev pub Gives : BackEvent → ℕ → ℕ → List QueueSerial → Type 0
Gives (Created group id kind) g i uses = ⊥
Gives (Wrote group id at bytes) g i uses = ⊥
Gives (Enqueued b) g i uses = ⊥
Gives Submitted g i uses = ⊥
Gives (Ran batch node) g i uses = ⊥
Gives (Retired serial) g i uses = ⊥
Gives (Fetched group id at bytes) g i uses = ⊥
Gives (Gave group id us) g i uses = (group ≡ g) × (i ≡ id.0) × (us ≡ uses)
Gives (Abandoned group id) g i uses = ⊥
Gives (Cleaned read destroyed) g i uses = ⊥
Gives Closing g i uses = ⊥
Gives (Stopped stop) g i uses = ⊥

module _ (h : List BackEvent) (g i : ℕ) (uses : List QueueSerial) where
  abbrev Before : BackEvent → Link → Type 0
  Before e l = l.given i ≡ Some uses → ((own_part h g).given i ≡ Some uses) ⊎ Gives e g i uses

  new_or_old : (id : ℕ) (us : List QueueSerial) → put (own_part h g).given id (Some us) i ≡ Some uses → ((own_part h g).given i ≡ Some uses) ⊎ ((i ≡ id) × (us ≡ uses))
  new_or_old id us at = go (cases_eq i id)
    where
      go : (i ≡ id) ⊎ (i ≡ id → ⊥) → ((own_part h g).given i ≡ Some uses) ⊎ ((i ≡ id) × (us ≡ uses))
      go (inl same) = inr (same, same_Some us uses (sym (put_here (own_part h g).given id (Some us) i same) ∙ at))
      go (inr other) = inl (sym (put_other (own_part h g).given id (Some us) i other) ∙ at)

  before : (e : BackEvent) → Before e (link_after (own_part h g) e)
  before (Created group id kind) = either (Before (Created group id kind)) h g group (created (own_part h g) id.0 kind) (λ e is. inl is) (λ d is. inl is)
  before (Wrote group id at bytes) = either (Before (Wrote group id at bytes)) h g group (wrote (own_part h g) id.0 at bytes) (λ e is. inl is) (λ d is. inl is)
  before (Enqueued b) = either (Before (Enqueued b)) h g (b.index / 8) (enqueued (own_part h g) b) (λ e is. inl is) (λ d is. inl is)
  before Submitted = λ is. inl is
  before (Ran batch node) = λ is. inl is
  before (Retired serial) = λ is. inl is
  before (Fetched group id at bytes) = either (Before (Fetched group id at bytes)) h g group (fetched (own_part h g) id.0 at bytes) (λ e is. inl is) (λ d is. inl is)
  before (Gave group id us) = either (Before (Gave group id us)) h g group (gave (own_part h g) id.0 us) (λ e at. given e (new_or_old id.0 us at)) (λ d is. inl is)
    where
      given : group ≡ g → ((own_part h g).given i ≡ Some uses) ⊎ ((i ≡ id.0) × (us ≡ uses)) → ((own_part h g).given i ≡ Some uses) ⊎ ((group ≡ g) × (i ≡ id.0) × (us ≡ uses))
      given e (inl old) = inl old
      given e (inr new) = inr (e, new.0, new.1)
  before (Abandoned group id) = either (Before (Abandoned group id)) h g group (abandoned (own_part h g) id.0) (λ e is. inl is) (λ d is. inl is)
  before (Cleaned read destroyed) = λ is. inl is
  before Closing = λ is. inl is
  before (Stopped stop) = λ is. inl is

  -- what was given was given before, or by the last event
  pub given_before : (e : BackEvent) → (own_part (h ++ e ∷ []) g).given i ≡ Some uses → ((own_part h g).given i ≡ Some uses) ⊎ Gives e g i uses
  given_before e = subst (Before e) (sym (part_then h g e)) (before e)

  module _ (run : IsRun h) (was : (own_part h g).given i ≡ Some uses) where
    abbrev Same : Link → Type 0
    Same l = l.given i ≡ Some uses

    not_held : (id : ℕ) → (own_part h g).held id ≡ true → i ≡ id → ⊥
    not_held id held same = none-some uses (sym ((known h run g).held_kept id held) ∙ (ap (own_part h g).given (sym same) ∙ was))

    given_after : (e : BackEvent) → MayHappen h e → Same (link_after (own_part h g) e)
    given_after (Created group id kind) may = either Same h g group (created (own_part h g) id.0 kind) (λ e. was) (λ d. was)
    given_after (Wrote group id at bytes) may = either Same h g group (wrote (own_part h g) id.0 at bytes) (λ e. was) (λ d. was)
    given_after (Enqueued b) may = either Same h g (b.index / 8) (enqueued (own_part h g) b) (λ e. was) (λ d. was)
    given_after Submitted may = was
    given_after (Ran batch node) may = was
    given_after (Retired serial) may = was
    given_after (Fetched group id at bytes) may = either Same h g group (fetched (own_part h g) id.0 at bytes) (λ e. was) (λ d. was)
    given_after (Gave group id us) may =
        either Same h g group (gave (own_part h g) id.0 us) (λ e. put_other (own_part h g).given id.0 (Some us) i (not_held id.0 (subst (λ k. (own_part h k).held id.0 ≡ true) e may.held)) ∙ was) (λ d. was)
    given_after (Abandoned group id) may = either Same h g group (abandoned (own_part h g) id.0) (λ e. was) (λ d. was)
    given_after (Cleaned read destroyed) may = was
    given_after Closing may = was
    given_after (Stopped stop) may = was

    -- what was given stays given, with its uses
    pub given_stays : (e : BackEvent) → MayHappen h e → (own_part (h ++ e ∷ []) g).given i ≡ Some uses
    given_stays e may = subst Same (sym (part_then h g e)) (given_after e may)

-- what is not given now was not before
pub none_before : (h : List BackEvent) (e : BackEvent) → IsRun h → MayHappen h e → (g i : ℕ) → (own_part (h ++ e ∷ []) g).given i ≡ None → (own_part h g).given i ≡ None
none_before h e run may g i none = go (none_or_some ((own_part h g).given i))
  where
    go : ((own_part h g).given i ≡ None) ⊎ ((uses : List QueueSerial) × ((own_part h g).given i ≡ Some uses)) → (own_part h g).given i ≡ None
    go (inl is) = is
    go (inr some) = absurd (none-some some.0 (sym none ∙ given_stays h g i some.0 run some.1 e may))

-- Garbage

-- some group gave the entry's object with the entry's uses
abbrev pub WasGiven : List BackEvent → Garbage → Type 0
WasGiven h item = (g : ℕ) × ((own_part h g).given item.handle.0 ≡ Some item.uses)

-- the garbage are objects that were given, each once
pub record IsGarbage (h : List BackEvent) (list : List Garbage) : Type 0 where
  pub given : (item : Garbage) → IsIn item list → WasGiven h item
  pub apart : AreApart list

pub garbage_given : (h : List BackEvent) → IsRun h → IsGarbage h (garbage_of h)
garbage_given = of_each_run (λ h. IsGarbage h (garbage_of h)) (subst (IsGarbage []) (sym garbage_nil) (record { given = λ item is. absurd is; apart = tt })) step
  where
    later : (h : List BackEvent) (e : BackEvent) → IsRun h → MayHappen h e → (item : Garbage) → WasGiven h item → WasGiven (h ++ e ∷ []) item
    later h e run may item was = (was.0, given_stays h was.0 item.handle.0 item.uses run was.1 e may)

    same : (h : List BackEvent) (e : BackEvent) → IsRun h → MayHappen h e → garbage_after (garbage_of h) e ≡ garbage_of h → IsGarbage h (garbage_of h) → IsGarbage (h ++ e ∷ []) (garbage_of (h ++ e ∷ []))
    same h e run may is are = subst (IsGarbage (h ++ e ∷ [])) (sym (garbage_then h e ∙ is)) (record { given = λ item there. later h e run may item (are.given item there); apart = are.apart })

    step : (h : List BackEvent) (e : BackEvent) → IsRun h → MayHappen h e → IsGarbage h (garbage_of h) → IsGarbage (h ++ e ∷ []) (garbage_of (h ++ e ∷ []))
    step h (Created group id kind) run may are = same h (Created group id kind) run may refl are
    step h (Wrote group id at bytes) run may are = same h (Wrote group id at bytes) run may refl are
    step h (Enqueued b) run may are = same h (Enqueued b) run may refl are
    step h Submitted run may are = same h Submitted run may refl are
    step h (Ran batch node) run may are = same h (Ran batch node) run may refl are
    step h (Retired serial) run may are = same h (Retired serial) run may refl are
    step h (Fetched group id at bytes) run may are = same h (Fetched group id at bytes) run may refl are
    step h (Gave group id uses) run may are =
        subst (IsGarbage (h ++ Gave group id uses ∷ [])) (sym (garbage_then h (Gave group id uses)))
        (record {
          given = λ x is. given x (in_parts (garbage_of h) (record { handle = id; uses = uses } ∷ []) x is);
          apart = apart_then (garbage_of h) (record { handle = id; uses = uses }) are.apart away;
        })
      where
        new : (own_part (h ++ Gave group id uses ∷ []) group).given id.0 ≡ Some uses
        new = subst (λ (l : Link). l.given id.0 ≡ Some uses) (sym (part_then h group (Gave group id uses)))
            (either (λ l. l.given id.0 ≡ Some uses) h group group (gave (own_part h group) id.0 uses) (λ e. put_here (own_part h group).given id.0 (Some uses) id.0 refl) (λ d. absurd (d refl)))

        given : (x : Garbage) → IsIn x (garbage_of h) ⊎ IsIn x (record { handle = id; uses = uses } ∷ []) → WasGiven (h ++ Gave group id uses ∷ []) x
        given x (inl old) = later h (Gave group id uses) run may x (are.given x old)
        given x (inr (inl is)) = subst (WasGiven (h ++ Gave group id uses ∷ [])) is (group, new)
        given x (inr (inr none)) = absurd none

        away : IsAway id.0 (garbage_of h)
        away x is here =
            let was = are.given x is in
            let own : was.0 ≡ group = one_group h run was.0 group id.0 (subst (λ i. IsMade (own_part h was.0) i) here ((known h run was.0).given_made x.handle.0 x.uses was.1)) ((known h run group).held_made id.0 may.held) in
            none-some x.uses (sym ((known h run group).held_kept id.0 may.held) ∙ (ap (own_part h group).given (sym here) ∙ subst (λ k. (own_part h k).given x.handle.0 ≡ Some x.uses) own was.1))
    step h (Abandoned group id) run may are = same h (Abandoned group id) run may refl are
    step h (Cleaned read destroyed) run may are =
        subst (IsGarbage (h ++ Cleaned read destroyed ∷ [])) (sym (garbage_then h (Cleaned read destroyed)))
        (record {
          given = λ x is. later h (Cleaned read destroyed) run may x (are.given x (left_in read (destroyed + 1) (garbage_of h) x is));
          apart = apart_left read (destroyed + 1) (garbage_of h) are.apart;
        })
    step h Closing run may are = same h Closing run may refl are
    step h (Stopped stop) run may are = same h (Stopped stop) run may refl are

-- Uses

gives_distinct : (h : List BackEvent) (e : BackEvent) → MayHappen h e → (g i : ℕ) (uses : List QueueSerial) → Gives e g i uses → AreDistinct uses
gives_distinct h (Created group id kind) may g i uses gives = absurd gives
gives_distinct h (Wrote group id at bytes) may g i uses gives = absurd gives
gives_distinct h (Enqueued b) may g i uses gives = absurd gives
gives_distinct h Submitted may g i uses gives = absurd gives
gives_distinct h (Ran batch node) may g i uses gives = absurd gives
gives_distinct h (Retired serial) may g i uses gives = absurd gives
gives_distinct h (Fetched group id at bytes) may g i uses gives = absurd gives
gives_distinct h (Gave group id us) may g i uses gives = subst AreDistinct gives.2 may.distinct
gives_distinct h (Abandoned group id) may g i uses gives = absurd gives
gives_distinct h (Cleaned read destroyed) may g i uses gives = absurd gives
gives_distinct h Closing may g i uses gives = absurd gives
gives_distinct h (Stopped stop) may g i uses gives = absurd gives

-- of the uses of an object that was given no two have one index
pub given_distinct : (h : List BackEvent) → IsRun h → (g i : ℕ) (uses : List QueueSerial) → (own_part h g).given i ≡ Some uses → AreDistinct uses
given_distinct = of_each_run (λ h. (g i : ℕ) (uses : List QueueSerial) → (own_part h g).given i ≡ Some uses → AreDistinct uses) (λ g i uses given. absurd (none-some uses given))
    (λ h e run may so_far g i uses given. go h e may g i uses (so_far g i uses) (given_before h g i uses e given))
  where
    go : (h : List BackEvent) (e : BackEvent) → MayHappen h e → (g i : ℕ) (uses : List QueueSerial) → ((own_part h g).given i ≡ Some uses → AreDistinct uses) → ((own_part h g).given i ≡ Some uses) ⊎ Gives e g i uses → AreDistinct uses
    go h e may g i uses so_far (inl old) = so_far old
    go h e may g i uses so_far (inr new) = gives_distinct h e may g i uses new

-- the uses of an object that was given name each batch that touches it
abbrev AllNamed : List BackEvent → Type 0
AllNamed h = (g i : ℕ) (uses : List QueueSerial) → (own_part h g).given i ≡ Some uses → (k : ℕ) (b : Batch) → slice_get (pushed h) k ≡ Some b → batch_touches b i ≡ true → b.number ≤ number_of uses b.index

pub all_named : (h : List BackEvent) → IsRun h → AllNamed h
all_named = of_each_run AllNamed (λ g i uses given k b at. absurd (none-some b at)) step
  where
    same : (h : List BackEvent) (e : BackEvent) → pushed_in e ≡ [] → ((g i : ℕ) (uses : List QueueSerial) → Gives e g i uses → ⊥) → AllNamed h → AllNamed (h ++ e ∷ [])
    same h e none gives so_far g i uses given k b at touched = go (given_before h g i uses e given)
      where
        go : ((own_part h g).given i ≡ Some uses) ⊎ Gives e g i uses → b.number ≤ number_of uses b.index
        go (inl old) = so_far g i uses old k b (subst (λ l. slice_get l k ≡ Some b) (pushed_same h e none) at) touched
        go (inr new) = absurd (gives g i uses new)

    step : (h : List BackEvent) (e : BackEvent) → IsRun h → MayHappen h e → AllNamed h → AllNamed (h ++ e ∷ [])
    step h (Created group id kind) run may so_far = same h (Created group id kind) refl (λ g i uses gives. gives) so_far
    step h (Wrote group id at bytes) run may so_far = same h (Wrote group id at bytes) refl (λ g i uses gives. gives) so_far
    step h (Enqueued c) run may so_far = λ g i uses given k b at touched. go g i uses (given_before h g i uses (Enqueued c) given) k b touched (get_then (pushed h) c k b (subst (λ l. slice_get l k ≡ Some b) (pushed_then h (Enqueued c)) at))
      where
        touch : (g i : ℕ) (uses : List QueueSerial) → (own_part h g).given i ≡ Some uses → g ≡ c.index / 8 → MayTouch (own_part h (c.index / 8)) c.index c.number i → c.number ≤ number_of uses c.index
        touch g i uses given own (inl held) = absurd (none-some uses (sym ((known h run (c.index / 8)).held_kept i held) ∙ subst (λ j. (own_part h j).given i ≡ Some uses) own given))
        touch g i uses given own (inr other) =
            let is : other.0 ≡ uses = same_Some other.0 uses (sym other.1 ∙ subst (λ j. (own_part h j).given i ≡ Some uses) own given) in
            let number : number_of other.0 c.index ≡ number_of uses c.index = ap (λ u. number_of u c.index) is in
            omega (arith, other.2, number)

        go : (g i : ℕ) (uses : List QueueSerial) → ((own_part h g).given i ≡ Some uses) ⊎ ⊥ → (k : ℕ) (b : Batch) → batch_touches b i ≡ true → (slice_get (pushed h) k ≡ Some b) ⊎ ((k ≡ length (pushed h)) × (b ≡ c)) → b.number ≤ number_of uses b.index
        go g i uses (inr none) k b touched at = absurd none
        go g i uses (inl given) k b touched (inl old) = so_far g i uses given k b old touched
        go g i uses (inl given) k b touched (inr new) =
            let touches : batch_touches c i ≡ true = subst (λ x. batch_touches x i ≡ true) new.1 touched in
            let may_touch : MayTouch (own_part h (c.index / 8)) c.index c.number i = may.1.touched i touches in
            let own : g ≡ c.index / 8 = one_group h run g (c.index / 8) i ((known h run g).given_made i uses given) (touch_made (creates (journal_of h)) (own_part h (c.index / 8)) (known h run (c.index / 8)) c.index c.number i may_touch) in
            subst (λ (x : Batch). x.number ≤ number_of uses x.index) (sym new.1) (touch g i uses given own may_touch)
    step h Submitted run may so_far = same h Submitted refl (λ g i uses gives. gives) so_far
    step h (Ran batch node) run may so_far = same h (Ran batch node) refl (λ g i uses gives. gives) so_far
    step h (Retired serial) run may so_far = same h (Retired serial) refl (λ g i uses gives. gives) so_far
    step h (Fetched group id at bytes) run may so_far = same h (Fetched group id at bytes) refl (λ g i uses gives. gives) so_far
    step h (Gave group id us) run may so_far = λ g i uses given k b at touched. go g i uses (given_before h g i uses (Gave group id us) given) k b (subst (λ l. slice_get l k ≡ Some b) (pushed_same h (Gave group id us) refl) at) touched
      where
        exact : (k : ℕ) (b : Batch) → slice_get (pushed h) k ≡ Some b → b.index / 8 ≡ group → batch_touches b id.0 ≡ true
            → (number_of us b.index ≡ last_use (own_part h group).mine b.index id.0) ⊎ (IsOfGroup (own_part h group).group b.index × (number_of us b.index ≡ next_number (own_part h group).mine b.index)) → b.number ≤ number_of us b.index
        exact k b at own touched (inl is) = omega (arith, is, use_counts h group k id.0 b at own touched)
        exact k b at own touched (inr is) = omega (arith, is.1, own_last_number h group b.index own, (numbered h run).below k b at)

        go : (g i : ℕ) (uses : List QueueSerial) → ((own_part h g).given i ≡ Some uses) ⊎ ((group ≡ g) × (i ≡ id.0) × (us ≡ uses)) → (k : ℕ) (b : Batch) → slice_get (pushed h) k ≡ Some b → batch_touches b i ≡ true → b.number ≤ number_of uses b.index
        go g i uses (inl old) k b at touched = so_far g i uses old k b at touched
        go g i uses (inr new) k b at touched =
            let touches : batch_touches b id.0 ≡ true = subst (λ j. batch_touches b j ≡ true) new.1 touched in
            let own : b.index / 8 ≡ group = one_group h run (b.index / 8) group id.0 (touches_own h run k id.0 b at touches) ((known h run group).held_made id.0 may.held) in
            subst (λ u. b.number ≤ number_of u b.index) new.2 (exact k b at own touches (may.exact b.index))
    step h (Abandoned group id) run may so_far = same h (Abandoned group id) refl (λ g i uses gives. gives) so_far
    step h (Cleaned read destroyed) run may so_far = same h (Cleaned read destroyed) refl (λ g i uses gives. gives) so_far
    step h Closing run may so_far = same h Closing refl (λ g i uses gives. gives) so_far
    step h (Stopped stop) run may so_far = same h (Stopped stop) refl (λ g i uses gives. gives) so_far
