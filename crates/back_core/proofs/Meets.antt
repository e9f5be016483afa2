-- What the calls on the device need, in each run.
use Rattle.std.proofs.Common.{◌≡◌, ℕ, ◌+◌, ◌<◌, ◌≤◌, true, false, List, ◌++◌, take, refl, sym, ap, ◌∙◌, subst, inl, inr, arith}
use Rattle.std.specs.Prelude.{◌/◌, ◌⊎◌, Some, None, Option, slice_get, Contains, IsSome}
use Rattle.std.proofs.lemmas.Bool.{false_from_ne_true}
use Rattle.std.proofs.lemmas.Option.{same_Some, none-some}
use Rattle.vk_types.specs.declared.handles.Kind.{Kind}
use Rattle.vk_types.specs.declared.handles.Kind.TheVariants.{Buffer, Image}
use Rattle.vk_types.specs.declared.batches.Batch.{Batch}
use Rattle.vk_types.specs.declared.batches.QueueSerial.{QueueSerial}
use Rattle.vk_model.specs.Fitting.{HasRange}
use Rattle.resource_use.specs.Uses.{number_of}
use Rattle.garbage.specs.declared.entry.Garbage.{Garbage}
use Rattle.garbage.specs.Collecting.{is_covered}
use Rattle.vk_device.specs.Journal.{kind_of, creates, ReachesTo}
use Rattle.vk_device.specs.Order.{log_of, FindItsLayouts}
use Rattle.submit_queue.specs.Histories as queue
use Rattle.back_core.specs.declared.back_event.BackEvent.{BackEvent}
use Rattle.back_core.specs.Own.{batch_touches}
use Rattle.back_core.specs.Needs.{IsFresh, HostMay, MayEnqueue, MayTouch}
use Rattle.back_core.specs.History.{queue_history, completed, link_of, own_part}
use Rattle.back_core.specs.Run.{garbage_of, covered_in, destroys, journal_of, WereRead, IsRun, IsAcceptable, IsLeftAlone}
use Rattle.back_core.proofs.Runs.{kept_on, run_parts}
use Rattle.back_core.proofs.Going.{next_in_all, numbered, completed_ran, completed_below}
use Rattle.back_core.proofs.Made.{none_or_some, IsKnown, touch_made}
use Rattle.back_core.proofs.Known.{known, one_group, touches_own}
use Rattle.back_core.proofs.Alone.{AllCompleted, left_alone}
use Rattle.back_core.proofs.Piles.{IsIn, in_at, in_contained, in_filter, apart_filter, away_before, covered_number}
use Rattle.back_core.proofs.Given.{given_stays, WasGiven, garbage_given, all_named}
use Rattle.back_core.proofs.Lives.{IsKept, HasItem, IsCompleted, all_gone, others_destroyed, all_live, completed_rises}
use Rattle.back_core.proofs.Fits.{batch_fits, all_fit}

-- the next object was never made
pub fresh : (h : List BackEvent) (g : ℕ) → IsRun h → IsFresh (link_of h g) (creates (journal_of h))
fresh h g run = record { not_made = not_made; not_held = not_held; not_given = not_given; untouched = is.untouched (creates (journal_of h)) not_made }
  where
    is : IsKnown (creates (journal_of h)) (own_part h g)
    is = known h run g

    never : (kind : Kind) → (own_part h g).kinds (creates (journal_of h)) ≡ Some kind → ⊥
    never kind at = omega (arith, (known h run g).low (creates (journal_of h)) kind at)

    not_made : (own_part h g).kinds (creates (journal_of h)) ≡ None
    not_made = go (none_or_some ((own_part h g).kinds (creates (journal_of h))))
      where
        go : ((own_part h g).kinds (creates (journal_of h)) ≡ None) ⊎ ((kind : Kind) × ((own_part h g).kinds (creates (journal_of h)) ≡ Some kind)) → (own_part h g).kinds (creates (journal_of h)) ≡ None
        go (inl none) = none
        go (inr some) = absurd (never some.0 some.1)

    not_held : (own_part h g).held (creates (journal_of h)) ≡ false
    not_held = false_from_ne_true ((own_part h g).held (creates (journal_of h))) (λ held. let made = (known h run g).held_made (creates (journal_of h)) held in never made.0 made.1)

    not_given : (own_part h g).given (creates (journal_of h)) ≡ None
    not_given = go (none_or_some ((own_part h g).given (creates (journal_of h))))
      where
        go : ((own_part h g).given (creates (journal_of h)) ≡ None) ⊎ ((uses : List QueueSerial) × ((own_part h g).given (creates (journal_of h)) ≡ Some uses)) → (own_part h g).given (creates (journal_of h)) ≡ None
        go (inl none) = none
        go (inr some) = let made = (known h run g).given_made (creates (journal_of h)) some.0 some.1 in absurd (never made.0 made.1)

-- a range of a buffer

range_reaches : (o : Option Kind) (at size : ℕ) → HasRange o at size → ReachesTo o (at + size)
range_reaches None at size has = absurd has
range_reaches (Some (Buffer len)) at size has = has.1
range_reaches (Some (Image format width height)) at size has = absurd has

pub inside : (h : List BackEvent) (g id at size : ℕ) → IsRun h → HostMay (link_of h g) id at size → ReachesTo (kind_of (journal_of h) id) (at + size)
inside h g id at size run may =
    let made = (known h run g).held_made id may.held in
    let live : kind_of (journal_of h) id ≡ Some made.0 = all_live h run g id made.0 made.1 (inl ((known h run g).held_kept id may.held)) in
    subst (λ o. ReachesTo o (at + size)) (made.1 ∙ sym live) (range_reaches ((own_part h g).kinds id) at size may.range)

-- a batch that was flushed

pub accepts : (h : List BackEvent) (b : Batch) → IsRun h → queue.first_flushed (queue_history h) ≡ Some b → FindItsLayouts (log_of (journal_of h)) b → IsAcceptable (journal_of h) b
accepts h b run first layouts = record {
  queue = (numbered h run).one_queue (queue.accepted (queue_history h)) b first;
  short = omega (arith, (numbered h run).few (queue.accepted (queue_history h)) b first);
  fits = batch_fits (own_part h (b.index / 8)).kinds (kind_of (journal_of h)) b same (all_fit h run (queue.accepted (queue_history h)) b first);
  layouts = layouts;
}
  where
    -- its objects were not destroyed, since it was not retired
    kept : (id : ℕ) → batch_touches b id ≡ true → IsKept h (b.index / 8) id
    kept id touched = go (none_or_some ((own_part h (b.index / 8)).given id))
      where
        gone : (uses : List QueueSerial) → (own_part h (b.index / 8)).given id ≡ Some uses → HasItem h id ⊎ IsCompleted h uses → IsKept h (b.index / 8) id
        gone uses given (inl has) = inr has
        gone uses given (inr done) =
            let named : b.number ≤ number_of uses b.index = all_named h run (b.index / 8) id uses given (queue.accepted (queue_history h)) b first touched in
            let low : b.index < 64 = (numbered h run).low (queue.accepted (queue_history h)) b first in
            let ran = completed_ran h run (queue.accepted (queue_history h)) b first (omega (arith, named, done b.index low)) in
            absurd (omega (arith, ran.accepted))

        go : ((own_part h (b.index / 8)).given id ≡ None) ⊎ ((uses : List QueueSerial) × ((own_part h (b.index / 8)).given id ≡ Some uses)) → IsKept h (b.index / 8) id
        go (inl none) = inl none
        go (inr some) = gone some.0 some.1 (all_gone h run (b.index / 8) id some.0 some.1)

    same : (id : ℕ) → batch_touches b id ≡ true → (own_part h (b.index / 8)).kinds id ≡ kind_of (journal_of h) id
    same id touched =
        let made = touches_own h run (queue.accepted (queue_history h)) id b first touched in
        made.1 ∙ sym (all_live h run (b.index / 8) id made.0 made.1 (kept id touched))

-- garbage that is covered

module _ (h : List BackEvent) (read : List ℕ) (run : IsRun h) (were : WereRead h read) where
  -- no batch of an index has a greater number than the completed one, by the uses of a covered entry
  covered_completed : (item : Garbage) → is_covered read item ≡ true → IsCompleted h item.uses
  covered_completed item covered j lt = omega (arith, covered_number read item.uses j covered, were j lt)

  all_completed : (item : Garbage) → IsIn item (covered_in h read) → AllCompleted h item.handle.0
  all_completed item is k b at touched =
      let there = in_filter (is_covered read) (garbage_of h) item is in
      let given : WasGiven h item = (garbage_given h run).given item there.0 in
      omega (arith, all_named h run given.0 item.handle.0 item.uses given.1 k b at touched, covered_completed item there.1 b.index ((numbered h run).low k b at))

  pub alone : (k : ℕ) (item : Garbage) → slice_get (covered_in h read) k ≡ Some item → IsLeftAlone h item.handle.0
  alone k item at = left_alone h item.handle.0 run (all_completed item (in_at (covered_in h read) k item at))

  pub still_live : (k : ℕ) (item : Garbage) → slice_get (covered_in h read) k ≡ Some item → IsSome (kind_of (journal_of h ++ destroys (take k (covered_in h read))) item.handle.0)
  still_live k item at =
      let there = in_filter (is_covered read) (garbage_of h) item (in_at (covered_in h read) k item at) in
      let given : WasGiven h item = (garbage_given h run).given item there.0 in
      let made = (known h run given.0).given_made item.handle.0 item.uses given.1 in
      let live : kind_of (journal_of h) item.handle.0 ≡ Some made.0 = all_live h run given.0 item.handle.0 made.0 made.1 (inr (item, there.0, refl)) in
      let same : kind_of (journal_of h ++ destroys (take k (covered_in h read))) item.handle.0 ≡ kind_of (journal_of h) item.handle.0
      = others_destroyed (take k (covered_in h read)) (journal_of h) item.handle.0 (away_before (covered_in h read) k item (apart_filter (is_covered read) (garbage_of h) (garbage_given h run).apart) at) in
      subst (λ (o : Option Kind). IsSome o) (sym (same ∙ live)) refl

-- later on
module _ (g i : ℕ) (uses : List QueueSerial) (n : ℕ) (j : ℕ) where
  -- the object stays given, and the completed number does not fall
  record StaysGone (h : List BackEvent) : Type 0 where
    given : (own_part h g).given i ≡ Some uses
    reached : n ≤ completed h j

  stays_gone : (h more : List BackEvent) → IsRun (h ++ more) → StaysGone h → StaysGone (h ++ more)
  stays_gone h more run gone =
      let parts = run_parts h more run in
      kept_on StaysGone (λ before e is may so_far. record { given = given_stays before g i uses is so_far.given e may; reached = omega (arith, so_far.reached, completed_rises before e j) }) h more parts.0 parts.1 gone

pub forgotten : (h more : List BackEvent) (read : List ℕ) (item : Garbage) (b : Batch) → IsRun (h ++ more) → WereRead h read → Contains (covered_in h read) item → b.index < 64 → MayEnqueue (link_of (h ++ more) (b.index / 8)) b → batch_touches b item.handle.0 ≡ false
forgotten h more read item b run were has low may = false_from_ne_true (batch_touches b item.handle.0) (λ touched. never (may.touched item.handle.0 touched))
  where
    before : IsRun h
    before = (run_parts h more run).0

    there : IsIn item (garbage_of h) × (is_covered read item ≡ true)
    there = in_filter (is_covered read) (garbage_of h) item (in_contained (covered_in h read) item has)

    given : WasGiven h item
    given = (garbage_given h before).given item there.0

    now : StaysGone given.0 item.handle.0 item.uses (number_of item.uses b.index) b.index (h ++ more)
    now = stays_gone given.0 item.handle.0 item.uses (number_of item.uses b.index) b.index h more run
        (record { given = given.1; reached = covered_completed h read before were item there.1 b.index low })

    here : MayTouch (own_part (h ++ more) (b.index / 8)) b.index b.number item.handle.0 → (own_part (h ++ more) (b.index / 8)).given item.handle.0 ≡ Some item.uses
    here touch =
        let own : given.0 ≡ b.index / 8 = one_group (h ++ more) run given.0 (b.index / 8) item.handle.0 ((known (h ++ more) run given.0).given_made item.handle.0 item.uses now.given)
        (touch_made (creates (journal_of (h ++ more))) (own_part (h ++ more) (b.index / 8)) (known (h ++ more) run (b.index / 8)) b.index b.number item.handle.0 touch) in
        subst (λ g. (own_part (h ++ more) g).given item.handle.0 ≡ Some item.uses) own now.given

    never_by : (own_part (h ++ more) (b.index / 8)).given item.handle.0 ≡ Some item.uses → MayTouch (own_part (h ++ more) (b.index / 8)) b.index b.number item.handle.0 → ⊥
    never_by is (inl held) = none-some item.uses (sym ((known (h ++ more) run (b.index / 8)).held_kept item.handle.0 held) ∙ is)
    never_by is (inr other) =
        let uses : other.0 ≡ item.uses = same_Some other.0 item.uses (sym other.1 ∙ is) in
        let number : number_of other.0 b.index ≡ number_of item.uses b.index = ap (λ u. number_of u b.index) uses in
        omega (arith, other.2, number, now.reached, completed_below (h ++ more) run b.index, next_in_all (h ++ more) b may)

    never : MayTouch (own_part (h ++ more) (b.index / 8)) b.index b.number item.handle.0 → ⊥
    never touch = never_by (here touch) touch
