-- Each call of a group's link adds events in which the group has a part.
use Rattle.std.proofs.Common.{ℕ, Bool, true, false, cond, List, [], ◌∷◌, ◌++◌, refl, sym, subst}
use Rattle.std.specs.Prelude.{Some, Result, Ok, Err, IfErr, OnOk}
use Rattle.std.proofs.lemmas.List.{append-nil}
use Rattle.std.proofs.lemmas.List.Elements.{All-nil, All-cons, All-weaker}
use Rattle.vk_types.specs.declared.stops.Stop.{Stop}
use Rattle.back_core.specs.declared.back_event.BackEvent.{BackEvent}
use Rattle.back_core.specs.declared.back_event.BackEvent.TheVariants as event
use Rattle.back_core.specs.Frame.{IsPartOf, GoesOn}
use Rattle.back_core.specs.Run.{IsProgress}
use Rattle.back_core.specs.Steps.{HasGoneOn, HasStopped}
use Rattle.back_core.specs.Back.{is_stopped, ending_of, stopped_by}
use Rattle.back_core.proofs.Frames.{goes_on_then}

pub part_none : (h : List BackEvent) (g : ℕ) → GoesOn g (Some h) (Some h)
part_none h g = ([], sym (append-nil h), All-nil (IsPartOf g))

pub part_one : (h : List BackEvent) (g : ℕ) (e : BackEvent) → IsPartOf g e → GoesOn g (Some h) (Some (h ++ e ∷ []))
part_one h g e part = (e ∷ [], refl, All-cons (IsPartOf g) e [] part (All-nil (IsPartOf g)))

pub progress_inside : (g : ℕ) (e : BackEvent) → IsProgress e → IsPartOf g e
progress_inside g (event.Created group id kind) bad = absurd bad
progress_inside g (event.Wrote group id at bytes) bad = absurd bad
progress_inside g (event.Enqueued batch) bad = absurd bad
progress_inside g event.Submitted step = refl
progress_inside g (event.Ran batch node) step = refl
progress_inside g (event.Retired serial) step = refl
progress_inside g (event.Fetched group id at bytes) bad = absurd bad
progress_inside g (event.Gave group id uses) bad = absurd bad
progress_inside g (event.Abandoned group id) bad = absurd bad
progress_inside g (event.Cleaned read destroyed) bad = absurd bad
progress_inside g event.Closing bad = absurd bad
progress_inside g (event.Stopped s) bad = absurd bad

pub part_on : (h i : List BackEvent) (g : ℕ) → HasGoneOn h i → GoesOn g (Some h) (Some i)
part_on h i g gone = (gone.more, gone.is, All-weaker IsProgress (IsPartOf g) (progress_inside g) gone.more gone.progress)

pub part_stopped : (h : List BackEvent) (g : ℕ) (s : Stop) → GoesOn g (Some h) (Some (stopped_by h s))
part_stopped h g s = by_ending (is_stopped (ending_of h))
  where
    by_ending : (b : Bool) → GoesOn g (Some h) (Some (cond b h (h ++ event.Stopped s ∷ [])))
    by_ending true = part_none h g
    by_ending false = part_one h g (event.Stopped s) refl

pub part_ended : (h i : List BackEvent) (g : ℕ) (s : Stop) → HasStopped h i s → GoesOn g (Some h) (Some i)
part_ended h i g s has =
    goes_on_then g (Some h) (Some has.before) (Some i) (part_on h has.before g has.gone_on) (subst (λ l. GoesOn g (Some has.before) (Some l)) (sym has.is) (part_stopped has.before g s))

-- a wait adds steps of batches, and maybe a stop
pub part_waited : {A : Type 0} (r : Result A Stop) (h i : List BackEvent) (g : ℕ) → OnOk r (HasGoneOn h i) → IfErr r (λ s. HasStopped h i s) → GoesOn g (Some h) (Some i)
part_waited (Ok a) h i g on stopped = part_on h i g on
part_waited (Err s) h i g on stopped = part_ended h i g s stopped
