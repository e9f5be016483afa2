-- A back that was not stopped is stopped by what it answers.
use Rattle.std.proofs.Common.{◌≡◌, ℕ, Bool, true, false, cond, List, [], ◌∷◌, ◌++◌, refl, sym, ap, ◌∙◌, inl, inr}
use Rattle.std.specs.Prelude.{◌⊎◌, Result, Ok, Err, IfErr}
use Rattle.std.proofs.lemmas.List.Sums.{fold-append}
use Rattle.vk_types.specs.declared.stops.Stop.{Stop}
use Rattle.back_core.specs.declared.back_event.BackEvent.{BackEvent}
use Rattle.back_core.specs.declared.back_event.BackEvent.TheVariants as event
use Rattle.back_core.specs.declared.ending.Ending.{Ending}
use Rattle.back_core.specs.declared.ending.Ending.TheVariants.{Running, Closing, Stopped}
use Rattle.back_core.specs.Back.{BackModel, ending_after, ending_of, is_stopped, stopped, stopped_by}
use Rattle.back_core.specs.Steps.{CleansSome}
use Rattle.vk_device.specs.declared.logged.Logged.{Logged}

pub ending_then : (h : List BackEvent) (e : BackEvent) → ending_of (h ++ e ∷ []) ≡ ending_after (ending_of h) e
unfolding ending_of
ending_then h e = fold-append ending_after Running h (e ∷ [])

pub stopped_now : (h : List BackEvent) (s : Stop) → is_stopped (ending_of h) ≡ false → ending_of (stopped_by h s) ≡ Stopped s
stopped_now h s runs = ap (λ b. ending_of (cond b h (h ++ event.Stopped s ∷ []))) runs ∙ (ending_then h (event.Stopped s) ∙ by_ending (ending_of h) runs)
  where
    by_ending : (e : Ending) → is_stopped e ≡ false → stopped e s ≡ Stopped s
    by_ending Running runs = refl
    by_ending Closing runs = refl
    by_ending (Stopped t) bad = absurd (cc (bad))

-- after a stop was answered the back is stopped, by that stop or by an earlier one
pub stopped_after : (h : List BackEvent) (s : Stop) → is_stopped (ending_of (stopped_by h s)) ≡ true
stopped_after h s = by_ending (is_stopped (ending_of h)) refl
  where
    by_ending : (b : Bool) → is_stopped (ending_of h) ≡ b → is_stopped (ending_of (stopped_by h s)) ≡ true
    by_ending true was = ap (λ b. is_stopped (ending_of (cond b h (h ++ event.Stopped s ∷ [])))) was ∙ was
    by_ending false runs = ap is_stopped (stopped_now h s runs)

pub first_stop : {T : Type 0} (h new : List BackEvent) (r : Result T Stop) → is_stopped (ending_of h) ≡ false → IfErr r (λ s. new ≡ stopped_by h s) → IfErr r (λ s. ending_of new ≡ Stopped s)
first_stop h new (Ok x) runs err = err
first_stop h new (Err s) runs err = ap ending_of err ∙ stopped_now h s runs

-- a cleanup leaves the ending until it is stopped
pub first_stop_cleaning : {D T : Type 0} (journal : D → List Logged) (old new : BackModel D) (read : List ℕ) (r : Result T Stop) → is_stopped (ending_of old.history) ≡ false
    → IfErr r (λ s. CleansSome journal old new read s) → IfErr r (λ s. ending_of new.history ≡ Stopped s)
first_stop_cleaning journal old new read (Ok x) runs err = err
first_stop_cleaning journal old new read (Err s) runs err =
    let cleaned = old.history ++ event.Cleaned read err.count ∷ [] in
    ap ending_of err.history ∙ stopped_now cleaned s (ap is_stopped (ending_then old.history (event.Cleaned read err.count)) ∙ runs)

-- the endings of a back that was not stopped
pub runs_on : (e : Ending) → (e ≡ Running) ⊎ (e ≡ Closing) → is_stopped e ≡ false
runs_on e (inl is) = ap is_stopped is
runs_on e (inr is) = ap is_stopped is
