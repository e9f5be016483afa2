-- A shared back is stopped by a loss only where its device's count of faults has risen.
use Rattle.std.proofs.Common.{◌≡◌, ℕ, ◌≤◌, false, List, [], ◌∷◌, ◌++◌, refl, sym, ap, ◌∙◌, subst, arith}
use Rattle.std.specs.Prelude.{Result, Ok, Err, Option, Some, None, IfOk, IfErr, IfSome, IfNone, OnOk, OnErr}
use Rattle.vk_types.specs.declared.stops.Stop.{Stop}
use Rattle.vk_types.specs.declared.stops.Stop.TheVariants.{Memory}
use Rattle.vk_types.specs.declared.batches.QueueSerial.{QueueSerial}
use Rattle.vk_device.specs.Faults.{HasCause}
use Rattle.vk_device.specs.declared.logged.Logged.{Logged}
use Rattle.vk_device.specs.declared.logged.Turned.{Turned}
use Rattle.vk_device.specs.declared.logged.Turned.TheVariants as turned
use Rattle.back_core.specs.declared.back_event.BackEvent.{BackEvent}
use Rattle.back_core.specs.declared.back_event.BackEvent.TheVariants as event
use Rattle.back_core.specs.declared.ending.Ending.TheVariants.{Running}
use Rattle.back_core.specs.declared.ending.Step.{Step}
use Rattle.back_core.specs.declared.ending.Step.TheVariants as step
use Rattle.back_core.specs.Back.{BackModel, ending_after, is_stopped, closed_by, stopped_by}
use Rattle.back_core.specs.Losses.{LossHasCause}
use Rattle.back_core.specs.Steps.{Submits, Turns, RetiresOne, CleansUp, CleansSome}
use Rattle.back_core.proofs.Losses.{loss_later, loss_then, loss_closes, loss_stops, loss_cleans}

-- an event that is no stop
abbrev pub IsNoStop : BackEvent → Type 0
IsNoStop e = is_stopped (ending_after Running e) ≡ false

module _ (o f f' : ℕ) (h new : List BackEvent) (known : LossHasCause o f h) where
  pub cause_same : f ≤ f' → new ≡ h → LossHasCause o f' new
  cause_same le is = subst (λ l. LossHasCause o f' l) (sym is) (loss_later o f f' h known le)

  pub cause_one : (e : BackEvent) → IsNoStop e → f ≤ f' → new ≡ h ++ e ∷ [] → LossHasCause o f' new
  cause_one e none le is = subst (λ l. LossHasCause o f' l) (sym is) (loss_then o f f' h e known le none)

  pub cause_closed : f ≤ f' → new ≡ closed_by h → LossHasCause o f' new
  cause_closed le is = subst (λ l. LossHasCause o f' l) (sym is) (loss_closes o f f' h known le)

  pub cause_memory : f ≤ f' → new ≡ stopped_by h Memory → LossHasCause o f' new
  cause_memory le is = subst (λ l. LossHasCause o f' l) (sym is) (loss_stops o f f' h Memory known le (λ bad. absurd (cc bad)))

  pub cause_stopped : {T : Type 0} (r : Result T Stop) (s : Stop) → r ≡ Err s → HasCause f f' r → new ≡ stopped_by h s → LossHasCause o f' new
  cause_stopped r s answer cause is = subst (λ l. LossHasCause o f' l) (sym is) (loss_stops o f f' h s known cause.later (λ lost. cause.lost (answer ∙ ap (λ x. Err x) lost)))

  -- one event, or a stop
  pub cause_reply : {T : Type 0} (r : Result T Stop) (e : T → BackEvent) → ((x : T) → IsNoStop (e x)) → HasCause f f' r → IfOk r (λ x. new ≡ h ++ e x ∷ []) → IfErr r (λ s. new ≡ stopped_by h s) → LossHasCause o f' new
  cause_reply (Ok x) e none cause ok err = cause_one (e x) (none x) cause.later ok
  cause_reply (Err s) e none cause ok err = cause_stopped (Err s) s refl cause err

  -- one event, or nothing
  pub cause_batch : {A B : Type 0} (r : Result A B) (e : BackEvent) → IsNoStop e → f ≤ f' → OnOk r (new ≡ h ++ e ∷ []) → OnErr r (new ≡ h) → LossHasCause o f' new
  cause_batch (Ok x) e none le ok err = cause_one e none le ok
  cause_batch (Err b) e none le ok err = cause_same le err

  pub cause_submit : (r : Result Step Stop) → HasCause f f' r → IfOk r (λ x. Submits h new x) → IfErr r (λ s. new ≡ stopped_by h s) → LossHasCause o f' new
  cause_submit (Ok step.Done) cause ok err = cause_one event.Submitted refl cause.later ok.0
  cause_submit (Ok step.Nothing) cause ok err = cause_same cause.later ok.0
  cause_submit (Err s) cause ok err = cause_stopped (Err s) s refl cause err

  pub cause_turn : (r : Result Turned Stop) → HasCause f f' r → IfOk r (λ x. Turns h new x) → IfErr r (λ s. new ≡ stopped_by h s) → LossHasCause o f' new
  cause_turn (Ok (turned.Ran batch node)) cause ok err = cause_one (event.Ran batch node) refl cause.later ok.0
  cause_turn (Ok turned.Idle) cause ok err = cause_same cause.later ok.0
  cause_turn (Err s) cause ok err = cause_stopped (Err s) s refl cause err

pub cause_retire : {D : Type 0} (o f f' : ℕ) (old new : BackModel D) (r : Option QueueSerial) → LossHasCause o f old.history → f ≤ f' → IfSome r (λ serial. RetiresOne old.history new.history serial) → IfNone r (new ≡ old) → LossHasCause o f' new.history
cause_retire o f f' old new (Some serial) known le some none = cause_one o f f' old.history new.history known (event.Retired serial) refl le some.0
cause_retire o f f' old new None known le some none = cause_same o f f' old.history new.history known le (ap (λ (b : BackModel _). b.history) none)

pub cause_cleanup : {D : Type 0} (journal : D → List Logged) (o f f' : ℕ) (old new : BackModel D) (read : List ℕ) (r : Result ℕ Stop) → LossHasCause o f old.history → HasCause f f' r
    → IfOk r (λ count. CleansUp journal old new read count) → IfErr r (λ s. CleansSome journal old new read s) → LossHasCause o f' new.history
cause_cleanup journal o f f' old new read (Ok count) known cause ok err = subst (λ l. LossHasCause o f' l) (sym ok.history) (loss_cleans o f f' old.history read count known cause.later)
cause_cleanup journal o f f' old new read (Err s) known cause ok err =
    let e = event.Cleaned read err.count in
    cause_stopped o f f' (old.history ++ e ∷ []) new.history (loss_then o f f old.history e known (omega arith) refl) (Err s) s refl cause err.history
