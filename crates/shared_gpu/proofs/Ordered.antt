-- A shared back stays orderly: only the eight groups use it, and no cleanup is cut off unless the back is stopped.
use Rattle.std.proofs.Common.{◌≡◌, ℕ, ◌≤◌, ◌<◌, ◌==◌, Bool, true, false, cond, List, [], ◌∷◌, ◌++◌, refl, sym, ap, ◌∙◌, subst, arith}
use Rattle.std.specs.Prelude.{◌/◌, Result, Ok, Err, Option, Some, None, IfOk, IfErr, IfSome, IfNone, OnOk, OnErr}
use Rattle.std.proofs.lemmas.Bool.{false≢true, ne_eqb}
use Rattle.vk_types.specs.declared.stops.Stop.{Stop}
use Rattle.vk_types.specs.declared.batches.QueueSerial.{QueueSerial}
use Rattle.vk_device.specs.declared.logged.Logged.{Logged}
use Rattle.vk_device.specs.declared.logged.Turned.{Turned}
use Rattle.vk_device.specs.declared.logged.Turned.TheVariants as turned
use Rattle.back_core.specs.declared.back_event.BackEvent.{BackEvent}
use Rattle.back_core.specs.declared.back_event.BackEvent.TheVariants as event
use Rattle.back_core.specs.declared.ending.Ending.{Ending}
use Rattle.back_core.specs.declared.ending.Ending.TheVariants.{Running, Closing, Stopped}
use Rattle.back_core.specs.declared.ending.Step.{Step}
use Rattle.back_core.specs.declared.ending.Step.TheVariants as step
use Rattle.back_core.specs.History.{own_part, opening, is_own}
use Rattle.back_core.specs.Back.{BackModel, ending_of, ending_after, is_running, is_stopped, closed_by, stopped_by}
use Rattle.back_core.specs.Steps.{Submits, Turns, RetiresOne, CleansUp, CleansSome, IsWhole, CleansWhole}
use Rattle.back_core.proofs.Apart.{part_others}
use Rattle.shared_gpu.specs.Orderly.{IsOrderly}
use Rattle.shared_gpu.proofs.Endings.{ending_then, stopped_after}
use Rattle.shared_gpu.proofs.Lost.{stays_stopped}

-- no group but the eight made this event
abbrev pub IsOfFew : BackEvent → Type 0
IsOfFew e = (group : ℕ) → 8 ≤ group → is_own group e ≡ false

-- the law on cleanups, as the back tells it
abbrev pub GoesOnWhole : Type 0
GoesOnWhole = (h : List BackEvent) (e : BackEvent) → CleansWhole h → IsWhole h e → CleansWhole (h ++ e ∷ [])

-- a group of the eight
pub few : (g : ℕ) → g < 8 → (group : ℕ) → 8 ≤ group → (g == group) ≡ false
few g low group high = ne_eqb g group (λ e. absurd (omega (arith, low, high, e)))

running_then : (x : Ending) (e : BackEvent) → is_stopped (ending_after x e) ≡ false → is_stopped x ≡ false
running_then Running e is = refl
running_then Closing e is = refl
running_then (Stopped s) e is = absurd (false≢true (sym is ∙ ap is_stopped (stays_stopped s e)))

running_before : (h : List BackEvent) (e : BackEvent) → is_stopped (ending_of (h ++ e ∷ [])) ≡ false → is_stopped (ending_of h) ≡ false
running_before h e is = running_then (ending_of h) e (ap is_stopped (sym (ending_then h e)) ∙ is)

pub orderly_new : CleansWhole [] → IsOrderly []
orderly_new whole = record { no_others = λ group high. refl; whole = λ runs. whole }

module _ (h new : List BackEvent) (known : IsOrderly h) where
  pub orderly_same : new ≡ h → IsOrderly new
  orderly_same is = subst IsOrderly (sym is) known

  pub orderly_one : GoesOnWhole → (e : BackEvent) → IsOfFew e → IsWhole h e → new ≡ h ++ e ∷ [] → IsOrderly new
  orderly_one goes e of_few whole is = subst IsOrderly (sym is) (record {
    no_others = λ group high. part_others h group e (of_few group high) ∙ known.no_others group high;
    whole = λ runs. goes h e (known.whole (running_before h e runs)) whole;
  })

  pub orderly_stop : GoesOnWhole → (s : Stop) → new ≡ stopped_by h s → IsOrderly new
  orderly_stop goes s is = by_ending (is_stopped (ending_of h)) is
    where
      by_ending : (b : Bool) → new ≡ cond b h (h ++ event.Stopped s ∷ []) → IsOrderly new
      by_ending true same = orderly_same same
      by_ending false more = orderly_one goes (event.Stopped s) (λ group high. refl) tt more

  pub orderly_closed : GoesOnWhole → new ≡ closed_by h → IsOrderly new
  orderly_closed goes is = by_ending (is_running (ending_of h)) is
    where
      by_ending : (b : Bool) → new ≡ cond b (h ++ event.Closing ∷ []) h → IsOrderly new
      by_ending true more = orderly_one goes event.Closing (λ group high. refl) tt more
      by_ending false same = orderly_same same

  -- one event, or a stop
  pub orderly_reply : {T : Type 0} → GoesOnWhole → (r : Result T Stop) (e : T → BackEvent) → ((x : T) → IsOfFew (e x)) → ((x : T) → IsWhole h (e x)) → IfOk r (λ x. new ≡ h ++ e x ∷ []) → IfErr r (λ s. new ≡ stopped_by h s) → IsOrderly new
  orderly_reply goes (Ok x) e of_few whole ok err = orderly_one goes (e x) (of_few x) (whole x) ok
  orderly_reply goes (Err s) e of_few whole ok err = orderly_stop goes s err

  -- one event, or nothing
  pub orderly_batch : {A B : Type 0} → GoesOnWhole → (r : Result A B) (e : BackEvent) → IsOfFew e → IsWhole h e → OnOk r (new ≡ h ++ e ∷ []) → OnErr r (new ≡ h) → IsOrderly new
  orderly_batch goes (Ok x) e of_few whole ok err = orderly_one goes e of_few whole ok
  orderly_batch goes (Err b) e of_few whole ok err = orderly_same err

  pub orderly_submit : GoesOnWhole → (r : Result Step Stop) → IfOk r (λ x. Submits h new x) → IfErr r (λ s. new ≡ stopped_by h s) → IsOrderly new
  orderly_submit goes (Ok step.Done) ok err = orderly_one goes event.Submitted (λ group high. refl) tt ok.0
  orderly_submit goes (Ok step.Nothing) ok err = orderly_same ok.0
  orderly_submit goes (Err s) ok err = orderly_stop goes s err

  pub orderly_turn : GoesOnWhole → (r : Result Turned Stop) → IfOk r (λ x. Turns h new x) → IfErr r (λ s. new ≡ stopped_by h s) → IsOrderly new
  orderly_turn goes (Ok (turned.Ran batch node)) ok err = orderly_one goes (event.Ran batch node) (λ group high. refl) tt ok.0
  orderly_turn goes (Ok turned.Idle) ok err = orderly_same ok.0
  orderly_turn goes (Err s) ok err = orderly_stop goes s err

  orderly_cleaned : (read : List ℕ) (count : ℕ) (b : Bool) → new ≡ cond b h (h ++ event.Cleaned read count ∷ []) → (CleansWhole h → CleansWhole new) → IsOrderly new
  orderly_cleaned read count true same stays = orderly_same same
  orderly_cleaned read count false more stays =
      let e = event.Cleaned read count in
      record {
        no_others = λ group high. ap (λ l. own_part l group) more ∙ (part_others h group e refl ∙ known.no_others group high);
        whole = λ runs. stays (known.whole (running_before h e (ap (λ l. is_stopped (ending_of l)) (sym more) ∙ runs)));
      }

  -- a cleanup that was cut off
  orderly_cut : (read : List ℕ) (count : ℕ) (s : Stop) → new ≡ stopped_by (h ++ event.Cleaned read count ∷ []) s → IsOrderly new
  orderly_cut read count s is = record {
    no_others = λ group high. ap (λ l. own_part l group) is ∙ (part_stop group (is_stopped (ending_of cleaned)) ∙ (part_others h group e refl ∙ known.no_others group high));
    whole = λ runs. absurd (false≢true (sym runs ∙ (ap (λ l. is_stopped (ending_of l)) is ∙ stopped_after cleaned s)));
  }
    where
      e : BackEvent
      e = event.Cleaned read count

      cleaned : List BackEvent
      cleaned = h ++ e ∷ []

      part_stop : (group : ℕ) (b : Bool) → own_part (cond b cleaned (cleaned ++ event.Stopped s ∷ [])) group ≡ own_part cleaned group
      part_stop group true = refl
      part_stop group false = part_others cleaned group (event.Stopped s) refl

pub orderly_retire : {D : Type 0} (old new : BackModel D) → IsOrderly old.history → GoesOnWhole → (r : Option QueueSerial) → IfSome r (λ serial. RetiresOne old.history new.history serial) → IfNone r (new ≡ old) → IsOrderly new.history
orderly_retire old new known goes (Some serial) some none = orderly_one old.history new.history known goes (event.Retired serial) (λ group high. refl) tt some.0
orderly_retire old new known goes None some none = orderly_same old.history new.history known (ap (λ (b : BackModel _). b.history) none)

pub orderly_cleanup : {D : Type 0} (journal : D → List Logged) (old new : BackModel D) (read : List ℕ) → IsOrderly old.history → (r : Result ℕ Stop) → IfOk r (λ count. CleansUp journal old new read count) → IfErr r (λ s. CleansSome journal old new read s)
    → OnOk r (CleansWhole old.history → CleansWhole new.history) → IsOrderly new.history
orderly_cleanup journal old new read known (Ok count) ok err stays = orderly_cleaned old.history new.history known read count (count == 0) ok.history stays
orderly_cleanup journal old new read known (Err s) ok err stays = orderly_cut old.history new.history known read err.count s err.history
