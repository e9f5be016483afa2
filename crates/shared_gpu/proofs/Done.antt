-- Passes between turns, and when the workers are done.
use Rattle.std.proofs.Common.{◌≡◌, ℕ, Bool, true, false, List, [], ◌∷◌, length, refl, sym, ap, ◌∙◌, arith}
use Rattle.std.specs.Prelude.{◌==◌, Option, Some, None, not, is_some}
use Rattle.std.proofs.lemmas.Bool.{false≢true, ne_eqb}
use Rattle.submit_queue.specs.Histories.{first_flushed}
use Rattle.back_core.specs.declared.back_event.BackEvent.{BackEvent}
use Rattle.back_core.specs.declared.ending.Ending.{Ending}
use Rattle.back_core.specs.declared.ending.Ending.TheVariants.{Closing}
use Rattle.back_core.specs.declared.ending.Left.{Left}
use Rattle.back_core.specs.Back.{ending_of}
use Rattle.back_core.specs.History.{queue_history}
use Rattle.back_core.specs.Run.{garbage_of}
use Rattle.turnstile.specs.Views.{PassModel}
use Rattle.shared_gpu.specs.declared.noted.Noted.{Noted}
use Rattle.shared_gpu.specs.Notes.{events_of}
use Rattle.shared_gpu.specs.Turns.{IsKept}
use Rattle.shared_gpu.specs.Workers.{IsWhatIsLeft, AllAreRetired, AllHaveRun, NoneWaits, IsDone}

-- Passes

pub kept_self : (p : PassModel Noted) → p.holds ≡ false → IsKept p p
kept_self p idle = record { name = refl; number = refl; made = refl; joined = refl; holds = idle }

pub kept_then : (p q r : PassModel Noted) → IsKept p q → IsKept q r → IsKept p r
kept_then p q r a b = record {
  name = b.name ∙ a.name;
  number = b.number ∙ a.number;
  made = b.made ∙ a.made;
  joined = b.joined ∙ a.joined;
  holds = b.holds;
}

-- a load of the count changes nothing else
pub kept_counted : (p q : PassModel Noted) → p.holds ≡ false → q ≡ record p { counted = q.counted } → IsKept p q
kept_counted p q idle is = record {
  name = ap (λ (x : PassModel Noted). x.name) is;
  number = ap (λ (x : PassModel Noted). x.number) is;
  made = ap (λ (x : PassModel Noted). x.made) is;
  joined = ap (λ (x : PassModel Noted). x.joined) is;
  holds = ap (λ (x : PassModel Noted). x.holds) is ∙ idle;
}

-- What is left

none_there : {A : Type 0} (o : Option A) → is_some o ≡ false → o ≡ None
none_there None is = refl
none_there (Some x) is = absurd (false≢true (sym is))

none_in : {A : Type 0} (xs : List A) → not (length xs == 0) ≡ false → xs ≡ []
none_in [] is = refl
none_in (x ∷ xs) is = absurd (false≢true (sym is ∙ ap not (ne_eqb (length (x ∷ xs)) 0 (λ e. absurd (omega (arith, e))))))

pub all_retired : (h : List BackEvent) (left : Left) → IsWhatIsLeft h left → left.batches ≡ false → AllAreRetired h
all_retired h left is none batch waits = false≢true (sym none ∙ is.batches.1 (batch, waits))

pub all_ran : (h : List BackEvent) (left : Left) → IsWhatIsLeft h left → left.flushed ≡ false → left.nodes ≡ false → AllHaveRun h
all_ran h left is none_flushed none_waits = record {
  none_flushed = none_there (first_flushed (queue_history h)) (sym is.flushed ∙ none_flushed);
  none_waits = λ batch item waits. false≢true (sym none_waits ∙ is.nodes.1 (batch, item, waits));
}

pub none_waits : (h : List BackEvent) (left : Left) → IsWhatIsLeft h left → left.garbage ≡ false → NoneWaits h
none_waits h left is none = none_in (garbage_of h) (sym is.garbage ∙ none)

-- a worker ends where it has seen that the back is closing, and nothing of its part is left
pub is_done : (AllDone : List BackEvent → Type 0) (seen : List Noted) (ending : Ending) → ending ≡ ending_of (events_of seen) → ending ≡ Closing → AllDone (events_of seen) → IsDone AllDone seen
is_done AllDone seen ending is closing all = record { closing = sym is ∙ closing; all = all }
