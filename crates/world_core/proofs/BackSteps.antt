-- What the steps of the back leave to the groups.
use Rattle.std.proofs.Common.{◌≡◌, ◌≢◌, ℕ, suc, ◌+◌, ◌≤◌, ◌==◌, Bool, true, false, cond, List, [], ◌∷◌, ◌++◌, Some, refl, sym, ap, ◌∙◌}
use Rattle.std.proofs.Common.{subst, arith}
use Rattle.std.specs.List.{All}
use Rattle.std.proofs.lemmas.List.{append-nil}
use Rattle.std.proofs.lemmas.List.Elements.{All-nil, All-push, All-weaker}
use Rattle.std.specs.Prelude.{Result, Err}
use Rattle.vk_types.specs.declared.stops.Stop.{Stop}
use Rattle.vk_types.specs.declared.stops.Stop.TheVariants.{Lost, Memory}
use Rattle.vk_types.specs.declared.batches.QueueSerial.{QueueSerial}
use Rattle.vk_device.specs.declared.logged.Turned.{Turned}
use Rattle.vk_device.specs.declared.logged.Turned.TheVariants as turned
use Rattle.back_core.specs.declared.back_event.BackEvent.{BackEvent}
use Rattle.back_core.specs.declared.back_event.BackEvent.TheVariants as event
use Rattle.back_core.specs.declared.ending.Step.{Step}
use Rattle.back_core.specs.declared.ending.Step.TheVariants as step
use Rattle.back_core.specs.Frame.{IsPartOf, GoesOn, IsGoing, host_bytes}
use Rattle.back_core.specs.Run.{IsProgress, journal_of}
use Rattle.back_core.specs.Back.{ending_of, is_stopped, stopped_by}
use Rattle.back_core.specs.Steps.{CleansWhole, HasGoneOn, HasStopped, Submits, Turns, RetiresOne, cleaned}
use Rattle.world_core.specs.Inside.{LeavesGroups, StaysWell}
use Rattle.world_core.proofs.Laws.{Apart, Outside, BatchesGoOn}

-- Batches that go on are a part of any group's history

progress_part : (g : ℕ) (e : BackEvent) → IsProgress e → IsPartOf g e
progress_part g (event.Created group id kind) bad = absurd bad
progress_part g (event.Wrote group id at bytes) bad = absurd bad
progress_part g (event.Enqueued batch) bad = absurd bad
progress_part g event.Submitted step = refl
progress_part g (event.Ran batch node) step = refl
progress_part g (event.Retired serial) step = refl
progress_part g (event.Fetched group id at bytes) bad = absurd bad
progress_part g (event.Gave group id uses) bad = absurd bad
progress_part g (event.Abandoned group id) bad = absurd bad
progress_part g (event.Cleaned read destroyed) bad = absurd bad
progress_part g event.Closing bad = absurd bad
progress_part g (event.Stopped s) bad = absurd bad

gone_on : (h k : List BackEvent) (g : ℕ) → HasGoneOn h k → GoesOn g (Some h) (Some k)
gone_on h k g gone = (gone.more, gone.is, All-weaker IsProgress (IsPartOf g) (progress_part g) gone.more gone.progress)

-- and so is a stop
stopped : (h : List BackEvent) (stop : Stop) (g : ℕ) → GoesOn g (Some h) (Some (stopped_by h stop))
stopped h stop g = by (is_stopped (ending_of h))
  where
    by : (b : Bool) → GoesOn g (Some h) (Some (cond b h (h ++ event.Stopped stop ∷ [])))
    by true = ([], sym (append-nil h), All-nil (IsPartOf g))
    by false = (event.Stopped stop ∷ [], refl, All-push (IsPartOf g) [] (event.Stopped stop) (All-nil (IsPartOf g)) refl)

-- What is left to the groups

pub leaves_same : (h : List BackEvent) → LeavesGroups h h
leaves_same h = record { own = λ g. refl; rises = λ index. omega arith }

pub leaves_then : (h i k : List BackEvent) → LeavesGroups h i → LeavesGroups i k → LeavesGroups h k
leaves_then h i k a b = record {
  own = λ g. b.own g ∙ a.own g;
  rises = λ index. let x = a.rises index in let y = b.rises index in omega arith;
}

leaves_each : Apart → (h k : List BackEvent) → ((a : ℕ) → GoesOn a (Some h) (Some k)) → LeavesGroups h k
leaves_each laws h k goes = record {
  own = λ g. laws.own h k (suc g) g (goes (suc g)) (λ e. absurd (omega (arith, e)));
  rises = laws.completed_rises h k 0 (goes 0);
}

pub leaves_batches : Apart → (h k : List BackEvent) → HasGoneOn h k → LeavesGroups h k
leaves_batches laws h k gone = leaves_each laws h k (λ g. gone_on h k g gone)

pub leaves_stop : Apart → (h k : List BackEvent) (stop : Stop) → k ≡ stopped_by h stop → LeavesGroups h k
leaves_stop laws h k stop is = subst (LeavesGroups h) (sym is) (leaves_each laws h (stopped_by h stop) (stopped h stop))

leaves_clean : Outside → (h : List BackEvent) (read : List ℕ) (count : ℕ) → LeavesGroups h (h ++ event.Cleaned read count ∷ [])
leaves_clean laws h read count = record {
  own = λ g. laws.others h g (event.Cleaned read count) refl;
  rises = laws.rises h (event.Cleaned read count);
}

pub leaves_cleaned : Outside → (h k : List BackEvent) (read : List ℕ) (count : ℕ) → k ≡ cleaned h read count → LeavesGroups h k
leaves_cleaned laws h k read count is = subst (LeavesGroups h) (sym is) (by (count == 0))
  where
    by : (b : Bool) → LeavesGroups h (cond b h (h ++ event.Cleaned read count ∷ []))
    by true = leaves_same h
    by false = leaves_clean laws h read count

-- a cleanup that was stopped
pub leaves_cut : Apart → Outside → (h k : List BackEvent) (read : List ℕ) (count : ℕ) (stop : Stop) →
    k ≡ stopped_by (h ++ event.Cleaned read count ∷ []) stop → LeavesGroups h k
leaves_cut apart laws h k read count stop is =
    leaves_then h (h ++ event.Cleaned read count ∷ []) k (leaves_clean laws h read count)
    (leaves_stop apart (h ++ event.Cleaned read count ∷ []) k stop is)

-- The batches went on

gone_same : (h k : List BackEvent) → k ≡ h → HasGoneOn h k
gone_same h k is = record { more = []; is = is ∙ sym (append-nil h); progress = All-nil IsProgress }

gone_by : (h k : List BackEvent) (e : BackEvent) → k ≡ h ++ e ∷ [] → IsProgress e → HasGoneOn h k
gone_by h k e is progress = record { more = e ∷ []; is = is; progress = All-push IsProgress [] e (All-nil IsProgress) progress }

pub submitted : (h k : List BackEvent) (s : Step) → Submits h k s → HasGoneOn h k
submitted h k step.Done did = gone_by h k event.Submitted did.0 tt
submitted h k step.Nothing did = gone_same h k did.0

pub has_turned : (h k : List BackEvent) (t : Turned) → Turns h k t → HasGoneOn h k
has_turned h k (turned.Ran batch node) did = gone_by h k (event.Ran batch node) did.0 tt
has_turned h k turned.Idle did = gone_same h k did.0

pub has_retired : (h k : List BackEvent) (serial : QueueSerial) → RetiresOne h k serial → HasGoneOn h k
has_retired h k serial did = gone_by h k (event.Retired serial) did.0 tt

pub well_batches : BatchesGoOn → (h k : List BackEvent) → HasGoneOn h k → StaysWell h k
well_batches laws h k gone = record { going = laws.going h k gone; whole = laws.whole h k gone; written = laws.write h k gone }

pub well_same : (h k : List BackEvent) → k ≡ h → StaysWell h k
well_same h k is = record {
  going = subst (λ (i : List BackEvent). IsGoing (Some i)) (sym is);
  whole = subst CleansWhole (sym is);
  written = ap (λ (i : List BackEvent). host_bytes (journal_of i)) is;
}

-- a cleanup destroyed all that its numbers covered
pub well_cleaned : ((h : List BackEvent) (read : List ℕ) (count : ℕ) → IsGoing (Some h) → IsGoing (Some (cleaned h read count))) →
    ((h : List BackEvent) (read : List ℕ) (count : ℕ) → host_bytes (journal_of (cleaned h read count)) ≡ host_bytes (journal_of h)) →
    (h k : List BackEvent) (read : List ℕ) (count : ℕ) → k ≡ cleaned h read count → (CleansWhole h → CleansWhole k) → StaysWell h k
well_cleaned going write h k read count is whole = record {
  going = λ on. subst (λ (i : List BackEvent). IsGoing (Some i)) (sym is) (going h read count on);
  whole = whole;
  written = ap (λ (i : List BackEvent). host_bytes (journal_of i)) is ∙ write h read count;
}

-- the batches went on until a stop came
pub leaves_halted : Apart → (h k : List BackEvent) (stop : Stop) → HasStopped h k stop → LeavesGroups h k
leaves_halted laws h k stop halted = leaves_then h halted.before k (leaves_batches laws h halted.before halted.gone_on)
    (leaves_stop laws halted.before k stop halted.is)

-- a stop that is no want of memory
pub is_lost : {A : Type 0} (r : Result A Stop) (stop : Stop) → r ≡ Err stop → r ≢ Err Memory → stop ≡ Lost
is_lost r Lost is ne = refl
is_lost r Memory is ne = absurd (ne is)
