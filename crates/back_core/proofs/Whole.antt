-- Runs in which no cleanup was stopped, and runs of one group.
use Rattle.std.proofs.Common.{◌≡◌, ◌≢◌, ℕ, zero, suc, ◌≤◌, ◌==◌, Bool, true, false, cond, List, [], ◌∷◌, ◌++◌, length, sym, ap, ◌∙◌, subst, inl, inr, arith}
use Rattle.std.specs.Prelude.{◌⊎◌, All, Some, IsSome}
use Rattle.std.proofs.lemmas.Bool.{cases_eq, cond-false, ne_eqb, false≢true}
use Rattle.std.proofs.lemmas.List.{append-nil, append_assoc}
use Rattle.std.proofs.lemmas.List.Elements.{All-head, All-tail}
use Rattle.std.proofs.lemmas.Option.{none-some}
use Rattle.vk_types.specs.declared.stops.Stop.{Stop}
use Rattle.back_core.specs.declared.back_event.BackEvent.{BackEvent}
use Rattle.back_core.specs.declared.back_event.BackEvent.TheVariants.{Created, Wrote, Enqueued, Submitted, Ran, Retired, Fetched, Gave, Abandoned, Cleaned, Closing, Stopped}
use Rattle.back_core.specs.Link.{Link}
use Rattle.back_core.specs.History.{own_part, opening, completed}
use Rattle.back_core.specs.Frame.{IsPartOf, GoesOn}
use Rattle.back_core.specs.Run.{covered_in}
use Rattle.back_core.specs.Back.{is_running, ending_of, closed_by, stopped_by}
use Rattle.back_core.specs.Steps.{IsWhole, AreWhole, CleansWhole, IsAllGiven, HasGoneOn, cleaned}
use Rattle.back_core.proofs.Outside.{part_on, part_stopped}
use Rattle.back_core.proofs.Apart.{parts_of_one}

whole_more : (before h : List BackEvent) (e : BackEvent) → AreWhole before h → IsWhole (before ++ h) e → AreWhole before (h ++ e ∷ [])
whole_more before [] e all next = (subst (λ l. IsWhole l e) (append-nil before) next, tt)
whole_more before (d ∷ h) e all next = (all.0, whole_more (before ++ d ∷ []) h e all.1 (subst (λ l. IsWhole l e) (sym (append_assoc before (d ∷ []) h)) next))

whole_less : (before h : List BackEvent) (e : BackEvent) → AreWhole before (h ++ e ∷ []) → AreWhole before h × IsWhole (before ++ h) e
whole_less before [] e all = (tt, subst (λ l. IsWhole l e) (sym (append-nil before)) all.0)
whole_less before (d ∷ h) e all =
    let rest : AreWhole (before ++ d ∷ []) h × IsWhole (before ++ d ∷ [] ++ h) e = whole_less (before ++ d ∷ []) h e all.1 in
    ((all.0, rest.0), subst (λ l. IsWhole l e) (append_assoc before (d ∷ []) h) rest.1)

pub whole_nil : CleansWhole []
unfolding CleansWhole
whole_nil = tt

pub whole_then : (h : List BackEvent) (e : BackEvent) → CleansWhole h → IsWhole h e → CleansWhole (h ++ e ∷ [])
unfolding CleansWhole
whole_then h e all next = whole_more [] h e all next

pub whole_before : (h : List BackEvent) (e : BackEvent) → CleansWhole (h ++ e ∷ []) → CleansWhole h × IsWhole h e
unfolding CleansWhole
whole_before h e all = whole_less [] h e all

pub whole_cleaned : (h : List BackEvent) (read : List ℕ) (count : ℕ) → CleansWhole h → count ≡ length (covered_in h read) → CleansWhole (cleaned h read count)
whole_cleaned h read zero all is = all
whole_cleaned h read (suc count) all is =
    subst CleansWhole (sym (cond-false (suc count == 0) h (h ++ Cleaned read (suc count) ∷ []) (ne_eqb (suc count) 0 (λ e. absurd (omega (arith, e)))))) (whole_then h (Cleaned read (suc count)) all is)

part_whole : (g : ℕ) (h : List BackEvent) (e : BackEvent) → IsPartOf g e → IsWhole h e
part_whole g h (Created group id kind) part = tt
part_whole g h (Wrote group id at bytes) part = tt
part_whole g h (Enqueued batch) part = tt
part_whole g h Submitted part = tt
part_whole g h (Ran batch node) part = tt
part_whole g h (Retired serial) part = tt
part_whole g h (Fetched group id at bytes) part = tt
part_whole g h (Gave group id uses) part = tt
part_whole g h (Abandoned group id) part = tt
part_whole g h (Cleaned read destroyed) part = absurd (false≢true (sym part))
part_whole g h Closing part = tt
part_whole g h (Stopped stop) part = tt

whole_parts : (g : ℕ) (h more : List BackEvent) → All (IsPartOf g) more → CleansWhole h → CleansWhole (h ++ more)
whole_parts g h [] all whole = subst CleansWhole (sym (append-nil h)) whole
whole_parts g h (e ∷ more) all whole =
    subst CleansWhole (append_assoc h (e ∷ []) more)
    (whole_parts g (h ++ e ∷ []) more (All-tail (IsPartOf g) e more all) (whole_then h e whole (part_whole g h e (All-head (IsPartOf g) e more all))))

pub whole_calls : (h k : List BackEvent) (g : ℕ) → GoesOn g (Some h) (Some k) → CleansWhole h → CleansWhole k
whole_calls h k g on whole = subst CleansWhole (sym on.1) (whole_parts g h on.0 on.2 whole)

pub whole_on : (h k : List BackEvent) → HasGoneOn h k → CleansWhole h → CleansWhole k
whole_on h k on whole = whole_calls h k 0 (part_on h k 0 on) whole

pub whole_closed : (h : List BackEvent) → CleansWhole h → CleansWhole (closed_by h)
whole_closed h whole = by_ending (is_running (ending_of h))
  where
    by_ending : (b : Bool) → CleansWhole (cond b (h ++ Closing ∷ []) h)
    by_ending true = whole_then h Closing whole tt
    by_ending false = whole

pub whole_stopped : (h : List BackEvent) (stop : Stop) → CleansWhole h → CleansWhole (stopped_by h stop)
whole_stopped h stop whole = whole_calls h (stopped_by h stop) 0 (part_stopped h 0 stop) whole

-- One group

pub whole_of_one : (h : List BackEvent) (g : ℕ) → All (IsPartOf g) h → CleansWhole h
whole_of_one h g all = whole_parts g [] h all whole_nil

pub given_stays : (h k : List BackEvent) (g : ℕ) → own_part k g ≡ own_part h g → ((index : ℕ) → completed h index ≤ completed k index) → IsAllGiven h g → IsAllGiven k g
given_stays h k g same rises all = record {
  given = subst (λ (l : Link). (id : ℕ) → IsSome (l.kinds id) → IsSome (l.given id)) (sym same) all.given;
  reached = λ id uses is index. omega (arith, rises index, all.reached id uses (subst (λ (l : Link). l.given id ≡ Some uses) same is) index);
}

pub given_of_one : (h : List BackEvent) (g : ℕ) → All (IsPartOf g) h → IsAllGiven h g → (b : ℕ) → IsAllGiven h b
given_of_one h g parts all b = go (cases_eq g b)
  where
    nothing : g ≢ b → own_part h b ≡ opening b
    nothing other = parts_of_one [] h g b other parts

    go : (g ≡ b) ⊎ (g ≡ b → ⊥) → IsAllGiven h b
    go (inl same) = subst (IsAllGiven h) same all
    go (inr other) = record {
      given = λ id made. absurd (false≢true (subst (λ (l : Link). IsSome (l.kinds id)) (nothing other) made));
      reached = λ id uses is. absurd (none-some uses (ap (λ (l : Link). l.given id) (sym (nothing other)) ∙ is));
    }
