-- Runs, one event at a time.
use Rattle.std.proofs.Common.{◌≡◌, List, [], ◌∷◌, ◌++◌, sym, ap, ◌∙◌, subst, refl}
use Rattle.std.proofs.lemmas.List.{append-nil, append_assoc}
use Rattle.std.proofs.lemmas.List.Sums.{fold_push}
use Rattle.back_core.specs.declared.back_event.BackEvent.{BackEvent}
use Rattle.back_core.specs.Run.{garbage_of, garbage_after, logged_by, journal_from, journal_of, MayHappen, MayHappenAll, IsRun}

-- What holds of the empty list, and of each list with one element more, holds of all.
grown : {X : Type 0} (P : List X → Type 0) → ((h : List X) (x : X) → P h → P (h ++ x ∷ [])) → (before more : List X) → P before → P (before ++ more)
grown P step before [] p = subst P (sym (append-nil before)) p
grown P step before (x ∷ xs) p = subst P (append_assoc before (x ∷ []) xs) (grown P step (before ++ x ∷ []) xs (step before x p))

pub at_each : {X : Type 0} (P : List X → Type 0) → P [] → ((h : List X) (x : X) → P h → P (h ++ x ∷ [])) → (h : List X) → P h
at_each P starts step h = grown P step [] h starts

-- Runs

follow_more : (before h : List BackEvent) (e : BackEvent) → MayHappenAll before h → MayHappen (before ++ h) e → MayHappenAll before (h ++ e ∷ [])
follow_more before [] e all next = (subst (λ l. MayHappen l e) (append-nil before) next, tt)
follow_more before (d ∷ h) e all next = (all.0, follow_more (before ++ d ∷ []) h e all.1 (subst (λ l. MayHappen l e) (sym (append_assoc before (d ∷ []) h)) next))

pub run_then : (h : List BackEvent) (e : BackEvent) → IsRun h → MayHappen h e → IsRun (h ++ e ∷ [])
unfolding IsRun
run_then h e run may = follow_more [] h e run may

divided : (before h more : List BackEvent) → MayHappenAll before (h ++ more) → MayHappenAll before h × MayHappenAll (before ++ h) more
divided before [] more all = (tt, subst (λ l. MayHappenAll l more) (sym (append-nil before)) all)
divided before (e ∷ h) more all =
    let rest : MayHappenAll (before ++ e ∷ []) h × MayHappenAll (before ++ e ∷ [] ++ h) more = divided (before ++ e ∷ []) h more all.1 in
    ((all.0, rest.0), subst (λ l. MayHappenAll l more) (append_assoc before (e ∷ []) h) rest.1)

-- the beginning of a run, and what comes after it
pub run_parts : (h more : List BackEvent) → IsRun (h ++ more) → IsRun h × MayHappenAll h more
unfolding IsRun
run_parts h more run = divided [] h more run

module _ (P : List BackEvent → Type 0) (step : (h : List BackEvent) (e : BackEvent) → IsRun h → MayHappen h e → P h → P (h ++ e ∷ [])) where
  -- what each event that may come next keeps
  pub kept_on : (h more : List BackEvent) → IsRun h → MayHappenAll h more → P h → P (h ++ more)
  kept_on h [] run all p = subst P (sym (append-nil h)) p
  kept_on h (e ∷ more) run all p = subst P (append_assoc h (e ∷ []) more) (kept_on (h ++ e ∷ []) more (run_then h e run all.0) all.1 (step h e run all.0 p))

pub run_nil : IsRun []
unfolding IsRun
run_nil = tt

all_of : (h : List BackEvent) → IsRun h → MayHappenAll [] h
unfolding IsRun
all_of h run = run

-- what holds at first and is kept by each event that may come next holds of each run
pub of_each_run : (P : List BackEvent → Type 0) → P [] → ((h : List BackEvent) (e : BackEvent) → IsRun h → MayHappen h e → P h → P (h ++ e ∷ [])) → (h : List BackEvent) → IsRun h → P h
of_each_run P starts step h run = kept_on P step [] h run_nil (all_of h run) starts

-- Journal and garbage

journal_more : (before h : List BackEvent) (e : BackEvent) → journal_from before (h ++ e ∷ []) ≡ journal_from before h ++ logged_by (before ++ h) e
journal_more before [] e = append-nil (logged_by before e) ∙ ap (λ b. logged_by b e) (sym (append-nil before))
journal_more before (d ∷ h) e =
    ap (λ o. logged_by before d ++ o) (journal_more (before ++ d ∷ []) h e)
    ∙ ap (λ b. logged_by before d ++ (journal_from (before ++ d ∷ []) h ++ logged_by b e)) (append_assoc before (d ∷ []) h)
    ∙ sym (append_assoc (logged_by before d) (journal_from (before ++ d ∷ []) h) (logged_by (before ++ d ∷ h) e))

pub journal_nil : journal_of [] ≡ []
unfolding journal_of
journal_nil = refl

pub journal_then : (h : List BackEvent) (e : BackEvent) → journal_of (h ++ e ∷ []) ≡ journal_of h ++ logged_by h e
unfolding journal_of
journal_then h e = journal_more [] h e

pub garbage_nil : garbage_of [] ≡ []
unfolding garbage_of
garbage_nil = refl

pub garbage_then : (h : List BackEvent) (e : BackEvent) → garbage_of (h ++ e ∷ []) ≡ garbage_after (garbage_of h) e
unfolding garbage_of
garbage_then h e = fold_push garbage_after [] h e
