-- A play with one line more.
use Rattle.std.proofs.Common.{◌≡◌, ℕ, ◌+◌, refl, sym, ap, ◌∙◌, subst, inl, inr, arith, length-set}
use Rattle.std.specs.Prelude.{◌⊎◌, ◌==◌, List, [], ◌∷◌, ◌++◌, length, map, set, take, slice_get, All, Contains, Some}
use Rattle.std.proofs.lemmas.Bool.{cases_eq, eq-eqb, ne_eqb}
use Rattle.std.proofs.lemmas.List.{map_push}
use Rattle.std.proofs.lemmas.List.Elements.{All-push}
use Rattle.std.proofs.lemmas.Option.{same_Some, slice_get_within}
use Rattle.gl_calls.specs.declared.reply.Entry.{Entry}
use Rattle.gl_model.specs.Legal.{IsLegal}
use Rattle.trace_text.specs.declared.trace.Line.{Line}
use Rattle.trace_text.specs.Reading.{Plan}
use Rattle.trace_text.specs.Orders.{IsTrace}
use Rattle.play_model.specs.Plays.{Play, Plays, HasPlayed, AreAnswered, IsBehind, StandBehind, members}
use Rattle.play_model.specs.Plays.{asked_by, asked_on, entries_of, entry_on}
use Rattle.play_model.proofs.Lists.{LastOrBefore, filter_more, filter_same, get_set_here, get_set_other, last_or_before, take_next}
use Rattle.play_model.proofs.Traces.{one_line, members_are}

-- a play, and one in which a thread has played a line more
module _ (threads : List Plan) (p q : Play) (thread : ℕ) (has : HasPlayed threads p) (plays : Plays threads p q thread) where
  -- the line that was played, where it stands, its thread's plan, its entry, and what its group had answered before

  abbrev line : Line
  line = plays.may.line

  abbrev place : ℕ
  place = plays.may.next.place

  abbrev plan : Plan
  plan = plays.may.next.is.plan

  abbrev e : Entry
  e = entry_on thread line plays.reply

  abbrev before : List Entry
  before = p.histories plan.group

  -- what holds of the other histories, and of this one with the entry, holds of all
  by_group : (P : ℕ → List Entry → Type 0) → ((g : ℕ) → P g (p.histories g)) → P plan.group (before ++ e ∷ []) →
      (g : ℕ) → P g (q.histories g)
  by_group P others here g = go (cases_eq g plan.group)
    where
      go : (g ≡ plan.group) ⊎ (g ≡ plan.group → ⊥) → P g (q.histories g)
      go (inl same) = subst (λ k. P k (q.histories k)) (sym same) (subst (P plan.group) (sym plays.history) here)
      go (inr other) = subst (P g) (sym (plays.others g other)) (others g)

  -- Each entry stands behind the one that its line waits for

  is_behind : IsTrace threads → IsBehind threads before e
  is_behind trace at number its is numbers after =
      let same : its ≡ line = one_line threads thread at place its line is plays.may.next.is trace numbers in
      plays.may.ready number (ap (λ (l : Line). l.after) (sym same) ∙ after)

  stand_behind : IsTrace threads → StandBehind threads (before ++ e ∷ [])
  stand_behind trace front rest x same = go (last_or_before before front rest e x same)
    where
      go : LastOrBefore before front e x → IsBehind threads front x
      go (inl last) =
          subst (λ h. IsBehind threads h x) (sym last.0) (subst (IsBehind threads before) (sym last.1) (is_behind trace))
      go (inr inner) = has.behind plan.group front inner.0 x inner.1

  -- The first lines of each thread were answered

  was_answered : AreAnswered threads p thread plan place
  was_answered = has.answered thread place plan plays.may.next.is.is_thread plays.may.next.at

  is_answered : AreAnswered threads q thread plan (place + 1)
  is_answered = record {
    few = omega (arith, slice_get_within plan.lines place line plays.may.next.is.is_line);
    in_order =
        ap (λ h. map asked_by (entries_of thread h)) plays.history
        ∙ ap (map asked_by) (filter_more (λ (x : Entry). x.thread == thread) before e (eq-eqb thread thread refl))
        ∙ map_push asked_by (entries_of thread before) e
        ∙ ap (λ l. l ++ asked_by e ∷ []) was_answered.in_order
        ∙ sym (map_push (asked_on thread) (take place plan.lines) line)
        ∙ ap (map (asked_on thread)) (sym (take_next plan.lines place line plays.may.next.is.is_line));
  }

  -- the entries of another thread stay
  others_stay : (t : ℕ) → (t ≡ thread → ⊥) → (g : ℕ) → entries_of t (q.histories g) ≡ entries_of t (p.histories g)
  others_stay t other = by_group (λ g h. entries_of t h ≡ entries_of t (p.histories g)) (λ g. refl)
      (filter_same (λ (x : Entry). x.thread == t) before e (ne_eqb thread t (λ same. other (sym same))))

  all_answered : (t count : ℕ) (its : Plan) → slice_get threads t ≡ Some its → slice_get q.done t ≡ Some count →
      AreAnswered threads q t its count
  all_answered t count its is at = go (cases_eq t thread)
    where
      done : List ℕ
      done = set p.done thread (place + 1)

      now : slice_get done t ≡ Some count
      now = subst (λ d. slice_get d t ≡ Some count) plays.done at

      go : (t ≡ thread) ⊎ (t ≡ thread → ⊥) → AreAnswered threads q t its count
      go (inl same) =
          let plans : plan ≡ its = same_Some plan its (sym plays.may.next.is.is_thread ∙ ap (slice_get threads) (sym same) ∙ is) in
          let here : slice_get done thread ≡ Some (place + 1) = get_set_here p.done thread place (place + 1) plays.may.next.at in
          let counts : place + 1 ≡ count = same_Some (place + 1) count (sym here ∙ ap (slice_get done) (sym same) ∙ now) in
          subst (λ k. AreAnswered threads q k its count) (sym same)
          (subst (λ x. AreAnswered threads q thread x count) plans (subst (AreAnswered threads q thread plan) counts is_answered))
      go (inr other) =
          let there : slice_get p.done t ≡ Some count = sym (get_set_other p.done thread t (place + 1) other) ∙ now in
          let was : AreAnswered threads p t its count = has.answered t count its is there in
          record { few = was.few; in_order = ap (map asked_by) (others_stay t other its.group) ∙ was.in_order }

  abbrev IsMember : ℕ → Entry → Type 0
  IsMember g x = Contains (members threads g) x.thread

  pub goes_on : IsTrace threads → HasPlayed threads q
  goes_on trace = record {
    legal = by_group (λ g h. IsLegal (members threads g) h) has.legal
        (subst (IsLegal (members threads plan.group)) plays.history plays.legal);
    own = by_group (λ g h. All (IsMember g) h) has.own
        (All-push (IsMember plan.group) before e (has.own plan.group) (members_are threads thread plan plays.may.next.is.is_thread));
    behind = by_group (λ g h. StandBehind threads h) has.behind (stand_behind trace);
    each = ap length plays.done ∙ length-set p.done thread (place + 1) ∙ has.each;
    answered = all_answered;
  }
