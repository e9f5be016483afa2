-- A thread whose next line is ready.
use Rattle.std.proofs.Common.{◌≡◌, ℕ, zero, suc, ◌<◌, ◌≤◌, sym, ap, ◌∙◌, subst, inl, inr, arith}
use Rattle.std.specs.Prelude.{◌⊎◌, ◌==◌, Bool, true, false, cond, List, [], ◌∷◌, length, map, take, slice_get, Some, None}
use Rattle.std.proofs.lemmas.Bool.{cases_lt, cases_order, eq-eqb, or_left, or_right}
use Rattle.std.proofs.lemmas.Option.{same_Some, none-some, slice_get_within}
use Rattle.gl_calls.specs.declared.reply.Entry.{Entry}
use Rattle.trace_text.specs.declared.trace.Line.{Line}
use Rattle.trace_text.specs.Reading.{Plan}
use Rattle.trace_text.specs.Orders.{IsLineOf, HasLine, IsTrace}
use Rattle.play_model.specs.Plays.{Play, HasPlayed, AreAnswered, IsNext, IsLeast, MayPlay, HasLineLeft, SomeMayPlay}
use Rattle.play_model.specs.Plays.{Asked, asked_by, asked_on, entries_of, is_answered}
use Rattle.play_model.proofs.Lists.{none_or_some, some_at, get_map, get_taken}
use Rattle.play_model.proofs.Traces.{no_less, one_next}

-- What was answered stands in the history

-- a line that an entry of the thread has asked was answered
found : (t : ℕ) (history : List Entry) (k : ℕ) (asked : Asked) → slice_get (map asked_by (entries_of t history)) k ≡ Some asked →
    is_answered history asked.line ≡ true
found t [] k asked at = absurd (none-some asked at)
found t (e ∷ history) k asked at = go (λ j. found t history j asked) (e.thread == t) k at
  where
    others : List Entry
    others = entries_of t history

    IsThere : Type 0
    IsThere = is_answered (e ∷ history) asked.line ≡ true

    -- it is the first entry, or one of the others
    first : asked_by e ≡ asked → IsThere
    first same =
        or_left (e.line == asked.line) (is_answered history asked.line)
        (eq-eqb e.line asked.line (ap (λ (a : Asked). a.line) same))

    later : is_answered history asked.line ≡ true → IsThere
    later there = or_right (e.line == asked.line) (is_answered history asked.line) there

    go : ((j : ℕ) → slice_get (map asked_by others) j ≡ Some asked → is_answered history asked.line ≡ true) →
        (b : Bool) (j : ℕ) → slice_get (map asked_by (cond b (e ∷ others) others)) j ≡ Some asked → IsThere
    go among false j at = later (among j at)
    go among true zero at = first (same_Some (asked_by e) asked at)
    go among true (suc j) at = later (among j at)

-- The line of least number is ready

module _ (threads : List Plan) (p : Play) (trace : IsTrace threads) (has : HasPlayed threads p) where
  -- a line of a smaller number was answered, since else it stands no earlier than the next one of its thread
  answered_before : (thread : ℕ) (line : Line) → IsLeast threads p.done thread line → (group number : ℕ) →
      number < line.number → HasLine threads group number → is_answered (p.histories group) number ≡ true
  answered_before thread line least group number early its = go (cases_lt its.place count.0)
    where
      plan : Plan
      plan = its.is.plan

      count : (n : ℕ) × (slice_get p.done its.thread ≡ Some n)
      count = some_at p.done its.thread (omega (arith, has.each, slice_get_within threads its.thread plan its.is.is_thread))

      answered : AreAnswered threads p its.thread plan count.0
      answered = has.answered its.thread count.0 plan its.is.is_thread count.1

      go : (its.place < count.0) ⊎ (count.0 ≤ its.place) → is_answered (p.histories group) number ≡ true
      go (inl lt) =
          let asked : Asked = asked_on its.thread its.line in
          let at : slice_get (map (asked_on its.thread) (take count.0 plan.lines)) its.place ≡ Some asked
          = get_map (asked_on its.thread) (take count.0 plan.lines) its.place its.line
          (get_taken plan.lines count.0 its.place its.line lt its.is.is_line) in
          let there : is_answered (p.histories plan.group) its.line.number ≡ true
          = found its.thread (p.histories plan.group) its.place asked (ap (λ l. slice_get l its.place) answered.in_order ∙ at) in
          subst (λ g. is_answered (p.histories g) number ≡ true) its.of_group
          (subst (λ n. is_answered (p.histories plan.group) n ≡ true) its.numbered there)
      go (inr le) =
          let next = some_at plan.lines count.0 (omega (arith, le, slice_get_within plan.lines its.place its.line its.is.is_line)) in
          let is : IsLineOf threads its.thread count.0 next.0
          = record { plan = plan; is_thread = its.is.is_thread; is_line = next.1 } in
          absurd (omega (
            arith,
            early,
            its.numbered,
            least.least its.thread next.0 (record { place = count.0; at = count.1; is = is }),
            no_less threads its.thread count.0 its.place next.0 its.line is its.is trace le,
          ))

  pub least_ready : (thread : ℕ) (line : Line) → IsLeast threads p.done thread line → MayPlay threads p thread
  least_ready thread line least = record {
    line = line;
    next = least.next;
    ready = λ number after.
        let its = trace.waits thread least.next.place number line least.next.is after in
        answered_before thread line least least.next.is.plan.group number its.0 its.1;
  }

-- There is a line of least number

-- the next line of a thread, and no next line of one of the first threads has a smaller number
record LeastBelow (threads : List Plan) (done : List ℕ) (bound : ℕ) : Type 0 where
  thread : ℕ
  line : Line
  next : IsNext threads done thread line
  least : (other : ℕ) (its : Line) → IsNext threads done other its → other < bound → line.number ≤ its.number

module _ (threads : List Plan) (done : List ℕ) where
  abbrev HasNext : ℕ → Type 0
  HasNext thread = (line : Line) × IsNext threads done thread line

  abbrev HasNone : ℕ → Type 0
  HasNone thread = (line : Line) → IsNext threads done thread line → ⊥

  abbrev NoneBelow : ℕ → Type 0
  NoneBelow bound = (thread : ℕ) (line : Line) → IsNext threads done thread line → thread < bound → ⊥

  -- a thread has a next line or none
  next_or_none : (thread : ℕ) → HasNext thread ⊎ HasNone thread
  next_or_none thread = by_count (none_or_some (slice_get done thread))
    where
      by_line : (count : ℕ) → slice_get done thread ≡ Some count → (plan : Plan) → slice_get threads thread ≡ Some plan →
          (slice_get plan.lines count ≡ None) ⊎ ((line : Line) × (slice_get plan.lines count ≡ Some line)) →
          HasNext thread ⊎ HasNone thread
      by_line count at plan is (inr some) =
          let here : IsLineOf threads thread count some.0 = record { plan = plan; is_thread = is; is_line = some.1 } in
          inl (some.0, record { place = count; at = at; is = here })
      by_line count at plan is (inl none) = inr (λ line next.
          let counts : count ≡ next.place = same_Some count next.place (sym at ∙ next.at) in
          let plans : plan ≡ next.is.plan = same_Some plan next.is.plan (sym is ∙ next.is.is_thread) in
          let there : slice_get plan.lines count ≡ Some line
          = ap (slice_get plan.lines) counts ∙ ap (λ (x : Plan). slice_get x.lines next.place) plans ∙ next.is.is_line in
          none-some line (sym none ∙ there))

      by_plan : (count : ℕ) → slice_get done thread ≡ Some count →
          (slice_get threads thread ≡ None) ⊎ ((plan : Plan) × (slice_get threads thread ≡ Some plan)) →
          HasNext thread ⊎ HasNone thread
      by_plan count at (inl none) = inr (λ line next. none-some next.is.plan (sym none ∙ next.is.is_thread))
      by_plan count at (inr some) = by_line count at some.0 some.1 (none_or_some (slice_get some.0.lines count))

      by_count : (slice_get done thread ≡ None) ⊎ ((count : ℕ) × (slice_get done thread ≡ Some count)) →
          HasNext thread ⊎ HasNone thread
      by_count (inl none) = inr (λ line next. none-some next.place (sym none ∙ next.at))
      by_count (inr some) = by_plan some.0 some.1 (none_or_some (slice_get threads thread))

  -- what holds of the next lines below a bound, and of that at the bound, holds of those up to it
  up_to : (P : Line → Type 0) (bound : ℕ) →
      ((other : ℕ) (its : Line) → IsNext threads done other its → other < bound → P its) →
      ((its : Line) → IsNext threads done bound its → P its) →
      (other : ℕ) (its : Line) → IsNext threads done other its → other < suc bound → P its
  up_to P bound below here other its next lt = go (cases_order other bound)
    where
      go : (other ≡ bound) ⊎ ((other < bound) ⊎ (bound < other)) → P its
      go (inl same) = here its (subst (λ t. IsNext threads done t its) same next)
      go (inr (inl less)) = below other its next less
      go (inr (inr more)) = absurd (omega (arith, lt, more))

  same_number : (thread : ℕ) (a : Line) → IsNext threads done thread a → (b : Line) → IsNext threads done thread b →
      a.number ≤ b.number
  same_number thread a one b two = omega (arith, ap (λ (l : Line). l.number) (one_next threads done thread a b one two))

  -- the better of the best one below a bound and of the one at the bound
  better : (bound : ℕ) → LeastBelow threads done bound → HasNext bound → LeastBelow threads done (suc bound)
  better bound best here = go (cases_lt here.0.number best.line.number)
    where
      go : (here.0.number < best.line.number) ⊎ (best.line.number ≤ here.0.number) → LeastBelow threads done (suc bound)
      go (inl less) = record {
        thread = bound;
        line = here.0;
        next = here.1;
        least = up_to (λ l. here.0.number ≤ l.number) bound
            (λ other its next lt. omega (arith, less, best.least other its next lt)) (same_number bound here.0 here.1);
      }
      go (inr le) = record {
        thread = best.thread;
        line = best.line;
        next = best.next;
        least = up_to (λ l. best.line.number ≤ l.number) bound best.least
            (λ its next. omega (arith, le, same_number bound here.0 here.1 its next));
      }

  least_below : (bound : ℕ) → LeastBelow threads done bound ⊎ NoneBelow bound
  least_below zero = inr (λ thread line next lt. absurd (omega (arith, lt)))
  least_below (suc bound) = go (least_below bound) (next_or_none bound)
    where
      go : LeastBelow threads done bound ⊎ NoneBelow bound → HasNext bound ⊎ HasNone bound →
          LeastBelow threads done (suc bound) ⊎ NoneBelow (suc bound)
      go (inr none) (inr last) = inr (up_to (λ l. ⊥) bound none last)
      go (inr none) (inl here) = inl (record {
        thread = bound;
        line = here.0;
        next = here.1;
        least = up_to (λ l. here.0.number ≤ l.number) bound
            (λ other its next lt. absurd (none other its next lt)) (same_number bound here.0 here.1);
      })
      go (inl best) (inr last) = inl (record {
        thread = best.thread;
        line = best.line;
        next = best.next;
        least = up_to (λ l. best.line.number ≤ l.number) bound best.least (λ its next. absurd (last its next));
      })
      go (inl best) (inl here) = inl (better bound best here)

pub some_ready : (threads : List Plan) (p : Play) → IsTrace threads → HasPlayed threads p → HasLineLeft threads p.done →
    SomeMayPlay threads p
some_ready threads p trace has left = go (least_below threads p.done (length threads))
  where
    within : (thread : ℕ) (line : Line) → IsNext threads p.done thread line → thread < length threads
    within thread line next = slice_get_within threads thread next.is.plan next.is.is_thread

    go : LeastBelow threads p.done (length threads) ⊎ NoneBelow threads p.done (length threads) → SomeMayPlay threads p
    go (inl best) = record {
      thread = best.thread;
      may = least_ready threads p trace has best.thread best.line
          (record { next = best.next; least = λ other its next. best.least other its next (within other its next) });
    }
    go (inr none) = absurd (none left.thread left.line left.next (within left.thread left.line left.next))
