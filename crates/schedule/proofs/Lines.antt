-- How many lines are left.
use Rattle.std.proofs.Common.{◌≡◌, ℕ, zero, suc, ◌+◌, ◌-◌, ◌<◌, ◌≤◌, false, refl, sym, ap, ◌∙◌, inl, inr, arith, length-append}
use Rattle.std.specs.Prelude.{◌⊎◌, List, [], ◌∷◌, length, get_or, set, slice_get, Option, Some, None}
use Rattle.std.specs.List.{sum_by}
use Rattle.std.specs.Option.{option_map_or}
use Rattle.std.proofs.lemmas.Bool.{cases_lt}
use Rattle.std.proofs.lemmas.List.Sums.{sum-map, sum_by-cons}
use Rattle.std.proofs.lemmas.Option.{same_Some, none-some, slice_get_within}
use Rattle.trace_text.specs.declared.trace.Line.{Line}
use Rattle.trace_text.specs.Reading.{Plan}
use Rattle.trace_text.specs.Orders.{IsTrace}
use Rattle.play_model.specs.Plays.{Play, HasPlayed, HasEnded, HasLineLeft, SomeMayPlay, none_done}
use Rattle.schedule.specs.Moves.{may_follow, ready_from, ready_threads, line_count}
use Rattle.schedule.proofs.Members.{put_if}
use Rattle.schedule.proofs.Ready.{some_at, counted, ready_to, look_rest}

-- the lines that were not answered
abbrev pub lines_left : List Plan → List ℕ → ℕ
lines_left [] done = 0
lines_left (plan ∷ plans) [] = 0
lines_left (plan ∷ plans) (count ∷ counts) = (length plan.lines - count) + lines_left plans counts

left_by : (threads : List Plan) → lines_left threads (none_done threads) ≡ sum_by (λ plan. length plan.lines) threads
left_by [] = refl
left_by (p ∷ threads) =
    let more = sum_by-cons (λ (plan : Plan). length plan.lines) p threads in
    omega (arith, more, left_by threads)

-- before the first line all are left
pub all_left : (threads : List Plan) → lines_left threads (none_done threads) ≡ line_count threads
all_left threads = left_by threads ∙ sym (sum-map (λ (plan : Plan). length plan.lines) threads)

-- a line of one thread more
pub one_less : (plans : List Plan) (counts : List ℕ) (thread : ℕ) (plan : Plan) (count : ℕ) → slice_get plans thread ≡ Some plan →
    slice_get counts thread ≡ Some count → count < length plan.lines →
    lines_left plans (set counts thread (count + 1)) + 1 ≡ lines_left plans counts
one_less [] counts thread plan count is at lt = absurd (none-some plan is)
one_less (p ∷ plans) [] thread plan count is at lt = absurd (none-some count at)
one_less (p ∷ plans) (c ∷ counts) zero plan count is at lt =
    let counts_are : c ≡ count = same_Some c count at in
    let longs : length p.lines ≡ length plan.lines = ap (λ (q : Plan). length q.lines) (same_Some p plan is) in
    omega (arith, counts_are, longs, lt)
one_less (p ∷ plans) (c ∷ counts) (suc thread) plan count is at lt = omega (arith, one_less plans counts thread plan count is at lt)

-- a thread with a line that is left
pub record IsLeft (plans : List Plan) (counts : List ℕ) : Type 0 where
  pub thread : ℕ
  pub plan : Plan
  pub count : ℕ
  pub is : slice_get plans thread ≡ Some plan
  pub at : slice_get counts thread ≡ Some count
  pub few : count < length plan.lines

pub some_left : (plans : List Plan) (counts : List ℕ) → 0 < lines_left plans counts → IsLeft plans counts
some_left [] counts lt = absurd (omega (arith, lt))
some_left (p ∷ plans) [] lt = absurd (omega (arith, lt))
some_left (p ∷ plans) (c ∷ counts) lt = go (cases_lt c (length p.lines)) (λ more. some_left plans counts more)
  where
    go : (c < length p.lines) ⊎ (length p.lines ≤ c) → (0 < lines_left plans counts → IsLeft plans counts) → IsLeft (p ∷ plans) (c ∷ counts)
    go (inl few) later = record { thread = 0; plan = p; count = c; is = refl; at = refl; few = few }
    go (inr all) later =
        let i = later (omega (arith, lt, all)) in
        record { thread = suc i.thread; plan = i.plan; count = i.count; is = i.is; at = i.at; few = i.few }

pub left_from : (plans : List Plan) (counts : List ℕ) (thread : ℕ) (plan : Plan) (count : ℕ) → slice_get plans thread ≡ Some plan →
    slice_get counts thread ≡ Some count → count < length plan.lines → 0 < lines_left plans counts
left_from plans counts thread plan count is at lt = omega (arith, one_less plans counts thread plan count is at lt)

-- a thread that is ready has a line that is left
pub ready_left : (threads : List Plan) (done : List ℕ) (first : ℕ) (plans : List Plan) (counts : List ℕ) →
    0 < length (ready_from threads done first plans counts) → 0 < lines_left plans counts
ready_left threads done first [] [] lt = absurd (omega (arith, lt))
ready_left threads done first [] (c ∷ counts) lt = absurd (omega (arith, lt))
ready_left threads done first (p ∷ plans) [] lt = absurd (omega (arith, lt))
ready_left threads done first (p ∷ plans) (c ∷ counts) lt =
    go (slice_get p.lines c) refl lt (λ more. ready_left threads done (suc first) plans counts more)
  where
    go : (o : Option Line) → slice_get p.lines c ≡ o →
        0 < length (put_if (option_map_or (may_follow threads done) o false) first (ready_from threads done (suc first) plans counts)) →
        (0 < length (ready_from threads done (suc first) plans counts) → 0 < lines_left plans counts) →
        0 < (length p.lines - c) + lines_left plans counts
    go None at more later = let left = later more in omega (arith, left)
    go (Some line) at more later = let few = slice_get_within p.lines c line at in omega (arith, few)

module _ (threads : List Plan) (p : Play) (has : HasPlayed threads p) (trace : IsTrace threads) where
  -- where no thread is ready no line is left
  pub none_left : (HasLineLeft threads p.done → SomeMayPlay threads p) → length (ready_threads threads p.done) ≤ 0 →
      lines_left threads p.done ≡ 0
  none_left some none = go (cases_lt 0 (lines_left threads p.done))
    where
      of_left : IsLeft threads p.done → HasLineLeft threads p.done
      of_left i =
          let l = some_at i.plan.lines i.count i.few in
          record {
            thread = i.thread;
            line = l.0;
            next = record { place = i.count; at = i.at; is = record { plan = i.plan; is_thread = i.is; is_line = l.1 } };
          }

      of_may : SomeMayPlay threads p → ⊥
      of_may s =
          let r = look_rest threads p has trace s.thread s.may in
          let before : List ℕ = ready_to threads p.done s.thread in
          let long : length (ready_threads threads p.done) ≡ length before + suc (length r.0) =
          ap length r.1 ∙ length-append before (s.thread ∷ r.0) in
          omega (arith, long, none)

      go : (0 < lines_left threads p.done) ⊎ (lines_left threads p.done ≤ 0) → lines_left threads p.done ≡ 0
      go (inl lt) = absurd (of_may (some (of_left (some_left threads p.done lt))))
      go (inr le) = omega (arith, le)

  -- where no line is left each thread has ended
  pub all_ended : lines_left threads p.done ≡ 0 → (thread : ℕ) → thread < length threads → HasEnded threads p.done thread
  all_ended none thread lt = of_plan (some_at threads thread lt)
    where
      full : (plan : Plan) (count : ℕ) → slice_get threads thread ≡ Some plan → slice_get p.done thread ≡ Some count →
          count ≤ length plan.lines → (count < length plan.lines) ⊎ (length plan.lines ≤ count) → count ≡ length plan.lines
      full plan count is at le (inl few) = absurd (omega (arith, none, left_from threads p.done thread plan count is at few))
      full plan count is at le (inr all) = omega (arith, all, le)

      of_plan : (plan : Plan) × (slice_get threads thread ≡ Some plan) → HasEnded threads p.done thread
      of_plan f =
          let count : ℕ = get_or p.done thread 0 in
          let at : slice_get p.done thread ≡ Some count = counted threads p has thread lt in
          let few = (has.answered thread count f.0 f.1 at).few in
          let all : count ≡ length f.0.lines = full f.0 count f.1 at few (cases_lt count (length f.0.lines)) in
          record { plan = f.0; is_thread = f.1; all = at ∙ ap Some all }
