-- Which threads are ready, one after the other.
use Rattle.std.proofs.Common.{◌≡◌, ℕ, zero, suc, ◌+◌, ◌<◌, ◌≤◌, Bool, true, false, cond, refl, sym, ap, ◌∙◌, arith}
use Rattle.std.specs.Prelude.{List, [], ◌∷◌, ◌++◌, length, take, get_or, slice_get, Option, Some, None}
use Rattle.std.specs.Option.{option_map_or}
use Rattle.std.proofs.lemmas.Bool.{cond-true, false_from_ne_true}
use Rattle.std.proofs.lemmas.List.{append-nil, take_all, length_push}
use Rattle.std.proofs.lemmas.Option.{same_Some, none-some, slice_get-get_or}
use Rattle.trace_text.specs.declared.trace.Line.{Line}
use Rattle.trace_text.specs.Reading.{Plan}
use Rattle.trace_text.specs.Orders.{IsTrace, IsLineOf}
use Rattle.play_model.specs.Plays.{Play, HasPlayed, MayPlay}
use Rattle.schedule.specs.Moves.{may_follow, ready_from, ready_threads}
use Rattle.schedule.proofs.Members.{put_if}
use Rattle.schedule.proofs.Answered.{follows_ready, ready_follows}

-- the next line of a thread may follow, by the counts
abbrev pub is_ready : List Plan → List ℕ → Plan → ℕ → Bool
is_ready threads done plan count = option_map_or (may_follow threads done) (slice_get plan.lines count) false

-- an element at its place
pub some_at : {X : Type 0} (xs : List X) (k : ℕ) → k < length xs → (x : X) × (slice_get xs k ≡ Some x)
some_at [] k lt = absurd (omega (arith, lt))
some_at (x ∷ xs) zero lt = (x, refl)
some_at (x ∷ xs) (suc k) lt = some_at xs k (omega (arith, lt))

-- each thread has a count
pub counted : (threads : List Plan) (p : Play) → HasPlayed threads p → (thread : ℕ) → thread < length threads →
    slice_get p.done thread ≡ Some (get_or p.done thread 0)
counted threads p has thread lt = slice_get-get_or p.done thread 0 (omega (arith, has.each, lt))

-- By the counts and by the histories

module _ (threads : List Plan) (p : Play) (has : HasPlayed threads p) (trace : IsTrace threads) (thread : ℕ) (plan : Plan) (count : ℕ)
    (is : slice_get threads thread ≡ Some plan) (at : slice_get p.done thread ≡ Some count) where
  pub may_from : is_ready threads p.done plan count ≡ true → MayPlay threads p thread
  may_from h = go (slice_get plan.lines count) refl h
    where
      go : (o : Option Line) → slice_get plan.lines count ≡ o → option_map_or (may_follow threads p.done) o false ≡ true →
          MayPlay threads p thread
      go None at_line h = cc
      go (Some line) at_line h =
          let its : IsLineOf threads thread count line = record { plan = plan; is_thread = is; is_line = at_line } in
          record {
            line = line;
            next = record { place = count; at = at; is = its };
            ready = follows_ready threads p has trace thread count line its h;
          }

  pub ready_from_may : MayPlay threads p thread → is_ready threads p.done plan count ≡ true
  ready_from_may may =
      let places : may.next.place ≡ count = same_Some may.next.place count (sym may.next.at ∙ at) in
      let plans : may.next.is.plan ≡ plan = same_Some may.next.is.plan plan (sym may.next.is.is_thread ∙ is) in
      let line_at : slice_get plan.lines count ≡ Some may.line =
      ap (slice_get plan.lines) (sym places) ∙ ap (λ (q : Plan). slice_get q.lines may.next.place) (sym plans) ∙ may.next.is.is_line in
      ap (λ (o : Option Line). option_map_or (may_follow threads p.done) o false) line_at
      ∙ ready_follows threads p has may.next.is.plan.group may.line may.ready

-- The ready ones of the first threads

abbrev pub ready_to : List Plan → List ℕ → ℕ → List ℕ
ready_to threads done n = ready_from threads done 0 (take n threads) (take n done)

abbrev pub added : Bool → ℕ → List ℕ
added test number = cond test (number ∷ []) []

-- a number before both lists
put_both : (test : Bool) (first : ℕ) (one two more : List ℕ) → one ≡ two ++ more → put_if test first one ≡ put_if test first two ++ more
put_both true first one two more same = ap (λ (l : List ℕ). first ∷ l) same
put_both false first one two more same = same

module _ (threads : List Plan) (done : List ℕ) where
  -- the ready ones from a thread on, of so many
  abbrev some_from : ℕ → List Plan → List ℕ → ℕ → List ℕ
  some_from first plans counts n = ready_from threads done first (take n plans) (take n counts)

  more_from : (first : ℕ) (plans : List Plan) (counts : List ℕ) (i : ℕ) (plan : Plan) (count : ℕ) → slice_get plans i ≡ Some plan →
      slice_get counts i ≡ Some count →
      some_from first plans counts (suc i) ≡ some_from first plans counts i ++ added (is_ready threads done plan count) (first + i)
  more_from first [] counts i plan count is at = absurd (none-some plan is)
  more_from first (x ∷ plans) [] i plan count is at = absurd (none-some count at)
  more_from first (x ∷ plans) (c ∷ counts) zero plan count is at =
      let numbered : first ≡ first + 0 = omega arith in
      ap (λ (q : Plan). added (is_ready threads done q c) first) (same_Some x plan is)
      ∙ ap (λ (n : ℕ). added (is_ready threads done plan n) first) (same_Some c count at)
      ∙ ap (added (is_ready threads done plan count)) numbered
  more_from first (x ∷ plans) (c ∷ counts) (suc i) plan count is at =
      let before : List ℕ = some_from (suc first) plans counts i in
      let numbered : suc first + i ≡ first + suc i = omega arith in
      put_both (is_ready threads done x c) first (some_from (suc first) plans counts (suc i)) before
      (added (is_ready threads done plan count) (first + suc i))
      (more_from (suc first) plans counts i plan count is at
      ∙ ap (λ (n : ℕ). before ++ added (is_ready threads done plan count) n) numbered)

  -- with one thread more
  pub ready_more : (i : ℕ) (plan : Plan) (count : ℕ) → slice_get threads i ≡ Some plan → slice_get done i ≡ Some count →
      ready_to threads done (i + 1) ≡ ready_to threads done i ++ added (is_ready threads done plan count) i
  ready_more i plan count is at =
      let next : i + 1 ≡ suc i = omega arith in
      let same : 0 + i ≡ i = omega arith in
      ap (ready_to threads done) next ∙ more_from 0 threads done i plan count is at
      ∙ ap (λ (n : ℕ). ready_to threads done i ++ added (is_ready threads done plan count) n) same

  -- with all of them
  pub ready_all : (n : ℕ) → length threads ≤ n → length done ≤ n → ready_to threads done n ≡ ready_threads threads done
  ready_all n few each =
      ap (λ (l : List Plan). ready_from threads done 0 l (take n done)) (take_all n threads few)
      ∙ ap (ready_from threads done 0 threads) (take_all n done each)

  -- a ready thread stands between the ready ones before it and others
  abbrev StandsAt : ℕ → List Plan → List ℕ → ℕ → Type 0
  StandsAt first plans counts i =
      (rest : List ℕ) × (ready_from threads done first plans counts ≡ some_from first plans counts i ++ (first + i) ∷ rest)

  rest_from : (first : ℕ) (plans : List Plan) (counts : List ℕ) (i : ℕ) (plan : Plan) (count : ℕ) → slice_get plans i ≡ Some plan →
      slice_get counts i ≡ Some count → is_ready threads done plan count ≡ true → StandsAt first plans counts i
  rest_from first [] counts i plan count is at held = absurd (none-some plan is)
  rest_from first (x ∷ plans) [] i plan count is at held = absurd (none-some count at)
  rest_from first (x ∷ plans) (c ∷ counts) zero plan count is at held =
      let later : List ℕ = ready_from threads done (suc first) plans counts in
      let numbered : first ≡ first + 0 = omega arith in
      let here : is_ready threads done x c ≡ true =
      ap (λ (q : Plan). is_ready threads done q c) (same_Some x plan is)
      ∙ ap (is_ready threads done plan) (same_Some c count at) ∙ held in
      (later, cond-true (is_ready threads done x c) (first ∷ later) later here ∙ ap (λ (n : ℕ). n ∷ later) numbered)
  rest_from first (x ∷ plans) (c ∷ counts) (suc i) plan count is at held =
      let before : List ℕ = some_from (suc first) plans counts i in
      let inner = rest_from (suc first) plans counts i plan count is at held in
      let numbered : suc first + i ≡ first + suc i = omega arith in (
        inner.0,
        put_both (is_ready threads done x c) first (ready_from threads done (suc first) plans counts) before ((first + suc i) ∷ inner.0)
            (inner.1 ∙ ap (λ (n : ℕ). before ++ n ∷ inner.0) numbered),
      )

  -- a ready thread among all that are
  pub ready_rest : (i : ℕ) (plan : Plan) (count : ℕ) → slice_get threads i ≡ Some plan → slice_get done i ≡ Some count →
      is_ready threads done plan count ≡ true → (rest : List ℕ) × (ready_threads threads done ≡ ready_to threads done i ++ i ∷ rest)
  ready_rest i plan count is at held =
      let same : 0 + i ≡ i = omega arith in
      let r : (rest : List ℕ) × (ready_threads threads done ≡ ready_to threads done i ++ (0 + i) ∷ rest) =
      rest_from 0 threads done i plan count is at held in
      (r.0, r.1 ∙ ap (λ (n : ℕ). ready_to threads done i ++ n ∷ r.0) same)

-- A look at a thread

module _ (threads : List Plan) (p : Play) (has : HasPlayed threads p) (trace : IsTrace threads) (thread : ℕ) where
  -- one that is ready
  look_ready : MayPlay threads p thread → ready_to threads p.done (thread + 1) ≡ ready_to threads p.done thread ++ thread ∷ []
  look_ready may =
      let plan = may.next.is.plan in
      let is = may.next.is.is_thread in
      ready_more threads p.done thread plan may.next.place is may.next.at
      ∙ ap (λ (b : Bool). ready_to threads p.done thread ++ added b thread)
      (ready_from_may threads p has trace thread plan may.next.place is may.next.at may)

  -- and what comes after it
  pub look_rest : MayPlay threads p thread →
      (rest : List ℕ) × (ready_threads threads p.done ≡ ready_to threads p.done thread ++ thread ∷ rest)
  look_rest may =
      let plan = may.next.is.plan in
      let is = may.next.is.is_thread in
      ready_rest threads p.done thread plan may.next.place is may.next.at
      (ready_from_may threads p has trace thread plan may.next.place is may.next.at may)

  -- one that is not ready
  look_idle : thread < length threads → (MayPlay threads p thread → ⊥) →
      ready_to threads p.done (thread + 1) ≡ ready_to threads p.done thread
  look_idle lt none =
      let f = some_at threads thread lt in
      let at = counted threads p has thread lt in
      let idle : is_ready threads p.done f.0 (get_or p.done thread 0) ≡ false =
      false_from_ne_true (is_ready threads p.done f.0 (get_or p.done thread 0))
      (λ h. none (may_from threads p has trace thread f.0 (get_or p.done thread 0) f.1 at h)) in
      ready_more threads p.done thread f.0 (get_or p.done thread 0) f.1 at
      ∙ ap (λ (b : Bool). ready_to threads p.done thread ++ added b thread) idle
      ∙ append-nil (ready_to threads p.done thread)

  -- how many are ready then

  pub one_more : MayPlay threads p thread → length (ready_to threads p.done (thread + 1)) ≡ length (ready_to threads p.done thread) + 1
  one_more may = ap length (look_ready may) ∙ length_push (ready_to threads p.done thread) thread

  pub as_many : thread < length threads → (MayPlay threads p thread → ⊥) →
      length (ready_to threads p.done (thread + 1)) ≡ length (ready_to threads p.done thread)
  as_many lt none = ap length (look_idle lt none)
