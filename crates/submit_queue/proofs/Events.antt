-- A history with one event more.
use Rattle.std.proofs.Common.{◌≡◌, ℕ, zero, suc, ◌≤◌, inl, inr, ◌+◌, ◌==◌, Bool, true, false, cond, List, [], ◌∷◌, ◌++◌, refl, sym, ap, ◌∙◌, arith}
use Rattle.std.specs.Prelude.{◌⊎◌, ◌||◌}
use Rattle.std.proofs.lemmas.Bool.{true≢false, cases_Bool, cond-true, cond-false, or_left, or_right, and_from, eq-eqb}
use Rattle.std.proofs.lemmas.List.{append-nil}
use Rattle.std.proofs.lemmas.List.Concat.{flat_map-append}
use Rattle.std.proofs.lemmas.List.Folds.{list_any-append}
use Rattle.std.proofs.lemmas.List.Sums.{sum_by-append}
use Rattle.submit_queue.specs.Histories.{Event, Retired, Accepted, Pushed, Ran, pushed_by, batches, is_accept, accepted, is_run, has_run, is_retirement, is_retired, is_retire, retired, reach, completed}

or_false : (b : Bool) → (b || false) ≡ b
or_false true = refl
or_false false = refl

pub batches-then : (h : List Event) (e : Event) → batches (h ++ e ∷ []) ≡ batches h ++ pushed_by e
batches-then h e = flat_map-append pushed_by h (e ∷ []) ∙ ap (λ l. batches h ++ l) (append-nil (pushed_by e))

pub batches-same : (h : List Event) (e : Event) → pushed_by e ≡ [] → batches (h ++ e ∷ []) ≡ batches h
batches-same h e none = batches-then h e ∙ (ap (λ l. batches h ++ l) none ∙ append-nil (batches h))

pub accepted-then : (h : List Event) (e : Event) → accepted (h ++ e ∷ []) ≡ accepted h + cond (is_accept e) 1 0
accepted-then h e = omega (arith, sum_by-append (λ x. cond (is_accept x) 1 0) h (e ∷ []))

pub retired-then : (h : List Event) (e : Event) → retired (h ++ e ∷ []) ≡ retired h + cond (is_retire e) 1 0
retired-then h e = omega (arith, sum_by-append (λ x. cond (is_retire x) 1 0) h (e ∷ []))

pub has_run-then : (h : List Event) (e : Event) (k i : ℕ) → has_run (h ++ e ∷ []) k i ≡ (has_run h k i || is_run k i e)
has_run-then h e k i = list_any-append (is_run k i) h (e ∷ []) ∙ ap (λ b. has_run h k i || b) (or_false (is_run k i e))

pub has_run-same : (h : List Event) (e : Event) (k i : ℕ) → is_run k i e ≡ false → has_run (h ++ e ∷ []) k i ≡ has_run h k i
has_run-same h e k i none = has_run-then h e k i ∙ (ap (λ b. has_run h k i || b) none ∙ or_false (has_run h k i))

pub has_run-kept : (h : List Event) (e : Event) (k i : ℕ) → has_run h k i ≡ true → has_run (h ++ e ∷ []) k i ≡ true
has_run-kept h e k i ran = has_run-then h e k i ∙ or_left (has_run h k i) (is_run k i e) ran

pub has_run-now : (h : List Event) (k i : ℕ) → has_run (h ++ Ran k i ∷ []) k i ≡ true
has_run-now h k i = has_run-then h (Ran k i) k i ∙ or_right (has_run h k i) _ (and_from (k == k) (i == i) (eq-eqb k k refl) (eq-eqb i i refl))

pub is_retired-then : (h : List Event) (e : Event) (i n : ℕ) → is_retired (h ++ e ∷ []) i n ≡ (is_retired h i n || is_retirement i n e)
is_retired-then h e i n = list_any-append (is_retirement i n) h (e ∷ []) ∙ ap (λ b. is_retired h i n || b) (or_false (is_retirement i n e))

pub is_retired-same : (h : List Event) (e : Event) (i n : ℕ) → is_retirement i n e ≡ false → is_retired (h ++ e ∷ []) i n ≡ is_retired h i n
is_retired-same h e i n none = is_retired-then h e i n ∙ (ap (λ b. is_retired h i n || b) none ∙ or_false (is_retired h i n))

-- A reach

reach-from : (f : ℕ → Bool) (n more : ℕ) → n ≤ reach f n more
reach-from f n zero = omega arith
reach-from f n (suc more) = go (cases_Bool (f (suc n))) (reach-from f (suc n) more)
  where
    go : (f (suc n) ≡ true) ⊎ (f (suc n) ≡ false) → suc n ≤ reach f (suc n) more → n ≤ reach f n (suc more)
    go (inl t) le = let e : reach f n (suc more) ≡ reach f (suc n) more = cond-true (f (suc n)) _ n t in omega (arith, e, le)
    go (inr t) le = let e : reach f n (suc more) ≡ n = cond-false (f (suc n)) (reach f (suc n) more) n t in omega (arith, e)

-- it is no less where the test holds of more, and may go further
reach-grows : (f g : ℕ → Bool) → ((n : ℕ) → f n ≡ true → g n ≡ true) → (n m k : ℕ) → m ≤ k → reach f n m ≤ reach g n k
reach-grows f g weaker n zero k le = reach-from g n k
reach-grows f g weaker n (suc m) zero le = absurd (omega (arith, le))
reach-grows f g weaker n (suc m) (suc k) le = go (cases_Bool (f (suc n))) (reach-grows f g weaker (suc n) m k (omega (arith, le)))
  where
    go : (f (suc n) ≡ true) ⊎ (f (suc n) ≡ false) → reach f (suc n) m ≤ reach g (suc n) k → reach f n (suc m) ≤ reach g n (suc k)
    go (inl t) rest =
        let e : reach f n (suc m) ≡ reach f (suc n) m = cond-true (f (suc n)) _ n t in
        let d : reach g n (suc k) ≡ reach g (suc n) k = cond-true (g (suc n)) _ n (weaker (suc n) t) in
        omega (arith, e, d, rest)
    go (inr t) rest =
        let e : reach f n (suc m) ≡ n = cond-false (f (suc n)) (reach f (suc n) m) n t in
        omega (arith, e, reach-from g n (suc k))

-- completed numbers do not fall
pub completed-rises : (h : List Event) (e : Event) (i : ℕ) → completed h i ≤ completed (h ++ e ∷ []) i
completed-rises h e i =
    reach-grows (is_retired h i) (is_retired (h ++ e ∷ []) i) (λ n was. is_retired-then h e i n ∙ or_left (is_retired h i n) (is_retirement i n e) was) 0 (retired h) (retired (h ++ e ∷ [])) (omega (arith, retired-then h e))

not_its_own : (e : Event) (i n : ℕ) → is_retire e ≡ false → is_retirement i n e ≡ false
not_its_own (Pushed _) i n other = refl
not_its_own Accepted i n other = refl
not_its_own (Ran _ _) i n other = refl
not_its_own (Retired _) i n other = absurd (true≢false other)

adds_none : (e : Event) → is_retire e ≡ false → ◌≡◌ {A = ℕ} (cond (is_retire e) 1 0) 0
adds_none e other = ap {B = ℕ} (λ b. cond b 1 0) other

-- and stay but at a retirement
pub completed-stays : (h : List Event) (e : Event) → is_retire e ≡ false → (i : ℕ) → completed (h ++ e ∷ []) i ≡ completed h i
completed-stays h e other i =
    let up : completed h i ≤ completed (h ++ e ∷ []) i = completed-rises h e i in
    let many : retired (h ++ e ∷ []) ≤ retired h = omega (arith, retired-then h e, adds_none e other) in
    let down : completed (h ++ e ∷ []) i ≤ completed h i
    = reach-grows (is_retired (h ++ e ∷ []) i) (is_retired h i) (λ n was. sym (is_retired-same h e i n (not_its_own e i n other)) ∙ was) 0 (retired (h ++ e ∷ [])) (retired h) many in
    omega (arith, up, down)
