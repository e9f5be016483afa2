-- The entries of a table whose keys pass a test, after a change of the table or of the test.
use Rattle.std.proofs.Common.{◌≢◌, inl, inr, ◌≡◌, ℕ, ◌<◌, ◌==◌, ◌||◌, ◌&&◌, Bool, true, false, cond, [], ◌∷◌, is_some, sym, ap, ◌∙◌, refl, arith}
use Rattle.std.specs.List.{filter}
use Rattle.std.proofs.lemmas.Bool.{cases_eq, cases_lt}
use Rattle.std.proofs.lemmas.Grind.{common_steps}
use Rattle.tables.specs.Table.{Entries, has, with_entry, without, only, each_value}
use Rattle.gl_model.proofs.TableLaws.{is_at-nat_cmp}
use Rattle.gl_state.specs.Order.{AreAbove, IsRising, key_set}
use Rattle.gl_state.proofs.Rising.{above_absent, AreAbove-below, past_head, set_head, set_past}
use Rattle.gl_state.proofs.Tallies.{set_before, without_head, without_past}

-- Rising keys

pub AreAbove-with_entry : {V : Type 0} (j k : ℕ) (v : V) (t : Entries V) → j < k → AreAbove j t → AreAbove j (with_entry k v t)
AreAbove-with_entry j k v [] below above = (below, tt)
AreAbove-with_entry j k v (e ∷ t) below above =
    elim (cases_eq k e.0) [
      | inl same ↦ rw (set_head k v e t same) above
      | inr differs ↦ elim (cases_lt k e.0) [
        | inl before ↦ rw (set_before k v e t before) (below, above)
        | inr after ↦
            let past : e.0 < k = omega (arith, differs, after) in
            rw (set_past k v e t past) (above.0, AreAbove-with_entry j k v t below above.1)
      ]
    ]

pub IsRising-with_entry : {V : Type 0} (k : ℕ) (v : V) (t : Entries V) → IsRising t → IsRising (with_entry k v t)
IsRising-with_entry k v [] rising = (tt, tt)
IsRising-with_entry k v (e ∷ t) rising =
    elim (cases_eq k e.0) [
      | inl same ↦ rw (set_head k v e t same) rising
      | inr differs ↦ elim (cases_lt k e.0) [
        | inl before ↦ rw (set_before k v e t before) ((before, AreAbove-below k e.0 t before rising.0), rising)
        | inr after ↦
            let past : e.0 < k = omega (arith, differs, after) in
            rw (set_past k v e t past) (AreAbove-with_entry e.0 k v t past rising.0, IsRising-with_entry k v t rising.1)
      ]
    ]

AreAbove-filter : {V : Type 0} (p : ℕ × V → Bool) (j : ℕ) (t : Entries V) → AreAbove j t → AreAbove j (filter p t)
AreAbove-filter p j [] above = tt
AreAbove-filter p j (e ∷ t) above = step (p e) (AreAbove-filter p j t above.1)
  where
    step : (b : Bool) → AreAbove j (filter p t) → AreAbove j (cond b (e ∷ filter p t) (filter p t))
    step true rest = (above.0, rest)
    step false rest = rest

pub IsRising-filter : {V : Type 0} (p : ℕ × V → Bool) (t : Entries V) → IsRising t → IsRising (filter p t)
IsRising-filter p [] rising = tt
IsRising-filter p (e ∷ t) rising = step (p e) (IsRising-filter p t rising.1)
  where
    step : (b : Bool) → IsRising (filter p t) → IsRising (cond b (e ∷ filter p t) (filter p t))
    step true rest = (AreAbove-filter p e.0 t rising.0, rest)
    step false rest = rest

AreAbove-without : {V : Type 0} (j k : ℕ) (t : Entries V) → AreAbove j t → AreAbove j (without k t)
AreAbove-without j k [] above = tt
AreAbove-without j k (e ∷ t) above =
    elim (cases_eq k e.0) [
      | inl same ↦ rw (without_head k e t same) above.1
      | inr differs ↦ rw (without_past k e t differs) (above.0, AreAbove-without j k t above.1)
    ]

pub IsRising-without : {V : Type 0} (k : ℕ) (t : Entries V) → IsRising t → IsRising (without k t)
IsRising-without k [] rising = tt
IsRising-without k (e ∷ t) rising =
    elim (cases_eq k e.0) [
      | inl same ↦ rw (without_head k e t same) rising.1
      | inr differs ↦ rw (without_past k e t differs) (AreAbove-without e.0 k t rising.0, IsRising-without k t rising.1)
    ]

-- Filters by keys

pub only-cons : {V : Type 0} (p : ℕ → Bool) (e : ℕ × V) (t : Entries V) (b : Bool) → p e.0 ≡ b → only p (e ∷ t) ≡ cond b (e ∷ only p t) (only p t)
only-cons p e t b is = rw is refl

-- an entry whose key does not pass counts for nothing
pub only-with_entry_out : {V : Type 0} (p : ℕ → Bool) (k : ℕ) (v : V) (t : Entries V) → p k ≡ false → only p (with_entry k v t) ≡ only p t
only-with_entry_out p k v [] out = rw out refl
only-with_entry_out p k v (e ∷ t) out =
    elim (cases_eq k e.0) [
      | inl same ↦
          let here : p e.0 ≡ false = ap p (sym same) ∙ out in
          rw (set_head k v e t same, only-cons p (e.0, v) t false here, only-cons p e t false here) refl
      | inr differs ↦ elim (cases_lt k e.0) [
        | inl before ↦ rw (set_before k v e t before) (only-cons p (k, v) (e ∷ t) false out)
        | inr after ↦
            let past : e.0 < k = omega (arith, differs, after) in
            rw (set_past k v e t past) (ap (λ rest. cond (p e.0) (e ∷ rest) rest) (only-with_entry_out p k v t out))
      ]
    ]

has_later : {V : Type 0} (k : ℕ) (e : ℕ × V) (t : Entries V) → has k t ≡ true → has k (e ∷ t) ≡ true
has_later k e t had = grind (arith, common_steps, is_at-nat_cmp k e.0)

has_first : {V : Type 0} (e : ℕ × V) (t : Entries V) → has e.0 (e ∷ t) ≡ true
has_first e t = grind (arith, common_steps, is_at-nat_cmp e.0 e.0)

-- tests that agree on the keys of the table
pub only-same : {V : Type 0} (p q : ℕ → Bool) (t : Entries V) → ((k : ℕ) → has k t ≡ true → p k ≡ q k) → only p t ≡ only q t
only-same p q [] same = refl
only-same p q (e ∷ t) same =
    rw (same e.0 (has_first e t), only-same p q t (λ k had. same k (has_later k e t had))) refl

pub only-each_value : {V W : Type 0} (p : ℕ → Bool) (f : V → W) (t : Entries V) → only p (each_value f t) ≡ each_value f (only p t)
only-each_value p f [] = refl
only-each_value p f (e ∷ t) = step (p e.0) (only-each_value p f t)
  where
    step : (b : Bool) → only p (each_value f t) ≡ each_value f (only p t) → cond b ((e.0, f e.1) ∷ only p (each_value f t)) (only p (each_value f t)) ≡ each_value f (cond b (e ∷ only p t) (only p t))
    step true rest = ap (λ xs. (e.0, f e.1) ∷ xs) rest
    step false rest = rest

pub only-only : {V : Type 0} (p q : ℕ → Bool) (t : Entries V) → only p (only q t) ≡ only (λ k. q k && p k) t
only-only p q [] = refl
only-only p q (e ∷ t) = step (q e.0) (only-only p q t)
  where
    step : (b : Bool) → only p (only q t) ≡ only (λ k. q k && p k) t → only p (cond b (e ∷ only q t) (only q t)) ≡ cond (b && p e.0) (e ∷ only (λ k. q k && p k) t) (only (λ k. q k && p k) t)
    step true rest = ap (λ xs. cond (p e.0) (e ∷ xs) xs) rest
    step false rest = rest

or_apart : (p : ℕ → Bool) (b k : ℕ) → k ≢ b → (p k || (k == b)) ≡ p k
or_apart p b k differs = grind (arith, common_steps)

only-above : {V : Type 0} (p : ℕ → Bool) (b : ℕ) (t : Entries V) → AreAbove b t → only (λ k. p k || (k == b)) t ≡ only p t
only-above p b [] above = refl
only-above p b (e ∷ t) above =
    rw (or_apart p b e.0 (λ same. absurd (omega (arith, above.0, same))), only-above p b t above.1) refl

set_below_all : {V : Type 0} (k : ℕ) (v : V) (t : Entries V) → AreAbove k t → with_entry k v t ≡ (k, v) ∷ t
set_below_all k v [] above = refl
set_below_all k v (e ∷ t) above = set_before k v e t above.0

AreAbove-marked : {V : Type 0} (k : ℕ) (t : Entries V) → AreAbove k t → AreAbove k (key_set t)
AreAbove-marked k [] above = tt
AreAbove-marked k (e ∷ t) above = (above.0, AreAbove-marked k t above.1)

above_of : {V : Type 0} (j k : ℕ) (t : Entries V) → AreAbove j t → has k t ≡ true → j < k
above_of j k t above had =
    elim (cases_lt j k) [
      | inl below ↦ below
      | inr not_below ↦ elim (cases_eq k j) [
        | inl same ↦ absurd (cc (had, above_absent j t above, same))
        | inr differs ↦
            let below : k < j = omega (arith, not_below, differs) in
            absurd (cc (had, above_absent k t (AreAbove-below k j t below above)))
      ]
    ]

one_more_step : {V : Type 0} (p : ℕ → Bool) (b : ℕ) (e : ℕ × V) (t : Entries V) → e.0 < b → (c : Bool) → key_set (only (λ k. p k || (k == b)) t) ≡ with_entry b tt (key_set (only p t)) → key_set (cond c (e ∷ only (λ k. p k || (k == b)) t) (only (λ k. p k || (k == b)) t)) ≡ with_entry b tt (key_set (cond c (e ∷ only p t) (only p t)))
one_more_step p b e t past true rest = ap (λ xs. (e.0, tt) ∷ xs) rest ∙ sym (set_past b tt (e.0, tt) (key_set (only p t)) past)
one_more_step p b e t past false rest = rest

-- one key more that passes
pub only-one_more : {V : Type 0} (p : ℕ → Bool) (b : ℕ) (t : Entries V) → IsRising t → has b t ≡ true → p b ≡ false → key_set (only (λ k. p k || (k == b)) t) ≡ with_entry b tt (key_set (only p t))
only-one_more p b [] rising had out = absurd (cc)
only-one_more p b (e ∷ t) rising had out =
    elim (cases_eq b e.0) [
      | inl same ↦
          let here : p e.0 ≡ false = ap p (sym same) ∙ out in
          let also : (p e.0 || (e.0 == b)) ≡ true = grind (arith, common_steps) in
          let later : AreAbove b t = rw same rising.0 in
          rw (also, here, only-above p b t later, set_below_all b tt (key_set (only p t)) (AreAbove-marked b (only p t) (AreAbove-filter (λ e. p e.0) b t later)), same) refl
      | inr differs ↦
          let there : has b t ≡ true = ap is_some (sym (past_head b e t differs)) ∙ had in
          let past : e.0 < b = above_of e.0 b t rising.0 there in
          let apart : (p e.0 || (e.0 == b)) ≡ p e.0 = or_apart p b e.0 (λ same. differs (sym same)) in
          rw apart (one_more_step p b e t past (p e.0) (only-one_more p b t rising.1 there out))
    ]
