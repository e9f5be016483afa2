-- How many values of a table pass a test, after a change of the table.
use Rattle.std.proofs.Common.{◌≢◌, inl, inr, ◌≡◌, ℕ, ◌+◌, ◌<◌, ◌==◌, Bool, true, false, not, cond, [], ◌∷◌, length, Option, refl, arith}
use Rattle.std.specs.Option.{option_map_or}
use Rattle.std.specs.List.{filter}
use Rattle.std.proofs.lemmas.Bool.{cases_eq, cases_lt}
use Rattle.std.proofs.lemmas.Grind.{common_steps}
use Rattle.tables.specs.Table.{Entries, entry, with_entry, without, any_value}
use Rattle.gl_model.proofs.TableLaws.{is_at-nat_cmp}
use Rattle.gl_state.specs.Order.{IsRising}
use Rattle.gl_state.proofs.Rising.{above_absent, AreAbove-below, past_head, at_head, set_head, set_past}

-- how many values pass a test
abbrev pub tally : {V : Type 0} → (V → Bool) → Entries V → ℕ
tally p t = length (filter (λ e. p e.1) t)

abbrev pub bit : Bool → ℕ
bit b = cond b 1 0

abbrev pub bit_of : {V : Type 0} → (V → Bool) → Option V → ℕ
bit_of p o = option_map_or (λ v. bit (p v)) o 0

pub tally-cons : {V : Type 0} (p : V → Bool) (e : ℕ × V) (t : Entries V) → tally p (e ∷ t) ≡ bit (p e.1) + tally p t
tally-cons p e t = step (p e.1)
  where
    step : (b : Bool) → length (cond b (e ∷ filter (λ x. p x.1) t) (filter (λ x. p x.1) t)) ≡ bit b + tally p t
    step true = omega arith
    step false = omega arith

pub set_before : {V : Type 0} (k : ℕ) (w : V) (e : ℕ × V) (t : Entries V) → k < e.0 → with_entry k w (e ∷ t) ≡ (k, w) ∷ e ∷ t
set_before k w e t below = grind (arith, common_steps)

pub tally-with_entry : {V : Type 0} (p : V → Bool) (k : ℕ) (w : V) (t : Entries V) → IsRising t → tally p (with_entry k w t) + bit_of p (entry k t) ≡ tally p t + bit (p w)
tally-with_entry p k w [] rising = omega (arith, tally-cons p (k, w) [])
tally-with_entry p k w (e ∷ t) rising =
    elim (cases_eq k e.0) [
      | inl same ↦
          rw (set_head k w e t same, at_head k e t same)
          (omega (arith, tally-cons p (e.0, w) t, tally-cons p e t))
      | inr differs ↦ elim (cases_lt k e.0) [
        | inl below ↦
            rw (set_before k w e t below, past_head k e t differs, above_absent k t (AreAbove-below k e.0 t below rising.0))
            (omega (arith, tally-cons p (k, w) (e ∷ t)))
        | inr above ↦
            let past : e.0 < k = omega (arith, differs, above) in
            rw (set_past k w e t past, past_head k e t differs)
            (omega (arith, tally-cons p e (with_entry k w t), tally-cons p e t, tally-with_entry p k w t rising.1))
      ]
    ]

pub without_head : {V : Type 0} (k : ℕ) (e : ℕ × V) (t : Entries V) → k ≡ e.0 → without k (e ∷ t) ≡ t
without_head k e t same = grind (arith, common_steps, is_at-nat_cmp k e.0)

pub without_past : {V : Type 0} (k : ℕ) (e : ℕ × V) (t : Entries V) → k ≢ e.0 → without k (e ∷ t) ≡ e ∷ without k t
without_past k e t differs = grind (arith, common_steps, is_at-nat_cmp k e.0)

pub tally-without : {V : Type 0} (p : V → Bool) (k : ℕ) (t : Entries V) → tally p (without k t) + bit_of p (entry k t) ≡ tally p t
tally-without p k [] = refl
tally-without p k (e ∷ t) =
    elim (cases_eq k e.0) [
      | inl same ↦ rw (without_head k e t same, at_head k e t same) (omega (arith, tally-cons p e t))
      | inr differs ↦
          rw (without_past k e t differs, past_head k e t differs)
          (omega (arith, tally-cons p e (without k t), tally-cons p e t, tally-without p k t))
    ]

-- some value passes the test exactly where the number of them is not 0
pub any_value-tally : {V : Type 0} (p : V → Bool) (t : Entries V) → any_value p t ≡ not (tally p t == 0)
any_value-tally p [] = refl
any_value-tally p (e ∷ t) = grind (arith, common_steps, tally-cons p e t, any_value-tally p t)
