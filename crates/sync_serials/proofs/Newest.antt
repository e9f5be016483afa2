-- The newest number of an index after a sync was made.
use Rattle.std.proofs.Common.{◌≡◌, ◌≢◌, ℕ, ◌-◌, ◌*◌, ◌==◌, Bool, true, false, cond, List, length, set, get_or, replicate, refl, ap, sym, ◌∙◌, arith, if◌then◌else◌}
use Rattle.std.proofs.lemmas.Bool.{false≢true, eqb-true, eq-eqb}
use Rattle.std.proofs.lemmas.Grind.{common_steps}
use Rattle.std.proofs.lemmas.List.{get_or-replicate, get_or-set_same, get_or-set_other}
use Rattle.cells.specs.Contents.{in_range}
use Rattle.back_core.specs.Needs.{IsOfGroup}

abbrev pub newest_in : ℕ → List ℕ → ℕ → ℕ
newest_in group newest i = if in_range (8 * group) 8 i then get_or newest (i - 8 * group) 0 else 0

in_group : (group i : ℕ) → IsOfGroup group i → in_range (8 * group) 8 i ≡ true
in_group group i own = grind (arith, common_steps, own.0, own.1)

at_index : (group i : ℕ) (newest : List ℕ) → IsOfGroup group i → newest_in group newest i ≡ get_or newest (i - 8 * group) 0
at_index group i newest own = ap (λ b. if b then get_or newest (i - 8 * group) 0 else 0) (in_group group i own)

-- the number of the new sync on its index, and on another index what it was
pub newest_after : (group k i v : ℕ) (newest : List ℕ) → length newest ≡ 8 → IsOfGroup group k → IsOfGroup group i → newest_in group (set newest (k - 8 * group) v) i ≡ cond (i == k) v (newest_in group newest i)
newest_after group k i v newest eight own other = at_index group i _ other ∙ by_index (i == k) refl
  where
    by_index : (b : Bool) → (i == k) ≡ b → get_or (set newest (k - 8 * group) v) (i - 8 * group) 0 ≡ cond b v (newest_in group newest i)
    by_index true is =
        ap (λ j. get_or (set newest (k - 8 * group) v) (j - 8 * group) 0) (eqb-true i k is)
        ∙ get_or-set_same newest (k - 8 * group) v 0 (omega (arith, own.0, own.1))
    by_index false is =
        get_or-set_other newest (k - 8 * group) (i - 8 * group) v 0
        (let apart : i ≢ k = λ e. false≢true (sym is ∙ eq-eqb i k e) in λ e. apart (omega (arith, own.0, own.1, other.0, other.1)))
        ∙ sym (at_index group i newest other)

pub newest_of_none : (group i : ℕ) → IsOfGroup group i → newest_in group (replicate 8 0) i ≡ 0
newest_of_none group i own = at_index group i (replicate 8 0) own ∙ get_or-replicate 8 (i - 8 * group) 0 0 (omega (arith, own.0, own.1))
