-- Each table's keys rise, so a change of one key is a change of all entries that have it.
use Rattle.std.proofs.Common.{inl, inr, ◌≡◌, ℕ, ◌<◌, ◌==◌, false, cond, [], ◌∷◌, map, Option, Some, None, sym, ap, ◌∙◌, refl, arith}
use Rattle.std.specs.Ordering.{nat_cmp}
use Rattle.std.specs.declared.cmp.Ordering.TheVariants.{Less}
use Rattle.std.specs.List.{AllByRecursion}
use Rattle.std.specs.List.Sorted.{IsStrictlySortedBy}
use Rattle.std.specs.Map.{keys_of}
use Rattle.std.proofs.lemmas.Bool.{cases_eq}
use Rattle.std.proofs.lemmas.Grind.{common_steps}
use Rattle.tables.specs.Table.{Entries, entry, with_value, IsOrdered}
use Rattle.gl_state.specs.Order.{AreAbove, IsRising}
use Rattle.gl_state.specs.Changes.{changed_at}
use Rattle.gl_state.proofs.Rising.{changed_entry, at_head, past_head}
use Rattle.gl_state.proofs.Current.{changed_at-entry}

below_key : (k q : ℕ) → nat_cmp k q ≡ Less → k < q
below_key k q less = grind (arith, common_steps)

AreAbove-ordered : {V : Type 0} (k : ℕ) (t : Entries V) → AllByRecursion (λ q. nat_cmp k q ≡ Less) (keys_of t) → AreAbove k t
AreAbove-ordered k [] all = tt
AreAbove-ordered k (e ∷ t) all = (below_key k e.0 all.0, AreAbove-ordered k t all.1)

pub IsRising-ordered : {V : Type 0} (t : Entries V) → IsOrdered t → IsRising t
unfolding IsStrictlySortedBy
IsRising-ordered [] ordered = tt
IsRising-ordered (e ∷ t) ordered = (AreAbove-ordered e.0 t ordered.0, IsRising-ordered t ordered.1)

-- a key that is not there is not changed
absent_mapped : {V : Type 0} (k : ℕ) (change : V → V) (t : Entries V) → entry k t ≡ None → t ≡ map (λ e. (e.0, cond (e.0 == k) (change e.1) e.1)) t
absent_mapped k change [] none = refl
absent_mapped k change (e ∷ t) none =
    elim (cases_eq k e.0) [
      | inl same ↦ absurd (cc (at_head k e t same, none))
      | inr differs ↦
          let apart : (e.0 == k) ≡ false = grind (arith, common_steps) in
          let later : entry k t ≡ None = sym (past_head k e t differs) ∙ none in
          rw apart (ap (λ xs. e ∷ xs) (absent_mapped k change t later))
    ]

mapped_at : {V : Type 0} (k : ℕ) (change : V → V) (t : Entries V) (o : Option V) → IsRising t → entry k t ≡ o → changed_at k change t ≡ map (λ e. (e.0, cond (e.0 == k) (change e.1) e.1)) t
mapped_at k change t None rising is = rw is (absent_mapped k change t is)
mapped_at k change t (Some v) rising is = changed_at-entry k change v t rising is ∙ sym (changed_entry change k v t rising is)

pub changed_at-mapped : {V : Type 0} (k : ℕ) (change : V → V) (t : Entries V) → IsRising t → changed_at k change t ≡ map (λ e. (e.0, cond (e.0 == k) (change e.1) e.1)) t
changed_at-mapped k change t rising = mapped_at k change t (entry k t) rising refl

-- a change that changes nothing
pub with_value-same : {V : Type 0} (k : ℕ) (v : V) (t : Entries V) → entry k t ≡ Some v → with_value k t v ≡ t
with_value-same k v [] is = refl
with_value-same k v (e ∷ t) is = grind (arith, common_steps, with_value-same k v t)
