-- The map from names after a name was set or taken out.
use Rattle.std.proofs.Common.{inl, inr, ◌≡◌, ◌≢◌, ℕ, ◌<◌, ◌≤◌, ◌==◌, ◌||◌, ◌&&◌, Bool, true, false, not, cond, is_some, [], ◌∷◌, Option, Some, None, ap, ◌∙◌, refl, arith}
use Rattle.std.specs.List.{AllByRecursion}
use Rattle.std.specs.List.Sorted.{IsStrictlySortedBy}
use Rattle.std.specs.Map.{keys_of}
use Rattle.std.specs.Ordering.{nat_cmp}
use Rattle.std.specs.declared.cmp.Ordering.TheVariants.{Less}
use Rattle.std.proofs.lemmas.Bool.{cases_eq}
use Rattle.std.proofs.lemmas.Grind.{common_steps}
use Rattle.tables.specs.Table.{Entries, entry, has, with_entry, without, IsOrdered}
use Rattle.gl_model.proofs.TableLaws.{is_at-nat_cmp, entry-with_entry}
use Rattle.unused_names.specs.declared.UnusedNames.{UnusedNames}
use Rattle.unused_names.specs.Unused.{Fits}
use Rattle.unused_names.proofs.Gaps.{Fits-same}
use Rattle.gl_objects.specs.Names.{Sets}

-- Rising keys

abbrev AreAbove : {V : Type 0} → ℕ → Entries V → Type 0
AreAbove k [] = Unit {0}
AreAbove k (e ∷ t) = (k < e.0) × AreAbove k t

abbrev IsRising : {V : Type 0} → Entries V → Type 0
IsRising [] = Unit {0}
IsRising (e ∷ t) = AreAbove e.0 t × IsRising t

below_key : (k q : ℕ) → nat_cmp k q ≡ Less → k < q
below_key k q less = grind (arith, common_steps)

AreAbove-ordered : {V : Type 0} (k : ℕ) (t : Entries V) → AllByRecursion (λ q. nat_cmp k q ≡ Less) (keys_of t) → AreAbove k t
AreAbove-ordered k [] all = tt
AreAbove-ordered k (e ∷ t) all = (below_key k e.0 all.0, AreAbove-ordered k t all.1)

IsRising-ordered : {V : Type 0} (t : Entries V) → IsOrdered t → IsRising t
unfolding IsStrictlySortedBy
IsRising-ordered [] ordered = tt
IsRising-ordered (e ∷ t) ordered = (AreAbove-ordered e.0 t ordered.0, IsRising-ordered t ordered.1)

absent_below : {V : Type 0} (k q : ℕ) (t : Entries V) → q ≤ k → AreAbove k t → has q t ≡ false
absent_below k q [] low above = refl
absent_below k q (e ∷ t) low above = grind (arith, common_steps, is_at-nat_cmp q e.0, absent_below k q t low above.1, above.0)

has_cons : {V : Type 0} (q : ℕ) (e : ℕ × V) (t : Entries V) → has q (e ∷ t) ≡ ((q == e.0) || has q t)
has_cons q e t = grind (arith, common_steps, is_at-nat_cmp q e.0)

has-without : {V : Type 0} (k q : ℕ) (t : Entries V) → IsRising t → has q (without k t) ≡ (has q t && not (q == k))
has-without k q [] rising = refl
has-without k q (e ∷ t) rising =
    elim (cases_eq k e.0) [
      | inl same ↦
          let gone : without k (e ∷ t) ≡ t = grind (arith, common_steps, is_at-nat_cmp k e.0) in
          let none : has k t ≡ false = absent_below e.0 k t (omega (arith, same)) rising.0 in
          rw (gone, has_cons q e t) (elim (cases_eq q k) [
            | inl here ↦
                let absent : has q t ≡ false = ap (λ x. has x t) here ∙ none in
                let is : (q == k) ≡ true = grind (arith, common_steps) in
                rw (absent, is) (grind (arith, common_steps))
            | inr apart ↦
                let other : (q == e.0) ≡ false = grind (arith, common_steps) in
                let off : (q == k) ≡ false = grind (arith, common_steps) in
                rw (other, off) (and_true (has q t))
          ])
      | inr differs ↦
          let past : without k (e ∷ t) ≡ e ∷ without k t = grind (arith, common_steps, is_at-nat_cmp k e.0) in
          rw (past, has_cons q e (without k t), has_cons q e t, has-without k q t rising.1) (elim (cases_eq q e.0) [
            | inl here ↦
                let is : (q == e.0) ≡ true = grind (arith, common_steps) in
                let off : (q == k) ≡ false = grind (arith, common_steps) in
                rw (is, off) refl
            | inr apart ↦
                let other : (q == e.0) ≡ false = grind (arith, common_steps) in
                rw other refl
          ])
    ]
  where
    and_true : (b : Bool) → b ≡ (b && true)
    and_true true = refl
    and_true false = refl

has-without_ordered : {V : Type 0} (k q : ℕ) (t : Entries V) → IsOrdered t → has q (without k t) ≡ (has q t && not (q == k))
has-without_ordered k q t ordered = has-without k q t (IsRising-ordered t ordered)

pub Sets-with_entry : {V : Type 0} (name : ℕ) (v : V) (t : Entries V) → Sets t (with_entry name v t) name (Some v)
Sets-with_entry name v t = record {
  here = entry-with_entry name name v t ∙ (let is : (name == name) ≡ true = grind (arith, common_steps) in rw is refl);
  others = λ other differs. entry-with_entry name other v t ∙ (let off : (other == name) ≡ false = grind (arith, common_steps) in rw off refl);
}

entry-without_other : {V : Type 0} (k q : ℕ) (t : Entries V) → q ≢ k → entry q (without k t) ≡ entry q t
entry-without_other k q [] differs = refl
entry-without_other k q (e ∷ t) differs = grind (arith, common_steps, is_at-nat_cmp k e.0, is_at-nat_cmp q e.0, entry-without_other k q t differs)

no_entry : {V : Type 0} (o : Option V) → is_some o ≡ false → o ≡ None
no_entry None none = refl
no_entry (Some v) none = absurd (cc)

pub Sets-without : {V : Type 0} (name : ℕ) (t : Entries V) → IsOrdered t → Sets t (without name t) name None
Sets-without name t ordered = record {
  here =
      no_entry (entry name (without name t))
      (has-without_ordered name name t ordered ∙ (let is : (name == name) ≡ true = grind (arith, common_steps) in rw is (step (has name t))));
  others = λ other differs. entry-without_other name other t differs;
}
  where
    step : (b : Bool) → (b && false) ≡ false
    step true = refl
    step false = refl

pub Fits-given : {V : Type 0} (u : UnusedNames) (name : ℕ) (v : V) (t : Entries V) → Fits u (λ n. has n t || (n == name)) → Fits u (λ n. has n (with_entry name v t))
Fits-given {V = V} u name v t fits = Fits-same u _ _ (λ n. ap is_some (entry-with_entry name n v t) ∙ more (n == name) (entry n t)) fits
  where
    more : (b : Bool) (o : Option V) → is_some (cond b (Some v) o) ≡ (is_some o || b)
    more true None = refl
    more true (Some x) = refl
    more false None = refl
    more false (Some x) = refl

pub Fits-taken : {V : Type 0} (u : UnusedNames) (name : ℕ) (t : Entries V) → IsOrdered t → Fits u (λ n. has n t && not (n == name)) → Fits u (λ n. has n (without name t))
Fits-taken u name t ordered fits = Fits-same u _ _ (λ n. has-without_ordered name n t ordered) fits
