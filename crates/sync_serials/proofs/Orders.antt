-- Tables stay in order as entries come and go, and what a table has after a change.
use Rattle.std.proofs.Common.{◌≡◌, ℕ, ◌==◌, Bool, true, false, cond, Option, Some, None, List, [], ◌∷◌, refl, ap, sym, ◌∙◌, subst, arith, is_some}
use Rattle.std.specs.Option.{option_map}
use Rattle.std.specs.List.{AllByRecursion}
use Rattle.std.specs.List.Sorted.{IsStrictlySortedBy}
use Rattle.std.specs.Map.{keys_of}
use Rattle.std.specs.declared.cmp.Ordering.{Ordering}
use Rattle.std.specs.declared.cmp.Ordering.TheVariants.{Less, Equal, Greater}
use Rattle.std.specs.Ordering.{match_ordering, nat_cmp, eq_by_cmp}
use Rattle.std.specs.BTreeMap.{is_at}
use Rattle.std.specs.BTreeSet.{insert_key}
use Rattle.std.specs.Set.{remove_key}
use Rattle.std.proofs.lemmas.Cmp.{eq_by_cmp_equiv, nat_cmp_total}
use Rattle.std.proofs.lemmas.Grind.{common_steps}
use Rattle.std.proofs.lemmas.Map.{lookup-remove_entry}
use Rattle.std.proofs.lemmas.Map.Keys.{IsDistinct-from_sorted}
use Rattle.std.proofs.lemmas.Map.Made.{lookup-map_values}
use Rattle.tables.specs.Table.{Entries, IsOrdered, entry, with_entry, without, only, each_value}
use Rattle.gl_model.proofs.TableLaws.{is_at-nat_cmp, at_key, entry-only}
use Rattle.gl_model.proofs.KeyLaws.{keys-with_entry, keys-without}

-- The order of the keys

follows : (a b c : ℕ) → nat_cmp a b ≡ Less → nat_cmp b c ≡ Less → nat_cmp a c ≡ Less
follows a b c one two = grind (arith, common_steps)

turned : (a b : ℕ) → nat_cmp a b ≡ Greater → nat_cmp b a ≡ Less
turned a b is = grind (arith, common_steps)

abbrev IsAboveAll : ℕ → List ℕ → Type 0
IsAboveAll x ks = AllByRecursion (λ y. nat_cmp x y ≡ Less) ks

all_follow : (k x : ℕ) (ks : List ℕ) → nat_cmp k x ≡ Less → IsAboveAll x ks → IsAboveAll k ks
all_follow k x [] first rest = tt
all_follow k x (y ∷ ks) first rest = (follows k x y first rest.0, all_follow k x ks first rest.1)

still_above : (x k : ℕ) (ks : List ℕ) → nat_cmp x k ≡ Less → IsAboveAll x ks → IsAboveAll x (insert_key nat_cmp ks k)
still_above x k [] first rest = (first, tt)
still_above x k (y ∷ ks) first rest = by_order (nat_cmp k y) (still_above x k ks first rest.1)
  where
    by_order : (r : Ordering) → IsAboveAll x (insert_key nat_cmp ks k) → IsAboveAll x (match_ordering r (k ∷ y ∷ ks) (y ∷ ks) (y ∷ insert_key nat_cmp ks k))
    by_order Less h = (first, rest)
    by_order Equal h = rest
    by_order Greater h = (rest.0, h)

above_fewer : (x : ℕ) (test : ℕ → Bool) (ks : List ℕ) → IsAboveAll x ks → IsAboveAll x (remove_key test ks)
above_fewer x test [] all = tt
above_fewer x test (y ∷ ks) all = by_test (test y) (above_fewer x test ks all.1)
  where
    by_test : (b : Bool) → IsAboveAll x (remove_key test ks) → IsAboveAll x (cond b ks (y ∷ remove_key test ks))
    by_test true h = all.1
    by_test false h = (all.0, h)

sorted-insert_key : (k : ℕ) (ks : List ℕ) → IsStrictlySortedBy nat_cmp ks → IsStrictlySortedBy nat_cmp (insert_key nat_cmp ks k)
unfolding IsStrictlySortedBy
sorted-insert_key k [] h = (tt, tt)
sorted-insert_key k (y ∷ ks) h = by_order (nat_cmp k y) refl (sorted-insert_key k ks h.1)
  where
    by_order : (r : Ordering) → nat_cmp k y ≡ r → IsStrictlySortedBy nat_cmp (insert_key nat_cmp ks k) → IsStrictlySortedBy nat_cmp (match_ordering r (k ∷ y ∷ ks) (y ∷ ks) (y ∷ insert_key nat_cmp ks k))
    by_order Less is rest = ((is, all_follow k y ks is h.0), h)
    by_order Equal is rest = h
    by_order Greater is rest = (still_above y k ks (turned k y is) h.0, rest)

sorted-remove_key : (test : ℕ → Bool) (ks : List ℕ) → IsStrictlySortedBy nat_cmp ks → IsStrictlySortedBy nat_cmp (remove_key test ks)
unfolding IsStrictlySortedBy
sorted-remove_key test [] h = tt
sorted-remove_key test (y ∷ ks) h = by_test (test y) (sorted-remove_key test ks h.1)
  where
    by_test : (b : Bool) → IsStrictlySortedBy nat_cmp (remove_key test ks) → IsStrictlySortedBy nat_cmp (cond b ks (y ∷ remove_key test ks))
    by_test true rest = h.1
    by_test false rest = (above_fewer y test ks h.0, rest)

pub ordered-with_entry : {V : Type 0} (k : ℕ) (v : V) (t : Entries V) → IsOrdered t → IsOrdered (with_entry k v t)
ordered-with_entry k v t h = subst (IsStrictlySortedBy nat_cmp) (sym (keys-with_entry k v t)) (sorted-insert_key k (keys_of t) h)

pub ordered-without : {V : Type 0} (k : ℕ) (t : Entries V) → IsOrdered t → IsOrdered (without k t)
ordered-without k t h = subst (IsStrictlySortedBy nat_cmp) (sym (keys-without k t)) (sorted-remove_key (is_at (nat_cmp k)) (keys_of t) h)

pub ordered-same_keys : {V W : Type 0} (t : Entries V) (u : Entries W) → keys_of t ≡ keys_of u → IsOrdered t → IsOrdered u
ordered-same_keys t u same h = subst (IsStrictlySortedBy nat_cmp) same h

pub ordered-empty : (V : Type 0) → IsOrdered {V = V} []
unfolding IsStrictlySortedBy
ordered-empty V = tt

-- What a table has

pub entry-without : {V : Type 0} (k q : ℕ) (t : Entries V) → IsOrdered t → entry q (without k t) ≡ cond (k == q) None (entry q t)
entry-without {V} k q t h =
    lookup-remove_entry (eq_by_cmp_equiv nat_cmp_total) (is_at (nat_cmp k)) one q t (IsDistinct-from_sorted nat_cmp (keys_of t) h)
    ∙ ap (λ b. cond b None (entry q t)) (is_at-nat_cmp k q)
  where
    one : (x y : ℕ) → is_at (nat_cmp k) x ≡ true → is_at (nat_cmp k) y ≡ eq_by_cmp nat_cmp x y
    one x y is = ap (λ z. is_at (nat_cmp z) y) (sym (at_key k x is))

-- what is there once a key was taken out was there before
pub was-without : {V : Type 0} (k q : ℕ) (t : Entries V) (v : V) → IsOrdered t → entry q (without k t) ≡ Some v → entry q t ≡ Some v
was-without {V} k q t v h at = by_key (k == q) (sym (entry-without k q t h) ∙ at)
  where
    by_key : (b : Bool) → cond b None (entry q t) ≡ Some v → entry q t ≡ Some v
    by_key true is = let no : ⊥ = cc in absurd no
    by_key false is = is

-- what is under the keys that are kept was there before
pub was-only : {V : Type 0} (test : ℕ → Bool) (k : ℕ) (t : Entries V) (v : V) → entry k (only test t) ≡ Some v → entry k t ≡ Some v
was-only {V} test k t v at = by_test (test k) (sym (entry-only test k t) ∙ at)
  where
    by_test : (b : Bool) → cond b (entry k t) None ≡ Some v → entry k t ≡ Some v
    by_test true is = is
    by_test false is = let no : ⊥ = cc in absurd no

pub passes-only : {V : Type 0} (test : ℕ → Bool) (k : ℕ) (t : Entries V) (v : V) → entry k (only test t) ≡ Some v → test k ≡ true
passes-only {V} test k t v at = by_test (test k) (sym (entry-only test k t) ∙ at)
  where
    by_test : (b : Bool) → cond b (entry k t) None ≡ Some v → b ≡ true
    by_test true is = refl
    by_test false is = let no : ⊥ = cc in absurd no

pub entry-each_value : {V W : Type 0} (f : V → W) (k : ℕ) (t : Entries V) → entry k (each_value f t) ≡ option_map f (entry k t)
entry-each_value f k t = lookup-map_values f (is_at (nat_cmp k)) t

-- a test of an option, and its value
pub found : {V : Type 0} (o : Option V) → is_some o ≡ true → (v : V) × (o ≡ Some v)
found None is = let no : ⊥ = cc in absurd no
found (Some v) is = (v, refl)

pub none_found : {V : Type 0} (o : Option V) → is_some o ≡ false → o ≡ None
none_found None is = refl
none_found (Some v) is = let no : ⊥ = cc in absurd no

pub both_some : {V : Type 0} (o : Option V) (v w : V) → o ≡ Some v → o ≡ Some w → v ≡ w
both_some o v w one two = cc
