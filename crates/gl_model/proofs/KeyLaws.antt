-- What changes of a table do to its keys, and to a fact of each of its values.
use Rattle.std.proofs.Common.{◌≡◌, ℕ, ◌==◌, ◌||◌, Bool, true, false, cond, Option, Some, None, [], ◌∷◌, map, is_some, refl, ap, sym, ◌∙◌, subst}
use Rattle.std.specs.List.{All, filter, find, list_any}
use Rattle.std.specs.Map.{keys_of, values_of}
use Rattle.std.specs.declared.cmp.Ordering.{Ordering}
use Rattle.std.specs.declared.cmp.Ordering.TheVariants.{Less, Equal, Greater}
use Rattle.std.specs.Ordering.{match_ordering, nat_cmp}
use Rattle.std.specs.BTreeMap.{is_at}
use Rattle.std.specs.BTreeSet.{insert_key}
use Rattle.std.specs.Set.{remove_key}
use Rattle.std.proofs.lemmas.Bool.{eqb-true, eq-eqb}
use Rattle.std.proofs.lemmas.List.Elements.{All-nil, All-cons, All-head, All-tail}
use Rattle.std.proofs.lemmas.Map.Made.{is_some-lookup, keys_of-map_values}
use Rattle.tables.specs.Table.{Entries, entry, has, with_entry, without, only, each_value}
use Rattle.gl_model.proofs.TableLaws.{is_at-nat_cmp, entry-with_entry, entry-only}

-- Keys

pub keys-with_entry : {V : Type 0} (k : ℕ) (v : V) (t : Entries V) → keys_of (with_entry k v t) ≡ insert_key nat_cmp (keys_of t) k
keys-with_entry k v [] = refl
keys-with_entry {V} k v (e ∷ t) = by_order (nat_cmp k e.0) (keys-with_entry k v t)
  where
    by_order : (r : Ordering) → keys_of (with_entry k v t) ≡ insert_key nat_cmp (keys_of t) k → keys_of (match_ordering r ((k, v) ∷ e ∷ t) ((e.0, v) ∷ t) (e ∷ with_entry k v t)) ≡ match_ordering r (k ∷ e.0 ∷ keys_of t) (e.0 ∷ keys_of t) (e.0 ∷ insert_key nat_cmp (keys_of t) k)
    by_order Less h = refl
    by_order Equal h = refl
    by_order Greater h = ap (λ ks. e.0 ∷ ks) h

pub keys-without : {V : Type 0} (k : ℕ) (t : Entries V) → keys_of (without k t) ≡ remove_key (is_at (nat_cmp k)) (keys_of t)
keys-without k [] = refl
keys-without {V} k (e ∷ t) = by_key (is_at (nat_cmp k) e.0) (keys-without k t)
  where
    by_key : (b : Bool) → keys_of (without k t) ≡ remove_key (is_at (nat_cmp k)) (keys_of t) → keys_of (cond b t (e ∷ without k t)) ≡ cond b (keys_of t) (e.0 ∷ remove_key (is_at (nat_cmp k)) (keys_of t))
    by_key true h = refl
    by_key false h = ap (λ ks. e.0 ∷ ks) h

pub keys-each_value : {V W : Type 0} (f : V → W) (t : Entries V) → keys_of (each_value f t) ≡ keys_of t
keys-each_value f t = keys_of-map_values f t

-- tables with the same keys have the same
pub has-same_keys : {V W : Type 0} (n : ℕ) (t : Entries V) (u : Entries W) → keys_of t ≡ keys_of u → has n t ≡ has n u
has-same_keys n t u same = is_some-lookup (is_at (nat_cmp n)) t ∙ ap (λ ks. list_any (is_at (nat_cmp n)) ks) same ∙ sym (is_some-lookup (is_at (nat_cmp n)) u)

has-first : {V : Type 0} (e : ℕ × V) (t : Entries V) → has e.0 (e ∷ t) ≡ true
has-first e t = ap (λ b. is_some (cond b (Some e.1) (entry e.0 t))) (is_at-nat_cmp e.0 e.0 ∙ eq-eqb e.0 e.0 refl)

has-later : {V : Type 0} (n : ℕ) (e : ℕ × V) (t : Entries V) → has n t ≡ true → has n (e ∷ t) ≡ true
has-later {V} n e t h = by_first (is_at (nat_cmp n) e.0) (entry n t) h
  where
    by_first : (b : Bool) (o : Option V) → is_some o ≡ true → is_some (cond b (Some e.1) o) ≡ true
    by_first true o is = refl
    by_first false o is = is

-- what is found in a table is in it under its key
pub has-found : {V : Type 0} (p : ℕ × V → Bool) (t : Entries V) (e : ℕ × V) → find p t ≡ Some e → has e.0 t ≡ true
has-found p [] e is = let bad : ⊥ = cc in absurd bad
has-found {V} p (x ∷ t) e is = by_test (p x) (λ later. has-found p t e later) is
  where
    by_test : (b : Bool) → (find p t ≡ Some e → has e.0 t ≡ true) → cond b (Some x) (find p t) ≡ Some e → has e.0 (x ∷ t) ≡ true
    by_test true rest here = let same : x ≡ e = cc in subst (λ (y : ℕ × V). has y.0 (x ∷ t) ≡ true) same (has-first x t)
    by_test false rest later = has-later e.0 x t (rest later)

pub has-new : {V : Type 0} (k n : ℕ) (v : V) (t : Entries V) → has n (with_entry k v t) ≡ ((n == k) || has n t)
has-new {V} k n v t = ap is_some (entry-with_entry k n v t) ∙ by_key (n == k) (entry n t)
  where
    by_key : (b : Bool) (o : Option V) → is_some (cond b (Some v) o) ≡ (b || is_some o)
    by_key true o = refl
    by_key false o = refl

-- a table has the keys that it had, once one of them has another value
pub has-replaced : {V : Type 0} (k n : ℕ) (v : V) (t : Entries V) → has k t ≡ true → has n (with_entry k v t) ≡ has n t
has-replaced k n v t there = has-new k n v t ∙ by_key (n == k) refl
  where
    by_key : (b : Bool) → (n == k) ≡ b → (b || has n t) ≡ has n t
    by_key true is = sym (subst (λ m. has m t ≡ true) (sym (eqb-true n k is)) there)
    by_key false is = refl

pub has-mapped : {V W : Type 0} (n : ℕ) (f : ℕ × V → W) (t : Entries V) → has n (map (λ e. (e.0, f e)) t) ≡ has n t
has-mapped n f [] = refl
has-mapped {V} {W} n f (e ∷ t) = by_key (is_at (nat_cmp n) e.0) (has-mapped n f t)
  where
    by_key : (b : Bool) → has n (map (λ e. (e.0, f e)) t) ≡ has n t → is_some (cond b (Some (f e)) (entry n (map (λ e. (e.0, f e)) t))) ≡ is_some (cond b (Some e.1) (entry n t))
    by_key true h = refl
    by_key false h = h

pub has-filtered : {V : Type 0} (n : ℕ) (p : ℕ × V → Bool) (t : Entries V) → has n (filter p t) ≡ true → has n t ≡ true
has-filtered n p [] h = h
has-filtered {V} n p (e ∷ t) h = by_test (p e) (has-filtered n p t) h
  where
    by_first : (b : Bool) → (has n (filter p t) ≡ true → has n t ≡ true) → is_some (cond b (Some e.1) (entry n (filter p t))) ≡ true → is_some (cond b (Some e.1) (entry n t)) ≡ true
    by_first true rest is = refl
    by_first false rest is = rest is

    by_test : (b : Bool) → (has n (filter p t) ≡ true → has n t ≡ true) → has n (cond b (e ∷ filter p t) (filter p t)) ≡ true → has n (e ∷ t) ≡ true
    by_test true rest is = by_first (is_at (nat_cmp n) e.0) rest is
    by_test false rest is = has-later n e t (rest is)

-- the entries under the keys of another table, where that has no others
pub has-only : {V W : Type 0} (n : ℕ) (t : Entries V) (keys : Entries W) → (has n keys ≡ true → has n t ≡ true) → has n (only (λ k. has k keys) t) ≡ has n keys
has-only {V} {W} n t keys covered = ap is_some (entry-only (λ k. has k keys) n t) ∙ by_test (has n keys) covered
  where
    by_test : (b : Bool) → (b ≡ true → has n t ≡ true) → is_some (cond b (entry n t) None) ≡ b
    by_test true h = h refl
    by_test false h = refl

pub only-all : {V : Type 0} (test : ℕ → Bool) (t : Entries V) → ((n : ℕ) → has n t ≡ true → test n ≡ true) → only test t ≡ t
only-all test [] pass = refl
only-all {V} test (e ∷ t) pass = by_test (test e.0) (pass e.0 (has-first e t)) (only-all test t (λ n there. pass n (has-later n e t there)))
  where
    by_test : (b : Bool) → b ≡ true → only test t ≡ t → cond b (e ∷ only test t) (only test t) ≡ e ∷ t
    by_test true is h = ap (λ u. e ∷ u) h
    by_test false is h = let no : ⊥ = cc in absurd no

-- A fact of each value

pub all-each_value : {V W : Type 0} (P : V → Type 0) (Q : W → Type 0) (f : V → W) → ((v : V) → P v → Q (f v)) → (t : Entries V) → All P (values_of t) → All Q (values_of (each_value f t))
all-each_value P Q f step [] all = All-nil Q
all-each_value P Q f step (e ∷ t) all =
    All-cons Q (f e.1) (values_of (each_value f t)) (step e.1 (All-head P e.1 (values_of t) all)) (all-each_value P Q f step t (All-tail P e.1 (values_of t) all))

pub all-only : {V : Type 0} (P : V → Type 0) (test : ℕ → Bool) (t : Entries V) → All P (values_of t) → All P (values_of (only test t))
all-only P test [] all = all
all-only {V} P test (e ∷ t) all = by_test (test e.0) (all-only P test t (All-tail P e.1 (values_of t) all))
  where
    by_test : (b : Bool) → All P (values_of (only test t)) → All P (values_of (cond b (e ∷ only test t) (only test t)))
    by_test true h = All-cons P e.1 (values_of (only test t)) (All-head P e.1 (values_of t) all) h
    by_test false h = h
