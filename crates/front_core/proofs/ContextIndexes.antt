-- Each context has an index of its own still as contexts come and go.
use Rattle.std.proofs.Common.{arith, ◌≡◌, ◌≢◌, ℕ, ◌+◌, ◌<◌, ◌≤◌, ◌==◌, ◌||◌, Bool, true, false, cond, Option, Some, None, [], ◌∷◌, map, refl, sym, ◌∙◌, ap, subst, is_some}
use Rattle.std.specs.Ordering.{nat_cmp}
use Rattle.std.specs.BTreeMap.{is_at}
use Rattle.std.specs.List.{filter}
use Rattle.std.proofs.lemmas.Bool.{false≢true, eqb-true, eq-eqb}
use Rattle.tables.specs.Table.{Entries, entry, has, with_entry, only, any_value}
use Rattle.gl_model.specs.declared.state.Context.{Context}
use Rattle.gl_model.specs.GroupEffect.{let_go, taken_by, destroyed}
use Rattle.gl_model.proofs.TableLaws.{entry-only, entry-with_entry}
use Rattle.back_core.specs.Needs.{IsOfGroup}
use Rattle.front_core.specs.Share.{HaveIndexes}

-- which keys a table has after a change

has-mapped : {V W : Type 0} (g : ℕ × V → W) (n : ℕ) (t : Entries V) → has n (map (λ e. (e.0, g e)) t) ≡ has n t
has-mapped g n [] = refl
has-mapped {V} {W} g n (e ∷ t) = by_first (is_at (nat_cmp n) e.0) (g e) e.1 (entry n (map (λ e. (e.0, g e)) t)) (entry n t) (has-mapped g n t)
  where
    by_first : (b : Bool) (w : W) (v : V) (r : Option W) (q : Option V) → is_some r ≡ is_some q → is_some (cond b (Some w) r) ≡ is_some (cond b (Some v) q)
    by_first true w v r q rest = refl
    by_first false w v r q rest = rest

has-filtered : {V : Type 0} (p : ℕ × V → Bool) (n : ℕ) (t : Entries V) → has n (filter p t) ≡ true → has n t ≡ true
has-filtered p n [] h = h
has-filtered {V} p n (e ∷ t) h = by_kept (p e) (is_at (nat_cmp n) e.0) refl (has-filtered p n t) h
  where
    later : (b : Bool) (o : Option V) → is_some o ≡ true → is_some (cond b (Some e.1) o) ≡ true
    later true o is = refl
    later false o is = is

    first : (b : Bool) (o q : Option V) → (is_some o ≡ true → is_some q ≡ true) → is_some (cond b (Some e.1) o) ≡ true → is_some (cond b (Some e.1) q) ≡ true
    first true o q rest is = refl
    first false o q rest is = rest is

    by_kept : (k b : Bool) → is_at (nat_cmp n) e.0 ≡ b → (has n (filter p t) ≡ true → has n t ≡ true) → has n (cond k (e ∷ filter p t) (filter p t)) ≡ true → has n (e ∷ t) ≡ true
    by_kept true b at rest is = first (is_at (nat_cmp n) e.0) (entry n (filter p t)) (entry n t) rest is
    by_kept false b at rest is = later (is_at (nat_cmp n) e.0) (entry n t) (rest is)

pub fewer-destroyed : (number n : ℕ) (t : Entries Context) → has n (destroyed number t) ≡ true → has n t ≡ true
fewer-destroyed number n t h = has-filtered _ n t (sym (has-mapped _ n (filter _ t)) ∙ h)

pub fewer-taken : (thread number n : ℕ) (t : Entries Context) → has n (taken_by thread number (let_go thread t)) ≡ true → has n t ≡ true
fewer-taken thread number n t h = has-filtered _ n t (sym (has-mapped _ n (filter _ t)) ∙ sym (has-mapped _ n (let_go thread t)) ∙ h)

-- a value that is nowhere in a table
not_there : (i : ℕ) (t : Entries ℕ) → any_value (λ j. j == i) t ≡ false → (n : ℕ) → entry n t ≢ Some i
not_there i [] none n is = let bad : ⊥ = cc in bad
not_there i (e ∷ t) none n is = by_first (is_at (nat_cmp n) e.0) (e.1 == i) refl none (λ out. not_there i t out n) is
  where
    by_first : (b f : Bool) → (e.1 == i) ≡ f → (f || any_value (λ j. j == i) t) ≡ false → (any_value (λ j. j == i) t ≡ false → entry n t ≢ Some i) → cond b (Some e.1) (entry n t) ≡ Some i → ⊥
    by_first b true same out rest at = false≢true (sym out)
    by_first true false same out rest at = let here : e.1 ≡ i = cc in false≢true (sym same ∙ eq-eqb e.1 i here)
    by_first false false same out rest at = rest out at

-- a context was created, and has an index that no other has
pub created_indexes : (contexts : Entries Context) (serials : Entries ℕ) (group number i : ℕ) (v : Context) → HaveIndexes contexts serials group → IsOfGroup group i → any_value (λ j. j == i) serials ≡ false → HaveIndexes (with_entry number v contexts) (with_entry number i serials) group
created_indexes contexts serials group number i v h own free = record {
  each = λ n. ap is_some (entry-with_entry number n i serials) ∙ each (n == number) n ∙ sym (ap is_some (entry-with_entry number n v contexts));
  of_group = λ n j at. of_group (n == number) n j (sym (entry-with_entry number n i serials) ∙ at);
  distinct = λ n m j at_n at_m. distinct (n == number) (m == number) n m j refl refl (sym (entry-with_entry number n i serials) ∙ at_n) (sym (entry-with_entry number m i serials) ∙ at_m);
}
  where
    each : (b : Bool) (n : ℕ) → is_some (cond b (Some i) (entry n serials)) ≡ is_some (cond b (Some v) (entry n contexts))
    each true n = refl
    each false n = h.each n

    of_group : (b : Bool) (n j : ℕ) → cond b (Some i) (entry n serials) ≡ Some j → IsOfGroup group j
    of_group true n j at = let same : i ≡ j = cc in subst (IsOfGroup group) same own
    of_group false n j at = h.of_group n j at

    distinct : (b d : Bool) (n m j : ℕ) → (n == number) ≡ b → (m == number) ≡ d → cond b (Some i) (entry n serials) ≡ Some j → cond d (Some i) (entry m serials) ≡ Some j → n ≡ m
    distinct true true n m j is_n is_m at_n at_m = eqb-true n number is_n ∙ sym (eqb-true m number is_m)
    distinct true false n m j is_n is_m at_n at_m = absurd (not_there i serials free m (at_m ∙ sym at_n))
    distinct false true n m j is_n is_m at_n at_m = absurd (not_there i serials free n (at_n ∙ sym at_m))
    distinct false false n m j is_n is_m at_n at_m = h.distinct n m j at_n at_m

-- contexts ended, and their indexes were taken out
pub left_indexes : (before after : Entries Context) (serials : Entries ℕ) (group : ℕ) → HaveIndexes before serials group → ((n : ℕ) → has n after ≡ true → has n before ≡ true) → HaveIndexes after (only (λ n. has n after) serials) group
left_indexes before after serials group h fewer = record {
  each = λ n. ap is_some (entry-only (λ k. has k after) n serials) ∙ each (has n after) (entry n serials) (λ there. h.each n ∙ fewer n there);
  of_group = λ n j at. h.of_group n j (was n j at);
  distinct = λ n m j at_n at_m. h.distinct n m j (was n j at_n) (was m j at_m);
}
  where
    each : (b : Bool) (o : Option ℕ) → (b ≡ true → is_some o ≡ true) → is_some (cond b o None) ≡ b
    each true o there = there refl
    each false o there = refl

    kept : (b : Bool) (o : Option ℕ) (j : ℕ) → cond b o None ≡ Some j → o ≡ Some j
    kept true o j at = at
    kept false o j at = let bad : ⊥ = cc in absurd bad

    was : (n j : ℕ) → entry n (only (λ k. has k after) serials) ≡ Some j → entry n serials ≡ Some j
    was n j at = kept (has n after) (entry n serials) j (sym (entry-only (λ k. has k after) n serials) ∙ at)

-- a table that is taken apart and put together
pub same_entries : {V : Type 0} (t : Entries V) → map (λ e. (e.0, e.1)) t ≡ t
same_entries [] = refl
same_entries (e ∷ t) = ap (λ rest. e ∷ rest) (same_entries t)

-- the same said of equal tables
pub indexes_of_equal : (x y : Entries Context) (p q : Entries ℕ) (m n : ℕ) → x ≡ y → p ≡ q → m ≡ n → HaveIndexes y q n → HaveIndexes x p m
indexes_of_equal x y p q m n contexts serials group h =
    subst (λ k. HaveIndexes x p k) (sym group) (subst (λ t. HaveIndexes x t n) (sym serials) (subst (λ t. HaveIndexes t q n) (sym contexts) h))

-- each index of a range is that of a context
abbrev pub AreTaken : Entries ℕ → ℕ → ℕ → Type 0
AreTaken serials low high = (k : ℕ) → low ≤ k → k < high → any_value (λ j. j == k) serials ≡ true

pub none_taken : (serials : Entries ℕ) (low : ℕ) → AreTaken serials low (low + 0)
none_taken serials low k above below = absurd (omega arith)

pub one_more_taken : (serials : Entries ℕ) (low place : ℕ) → AreTaken serials low (low + place) → any_value (λ j. j == low + place) serials ≡ true → AreTaken serials low (low + (place + 1))
one_more_taken serials low place before this k above below = by_last (k == low + place) refl
  where
    by_last : (b : Bool) → (k == low + place) ≡ b → any_value (λ j. j == k) serials ≡ true
    by_last true is = subst (λ i. any_value (λ j. j == i) serials ≡ true) (sym (eqb-true k (low + place) is)) this
    by_last false is = before k above (let other : k ≢ low + place = λ e. false≢true (sym is ∙ eq-eqb k (low + place) e) in omega arith)
