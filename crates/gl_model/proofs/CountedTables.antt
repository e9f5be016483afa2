-- A table and the sum of its bytes, as entries are set and taken out.
use Rattle.std.proofs.Common.{◌≡◌, ℕ, ◌+◌, ◌-◌, ◌^◌, ◌<◌, ◌≤◌, Bool, true, false, cond, [], ◌∷◌, length, unwrap_or, refl, ap, sym, ◌∙◌, arith}
use Rattle.std.specs.declared.cmp.Ordering.{Ordering}
use Rattle.std.specs.declared.cmp.Ordering.TheVariants.{Less, Equal, Greater}
use Rattle.std.specs.Ordering.{nat_cmp, match_ordering}
use Rattle.std.specs.BTreeMap.{is_at}
use Rattle.std.specs.Option.{option_map}
use Rattle.std.specs.List.{AllByRecursion, sum_by}
use Rattle.std.specs.List.Sorted.{IsStrictlySortedBy}
use Rattle.std.specs.Map.{keys_of, values_of}
use Rattle.std.proofs.lemmas.Cmp.{nat_cmp_total}
use Rattle.std.proofs.lemmas.Grind.{common_steps}
use Rattle.std.proofs.lemmas.List.Sums.{sum_by-cons, sum_by-le}
use Rattle.std.proofs.lemmas.Map.Entries.{sum_by-insert_entry, sum_by-remove_entry, length-keys_of, length-values_of}
use Rattle.std.proofs.lemmas.Map.Views.{All-keys-insert_entry, All-values-insert_entry, All-map-remove_entry, length-le_from_below}
use Rattle.tables.specs.Table.{Entries, entry, with_entry, without, IsOrdered}
use Rattle.gl_model.specs.Counted.{IsCounted, total_bytes}

-- the sum over entries is that over their values
pub total_bytes-values : {V : Type 0} (bytes : V → ℕ) (t : Entries V) → total_bytes bytes t ≡ sum_by bytes (values_of t)
total_bytes-values bytes [] = refl
total_bytes-values bytes (e ∷ t) =
    sum_by-cons (λ e. bytes e.1) e t ∙ ap (λ n. bytes e.1 + n) (total_bytes-values bytes t) ∙ sym (sum_by-cons bytes e.1 (values_of t))

-- keys above a key
AllAbove-with_entry : {V : Type 0} (j k : ℕ) (v : V) (t : Entries V) → nat_cmp j k ≡ Less → AllByRecursion (λ q. nat_cmp j q ≡ Less) (keys_of t) → AllByRecursion (λ q. nat_cmp j q ≡ Less) (keys_of (with_entry k v t))
AllAbove-with_entry j k v [] below above = (below, tt)
AllAbove-with_entry j k v (e ∷ t) below above = step (nat_cmp k e.0) (AllAbove-with_entry j k v t below above.1)
  where
    step : (o : Ordering) → AllByRecursion (λ q. nat_cmp j q ≡ Less) (keys_of (with_entry k v t)) → AllByRecursion (λ q. nat_cmp j q ≡ Less) (keys_of (match_ordering o ((k, v) ∷ e ∷ t) ((e.0, v) ∷ t) (e ∷ with_entry k v t)))
    step Less rest = (below, above)
    step Equal rest = above
    step Greater rest = (above.0, rest)

less_trans : (j k q : ℕ) → nat_cmp j k ≡ Less → nat_cmp k q ≡ Less → nat_cmp j q ≡ Less
less_trans j k q first second = nat_cmp_total.trans j k q first second

less_back : (k j : ℕ) → nat_cmp k j ≡ Greater → nat_cmp j k ≡ Less
less_back k j greater = grind (arith, common_steps)

AllAbove-below : {V : Type 0} (j k : ℕ) (t : Entries V) → nat_cmp j k ≡ Less → AllByRecursion (λ q. nat_cmp k q ≡ Less) (keys_of t) → AllByRecursion (λ q. nat_cmp j q ≡ Less) (keys_of t)
AllAbove-below j k [] below above = tt
AllAbove-below j k (e ∷ t) below above = (less_trans j k e.0 below above.0, AllAbove-below j k t below above.1)

pub IsOrdered-with_entry : {V : Type 0} (k : ℕ) (v : V) (t : Entries V) → IsOrdered t → IsOrdered (with_entry k v t)
unfolding IsStrictlySortedBy
IsOrdered-with_entry k v [] ordered = (tt, tt)
IsOrdered-with_entry k v (e ∷ t) ordered = step (nat_cmp k e.0) refl (IsOrdered-with_entry k v t ordered.1)
  where
    step : (o : Ordering) → nat_cmp k e.0 ≡ o → IsOrdered (with_entry k v t) → IsOrdered (match_ordering o ((k, v) ∷ e ∷ t) ((e.0, v) ∷ t) (e ∷ with_entry k v t))
    step Less is rest = ((is, AllAbove-below k e.0 t is ordered.0), ordered)
    step Equal is rest = ordered
    step Greater is rest = (AllAbove-with_entry e.0 k v t (less_back k e.0 is) ordered.0, rest)

AllAbove-without : {V : Type 0} (j k : ℕ) (t : Entries V) → AllByRecursion (λ q. nat_cmp j q ≡ Less) (keys_of t) → AllByRecursion (λ q. nat_cmp j q ≡ Less) (keys_of (without k t))
AllAbove-without j k [] above = tt
AllAbove-without j k (e ∷ t) above = step (is_at (nat_cmp k) e.0) (AllAbove-without j k t above.1)
  where
    step : (b : Bool) → AllByRecursion (λ q. nat_cmp j q ≡ Less) (keys_of (without k t)) → AllByRecursion (λ q. nat_cmp j q ≡ Less) (keys_of (cond b t (e ∷ without k t)))
    step true rest = above.1
    step false rest = (above.0, rest)

pub IsOrdered-without : {V : Type 0} (k : ℕ) (t : Entries V) → IsOrdered t → IsOrdered (without k t)
unfolding IsStrictlySortedBy
IsOrdered-without k [] ordered = tt
IsOrdered-without k (e ∷ t) ordered = step (is_at (nat_cmp k) e.0) (IsOrdered-without k t ordered.1)
  where
    step : (b : Bool) → IsOrdered (without k t) → IsOrdered (cond b t (e ∷ without k t))
    step true rest = ordered.1
    step false rest = (AllAbove-without e.0 k t ordered.0, rest)

module _ {V : Type 0} (bytes : V → ℕ) (t : Entries V) (sum : ℕ) (counted : IsCounted bytes t sum) where
  -- each of at most 2^32 values has at most 2^80 bytes
  pub total-le : sum ≤ 2 ^ 112
  total-le =
      let few : length (keys_of t) ≤ 2 ^ 32 = length-le_from_below (2 ^ 32) (keys_of t) counted.ordered counted.keys in
      let most = sum_by-le bytes (2 ^ 80) (values_of t) (λ k d inside. omega (arith, counted.bounded k d inside)) in
      omega (arith, counted.total, total_bytes-values bytes t, most, few, length-keys_of t, length-values_of t)

  -- what is set takes the place of what was there
  pub held-le : (k : ℕ) → unwrap_or (option_map bytes (entry k t)) 0 ≤ sum
  held-le k = omega (arith, counted.total, total_bytes-values bytes t, sum_by-remove_entry bytes (is_at (nat_cmp k)) t)

  pub IsCounted-with_entry : (k : ℕ) (v : V) → k < 2 ^ 32 → bytes v < 2 ^ 80 → IsCounted bytes (with_entry k v t) (sum - unwrap_or (option_map bytes (entry k t)) 0 + bytes v)
  IsCounted-with_entry k v short small = record {
    total =
        omega (arith, counted.total, total_bytes-values bytes t, total_bytes-values bytes (with_entry k v t), held-le k, sum_by-insert_entry bytes nat_cmp_total t k v counted.ordered);
    ordered = IsOrdered-with_entry k v t counted.ordered;
    keys = All-keys-insert_entry nat_cmp k v (λ k. k < 2 ^ 32) t counted.keys short;
    bounded = All-values-insert_entry nat_cmp k v (λ v. bytes v < 2 ^ 80) t counted.bounded small;
  }

  pub IsCounted-without : (k : ℕ) → IsCounted bytes (without k t) (sum - unwrap_or (option_map bytes (entry k t)) 0)
  IsCounted-without k = record {
    total =
        omega (arith, counted.total, total_bytes-values bytes t, total_bytes-values bytes (without k t), sum_by-remove_entry bytes (is_at (nat_cmp k)) t);
    ordered = IsOrdered-without k t counted.ordered;
    keys = All-map-remove_entry (is_at (nat_cmp k)) (λ e. e.0) (λ k. k < 2 ^ 32) t counted.keys;
    bounded = All-map-remove_entry (is_at (nat_cmp k)) (λ e. e.1) (λ v. bytes v < 2 ^ 80) t counted.bounded;
  }
