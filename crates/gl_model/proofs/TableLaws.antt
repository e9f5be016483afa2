-- What a table has under a key after a change.
use Rattle.std.proofs.Common.{◌≡◌, ℕ, ◌==◌, Bool, true, false, cond, Some, None, [], ◌∷◌, map, refl, ap, arith}
use Rattle.std.specs.Option.{option_map}
use Rattle.std.specs.Ordering.{nat_cmp}
use Rattle.std.specs.BTreeMap.{is_at}
use Rattle.std.proofs.lemmas.Grind.{common_steps}
use Rattle.std.proofs.lemmas.Map.Entries.{lookup-filter-keys}
use Rattle.tables.specs.Table.{Entries, entry, with_entry, only}

pub is_at-nat_cmp : (k q : ℕ) → is_at (nat_cmp k) q ≡ (k == q)
is_at-nat_cmp k q = grind (arith, common_steps)

pub at_key : (k q : ℕ) → is_at (nat_cmp k) q ≡ true → q ≡ k
at_key k q h = grind (arith, common_steps, is_at-nat_cmp)

pub entry-only : {V : Type 0} (test : ℕ → Bool) (k : ℕ) (t : Entries V) → entry k (only test t) ≡ cond (test k) (entry k t) None
entry-only test k t = lookup-filter-keys (is_at (nat_cmp k)) test (test k) (λ q h. ap test (at_key k q h)) t

-- the keys of a table, each with a value that is made of the key
keyed_step : {V W : Type 0} (f : ℕ → W) (k : ℕ) (e : ℕ × V) (t : Entries V) (b : Bool) → is_at (nat_cmp k) e.0 ≡ b → entry k (map (λ e. (e.0, f e.0)) t) ≡ option_map (λ _. f k) (entry k t) → entry k (map (λ e. (e.0, f e.0)) (e ∷ t)) ≡ option_map (λ _. f k) (entry k (e ∷ t))
keyed_step f k e t true h rest = rw h (ap (λ q. Some (f q)) (at_key k e.0 h))
keyed_step f k e t false h rest = rw h rest

pub entry-keyed : {V W : Type 0} (f : ℕ → W) (k : ℕ) (t : Entries V) → entry k (map (λ e. (e.0, f e.0)) t) ≡ option_map (λ _. f k) (entry k t)
entry-keyed f k [] = refl
entry-keyed f k (e ∷ t) = keyed_step f k e t (is_at (nat_cmp k) e.0) refl (entry-keyed f k t)

pub entry-with_entry : {V : Type 0} (k q : ℕ) (v : V) (t : Entries V) → entry q (with_entry k v t) ≡ cond (q == k) (Some v) (entry q t)
entry-with_entry k q v [] = rw (is_at-nat_cmp q k) refl
entry-with_entry k q v (e ∷ t) = grind (arith, common_steps, is_at-nat_cmp, entry-with_entry k q v t)
