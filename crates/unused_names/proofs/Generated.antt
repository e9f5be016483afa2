-- Names that are generated, and forgotten.
use Rattle.std.proofs.Common.{◌≡◌, ℕ, ◌==◌, ◌||◌, zero, suc, Bool, true, false, not, cond, is_some, Option, Some, None, List, [], ◌∷◌, length, take, drop, refl, sym, ap, ◌∙◌, arith}
use Rattle.std.specs.List.{list_any, range_with_len}
use Rattle.std.specs.Option.{option_map}
use Rattle.std.proofs.lemmas.Bool.{false≢true}
use Rattle.std.proofs.lemmas.Grind.{common_steps}
use Rattle.tables.specs.Table.{Entries, entry, has, with_entry, without, each_value}
use Rattle.gl_model.specs.GroupEffect.{lowest_unused, with_generated}
use Rattle.gl_model.proofs.TableLaws.{is_at-nat_cmp, entry-with_entry}
use Rattle.unused_names.specs.Names.{AreUnused, without_all}

pub without-with_entry : {V : Type 0} (k : ℕ) (v : V) (t : Entries V) → has k t ≡ false → without k (with_entry k v t) ≡ t
without-with_entry k v [] absent = rw (is_at-nat_cmp k k) (grind (arith, common_steps))
without-with_entry k v (e ∷ t) absent = grind (arith, common_steps, is_at-nat_cmp, without-with_entry k v t)

pub entry-with_generated : {V : Type 0} (ns : List ℕ) (t : Entries (Option V)) (q : ℕ) → entry q (with_generated ns t) ≡ cond (list_any (λ n. q == n) ns) (Some None) (entry q t)
entry-with_generated [] t q = refl
entry-with_generated (n ∷ ns) t q = entry-with_entry n q None (with_generated ns t) ∙ step (q == n) (list_any (λ m. q == m) ns) (entry-with_generated ns t q)
  where
    step : (a b : Bool) → entry q (with_generated ns t) ≡ cond b (Some None) (entry q t) → cond a (Some None) (entry q (with_generated ns t)) ≡ cond (a || b) (Some None) (entry q t)
    step true b rest = refl
    step false b rest = rest

pub without_all-with_generated : {V : Type 0} (ns : List ℕ) (t : Entries (Option V)) → AreUnused ns t → without_all ns (with_generated ns t) ≡ t
without_all-with_generated [] t unused = refl
without_all-with_generated (n ∷ ns) t unused =
    let absent : has n (with_generated ns t) ≡ false = ap is_some (entry-with_generated ns t n) ∙ rw unused.1 unused.0 in
    ap (without_all ns) (without-with_entry n None (with_generated ns t) absent) ∙ without_all-with_generated ns t unused.2

pub AreUnused-drop : {V : Type 0} (k : ℕ) (ns : List ℕ) (t : Entries V) → AreUnused ns t → AreUnused (drop k ns) t
AreUnused-drop zero ns t unused = unused
AreUnused-drop (suc k) [] t unused = tt
AreUnused-drop (suc k) (n ∷ ns) t unused = AreUnused-drop k ns t unused.2
