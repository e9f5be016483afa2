-- The index of the context that is current on a thread.
use Rattle.std.proofs.Common.{◌≡◌, ℕ, Bool, true, false, cond, Option, Some, None, [], ◌∷◌, refl, sym, ◌∙◌, ap, is_some, arith}
use Rattle.std.specs.Option.{option_map, option_and_then}
use Rattle.std.specs.List.{find}
use Rattle.std.specs.Ordering.{nat_cmp}
use Rattle.std.specs.BTreeMap.{is_at}
use Rattle.std.proofs.lemmas.Bool.{false≢true}
use Rattle.std.proofs.lemmas.Grind.{common_steps}
use Rattle.tables.specs.Table.{Entries, entry, has}
use Rattle.gl_model.specs.declared.state.Context.{Context}
use Rattle.gl_model.specs.declared.state.GroupState.{GroupState}
use Rattle.gl_model.specs.Bindings.{current_context, current_entry}
use Rattle.gl_model.proofs.TableLaws.{is_at-nat_cmp}
use Rattle.back_core.specs.Needs.{IsOfGroup}
use Rattle.front_core.specs.Share.{HaveIndexes, current_index}

-- an entry that is found is there under its key
found_is_there : {V : Type 0} (p : ℕ × V → Bool) (t : Entries V) (e : ℕ × V) → find p t ≡ Some e → has e.0 t ≡ true
found_is_there p [] e is = absurd (cc)
found_is_there {V} p (h ∷ t) e is = by_test (p h) is (found_is_there p t e)
  where
    later : (b : Bool) (o : Option V) → is_some o ≡ true → is_some (cond b (Some h.1) o) ≡ true
    later true o there = refl
    later false o there = there

    first : has h.0 (h ∷ t) ≡ true
    first = grind (arith, common_steps, is_at-nat_cmp h.0 h.0)

    by_test : (b : Bool) → cond b (Some h) (find p t) ≡ Some e → (find p t ≡ Some e → has e.0 t ≡ true) → has e.0 (h ∷ t) ≡ true
    by_test true found rest = let same : h ≡ e = cc in ap (λ (q : ℕ × V). has q.0 (h ∷ t)) (sym same) ∙ first
    by_test false found rest = later (is_at (nat_cmp e.0) h.0) (entry e.0 t) (rest found)

-- the context that is current on a thread has an index of the group
pub index_of_current : (group : GroupState) (serials : Entries ℕ) (owner thread : ℕ) (context : Context) → HaveIndexes group.contexts serials owner → current_context group thread ≡ Some context →
    (i : ℕ) × (current_index group serials thread ≡ Some i) × IsOfGroup owner i
index_of_current group serials owner thread context indexes current = by_entry (current_entry group thread) refl current
  where
    by_index : (n : ℕ) (o : Option ℕ) → entry n serials ≡ o → is_some o ≡ true → (i : ℕ) × (entry n serials ≡ Some i) × IsOfGroup owner i
    by_index n None at there = absurd (false≢true there)
    by_index n (Some i) at there = (i, at, indexes.of_group n i at)

    by_entry : (o : Option (ℕ × Context)) → current_entry group thread ≡ o → option_map (λ (e : ℕ × Context). e.1) o ≡ Some context → (i : ℕ) × (option_and_then (λ (e : ℕ × Context). entry e.0 serials) o ≡ Some i) × IsOfGroup owner i
    by_entry None is none = let bad : ⊥ = cc in absurd bad
    by_entry (Some e) is some = by_index e.0 (entry e.0 serials) refl (indexes.each e.0 ∙ found_is_there _ group.contexts e is)
