-- A node that sets the bytes of one object.
use Rattle.std.proofs.Common.{◌≡◌, ◌≢◌, ℕ, ◌<◌, ◌≤◌, List, length, true, false, refl, sym, ◌∙◌, ap, subst, arith, inl, inr}
use Rattle.std.specs.Prelude.{◌⊎◌, ◌&&◌, ◌||◌, option_map, nat_eq, nat_le, nat_lt}
use Rattle.std.proofs.lemmas.Bool.{cases_Bool, eqb-true, eqb-false, both_ways, or_from, or_left, and_left, ne_eqb, ltb-true, ltb-false}
use Rattle.std.proofs.lemmas.List.{get_or_past}
use Rattle.vk_types.specs.declared.ops.Node.{Node}
use Rattle.cells.specs.Contents.{UNDEFINED, AgreesAt, cell_at}
use Rattle.vk_model.specs.Cells.{op_cell}
use Rattle.vk_model.specs.Log.{Command, Range}
use Rattle.vk_model.specs.Meaning.{covers, is_written, found, apply}
use Rattle.vk_types.specs.Touches.{the_end}
use Rattle.vk_model.proofs.Copies.{covered_from}
use Rattle.vk_model.proofs.Local.{after_written}
use Rattle.vk_model.proofs.Executing.{node_executed}
use Rattle.vk_objects.specs.declared.objects.Objects.{Objects}
use Rattle.vk_objects.specs.Undefined.{KeepsAt}
use Rattle.vk_objects.specs.Objects.{kind_of, bytes_in, bytes_of, kinds_of, contents_of, SetsBytes, Rewrites, Executes}

same_or_not : (a b : ℕ) → (a ≡ b) ⊎ (a ≢ b)
same_or_not a b = go (cases_Bool (nat_eq a b))
  where
    go : (nat_eq a b ≡ true) ⊎ (nat_eq a b ≡ false) → (a ≡ b) ⊎ (a ≢ b)
    go (inl e) = inl (eqb-true a b e)
    go (inr e) = inr (eqb-false a b e)

-- what a node has to leave in the one object that it writes
pub record Writes (old : Objects) (n : Node) (id : ℕ) (bytes : List ℕ) : Type 0 where
  pub only : (other i : ℕ) → other ≢ id → is_written (Command 0 n) other i ≡ false
  pub inside : (i : ℕ) → is_written (Command 0 n) id i ≡ true → AgreesAt (cell_at bytes i) (op_cell (kinds_of old) n.op (contents_of old) id i)
  pub outside : (i : ℕ) → is_written (Command 0 n) id i ≡ false → cell_at bytes i ≡ contents_of old id i
  pub kept : (i : ℕ) → is_written (Command 0 n) id i ≡ true → KeepsAt (contents_of old id i) (cell_at bytes i) (op_cell (kinds_of old) n.op (found (Command 0 n) (contents_of old)) id i)
  pub size : length bytes ≡ length (bytes_of old id)

module _ (old new : Objects) (n : Node) (id : ℕ) (bytes : List ℕ) (sets : SetsBytes old new id bytes) (w : Writes old n id bytes) where
  inside_all : (other i : ℕ) → (other ≡ id) ⊎ (other ≢ id) → is_written (Command 0 n) other i ≡ true → AgreesAt (contents_of new other i) (op_cell (kinds_of old) n.op (contents_of old) other i)
  inside_all other i (inl e) written =
      let written' : is_written (Command 0 n) id i ≡ true = subst (λ k. is_written (Command 0 n) k i ≡ true) e written in
      subst (λ k. AgreesAt (contents_of new k i) (op_cell (kinds_of old) n.op (contents_of old) k i)) (sym e)
      (subst (λ b. AgreesAt (cell_at b i) (op_cell (kinds_of old) n.op (contents_of old) id i)) (sym sets.here) (w.inside i written'))
  inside_all other i (inr ne) written = absurd (both_ways (is_written (Command 0 n) other i) (w.only other i ne) written)

  outside_all : (other i : ℕ) → (other ≡ id) ⊎ (other ≢ id) → is_written (Command 0 n) other i ≡ false → contents_of new other i ≡ contents_of old other i
  outside_all other i (inl e) unwritten =
      subst (λ k. contents_of new k i ≡ contents_of old k i) (sym e)
      (ap (λ b. cell_at b i) sets.here ∙ w.outside i (subst (λ k. is_written (Command 0 n) k i ≡ false) e unwritten))
  outside_all other i (inr ne) unwritten = ap (λ o. cell_at (bytes_in o) i) (sets.others other ne)

  kept_here : (i : ℕ) → is_written (Command 0 n) id i ≡ true → KeepsAt (contents_of old id i) (contents_of new id i) (apply (kinds_of old) (Command 0 n) (contents_of old) id i)
  kept_here i written undefined byte =
      ap (λ b. cell_at b i) sets.here
      ∙ w.kept i written (subst (λ v. UNDEFINED ≤ v) (after_written (kinds_of old) (Command 0 n) (contents_of old) id i written) undefined) (subst (λ b. cell_at b i < UNDEFINED) sets.here byte)

  kept_all : (other i : ℕ) → (other ≡ id) ⊎ (other ≢ id) → (is_written (Command 0 n) other i ≡ true) ⊎ (is_written (Command 0 n) other i ≡ false) → KeepsAt (contents_of old other i) (contents_of new other i) (apply (kinds_of old) (Command 0 n) (contents_of old) other i)
  kept_all other i here (inr unwritten) = λ undefined byte. outside_all other i here unwritten
  kept_all other i (inl e) (inl written) =
      subst (λ k. is_written (Command 0 n) k i ≡ true → KeepsAt (contents_of old k i) (contents_of new k i) (apply (kinds_of old) (Command 0 n) (contents_of old) k i)) (sym e) (kept_here i) written
  kept_all other i (inr ne) (inl written) = absurd (both_ways (is_written (Command 0 n) other i) (w.only other i ne) written)

  kinds_all : (other : ℕ) → (other ≡ id) ⊎ (other ≢ id) → kind_of new other ≡ kind_of old other
  kinds_all other (inl e) = subst (λ k. kind_of new k ≡ kind_of old k) (sym e) sets.kind
  kinds_all other (inr ne) = ap (option_map (λ o. o.kind)) (sets.others other ne)

  sizes_all : (other : ℕ) → (other ≡ id) ⊎ (other ≢ id) → length (bytes_of new other) ≡ length (bytes_of old other)
  sizes_all other (inl e) = subst (λ k. length (bytes_of new k) ≡ length (bytes_of old k)) (sym e) (ap length sets.here ∙ w.size)
  sizes_all other (inr ne) = ap (λ o. length (bytes_in o)) (sets.others other ne)

  pub executes : Executes old new n
  executes = record {
    agree = node_executed (kinds_of old) 0 n (contents_of old) (contents_of new) (λ other i. inside_all other i (same_or_not other id)) (λ other i. outside_all other i (same_or_not other id));
    kept = λ other i. kept_all other i (same_or_not other id) (cases_Bool (is_written (Command 0 n) other i));
    kinds = λ other. kinds_all other (same_or_not other id);
    sizes = λ other. sizes_all other (same_or_not other id);
    count = sets.count;
  }

-- a node that writes a whole object
abbrev whole_range : ℕ → Range
whole_range id = record { id = id; start = 0; end = the_end; written = true }

module _ (old new : Objects) (n : Node) (id : ℕ) (rewrites : Rewrites old new id) where
  pub whole_executes : ((other i : ℕ) → is_written (Command 0 n) other i ≡ (covers other i (whole_range id) || false))
      → ((i : ℕ) → AgreesAt (cell_at (bytes_of new id) i) (op_cell (kinds_of old) n.op (contents_of old) id i))
      → ((i : ℕ) → is_written (Command 0 n) id i ≡ true → KeepsAt (cell_at (bytes_of old id) i) (cell_at (bytes_of new id) i) (op_cell (kinds_of old) n.op (found (Command 0 n) (contents_of old)) id i))
      → Executes old new n
  whole_executes whole agrees keeps = executes old new n id (bytes_of new id) rewrites.sets (record {
    only = λ other i ne. whole other i ∙ or_from (covers other i (whole_range id)) false (and_left (nat_eq id other && nat_le 0 i) (nat_lt i the_end) (and_left (nat_eq id other) (nat_le 0 i) (ne_eqb id other (λ e. ne (sym e))))) refl;
    inside = λ i w. agrees i;
    outside = λ i u. past i (cases_Bool (nat_lt i the_end)) (sym (whole id i) ∙ u);
    kept = keeps;
    size = rewrites.size;
  })
    where
      past : (i : ℕ) → (nat_lt i the_end ≡ true) ⊎ (nat_lt i the_end ≡ false) → (covers id i (whole_range id) || false) ≡ false → cell_at (bytes_of new id) i ≡ cell_at (bytes_of old id) i
      past i (inl below) u = absurd (both_ways (covers id i (whole_range id) || false) u (or_left (covers id i (whole_range id)) false (covered_from id i (whole_range id) refl (omega arith) (ltb-true i the_end below))))
      past i (inr above) u =
          let le : the_end ≤ i = ltb-false i the_end above in
          get_or_past (bytes_of new id) i UNDEFINED (omega (arith, le, rewrites.small)) ∙ sym (get_or_past (bytes_of old id) i UNDEFINED (omega (arith, le, rewrites.small, rewrites.size)))

-- a node that leaves all bytes as they are
pub unchanged_executes : (old : Objects) (n : Node) → ((id i : ℕ) → AgreesAt (contents_of old id i) (op_cell (kinds_of old) n.op (contents_of old) id i)) → Executes old old n
unchanged_executes old n agrees = record {
  agree = node_executed (kinds_of old) 0 n (contents_of old) (contents_of old) (λ id i w. agrees id i) (λ id i u. refl);
  kept = λ id i undefined byte. refl;
  kinds = λ id. refl;
  sizes = λ id. refl;
  count = refl;
}
