-- Nodes on buffers.
use Rattle.std.proofs.Common.{◌≡◌, ◌≢◌, ℕ, ◌+◌, ◌-◌, ◌<◌, ◌≤◌, List, length, replicate, true, false, refl, sym, ◌∙◌, ap, arith, inl, inr}
use Rattle.std.specs.Prelude.{◌⊎◌, ◌&&◌, ◌||◌, nat_eq, nat_lt, nat_le, min}
use Rattle.std.proofs.lemmas.Bool.{cases_Bool, and_parts, and_left, ne_eqb, leb-true, ltb-true, or_cases, or_from, or_left, both_ways, false≢true, ltb-false, leb-false}
use Rattle.std.proofs.lemmas.List.{get_or-replicate, length-replicate}
use Rattle.vk_types.specs.declared.handles.HandleId.{HandleId}
use Rattle.vk_types.specs.declared.ops.Op.TheVariants.{CopyBuffer, FillBuffer}
use Rattle.vk_types.specs.declared.ops.Node.{Node}
use Rattle.vk_types.specs.Touches.{the_end}
use Rattle.cells.specs.Contents.{UNDEFINED, AgreesAt, cell_at, part, overwritten}
use Rattle.vk_model.specs.Cells.{op_cell}
use Rattle.vk_model.specs.Log.{Command, Range}
use Rattle.vk_model.specs.Meaning.{covers, is_written, found}
use Rattle.vk_model.proofs.Copies.{covered_from, found_at}
use Rattle.vk_objects.specs.declared.objects.Objects.{Objects}
use Rattle.vk_objects.specs.Objects.{bytes_of, kinds_of, contents_of, SetsBytes, Rewrites, Executes}
use Rattle.vk_model.proofs.Parts.{overwritten-outside, overwritten-inside, length-overwritten, part-at, length-part}
use Rattle.vk_objects.specs.Undefined.{KeepsAt}
use Rattle.vk_objects.proofs.Executing.{Writes, executes}
use Rattle.vk_objects.proofs.Finding.{kept_exactly}

-- a range of a buffer
abbrev range : HandleId → ℕ → ℕ → Range
range dst at size = record { id = dst.0; start = at; end = min (at + size) the_end; written = true }

module _ (dst : HandleId) (at size : ℕ) (inside : at + size ≤ the_end) where
  pub in_range : (i : ℕ) → (covers dst.0 i (range dst at size) || false) ≡ true → (at ≤ i) × (i < at + size)
  in_range i e = go (or_cases (covers dst.0 i (range dst at size)) false e)
    where
      go : (covers dst.0 i (range dst at size) ≡ true) ⊎ (false ≡ true) → (at ≤ i) × (i < at + size)
      go (inl c) =
          let parts = and_parts (nat_eq dst.0 dst.0 && nat_le at i) (nat_lt i (min (at + size) the_end)) c in
          let from = and_parts (nat_eq dst.0 dst.0) (nat_le at i) parts.0 in
          (leb-true at i from.1, omega (arith, ltb-true i (min (at + size) the_end) parts.1, inside))
      go (inr never) = absurd (false≢true never)

  pub out_of_range : (i : ℕ) → (covers dst.0 i (range dst at size) || false) ≡ false → (i < at) ⊎ (at + size ≤ i)
  out_of_range i e = go (cases_Bool (nat_lt i at)) (cases_Bool (nat_le (at + size) i))
    where
      go : (nat_lt i at ≡ true) ⊎ (nat_lt i at ≡ false) → (nat_le (at + size) i ≡ true) ⊎ (nat_le (at + size) i ≡ false) → (i < at) ⊎ (at + size ≤ i)
      go (inl b) past = inl (ltb-true i at b)
      go (inr nb) (inl p) = inr (leb-true (at + size) i p)
      go (inr nb) (inr np) =
          let from : at ≤ i = ltb-false i at nb in
          let below : i < at + size = leb-false (at + size) i np in
          absurd (both_ways (covers dst.0 i (range dst at size) || false) e (or_left (covers dst.0 i (range dst at size)) false (covered_from dst.0 i (range dst at size) refl from (omega (arith, below, inside)))))

  pub others_unwritten : (other i : ℕ) → other ≢ dst.0 → (covers other i (range dst at size) || false) ≡ false
  others_unwritten other i ne = or_from (covers other i (range dst at size)) false (and_left (nat_eq dst.0 other && nat_le at i) (nat_lt i (min (at + size) the_end)) (and_left (nat_eq dst.0 other) (nat_le at i) (ne_eqb dst.0 other (λ e. ne (sym e))))) refl

module _ (old : Objects) (src : HandleId) (src_at : ℕ) (dst : HandleId) (dst_at size : ℕ) (end_inside : dst_at + size ≤ the_end)
    (src_end_inside : src_at + size ≤ the_end) (src_inside : src_at + size ≤ length (bytes_of old src.0)) (dst_inside : dst_at + size ≤ length (bytes_of old dst.0)) where
  abbrev copied : List ℕ
  copied = part (bytes_of old src.0) src_at size

  abbrev copy_node : Node
  copy_node = record { op = CopyBuffer src src_at dst dst_at size }

  copied_len : length copied ≡ size
  copied_len = length-part (bytes_of old src.0) src_at size src_inside

  fits_copied : dst_at + length copied ≤ length (bytes_of old dst.0)
  fits_copied = omega (arith, copied_len, dst_inside)

  copied_at : (i : ℕ) → is_written (Command 0 copy_node) dst.0 i ≡ true → cell_at (overwritten (bytes_of old dst.0) dst_at copied) i ≡ contents_of old src.0 (src_at + (i - dst_at))
  copied_at i w =
      let at = in_range dst dst_at size end_inside i w in
      let j : ℕ = i - dst_at in
      let lt : j < size = omega (arith, at.0, at.1) in
      let here : dst_at + j ≡ i = omega (arith, at.0) in
      ap (cell_at (overwritten (bytes_of old dst.0) dst_at copied)) (sym here)
      ∙ overwritten-inside (bytes_of old dst.0) dst_at copied fits_copied j (omega (arith, copied_len, lt))
      ∙ part-at (bytes_of old src.0) src_at size j lt

  read_at : (i : ℕ) → is_written (Command 0 copy_node) dst.0 i ≡ true → found (Command 0 copy_node) (contents_of old) src.0 (src_at + (i - dst_at)) ≡ contents_of old src.0 (src_at + (i - dst_at))
  read_at i w =
      let at = in_range dst dst_at size end_inside i w in
      let p : ℕ = src_at + (i - dst_at) in
      let lt : i - dst_at < size = omega (arith, at.0, at.1) in
      let read : Range = record { id = src.0; start = src_at; end = min (src_at + size) the_end; written = false } in
      let write : Range = range dst dst_at size in
      let covers_read : covers src.0 p read ≡ true = covered_from src.0 p read refl (omega arith) (omega (arith, lt, src_end_inside)) in
      found_at (Command 0 copy_node) (contents_of old) src.0 p (or_left (covers src.0 p read) (covers src.0 p write || false) covers_read)

  pub copy_writes : Writes old copy_node dst.0 (overwritten (bytes_of old dst.0) dst_at copied)
  copy_writes = record {
    only = λ other i ne. others_unwritten dst dst_at size end_inside other i ne;
    inside = λ i w below. copied_at i w;
    kept = λ i w. kept_exactly (contents_of old dst.0 i) (cell_at (overwritten (bytes_of old dst.0) dst_at copied) i) (found (Command 0 copy_node) (contents_of old) src.0 (src_at + (i - dst_at))) (copied_at i w ∙ sym (read_at i w));
    outside = λ i u. overwritten-outside (bytes_of old dst.0) dst_at copied fits_copied i (elim (out_of_range dst dst_at size end_inside i u) [ inl before ↦ inl before | inr past ↦ inr (omega (arith, copied_len, past)) ]);
    size = length-overwritten (bytes_of old dst.0) dst_at copied fits_copied;
  }

  pub copy_executes : (new : Objects) → SetsBytes old new dst.0 (overwritten (bytes_of old dst.0) dst_at copied) → Executes old new copy_node
  copy_executes new sets = executes old new copy_node dst.0 (overwritten (bytes_of old dst.0) dst_at copied) sets copy_writes

module _ (old : Objects) (dst : HandleId) (dst_at size byte : ℕ) (end_inside : dst_at + size ≤ the_end) (dst_inside : dst_at + size ≤ length (bytes_of old dst.0)) where
  abbrev filling : List ℕ
  filling = replicate size byte

  abbrev fill_node : Node
  fill_node = record { op = FillBuffer dst dst_at size byte }

  filling_len : length filling ≡ size
  filling_len = length-replicate size byte

  fits_filling : dst_at + length filling ≤ length (bytes_of old dst.0)
  fits_filling = omega (arith, filling_len, dst_inside)

  filled_at : (i : ℕ) → is_written (Command 0 fill_node) dst.0 i ≡ true → cell_at (overwritten (bytes_of old dst.0) dst_at filling) i ≡ byte
  filled_at i w =
      let at = in_range dst dst_at size end_inside i w in
      let j : ℕ = i - dst_at in
      let lt : j < size = omega (arith, at.0, at.1) in
      let here : dst_at + j ≡ i = omega (arith, at.0) in
      ap (cell_at (overwritten (bytes_of old dst.0) dst_at filling)) (sym here)
      ∙ overwritten-inside (bytes_of old dst.0) dst_at filling fits_filling j (omega (arith, filling_len, lt))
      ∙ get_or-replicate size j byte UNDEFINED lt

  pub fill_writes : Writes old fill_node dst.0 (overwritten (bytes_of old dst.0) dst_at filling)
  fill_writes = record {
    only = λ other i ne. others_unwritten dst dst_at size end_inside other i ne;
    inside = λ i w below. filled_at i w;
    kept = λ i w. kept_exactly (contents_of old dst.0 i) (cell_at (overwritten (bytes_of old dst.0) dst_at filling) i) byte (filled_at i w);
    outside = λ i u. overwritten-outside (bytes_of old dst.0) dst_at filling fits_filling i (elim (out_of_range dst dst_at size end_inside i u) [ inl before ↦ inl before | inr past ↦ inr (omega (arith, filling_len, past)) ]);
    size = length-overwritten (bytes_of old dst.0) dst_at filling fits_filling;
  }

  pub fill_executes : (new : Objects) → SetsBytes old new dst.0 (overwritten (bytes_of old dst.0) dst_at filling) → Executes old new fill_node
  fill_executes new sets = executes old new fill_node dst.0 (overwritten (bytes_of old dst.0) dst_at filling) sets fill_writes

-- a node that writes a range of a buffer
module _ (old new : Objects) (n : Node) (dst : HandleId) (at size : ℕ) (rewrites : Rewrites old new dst.0) (end_inside : at + size ≤ the_end) where
  pub range_executes : ((other i : ℕ) → is_written (Command 0 n) other i ≡ (covers other i (range dst at size) || false))
      → ((i : ℕ) → at ≤ i → i < at + size → AgreesAt (cell_at (bytes_of new dst.0) i) (op_cell (kinds_of old) n.op (contents_of old) dst.0 i))
      → ((i : ℕ) → at ≤ i → is_written (Command 0 n) dst.0 i ≡ true → KeepsAt (cell_at (bytes_of old dst.0) i) (cell_at (bytes_of new dst.0) i) (op_cell (kinds_of old) n.op (found (Command 0 n) (contents_of old)) dst.0 i))
      → ((i : ℕ) → (i < at) ⊎ (at + size ≤ i) → cell_at (bytes_of new dst.0) i ≡ cell_at (bytes_of old dst.0) i)
      → Executes old new n
  range_executes in_this agrees keeps stays = executes old new n dst.0 (bytes_of new dst.0) rewrites.sets (record {
    only = λ other i ne. in_this other i ∙ others_unwritten dst at size end_inside other i ne;
    inside = λ i w. let at' = in_range dst at size end_inside i (sym (in_this dst.0 i) ∙ w) in agrees i at'.0 at'.1;
    kept = λ i w. let at' = in_range dst at size end_inside i (sym (in_this dst.0 i) ∙ w) in keeps i at'.0 w;
    outside = λ i u. stays i (out_of_range dst at size end_inside i (sym (in_this dst.0 i) ∙ u));
    size = rewrites.size;
  })
