-- What a copy between buffers leaves at each place.
use Rattle.std.proofs.Common.{◌≡◌, ℕ, ◌+◌, ◌-◌, ◌<◌, ◌≤◌, true, false, eqb, refl, ◌∙◌, ap, arith, inl, inr}
use Rattle.std.specs.Prelude.{◌⊎◌, ◌&&◌, ◌||◌, nat_lt, nat_le, min}
use Rattle.std.proofs.lemmas.Bool.{eq-eqb, ne_eqb, le-leb, lt-ltb, lt-leb, le-ltb, and_from, and_left, and_right, or_left, or_from, cond-true}
use Rattle.vk_types.specs.declared.handles.Kind.{Kind}
use Rattle.vk_types.specs.declared.handles.HandleId.{HandleId}
use Rattle.vk_types.specs.declared.ops.Op.TheVariants.{CopyBuffer}
use Rattle.vk_types.specs.Touches.{the_end}
use Rattle.cells.specs.Contents.{UNDEFINED}
use Rattle.vk_model.specs.Cells.{Contents}
use Rattle.vk_model.specs.Log.{Item, Command, Range}
use Rattle.vk_model.specs.Meaning.{covers, is_touched, is_written, found, apply}
use Rattle.vk_model.proofs.Local.{after_written, after_unwritten}

pub covered_from : (id i : ℕ) (r : Range) → r.id ≡ id → r.start ≤ i → i < r.end → covers id i r ≡ true
covered_from id i r same from below = and_from (eqb r.id id && nat_le r.start i) (nat_lt i r.end) (and_from (eqb r.id id) (nat_le r.start i) (eq-eqb r.id id same) (le-leb r.start i from)) (lt-ltb i r.end below)

uncovered_from : (id i : ℕ) (r : Range) → (r.id ≡ id → ⊥) ⊎ ((i < r.start) ⊎ (r.end ≤ i)) → covers id i r ≡ false
uncovered_from id i r (inl other) = and_left (eqb r.id id && nat_le r.start i) (nat_lt i r.end) (and_left (eqb r.id id) (nat_le r.start i) (ne_eqb r.id id other))
uncovered_from id i r (inr (inl before)) = and_left (eqb r.id id && nat_le r.start i) (nat_lt i r.end) (and_right (eqb r.id id) (nat_le r.start i) (lt-leb r.start i before))
uncovered_from id i r (inr (inr after')) = and_right (eqb r.id id && nat_le r.start i) (nat_lt i r.end) (le-ltb i r.end after')

-- an item finds what is there where it touches
pub found_at : (x : Item) (c : Contents) (id i : ℕ) → is_touched x id i ≡ true → found x c id i ≡ c id i
found_at x c id i t = cond-true (is_touched x id i) (c id i) UNDEFINED t

module _ (kinds : ℕ → Kind) (q : ℕ) (src : HandleId) (src_at : ℕ) (dst : HandleId) (dst_at size : ℕ) (c : Contents) (src_inside : src_at + size ≤ the_end) (dst_inside : dst_at + size ≤ the_end) where
  abbrev copy : Item
  copy = Command q (record { op = CopyBuffer src src_at dst dst_at size })

  pub copy_inside : (i : ℕ) → i < size → apply kinds copy c dst.0 (dst_at + i) ≡ c src.0 (src_at + i)
  copy_inside i lt =
      let read : Range = record { id = src.0; start = src_at; end = min (src_at + size) the_end; written = false } in
      let write : Range = record { id = dst.0; start = dst_at; end = min (dst_at + size) the_end; written = true } in
      let covers_write : covers dst.0 (dst_at + i) write ≡ true = covered_from dst.0 (dst_at + i) write refl (omega arith) (omega arith) in
      let written : is_written copy dst.0 (dst_at + i) ≡ true = or_left (covers dst.0 (dst_at + i) write) false covers_write in
      let covers_read : covers src.0 (src_at + i) read ≡ true = covered_from src.0 (src_at + i) read refl (omega arith) (omega arith) in
      let touched : is_touched copy src.0 (src_at + i) ≡ true = or_left (covers src.0 (src_at + i) read) (covers src.0 (src_at + i) write || false) covers_read in
      let back : src_at + (dst_at + i - dst_at) ≡ src_at + i = omega arith in
      after_written kinds copy c dst.0 (dst_at + i) written ∙ ap (found copy c src.0) back ∙ found_at copy c src.0 (src_at + i) touched

  pub copy_outside : (id i : ℕ) → (dst.0 ≡ id → ⊥) ⊎ ((i < dst_at) ⊎ (dst_at + size ≤ i)) → apply kinds copy c id i ≡ c id i
  copy_outside id i out =
      let write : Range = record { id = dst.0; start = dst_at; end = min (dst_at + size) the_end; written = true } in
      let far : (dst.0 ≡ id → ⊥) ⊎ ((i < write.start) ⊎ (write.end ≤ i)) = elim out [ inl other ↦ inl other | inr (inl before) ↦ inr (inl before) | inr (inr past) ↦ inr (inr (omega arith)) ] in
      after_unwritten kinds copy c id i (or_from (covers id i write) false (uncovered_from id i write far) refl)
