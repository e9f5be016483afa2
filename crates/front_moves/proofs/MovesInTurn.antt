-- Moves one after another.
use mathlib.Core.Path.{fun_ext}
use Rattle.std.proofs.Common.{◌≡◌, ◌≢◌, ℕ, ◌+◌, ◌-◌, ◌<◌, ◌≤◌, Bool, true, false, cond, List, [], length, refl, sym, ◌∙◌, ap, arith, inl, inr}
use Rattle.std.specs.Prelude.{◌⊎◌, Some, slice_index, nat_le, nat_lt}
use Rattle.std.proofs.lemmas.Bool.{and_parts, leb-true, ltb-true}
use Rattle.std.proofs.lemmas.List.{get_or_default}
use Rattle.cells.specs.Contents.{UNDEFINED, cell_at, in_range}
use Rattle.back_core.specs.Link.{Link}
use Rattle.vk_types.specs.declared.handles.Kind.TheVariants as kind
use Rattle.front_model.specs.declared.object.Object.{Object}
use Rattle.front_model.specs.declared.object.Object.TheVariants.{Buffer}
use Rattle.front_model.specs.Face.{Face, put_object, outline_at, view, recorded, nodes_touch}
use Rattle.front_model.specs.Stands.{Moved, IsQuiet}
use Rattle.front_model.specs.Wanted.{with_bytes, with_copy}
use Rattle.front_moves.specs.Core.{HasBytes, HasFresh, IsQuietBut}

-- what is shown and quiet is as before
abbrev pub IsSame : Face → Face → Link → Link → Type 0
IsSame f g s t = Moved g t (view f s) (outline_at f) (IsQuiet f s)

pub same_then : (f g h : Face) (s t u : Link) → IsSame f g s t → IsSame g h t u → IsSame f h s u
same_then f g h s t u a b = record {
  holds = b.holds;
  view_is = b.view_is ∙ a.view_is;
  outlines_are = b.outlines_are ∙ a.outlines_are;
  still = λ o quiet. b.still o (a.still o quiet);
}

pub store_kept : (f g : Face) (s t : Link) (b size : ℕ) → IsSame f g s t → HasBytes f b size → HasBytes g b size
store_kept f g s t b size same has = ap (λ o. o (Buffer b)) same.outlines_are ∙ has

-- a copy after what changes nothing
pub copy_then : (f g h : Face) (s t u : Link) (src src_at dst dst_at size : ℕ) → IsSame f g s t →
    Moved h u (put_object (view g t) (Buffer dst) (with_copy (view g t (Buffer dst)) dst_at size (view g t (Buffer src)) src_at)) (outline_at g) (λ o. IsQuietBut g t (Buffer dst) o × (o ≢ Buffer src)) →
    Moved h u (put_object (view f s) (Buffer dst) (with_copy (view f s (Buffer dst)) dst_at size (view f s (Buffer src)) src_at)) (outline_at f) (λ o. IsQuietBut f s (Buffer dst) o × (o ≢ Buffer src))
copy_then f g h s t u src src_at dst dst_at size a b = record {
  holds = b.holds;
  view_is = b.view_is ∙ ap (λ (v : Object → ℕ → ℕ). put_object v (Buffer dst) (with_copy (v (Buffer dst)) dst_at size (v (Buffer src)) src_at)) a.view_is;
  outlines_are = b.outlines_are ∙ a.outlines_are;
  still = λ o quiet. b.still o ((a.still o quiet.0.0, quiet.0.1), quiet.1);
}

-- the cells of the staging buffer are the bytes
cells_are : (old : ℕ → ℕ) (at : ℕ) (bytes : List ℕ) → with_copy old at (length bytes) (cell_at bytes) 0 ≡ with_bytes old at bytes
cells_are old at bytes = fun_ext (λ i. go i (in_range at (length bytes) i) refl)
  where
    go : (i : ℕ) (t : Bool) → in_range at (length bytes) i ≡ t → cond t (cell_at bytes (0 + (i - at))) (old i) ≡ cond t (slice_index bytes (i - at)) (old i)
    go i true inside =
        let parts = and_parts (nat_le at i) (nat_lt i (at + length bytes)) inside in
        let first : at ≤ i = leb-true at i parts.0 in
        let last : i < at + length bytes = ltb-true i (at + length bytes) parts.1 in
        let none : 0 + (i - at) ≡ i - at = omega arith in
        ap (cell_at bytes) none ∙ get_or_default bytes (i - at) UNDEFINED 0 (omega (arith, first, last))
    go i false inside = refl

-- an upload after what changes nothing
pub upload_then : (f g h : Face) (s t v u : Link) (b at id : ℕ) (bytes : List ℕ) → IsSame f g s t → HasFresh g t v id (kind.Buffer (length bytes)) (Some bytes) →
    Moved h u (put_object (view g v) (Buffer b) (with_copy (view g v (Buffer b)) at (length bytes) (recorded g v id) 0)) (outline_at g) (IsQuietBut g v (Buffer b)) →
    Moved h u (put_object (view f s) (Buffer b) (with_bytes (view f s (Buffer b)) at bytes)) (outline_at f) (IsQuietBut f s (Buffer b))
upload_then f g h s t v u b at id bytes a fresh m = record {
  holds = m.holds;
  view_is = m.view_is
      ∙ ap (λ (c : ℕ → ℕ). put_object (view g v) (Buffer b) (with_copy (view g v (Buffer b)) at (length bytes) c 0)) fresh.has
      ∙ ap (put_object (view g v) (Buffer b)) (cells_are (view g v (Buffer b)) at bytes)
      ∙ ap (λ (w : Object → ℕ → ℕ). put_object w (Buffer b) (with_bytes (w (Buffer b)) at bytes)) (fresh.view_is ∙ a.view_is);
  outlines_are = m.outlines_are ∙ a.outlines_are;
  still = λ o quiet. m.still o (fresh.still o (a.still o quiet.0), quiet.1);
}
