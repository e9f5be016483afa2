-- What blits leave in their clip, and what a copy finds below its source.
use Rattle.std.proofs.Common.{◌≡◌, ℕ, ◌+◌, ◌-◌, ◌<◌, ◌≤◌, Bool, true, false, cond, refl, ◌∙◌, ap, arith, inl, inr}
use Rattle.std.specs.Prelude.{◌&&◌, ◌||◌, ◌==◌, ℤ, Option, Some, None, nat_le, nat_lt, min, max, not}
use Rattle.std.proofs.lemmas.Bool.{or_left, and_parts, ltb-true, leb-true}
use Rattle.vk_types.specs.declared.handles.Kind.{Kind}
use Rattle.vk_types.specs.declared.handles.HandleId.{HandleId}
use Rattle.vk_types.specs.declared.regions.Rect.{Rect}
use Rattle.vk_types.specs.declared.regions.Coords.{Coords}
use Rattle.vk_types.specs.declared.ops.Op.TheVariants.{BlitImage, CopyImage}
use Rattle.vk_types.specs.Touches.{the_end}
use Rattle.cells.specs.Contents.{UNDEFINED}
use Rattle.vk_model.specs.Texels.{converted_texel}
use Rattle.vk_model.specs.Cells.{Contents, place, ahead, column_at, row_at, byte_at, width_of, height_of, texel_size, format_of, at_both, behind, origin, moved, scaled, in_source, source_of, nearest_texel, converted}
use Rattle.vk_model.specs.Log.{Item, Command, Range}
use Rattle.vk_model.specs.Meaning.{apply, covers, found, is_touched, LiesIn}
use Rattle.vk_model.proofs.Clashes.{none_is_some}
use Rattle.vk_model.proofs.Local.{after_written}
use Rattle.vk_model.proofs.Copies.{covered_from, found_at}
use Rattle.vk_model.proofs.Images.{column_of_place, row_of_place, byte_of_place, in_rect_inside}
use Rattle.vk_effects.specs.Reads.{ReadsTexel, ReadsNone, IsBelow}
use Rattle.vk_effects.proofs.Columns.{before_its_end, past_its_end}
use Rattle.vk_effects.proofs.Outside.{at_no_row}
use Rattle.vk_effects.proofs.Unwritten.{unchanged}
use Rattle.vk_effects.proofs.Words.{converted_same}

-- Sources

abbrev value_of : Option ℕ → ℕ
value_of None = 0
value_of (Some n) = n

below_size : (size v s : ℕ) (b : Bool) → (nat_le origin v && nat_lt v (origin + size)) ≡ b → cond b (Some (v - origin)) None ≡ Some s → s < size
below_size size v s true inside e =
    let parts = and_parts (nat_le origin v) (nat_lt v (origin + size)) inside in
    let from : origin ≤ v = leb-true origin v parts.0 in
    let below : v < origin + size = ltb-true v (origin + size) parts.1 in
    let is : v - origin ≡ s = ap value_of e in
    omega (arith, from, below, is)
below_size size v s false outside e = none_is_some e

in_source_below : (size v s : ℕ) → in_source size v ≡ Some s → s < size
in_source_below size v s e = below_size size v s (nat_le origin v && nat_lt v (origin + size)) refl e

where_read : (size v s : ℕ) (b : Bool) → cond b (in_source size v) None ≡ Some s → s < size
where_read size v s true e = in_source_below size v s e
where_read size v s false e = none_is_some e

pub source_below : (size : ℕ) (s0 s1 d0 d1 : ℤ) (x s : ℕ) → source_of size s0 s1 d0 d1 x ≡ Some s → s < size
source_below size s0 s1 d0 d1 x s e =
    where_read size (scaled (moved s0) (moved s1) (moved d0) (moved d1) (x + origin)) s
    (not (moved s0 == moved s1) && nat_le (min (moved d0) (moved d1)) (x + origin) && nat_lt (x + origin) (max (moved d0) (moved d1))) e

-- Blits

module _ (from to : Kind) (source : ℕ → ℕ) (coords : Coords) where
  abbrev column_source : ℕ → Option ℕ
  column_source x = source_of (width_of from) coords.sx0 coords.sx1 coords.dx0 coords.dx1 x

  abbrev row_source : ℕ → Option ℕ
  row_source y = source_of (height_of from) coords.sy0 coords.sy1 coords.dy0 coords.dy1 y

  abbrev texel_read : ℕ → ℕ → ℕ → ℕ
  texel_read byte x y = converted (converted_texel (format_of from) (format_of to)) (λ b. source (place from x y b)) (texel_size from) byte

  nearest_is : (x y byte old sx sy : ℕ) → x < width_of to → byte < texel_size to → ReadsTexel from coords x y sx sy → nearest_texel from to source coords (place to x y byte) old ≡ texel_read byte sx sy
  nearest_is x y byte old sx sy column in_texel reads =
      let at : ℕ = place to x y byte in
      ap (λ k. at_both (column_source k) (row_source (row_at to at)) (texel_read (byte_at to at)) old) (column_of_place to x y byte column in_texel)
      ∙ ap (λ s. at_both s (row_source (row_at to at)) (texel_read (byte_at to at)) old) reads.column
      ∙ ap (λ k. at_both (Some sx) (row_source k) (texel_read (byte_at to at)) old) (row_of_place to x y byte column in_texel)
      ∙ ap (λ s. at_both (Some sx) s (texel_read (byte_at to at)) old) reads.row
      ∙ ap (λ b. texel_read b sx sy) (byte_of_place to x y byte in_texel)

  nearest_is_old : (i old : ℕ) → ReadsNone from coords (column_at to i) (row_at to i) → nearest_texel from to source coords i old ≡ old
  nearest_is_old i old (inl no_column) = ap (λ s. at_both s (row_source (row_at to i)) (texel_read (byte_at to i)) old) no_column
  nearest_is_old i old (inr no_row) =
      ap (λ s. at_both (column_source (column_at to i)) s (texel_read (byte_at to i)) old) no_row
      ∙ at_no_row (column_source (column_at to i)) (texel_read (byte_at to i)) old

both_old : (x y : Option ℕ) (v old : ℕ) → v ≡ old → at_both x y (λ _ _. v) old ≡ old
both_old None y v old e = refl
both_old (Some x) None v old e = refl
both_old (Some x) (Some y) v old e = e

module _ (kinds : ℕ → Kind) (q : ℕ) (src dst : HandleId) (coords : Coords) (clip : Rect) (c : Contents) where
  abbrev blit : Item
  blit = Command q (record { op = BlitImage src dst coords clip })

  pub blit_of_none : (i : ℕ) → ReadsNone (kinds src.0) coords (column_at (kinds dst.0) i) (row_at (kinds dst.0) i) → apply kinds blit c dst.0 i ≡ c dst.0 i
  blit_of_none i none =
      unchanged kinds blit c dst.0 i
      (λ f. both_old (behind clip.x clip.w (column_at (kinds dst.0) i)) (behind clip.y clip.h (row_at (kinds dst.0) i)) (nearest_texel (kinds src.0) (kinds dst.0) (f src.0) coords i (f dst.0 i)) (f dst.0 i)
      (nearest_is_old (kinds src.0) (kinds dst.0) (f src.0) coords i (f dst.0 i) none))

  source_found : (x y b : ℕ) → place (kinds src.0) x y b < the_end → found blit c src.0 (place (kinds src.0) x y b) ≡ c src.0 (place (kinds src.0) x y b)
  source_found x y b below =
      let at : ℕ = place (kinds src.0) x y b in
      let read : Range = record { id = src.0; start = 0; end = the_end; written = false } in
      let write : Range = record { id = dst.0; start = 0; end = the_end; written = true } in
      found_at blit c src.0 at (or_left (covers src.0 at read) (covers src.0 at write || false) (covered_from src.0 at read refl (omega arith) below))

  pub blit_nearest : (x y byte left top sx sy : ℕ) → LiesIn (kinds dst.0) clip x y byte left top → ReadsTexel (kinds src.0) coords x y sx sy →
      apply kinds blit c dst.0 (place (kinds dst.0) x y byte) ≡ converted (converted_texel (format_of (kinds src.0)) (format_of (kinds dst.0))) (λ b. c src.0 (place (kinds src.0) sx sy b)) (texel_size (kinds src.0)) byte
  blit_nearest x y byte left top sx sy lies reads =
      let from : Kind = kinds src.0 in
      let to : Kind = kinds dst.0 in
      let at : ℕ = place to x y byte in
      let write : Range = record { id = dst.0; start = 0; end = the_end; written = true } in
      let column : sx < width_of from = source_below (width_of from) coords.sx0 coords.sx1 coords.dx0 coords.dx1 x sx reads.column in
      let row : sy < height_of from = source_below (height_of from) coords.sy0 coords.sy1 coords.dy0 coords.dy1 y sy reads.row in
      after_written kinds blit c dst.0 at (or_left (covers dst.0 at write) false (covered_from dst.0 at write refl (omega arith) lies.in_image))
      ∙ in_rect_inside to clip lies.corner_x lies.corner_y lies.x_is lies.y_is x y byte lies.column lies.in_texel
      (λ _ _. nearest_texel from to (found blit c src.0) coords at (found blit c dst.0 at)) (found blit c dst.0 at) (omega arith) (omega arith) (omega arith) (omega arith)
      ∙ nearest_is from to (found blit c src.0) coords x y byte (found blit c dst.0 at) sx sy lies.column lies.in_texel reads
      ∙ converted_same (converted_texel (format_of from) (format_of to)) (λ b. found blit c src.0 (place from sx sy b)) (λ b. c src.0 (place from sx sy b)) (texel_size from) byte
      (λ b lt. source_found sx sy b (let inside = before_its_end from sx sy b column row lt in let ends = reads.ends in omega (arith, inside, ends)))

-- Copies from below an image

found_nothing : (b : Bool) (v : ℕ) → v ≡ UNDEFINED → cond b v UNDEFINED ≡ UNDEFINED
found_nothing true v e = e
found_nothing false v e = refl

pub copy_from_below : (kinds : ℕ → Kind) (q : ℕ) (src : HandleId) (src_x src_y : ℤ) (dst : HandleId) (rect : Rect) (c : Contents) (x y byte left top : ℕ) → LiesIn (kinds dst.0) rect x y byte left top → IsBelow (kinds src.0) (c src.0) (ahead src_y top) →
    apply kinds (Command q (record { op = CopyImage src src_x src_y dst rect })) c dst.0 (place (kinds dst.0) x y byte) ≡ UNDEFINED
copy_from_below kinds q src src_x src_y dst rect c x y byte left top lies below =
    let from : Kind = kinds src.0 in
    let to : Kind = kinds dst.0 in
    let item : Item = Command q (record { op = CopyImage src src_x src_y dst rect }) in
    let at : ℕ = place to x y byte in
    let write : Range = record { id = dst.0; start = 0; end = the_end; written = true } in
    let rows : y - lies.corner_y ≡ top = (let is = lies.from_top in omega (arith, is)) in
    let read : ℕ = place from (ahead src_x (x - lies.corner_x)) (ahead src_y top) (byte_at to at) in
    after_written kinds item c dst.0 at (or_left (covers dst.0 at write) false (covered_from dst.0 at write refl (omega arith) lies.in_image))
    ∙ in_rect_inside to rect lies.corner_x lies.corner_y lies.x_is lies.y_is x y byte lies.column lies.in_texel
    (λ l t. found item c src.0 (place from (ahead src_x l) (ahead src_y t) (byte_at to at))) (found item c dst.0 at) (omega arith) (omega arith) (omega arith) (omega arith)
    ∙ ap (λ t. found item c src.0 (place from (ahead src_x (x - lies.corner_x)) (ahead src_y t) (byte_at to at))) rows
    ∙ found_nothing (is_touched item src.0 read) (c src.0 read) (below.nothing read (past_its_end from (ahead src_x (x - lies.corner_x)) (ahead src_y top) (byte_at to at) below.row))
