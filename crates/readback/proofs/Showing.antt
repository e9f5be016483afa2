-- What reads give.
use Rattle.std.proofs.Common.{◌≡◌, ℕ, zero, suc, ◌+◌, ◌-◌, ◌*◌, ◌/◌, ◌%◌, ◌<◌, ◌≤◌, Bool, true, false, cond, eqb, Some, None, List, length, refl, sym, ◌∙◌, ap, subst, arith, inl, inr}
use Rattle.std.specs.Prelude.{◌⊎◌, ◌||◌, ◌&&◌, pos, ◌+ℤ◌, slice_index}
use Rattle.std.specs.Option.{option_map}
use Rattle.std.proofs.Math.Nat.{mul_comm}
use Rattle.std.proofs.lemmas.Bool.{or_cases, or_parts, and_from, eqb-true, eqb-false, cond-true}
use Rattle.std.proofs.lemmas.Nat.{div-add-mod', div_below, mod_below, mul-add-lt, div-mul-add, mod-mul-add}
use Rattle.std.proofs.lemmas.List.FromFn.{get_or-map-range_with_len}
use Rattle.cells.specs.Contents.{cells, cell_at, UNDEFINED, in_range, Agrees, AgreesAt}
use Rattle.formats.specs.declared.pixel.PixelFormat.{PixelFormat}
use Rattle.formats.specs.declared.pixel.PixelType.{PixelType}
use Rattle.formats.specs.Pairs.{same_pair}
use Rattle.formats.specs.Texel.{own_pair_of}
use Rattle.gl_model.specs.declared.objects.ImageInfo.{ImageInfo}
use Rattle.gl_model.specs.ImageEffect.{Picture, in_int_range, read_cells}
use Rattle.vk_types.specs.declared.handles.Kind.{Kind}
use Rattle.vk_types.specs.declared.handles.HandleId.{HandleId}
use Rattle.vk_types.specs.declared.regions.Rect.{Rect}
use Rattle.vk_types.specs.Touches.{the_end, rows_size}
use Rattle.vk_model.specs.Cells.{Contents}
use Rattle.vk_model.specs.Log.{Command}
use Rattle.vk_model.specs.Meaning.{apply}
use Rattle.vk_model.proofs.Clashes.{none_is_some}
use Rattle.vk_model.proofs.Lists.{agrees_with, agree_at}
use Rattle.vk_effects.specs.Rows.{row_place}
use Rattle.transfer.specs.declared.overlap.Overlap.{Overlap}
use Rattle.transfer.specs.Shown.{Shows, IsShown}
use Rattle.transfer.specs.Overlaps.{skipped, entered, count_inside}
use Rattle.transfer.specs.Blits.{AreCells}
use Rattle.transfer.proofs.Places.{IsCell, cell_at-defined, cell_at-cells, length-cells}
use Rattle.transfer.proofs.Painting.{in_range-in}
use Rattle.transfer.proofs.Reading.{IsRead, cases_read}
use Rattle.transfer.proofs.Copying.{line_fits}
use Rattle.readback.specs.declared.plan.ReadPlan.{ReadPlan}
use Rattle.readback.specs.Plans.{plan_part, plan_of, plan_size, read_node, placed}
use Rattle.readback.proofs.Bringing.{read_by, client_texel, some_client_texel, not_read, brought_down}
use Rattle.readback.proofs.Packing.{rows_are}

-- The plan of a read that meets the image

module _ (info : ImageInfo) (pixels : PixelFormat) (kind : PixelType) (rect : Rect) where
  abbrev pub columns : ℕ
  columns = count_inside rect.x info.width rect.w

  abbrev pub rows : ℕ
  rows = count_inside rect.y info.height rect.h

  abbrev pub part : Overlap
  part = record { left = skipped rect.x; top = skipped rect.y; rect = record { x = pos (entered rect.x); y = pos (entered rect.y); w = columns; h = rows } }

  abbrev pub planned : ReadPlan
  planned = plan_part info pixels kind rect part

  pub of_plan : (P : ReadPlan → Type 0) (plan : ReadPlan) → ((eqb columns 0 || eqb rows 0) ≡ false → P planned) → plan_of info pixels kind rect ≡ Some plan → P plan
  of_plan P plan holds is = go (eqb columns 0 || eqb rows 0) refl is
    where
      go : (t : Bool) → (eqb columns 0 || eqb rows 0) ≡ t → option_map (plan_part info pixels kind rect) (cond t None (Some part)) ≡ Some plan → P plan
      go true empty is = none_is_some is
      go false some is = let same : planned ≡ plan = cc in subst P same (holds some)

  pub of_no_plan : plan_of info pixels kind rect ≡ None → (eqb columns 0 || eqb rows 0) ≡ true
  of_no_plan is = go (eqb columns 0 || eqb rows 0) refl is
    where
      go : (t : Bool) → (eqb columns 0 || eqb rows 0) ≡ t → option_map (plan_part info pixels kind rect) (cond t None (Some part)) ≡ None → (eqb columns 0 || eqb rows 0) ≡ true
      go true empty is = empty
      go false some is = none_is_some (sym is)

-- what lies in the image, in bytes: as rows, and all of it
pub size_by_rows : (w h texel : ℕ) → 0 < h → (h - 1) * (w * texel) + w * texel ≡ w * h * texel
size_by_rows w zero texel some = absurd (omega arith)
size_by_rows w (suc h) texel some = let e : suc h - 1 ≡ h = omega arith in ap (λ n. n * (w * texel) + w * texel) e ∙ grind arith

-- A place of rows without padding

record IsInRows (w h texel i : ℕ) : Type 0 where
  column : i / texel % w < w
  row : i / texel / w < h
  byte : i % texel < texel
  is : i ≡ i / texel / w * (w * texel) + i / texel % w * texel + i % texel

no_width : (h texel i : ℕ) → i < 0 * h * texel → ⊥
no_width h texel i below = let z : 0 * h * texel ≡ 0 = grind arith in omega (arith, z, below)

in_rows : (w h texel i : ℕ) → 0 < texel → i < w * h * texel → IsInRows w h texel i
in_rows zero h texel i some below = absurd (no_width h texel i below)
in_rows (suc w) h texel i some below =
    let turned : suc w * h ≡ h * suc w = mul_comm (suc w) h in
    let wide : 0 < suc w = omega arith in
    let texels : i / texel < suc w * h = div_below i texel (suc w * h) some below in
    let whole : i / texel * texel + i % texel ≡ i = div-add-mod' i texel in
    let split : i / texel / suc w * suc w + i / texel % suc w ≡ i / texel = div-add-mod' (i / texel) (suc w) in
    let bytes : i / texel * texel ≡ (i / texel / suc w * suc w + i / texel % suc w) * texel = ap (λ n. n * texel) (sym split) in
    let apart : (i / texel / suc w * suc w + i / texel % suc w) * texel ≡ i / texel / suc w * (suc w * texel) + i / texel % suc w * texel = grind arith in
    record {
      column = mod_below (i / texel) (suc w) wide;
      row = div_below (i / texel) (suc w) h wide (omega (arith, texels, turned));
      byte = mod_below i texel some;
      is = omega (arith, whole, bytes, apart);
    }

-- The client's buffer

module _ (kinds : ℕ → Kind) (q : ℕ) (c : Contents) (image buffer : HandleId) (read : Picture) (pixels : PixelFormat) (kind : PixelType) (rect : Rect) (at : ℕ)
    (shown : IsShown kinds c image.0 read) (are : AreCells read.cells) (some : (eqb (columns read.info pixels kind rect) 0 || eqb (rows read.info pixels kind rect) 0) ≡ false) (ends : at + plan_size (planned read.info pixels kind rect) ≤ the_end) where
  abbrev own : Bool
  own = same_pair (pixels, kind) (own_pair_of read.info.format)

  abbrev texel : ℕ
  texel = client_texel read.info own

  abbrev wide : ℕ
  wide = count_inside rect.x read.info.width rect.w

  abbrev high : ℕ
  high = count_inside rect.y read.info.height rect.h

  abbrev inner : Rect
  inner = record { x = pos (entered rect.x); y = pos (entered rect.y); w = wide; h = high }

  some_texel : 0 < client_texel read.info own
  some_texel = some_client_texel read.info own

  at_place : (i : ℕ) → IsInRows wide high texel i → cell_at (read_by read own (pos (entered rect.x) +ℤ pos (i / texel % wide)) (pos (entered rect.y) +ℤ pos (i / texel / wide))) (i % texel) < UNDEFINED →
      apply kinds (Command q (read_node (planned read.info pixels kind rect) image buffer at)) c buffer.0 (at + i) ≡ cell_at (read_by read own (pos (entered rect.x) +ℤ pos (i / texel % wide)) (pos (entered rect.y) +ℤ pos (i / texel / wide))) (i % texel)
  at_place i place defined =
      let parts = or_parts (eqb wide 0) (eqb high 0) some in
      let across = (line_fits rect.x read.info.width rect.w (eqb-false wide 0 parts.0)).1 in
      let down = (line_fits rect.y read.info.height rect.h (eqb-false high 0 parts.1)).1 in
      let high_some = eqb-false high 0 parts.1 in
      let in_row : i / texel % wide * texel + i % texel < texel * wide = mul-add-lt (i / texel % wide) texel (i % texel) wide place.column place.byte in
      let turned : texel * wide ≡ wide * texel = mul_comm texel wide in
      let column = place.column in
      let row = place.row in
      let is = place.is in
      let here : at + i ≡ row_place at (wide * texel) texel (i / texel % wide) (i / texel / wide) (i % texel) = omega (arith, is) in
      let size : rows_size inner (wide * texel) texel ≡ (high - 1) * (wide * texel) + wide * texel = rows_are inner (wide * texel) texel some in
      let all : (high - 1) * (wide * texel) + wide * texel ≡ wide * high * texel = size_by_rows wide high texel (omega (arith, high_some)) in
      ap (apply kinds (Command q (read_node (planned read.info pixels kind rect) image buffer at)) c buffer.0) here
      ∙ brought_down kinds q c image buffer read inner at (wide * texel) shown are (pos (entered rect.x) +ℤ pos (i / texel % wide)) (pos (entered rect.y) +ℤ pos (i / texel / wide)) (i / texel % wide) (i / texel / wide) (i % texel) own (record {
        m = entered rect.x + i / texel % wide;
        n = entered rect.y + i / texel / wide;
        x_is = refl;
        y_is = refl;
        column = omega (arith, across, column);
        row = omega (arith, down, row);
        across = refl;
        down = refl;
        on_top = record { is = record { column = place.column; row = place.row; in_texel = place.byte }; last = inr (omega (arith, in_row, turned)) };
        ends = omega (arith, size, all, ends);
      }) defined

  pub client_shows : Shows (λ i. apply kinds (Command q (read_node (planned read.info pixels kind rect) image buffer at)) c buffer.0 (at + i)) (read_cells read pixels kind (pos (entered rect.x)) (pos (entered rect.y)) wide high)
  client_shows i defined =
      let f : ℕ → ℕ = λ k. cell_at (read_by read own (pos (entered rect.x) +ℤ pos (k / texel % wide)) (pos (entered rect.y) +ℤ pos (k / texel / wide))) (k % texel) in
      let cell : IsCell (wide * high * texel) f i = cell_at-defined (wide * high * texel) f i defined in
      let is = cell.is in
      at_place i (in_rows wide high texel i some_texel cell.below) (omega (arith, is, defined)) ∙ sym is

-- The placed bytes

module _ (read : Picture) (pixels : PixelFormat) (kind : PixelType) (rect : Rect) where
  abbrev is_own : Bool
  is_own = same_pair (pixels, kind) (own_pair_of read.info.format)

  abbrev size : ℕ
  size = client_texel read.info is_own

  abbrev w : ℕ
  w = count_inside rect.x read.info.width rect.w

  abbrev h : ℕ
  h = count_inside rect.y read.info.height rect.h

  -- the cell of the whole read at a place, and of what lies in the image
  abbrev whole_cell : ℕ → ℕ
  whole_cell k = cell_at (read_by read is_own (rect.x +ℤ pos (k / size % rect.w)) (rect.y +ℤ pos (k / size / rect.w))) (k % size)

  abbrev part_cell : ℕ → ℕ
  part_cell j = cell_at (read_by read is_own (pos (entered rect.x) +ℤ pos (j / size % w)) (pos (entered rect.y) +ℤ pos (j / size / w))) (j % size)

  -- the place in what lies in the image
  abbrev in_part : ℕ → ℕ
  in_part k = ((k / size / rect.w - skipped rect.y) * w + (k / size % rect.w - skipped rect.x)) * size + k % size

  record MeetsImage (k : ℕ) : Type 0 where
    across : IsRead rect.x read.info.width rect.w (k / size % rect.w)
    down : IsRead rect.y read.info.height rect.h (k / size / rect.w)

  -- a defined cell of the read lies in the image
  meets : (k : ℕ) → k < rect.w * rect.h * size → whole_cell k < UNDEFINED → MeetsImage k
  meets k below defined =
      let place = in_rows rect.w rect.h size k (some_client_texel read.info is_own) below in
      go (cases_read rect.x read.info.width rect.w (k / size % rect.w) place.column) (cases_read rect.y read.info.height rect.h (k / size / rect.w) place.row)
    where
      go : IsRead rect.x read.info.width rect.w (k / size % rect.w) ⊎ (in_int_range (pos 0) read.info.width (rect.x +ℤ pos (k / size % rect.w)) ≡ false) → IsRead rect.y read.info.height rect.h (k / size / rect.w) ⊎ (in_int_range (pos 0) read.info.height (rect.y +ℤ pos (k / size / rect.w)) ≡ false) → MeetsImage k
      go (inl across) (inl down) = record { across = across; down = down }
      go (inl across) (inr above) = absurd (let gone = not_read read is_own (rect.x +ℤ pos (k / size % rect.w)) (rect.y +ℤ pos (k / size / rect.w)) (k % size) (inr above) in omega (arith, gone, defined))
      go (inr beside) down = absurd (let gone = not_read read is_own (rect.x +ℤ pos (k / size % rect.w)) (rect.y +ℤ pos (k / size / rect.w)) (k % size) (inl beside) in omega (arith, gone, defined))

  pub blank_agrees : (bytes : List ℕ) → (eqb w 0 || eqb h 0) ≡ true → length bytes ≡ rect.w * rect.h * size → Agrees bytes (read_cells read pixels kind rect.x rect.y rect.w rect.h)
  blank_agrees bytes empty long = agrees_with (rect.w * rect.h * size) bytes whole_cell long (λ k below defined. absurd (never k (meets k below defined)))
    where
      never : (k : ℕ) → MeetsImage k → ⊥
      never k image = elim (or_cases (eqb w 0) (eqb h 0) empty) [
        | inl none ↦ let z = eqb-true w 0 none in let b = image.across.below in omega (arith, z, b)
        | inr none ↦ let z = eqb-true h 0 none in let b = image.down.below in omega (arith, z, b)
      ]

  module _ (seen : ℕ → ℕ) (host : List ℕ) (shows : Shows seen (read_cells read pixels kind (pos (entered rect.x)) (pos (entered rect.y)) w h)) (agrees : Agrees host (cells (plan_size (planned read.info pixels kind rect)) seen)) where
    -- the cells are those of what lies in the image
    same_cell : (k : ℕ) → k % size < size → MeetsImage k → part_cell (in_part k) ≡ whole_cell k
    same_cell k byte image =
        let texels : in_part k / size ≡ (k / size / rect.w - skipped rect.y) * w + (k / size % rect.w - skipped rect.x) = div-mul-add ((k / size / rect.w - skipped rect.y) * w + (k / size % rect.w - skipped rect.x)) size (k % size) byte in
        let row : in_part k / size / w ≡ k / size / rect.w - skipped rect.y = ap (λ n. n / w) texels ∙ div-mul-add (k / size / rect.w - skipped rect.y) w (k / size % rect.w - skipped rect.x) image.across.below in
        let column : in_part k / size % w ≡ k / size % rect.w - skipped rect.x = ap (λ n. n % w) texels ∙ mod-mul-add (k / size / rect.w - skipped rect.y) w (k / size % rect.w - skipped rect.x) image.across.below in
        let in_texel : in_part k % size ≡ k % size = mod-mul-add ((k / size / rect.w - skipped rect.y) * w + (k / size % rect.w - skipped rect.x)) size (k % size) byte in
        ap (λ n. cell_at (read_by read is_own (pos (entered rect.x) +ℤ pos n) (pos (entered rect.y) +ℤ pos (in_part k / size / w))) (in_part k % size)) column
        ∙ ap (λ n. cell_at (read_by read is_own (pos (entered rect.x) +ℤ pos (k / size % rect.w - skipped rect.x)) (pos (entered rect.y) +ℤ pos n)) (in_part k % size)) row
        ∙ ap (cell_at (read_by read is_own (pos (entered rect.x) +ℤ pos (k / size % rect.w - skipped rect.x)) (pos (entered rect.y) +ℤ pos (k / size / rect.w - skipped rect.y)))) in_texel
        ∙ ap (λ z. cell_at (read_by read is_own z (pos (entered rect.y) +ℤ pos (k / size / rect.w - skipped rect.y))) (k % size)) (sym image.across.is)
        ∙ ap (λ z. cell_at (read_by read is_own (rect.x +ℤ pos (k / size % rect.w)) z) (k % size)) (sym image.down.is)

    inside_part : (k : ℕ) → k % size < size → MeetsImage k → in_part k < w * h * size
    inside_part k byte image =
        let texels : (k / size / rect.w - skipped rect.y) * w + (k / size % rect.w - skipped rect.x) < w * h = mul-add-lt (k / size / rect.w - skipped rect.y) w (k / size % rect.w - skipped rect.x) h image.down.below image.across.below in
        let bytes : in_part k < size * (w * h) = mul-add-lt ((k / size / rect.w - skipped rect.y) * w + (k / size % rect.w - skipped rect.x)) size (k % size) (w * h) texels byte in
        let turned : size * (w * h) ≡ w * h * size = mul_comm size (w * h) in
        omega (arith, bytes, turned)

    abbrev placed_cell : ℕ → ℕ
    placed_cell k = cond (in_range (skipped rect.x) w (k / size % rect.w) && in_range (skipped rect.y) h (k / size / rect.w)) (slice_index host (in_part k)) 0

    at_byte : (k : ℕ) → k < rect.w * rect.h * size → AgreesAt (slice_index (placed (planned read.info pixels kind rect) host) k) (whole_cell k)
    at_byte k below defined =
        let image : MeetsImage k = meets k below defined in
        let byte : k % size < size = mod_below k size (some_client_texel read.info is_own) in
        let inside : in_part k < w * h * size = inside_part k byte image in
        let same : part_cell (in_part k) ≡ whole_cell k = same_cell k byte image in
        let cell : cell_at (read_cells read pixels kind (pos (entered rect.x)) (pos (entered rect.y)) w h) (in_part k) ≡ part_cell (in_part k) = cell_at-cells (w * h * size) part_cell (in_part k) inside in
        let is_seen : seen (in_part k) ≡ cell_at (read_cells read pixels kind (pos (entered rect.x)) (pos (entered rect.y)) w h) (in_part k) = shows (in_part k) (omega (arith, cell, same, defined)) in
        let column_from = image.across.from in
        let column_below = image.across.below in
        let row_from = image.down.from in
        let row_below = image.down.below in
        let test : (in_range (skipped rect.x) w (k / size % rect.w) && in_range (skipped rect.y) h (k / size / rect.w)) ≡ true =
        and_from (in_range (skipped rect.x) w (k / size % rect.w)) (in_range (skipped rect.y) h (k / size / rect.w))
        (in_range-in (skipped rect.x) w (k / size % rect.w) column_from (omega (arith, column_from, column_below)))
        (in_range-in (skipped rect.y) h (k / size / rect.w) row_from (omega (arith, row_from, row_below))) in
        get_or-map-range_with_len placed_cell 0 (rect.w * rect.h * size) k k 0 below (omega arith)
        ∙ cond-true (in_range (skipped rect.x) w (k / size % rect.w) && in_range (skipped rect.y) h (k / size / rect.w)) (slice_index host (in_part k)) 0 test
        ∙ agree_at (w * h * size) host seen agrees (in_part k) inside (omega (arith, is_seen, cell, same, defined))
        ∙ is_seen ∙ cell ∙ same

    pub placed_agrees : Agrees (placed (planned read.info pixels kind rect) host) (read_cells read pixels kind rect.x rect.y rect.w rect.h)
    placed_agrees = agrees_with (rect.w * rect.h * size) (placed (planned read.info pixels kind rect) host) whole_cell (length-cells (rect.w * rect.h * size) placed_cell) at_byte
