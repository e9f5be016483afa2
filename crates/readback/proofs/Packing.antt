-- What a pack buffer shows after a read.
use Rattle.std.proofs.Common.{◌≡◌, ℕ, ◌+◌, ◌-◌, ◌*◌, ◌/◌, ◌%◌, ◌<◌, ◌≤◌, Bool, true, false, cond, eqb, Option, Some, None, length, refl, sym, ◌∙◌, ap, subst, arith, inl, inr}
use Rattle.std.specs.Prelude.{◌⊎◌, ◌||◌, not, pos, ◌+ℤ◌}
use Rattle.std.specs.Option.{option_map, option_map_or}
use Rattle.std.specs.List.{filter, range_with_len}
use Rattle.std.proofs.Math.Nat.{mul-le-mul_right}
use Rattle.std.proofs.lemmas.Bool.{cases_lt, or_cases, or_parts, or_from, ne_eqb, eqb-true, eqb-false, cond-false, false≢true}
use Rattle.std.proofs.lemmas.Nat.{div-add-mod', div_below, mod_below}
use Rattle.cells.specs.Contents.{Content, cells, cell_at, UNDEFINED, in_range}
use Rattle.formats.specs.declared.pixel.PixelFormat.{PixelFormat}
use Rattle.formats.specs.declared.pixel.PixelType.{PixelType}
use Rattle.formats.specs.Pairs.{same_pair}
use Rattle.formats.specs.Rows.{PixelStorage, first_row_place, row_stride, needed_length}
use Rattle.formats.specs.Texel.{own_pair_of}
use Rattle.gl_model.specs.declared.objects.ImageInfo.{ImageInfo}
use Rattle.gl_model.specs.ImageRows.{pair_texel}
use Rattle.gl_model.specs.ImageEffect.{Picture, texel_bytes, in_int_range, last_of, after_read}
use Rattle.vk_types.specs.declared.handles.Kind.{Kind}
use Rattle.vk_types.specs.declared.handles.HandleId.{HandleId}
use Rattle.vk_types.specs.declared.regions.Rect.{Rect}
use Rattle.vk_types.specs.declared.ops.Op.TheVariants.{ImageToBuffer}
use Rattle.vk_types.specs.declared.ops.Node.{Node}
use Rattle.vk_types.specs.Touches.{the_end, rows_size, buffer_texel}
use Rattle.vk_model.specs.Cells.{Contents}
use Rattle.vk_model.specs.Log.{Command}
use Rattle.vk_model.specs.Meaning.{apply}
use Rattle.vk_effects.specs.Rows.{row_place, IsInNoRow}
use Rattle.vk_effects.proofs.RowsDown.{down_stays}
use Rattle.transfer.specs.declared.overlap.Overlap.{Overlap}
use Rattle.transfer.specs.Shown.{Shows, IsShown, after_node}
use Rattle.transfer.specs.Overlaps.{skipped, entered, count_inside}
use Rattle.transfer.specs.Blits.{AreCells}
use Rattle.transfer.proofs.Places.{IsCell, cell_at-defined}
use Rattle.transfer.proofs.Painting.{IsAmong, cases_range, in_range-in, in_range-out}
use Rattle.transfer.proofs.Reading.{IsRead, cases_read}
use Rattle.transfer.proofs.Copying.{line_fits}
use Rattle.transfer.proofs.Uploading.{needed_is}
use Rattle.readback.specs.Plans.{plan_part, pack_node, pack_of}
use Rattle.readback.proofs.Bringing.{read_by, client_texel, some_client_texel, not_read, IsBrought, brought_down}
use Rattle.readback.proofs.Lasts.{IsLast, NonePasses, last_is}

pub row_more : (row stride : ℕ) → (row + 1) * stride ≡ row * stride + stride
row_more row stride = grind arith

pub rows_split : (a b stride : ℕ) → (a + b) * stride ≡ a * stride + b * stride
rows_split a b stride = grind arith

pub texel_alike : (info : ImageInfo) (own : Bool) → buffer_texel (texel_bytes info) (not own) ≡ client_texel info own
texel_alike info true = refl
texel_alike info false = refl

-- a rectangle with texels has rows
pub rows_are : (rect : Rect) (stride size : ℕ) → (eqb rect.w 0 || eqb rect.h 0) ≡ false → rows_size rect stride size ≡ (rect.h - 1) * stride + rect.w * size
rows_are rect stride size some = cond-false (eqb rect.w 0 || eqb rect.h 0) 0 ((rect.h - 1) * stride + rect.w * size) some

-- The rows of a part end before those of all.
pub part_ends : (first stride texel width height left top w h : ℕ) → left + w ≤ width → top + h ≤ height → 0 < h → first + top * stride + left * texel + ((h - 1) * stride + w * texel) ≤ first + ((height - 1) * stride + width * texel)
part_ends first stride texel width height left top w h columns rows some =
    let down : (top + (h - 1)) * stride ≤ (height - 1) * stride = mul-le-mul_right stride (omega (arith, rows, some)) in
    let down_split : (top + (h - 1)) * stride ≡ top * stride + (h - 1) * stride = rows_split top (h - 1) stride in
    let across : (left + w) * texel ≤ width * texel = mul-le-mul_right texel columns in
    let across_split : (left + w) * texel ≡ left * texel + w * texel = rows_split left w texel in
    omega (arith, down, down_split, across, across_split)

module _ (kinds : ℕ → Kind) (q : ℕ) (c : Contents) (image buffer : HandleId) (read : Picture) (own : Bool) (rect : Rect) (base : ℕ) (store : PixelStorage) (old : Content)
    (shown : IsShown kinds c image.0 read) (are : AreCells read.cells) (shows_old : Shows (c buffer.0) old) (ends : base + needed_length store (client_texel read.info own) rect.w rect.h ≤ the_end) where
  abbrev texel : ℕ
  texel = client_texel read.info own

  abbrev stride : ℕ
  stride = row_stride store (client_texel read.info own) rect.w

  abbrev first : ℕ
  first = base + first_row_place store (client_texel read.info own) rect.w

  abbrev columns : ℕ
  columns = count_inside rect.x read.info.width rect.w

  abbrev rows : ℕ
  rows = count_inside rect.y read.info.height rect.h

  abbrev part : Overlap
  part = record { left = skipped rect.x; top = skipped rect.y; rect = record { x = pos (entered rect.x); y = pos (entered rect.y); w = columns; h = rows } }

  abbrev start : ℕ
  start = first + skipped rect.y * stride + skipped rect.x * texel

  abbrev node : Node
  node = record { op = ImageToBuffer image part.rect buffer start stride (texel_bytes read.info) (not own) }

  -- a row of the read has a place
  abbrev covers_place : ℕ → ℕ → Bool
  covers_place p row = in_range (first + row * stride) (rect.w * texel) p

  -- what the read leaves at a place, by the last row that has it
  abbrev left_by : ℕ → Option ℕ → ℕ
  left_by p row = option_map_or (λ row. let k = p - (first + row * stride) in cell_at (read_by read own (rect.x +ℤ pos (k / texel)) (rect.y +ℤ pos row)) (k % texel)) row (cell_at old p)

  some_texel : 0 < client_texel read.info own
  some_texel = some_client_texel read.info own

  -- no row of the read has it, so none of the part
  in_no_row : (p : ℕ) → (eqb columns 0 || eqb rows 0) ≡ false → NonePasses (covers_place p) 0 rect.h → IsInNoRow start rows stride (columns * buffer_texel (texel_bytes read.info) (not own)) p
  in_no_row p some none k below =
      let parts = or_parts (eqb columns 0) (eqb rows 0) some in
      let across = (line_fits rect.x read.info.width rect.w (eqb-false columns 0 parts.0)).0 in
      let down = (line_fits rect.y read.info.height rect.h (eqb-false rows 0 parts.1)).0 in
      let row : ℕ = skipped rect.y + k in
      let alike : columns * buffer_texel (texel_bytes read.info) (not own) ≡ columns * texel = ap (λ n. columns * n) (texel_alike read.info own) in
      let split : (skipped rect.y + k) * stride ≡ skipped rect.y * stride + k * stride = rows_split (skipped rect.y) k stride in
      let wide : (skipped rect.x + columns) * texel ≤ rect.w * texel = mul-le-mul_right texel across in
      let wide_split : (skipped rect.x + columns) * texel ≡ skipped rect.x * texel + columns * texel = rows_split (skipped rect.x) columns texel in
      let from_0 : 0 + (skipped rect.y + k) ≡ skipped rect.y + k = omega arith in
      let out : covers_place p (skipped rect.y + k) ≡ false = subst (λ n. covers_place p n ≡ false) from_0 (none (skipped rect.y + k) (omega (arith, down, below))) in
      elim (cases_range (first + (skipped rect.y + k) * stride) (rect.w * texel) p) [
        | inl among ↦
            let from = among.from in
            let end = among.below in
            absurd (false≢true (sym out ∙ in_range-in (first + (skipped rect.y + k) * stride) (rect.w * texel) p from (omega (arith, from, end))))
        | inr (inl before) ↦ inl (omega (arith, before, split))
        | inr (inr past) ↦ inr (omega (arith, past, split, alike, wide, wide_split))
      ]

  -- a place of a row that is read in the image
  brought_at : (p row : ℕ) → (eqb columns 0 || eqb rows 0) ≡ false → row < rect.h → IsAmong (first + row * stride) (rect.w * texel) p → ((next : ℕ) → row < next → next < rect.h → covers_place p next ≡ false) →
      IsRead rect.x read.info.width rect.w ((p - (first + row * stride)) / texel) → IsRead rect.y read.info.height rect.h row →
      IsBrought read.info part.rect start stride texel (rect.x +ℤ pos ((p - (first + row * stride)) / texel)) (rect.y +ℤ pos row) ((p - (first + row * stride)) / texel - skipped rect.x) (row - skipped rect.y) ((p - (first + row * stride)) % texel)
  brought_at p row some below among later read_x read_y =
      let way : ℕ = p - (first + row * stride) in
      let parts = or_parts (eqb columns 0) (eqb rows 0) some in
      let across = (line_fits rect.x read.info.width rect.w (eqb-false columns 0 parts.0)).0 in
      let down = (line_fits rect.y read.info.height rect.h (eqb-false rows 0 parts.1)).0 in
      let some_rows = eqb-false rows 0 parts.1 in
      record {
        m = entered rect.x + ((p - (first + row * stride)) / texel - skipped rect.x);
        n = entered rect.y + (row - skipped rect.y);
        x_is = read_x.is;
        y_is = read_y.is;
        column = read_x.inside;
        row = read_y.inside;
        across = refl;
        down = refl;
        on_top = record {
          is = record { column = read_x.below; row = read_y.below; in_texel = mod_below (p - (first + row * stride)) texel some_texel };
          last = on_top (cases_lt (row + 1) rect.h) down;
        };
        ends = all_ends across down some_rows;
      }
    where
      rest : (p - (first + row * stride)) / texel * texel + (p - (first + row * stride)) % texel ≡ p - (first + row * stride)
      rest = div-add-mod' (p - (first + row * stride)) texel

      less : ((p - (first + row * stride)) / texel - skipped rect.x) * texel ≤ (p - (first + row * stride)) / texel * texel
      less = mul-le-mul_right texel (omega arith)

      on_top : (row + 1 < rect.h) ⊎ (rect.h ≤ row + 1) → skipped rect.y + rows ≤ rect.h → ((row - skipped rect.y) + 1 ≡ rows) ⊎ (((p - (first + row * stride)) / texel - skipped rect.x) * texel + (p - (first + row * stride)) % texel < stride)
      on_top (inr last) down =
          let from = read_y.from in
          let below' = read_y.below in
          inl (omega (arith, last, down, from, below', below))
      on_top (inl next) down = elim (cases_range (first + (row + 1) * stride) (rect.w * texel) p) [
        | inl among' ↦
            let from = among'.from in
            let end = among'.below in
            absurd (false≢true (sym (later (row + 1) (omega arith) next) ∙ in_range-in (first + (row + 1) * stride) (rect.w * texel) p from (omega (arith, from, end))))
        | inr (inl before) ↦
            let more = row_more row stride in
            let from = among.from in
            let r = rest in
            let l = less in
            inr (omega (arith, before, more, from, r, l))
        | inr (inr past) ↦
            let more = row_more row stride in
            let from = among.from in
            let end = among.below in
            absurd (omega (arith, past, more, from, end))
      ]

      all_ends : skipped rect.x + columns ≤ rect.w → skipped rect.y + rows ≤ rect.h → (rows ≡ 0 → ⊥) → start + rows_size part.rect stride texel ≤ the_end
      all_ends across down some_rows =
          let part_rows : rows_size part.rect stride texel ≡ (rows - 1) * stride + columns * texel = rows_are part.rect stride texel some in
          let inside = part_ends first stride texel rect.w rect.h (skipped rect.x) (skipped rect.y) columns rows across down (omega (arith, some_rows)) in
          let whole : (eqb rect.w 0 || eqb rect.h 0) ≡ false = whole_some across down in
          let needed : needed_length store texel rect.w rect.h ≡ first_row_place store texel rect.w + rows_size rect stride texel = needed_is store texel rect stride refl whole in
          let all_rows : rows_size rect stride texel ≡ (rect.h - 1) * stride + rect.w * texel = rows_are rect stride texel whole in
          let e = ends in
          omega (arith, part_rows, inside, needed, all_rows, e)
        where
          whole_some : skipped rect.x + columns ≤ rect.w → skipped rect.y + rows ≤ rect.h → (eqb rect.w 0 || eqb rect.h 0) ≡ false
          whole_some across down =
              let parts = or_parts (eqb columns 0) (eqb rows 0) some in
              let c_some = eqb-false columns 0 parts.0 in
              let r_some = eqb-false rows 0 parts.1 in
              or_from (eqb rect.w 0) (eqb rect.h 0) (ne_eqb rect.w 0 (λ e. omega (arith, e, across, c_some))) (ne_eqb rect.h 0 (λ e. omega (arith, e, down, r_some)))

  -- its place in the rows of the part
  place_is : (p row : ℕ) → IsAmong (first + row * stride) (rect.w * texel) p → skipped rect.x ≤ (p - (first + row * stride)) / texel → skipped rect.y ≤ row →
      row_place start stride texel ((p - (first + row * stride)) / texel - skipped rect.x) (row - skipped rect.y) ((p - (first + row * stride)) % texel) ≡ p
  place_is p row among right_of below_of =
      let rest : (p - (first + row * stride)) / texel * texel + (p - (first + row * stride)) % texel ≡ p - (first + row * stride) = div-add-mod' (p - (first + row * stride)) texel in
      let from = among.from in
      let down : (skipped rect.y + (row - skipped rect.y)) * stride ≡ skipped rect.y * stride + (row - skipped rect.y) * stride = rows_split (skipped rect.y) (row - skipped rect.y) stride in
      let down_is : (skipped rect.y + (row - skipped rect.y)) * stride ≡ row * stride = (let e : skipped rect.y + (row - skipped rect.y) ≡ row = omega (arith, below_of) in ap (λ n. n * stride) e) in
      let across : (skipped rect.x + ((p - (first + row * stride)) / texel - skipped rect.x)) * texel ≡ skipped rect.x * texel + ((p - (first + row * stride)) / texel - skipped rect.x) * texel = rows_split (skipped rect.x) ((p - (first + row * stride)) / texel - skipped rect.x) texel in
      let across_is : (skipped rect.x + ((p - (first + row * stride)) / texel - skipped rect.x)) * texel ≡ (p - (first + row * stride)) / texel * texel =
      (let e : skipped rect.x + ((p - (first + row * stride)) / texel - skipped rect.x) ≡ (p - (first + row * stride)) / texel = omega (arith, right_of) in ap (λ n. n * texel) e) in
      omega (arith, rest, from, down, down_is, across, across_is)

  -- what is seen after the read
  record Packs (seen : ℕ → ℕ) : Type 0 where
    brought : (p row : ℕ) → row < rect.h → IsAmong (first + row * stride) (rect.w * texel) p → ((next : ℕ) → row < next → next < rect.h → covers_place p next ≡ false) →
        IsRead rect.x read.info.width rect.w ((p - (first + row * stride)) / texel) → IsRead rect.y read.info.height rect.h row →
        cell_at (read_by read own (rect.x +ℤ pos ((p - (first + row * stride)) / texel)) (rect.y +ℤ pos row)) ((p - (first + row * stride)) % texel) < UNDEFINED →
        seen p ≡ cell_at (read_by read own (rect.x +ℤ pos ((p - (first + row * stride)) / texel)) (rect.y +ℤ pos row)) ((p - (first + row * stride)) % texel)
    kept : (p : ℕ) → NonePasses (covers_place p) 0 rect.h → seen p ≡ c buffer.0 p

  at_row : (seen : ℕ → ℕ) → Packs seen → (p : ℕ) (o : Option ℕ) → IsLast (covers_place p) 0 rect.h o → left_by p o < UNDEFINED → seen p ≡ left_by p o
  at_row seen packs p None none defined = packs.kept p none ∙ shows_old p defined
  at_row seen packs p (Some row) last defined = go (cases_range (first + row * stride) (rect.w * texel) p) (cases_read rect.y read.info.height rect.h row below)
    where
      row_is : row ≡ last.place
      row_is = let e = last.is in omega (arith, e)

      below : row < rect.h
      below = let b = last.below in let e = row_is in omega (arith, b, e)

      later : (next : ℕ) → row < next → next < rect.h → covers_place p next ≡ false
      later next after lt =
          let e = row_is in
          let from_0 : 0 + next ≡ next = omega arith in
          subst (λ n. covers_place p n ≡ false) from_0 (last.later next (omega (arith, after, e)) lt)

      go : IsAmong (first + row * stride) (rect.w * texel) p ⊎ ((p < first + row * stride) ⊎ (first + row * stride + rect.w * texel ≤ p)) → IsRead rect.y read.info.height rect.h row ⊎ (in_int_range (pos 0) read.info.height (rect.y +ℤ pos row) ≡ false) → seen p ≡ left_by p (Some row)
      go (inr out) rest = absurd (false≢true (sym (in_range-out (first + row * stride) (rect.w * texel) p out) ∙ last.passes))
      go (inl among) (inr above) = absurd (let gone = not_read read own (rect.x +ℤ pos ((p - (first + row * stride)) / texel)) (rect.y +ℤ pos row) ((p - (first + row * stride)) % texel) (inr above) in omega (arith, gone, defined))
      go (inl among) (inl read_y) = column (cases_read rect.x read.info.width rect.w ((p - (first + row * stride)) / texel) (div_below (p - (first + row * stride)) texel rect.w some_texel among.below))
        where
          column : IsRead rect.x read.info.width rect.w ((p - (first + row * stride)) / texel) ⊎ (in_int_range (pos 0) read.info.width (rect.x +ℤ pos ((p - (first + row * stride)) / texel)) ≡ false) → seen p ≡ left_by p (Some row)
          column (inl read_x) = packs.brought p row below among later read_x read_y defined
          column (inr beside) = absurd (let gone = not_read read own (rect.x +ℤ pos ((p - (first + row * stride)) / texel)) (rect.y +ℤ pos row) ((p - (first + row * stride)) % texel) (inl beside) in omega (arith, gone, defined))

  -- what the read is to leave
  abbrev left : Content
  left = cells (length old) (λ p. left_by p (last_of (filter (covers_place p) (range_with_len 0 rect.h))))

  packs_show : (seen : ℕ → ℕ) → Packs seen → Shows seen left
  packs_show seen packs p defined =
      let cell : IsCell (length old) (λ p. left_by p (last_of (filter (covers_place p) (range_with_len 0 rect.h)))) p = cell_at-defined (length old) (λ p. left_by p (last_of (filter (covers_place p) (range_with_len 0 rect.h)))) p defined in
      let is = cell.is in
      at_row seen packs p (last_of (filter (covers_place p) (range_with_len 0 rect.h))) (last_is (covers_place p) 0 rect.h) (omega (arith, is, defined)) ∙ sym is

  nothing_read : (eqb columns 0 || eqb rows 0) ≡ true → Packs (c buffer.0)
  nothing_read empty = record {
    brought = λ p row below among later read_x read_y defined. absurd (elim (or_cases (eqb columns 0) (eqb rows 0) empty) [
      | inl none ↦ let z = eqb-true columns 0 none in let b = read_x.below in omega (arith, z, b)
      | inr none ↦ let z = eqb-true rows 0 none in let b = read_y.below in omega (arith, z, b)
    ]);
    kept = λ p none. refl;
  }

  node_packs : (eqb columns 0 || eqb rows 0) ≡ false → Packs (apply kinds (Command q node) c buffer.0)
  node_packs some = record {
    brought = λ p row below among later read_x read_y defined.
        ap (apply kinds (Command q node) c buffer.0) (sym (place_is p row among read_x.from read_y.from))
        ∙ brought_down kinds q c image buffer read part.rect start stride shown are (rect.x +ℤ pos ((p - (first + row * stride)) / texel)) (rect.y +ℤ pos row) ((p - (first + row * stride)) / texel - skipped rect.x) (row - skipped rect.y) ((p - (first + row * stride)) % texel) own
        (brought_at p row some below among later read_x read_y) defined;
    kept = λ p none. down_stays kinds q image part.rect buffer start stride (texel_bytes read.info) (not own) c buffer.0 p (inr (in_no_row p some none));
  }

  pub packed_shows : (t : Bool) → (eqb columns 0 || eqb rows 0) ≡ t → Shows (after_node kinds q (cond t None (Some node)) c buffer.0) left
  packed_shows true empty = packs_show (c buffer.0) (nothing_read empty)
  packed_shows false some = packs_show (apply kinds (Command q node) c buffer.0) (node_packs some)

pub pack_shows : (kinds : ℕ → Kind) (q : ℕ) (c : Contents) (image buffer : HandleId) (read : Picture) (pixels : PixelFormat) (kind : PixelType) (rect : Rect) (base : ℕ) (store : PixelStorage) (old : Content) →
    IsShown kinds c image.0 read → AreCells read.cells → Shows (c buffer.0) old → base + needed_length store (pair_texel read.info.format pixels kind) rect.w rect.h ≤ the_end →
    Shows (after_node kinds q (pack_of read.info pixels kind rect image buffer base store) c buffer.0) (after_read old base read pixels kind store rect.x rect.y rect.w rect.h)
pack_shows kinds q c image buffer read pixels kind rect base store old shown are shows ends = go (eqb (count_inside rect.x read.info.width rect.w) 0 || eqb (count_inside rect.y read.info.height rect.h) 0) refl
  where
    go : (t : Bool) → (eqb (count_inside rect.x read.info.width rect.w) 0 || eqb (count_inside rect.y read.info.height rect.h) 0) ≡ t →
        Shows (after_node kinds q (option_map (λ plan. pack_node plan image buffer base store) (option_map (plan_part read.info pixels kind rect) (cond t None (Some (record {
          left = skipped rect.x;
          top = skipped rect.y;
          rect = record { x = pos (entered rect.x); y = pos (entered rect.y); w = count_inside rect.x read.info.width rect.w; h = count_inside rect.y read.info.height rect.h };
        }))))) c buffer.0)
        (after_read old base read pixels kind store rect.x rect.y rect.w rect.h)
    go true empty = packed_shows kinds q c image buffer read (same_pair (pixels, kind) (own_pair_of read.info.format)) rect base store old shown are shows ends true empty
    go false some = packed_shows kinds q c image buffer read (same_pair (pixels, kind) (own_pair_of read.info.format)) rect base store old shown are shows ends false some
