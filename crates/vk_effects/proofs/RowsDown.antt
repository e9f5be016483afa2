-- Rows of a rectangle of an image as rows of a buffer.
use Rattle.std.proofs.Common.{◌≡◌, ℕ, ◌+◌, ◌-◌, ◌*◌, ◌/◌, ◌%◌, ◌<◌, ◌≤◌, Bool, true, false, eqb, cond, refl, sym, ◌∙◌, ap, subst, arith, inl, inr}
use Rattle.std.specs.Prelude.{◌⊎◌, ◌&&◌, ◌||◌, nat_eq, nat_lt, nat_le, min}
use Rattle.std.proofs.Math.Nat.{mul_comm, mul-le-mul_right}
use Rattle.std.proofs.lemmas.Bool.{false≢true, cases_Bool, cases_lt, eqb-true, eqb-false, ltb-true, leb-true, lt-ltb, le-ltb, ne_eqb, and_parts, or_cases, or_left, or_right, or_from, cond-true, cond-false}
use Rattle.std.proofs.lemmas.Nat.{le-div, div-mul-add, mod-mul-add, mul-add-lt, div_below, mod_below, div-add-mod'}
use Rattle.vk_types.specs.declared.handles.Kind.{Kind}
use Rattle.vk_types.specs.declared.handles.HandleId.{HandleId}
use Rattle.vk_types.specs.declared.regions.Rect.{Rect}
use Rattle.vk_types.specs.declared.ops.Op.TheVariants.{BufferToImage, ImageToBuffer}
use Rattle.vk_types.specs.Touches.{the_end, rows_size, buffer_texel}
use Rattle.vk_model.specs.Texels.{expanded_texel}
use Rattle.vk_model.specs.Cells.{Contents, place, ahead, last_row, texel_to_buffer, image_to_buffer, converted, texel_size, format_of}
use Rattle.vk_model.specs.Log.{Item, Command, Range}
use Rattle.vk_model.specs.Meaning.{apply, covers, found, is_written, LiesIn}
use Rattle.vk_model.proofs.Local.{after_written, after_unwritten, touched_from_written}
use Rattle.vk_model.proofs.Copies.{covered_from, found_at}
use Rattle.vk_model.proofs.Images.{buffer_to_image_writes}
use Rattle.vk_effects.specs.Rows.{row_place, IsInNoRow, IsByteOf, IsOnTop, IsOfARow, ComesUp, ComesDown}
use Rattle.vk_effects.proofs.Columns.{before_its_end}
use Rattle.vk_effects.proofs.Unwritten.{others_stay}
use Rattle.vk_effects.proofs.Words.{converted_same}

-- The last row at or before a place

no_stride : (rows stride at : ℕ) → nat_eq stride 0 ≡ true → last_row rows stride at ≡ rows - 1
no_stride rows stride at z = cond-true (nat_eq stride 0) (rows - 1) (min (at / stride) (rows - 1)) z

some_stride : (rows stride at : ℕ) → nat_eq stride 0 ≡ false → last_row rows stride at ≡ min (at / stride) (rows - 1)
some_stride rows stride at nz = cond-false (nat_eq stride 0) (rows - 1) (min (at / stride) (rows - 1)) nz

not_zero : (n : ℕ) → nat_eq n 0 ≡ false → 0 < n
not_zero n nz = let ne = eqb-false n 0 nz in omega (arith, ne)

last_on_top : (rows stride top rest : ℕ) → top < rows → (top + 1 ≡ rows) ⊎ (rest < stride) → last_row rows stride (top * stride + rest) ≡ top
last_on_top rows stride top rest below last = go (cases_Bool (nat_eq stride 0)) last
  where
    at : ℕ
    at = top * stride + rest

    go : (nat_eq stride 0 ≡ true) ⊎ (nat_eq stride 0 ≡ false) → (top + 1 ≡ rows) ⊎ (rest < stride) → last_row rows stride (top * stride + rest) ≡ top
    go (inl z) (inl is) = no_stride rows stride (top * stride + rest) z ∙ omega (arith, is)
    go (inl z) (inr lt) = absurd (let none = eqb-true stride 0 z in omega (arith, none, lt))
    go (inr nz) (inl is) =
        let from : top ≤ (top * stride + rest) / stride = le-div top (top * stride + rest) stride (not_zero stride nz) (omega arith) in
        some_stride rows stride (top * stride + rest) nz ∙ omega (arith, from, is)
    go (inr nz) (inr lt) =
        let is : (top * stride + rest) / stride ≡ top = div-mul-add top stride rest lt in
        some_stride rows stride (top * stride + rest) nz ∙ omega (arith, is, below)

-- the last row is a row, begins no later, and is the last one or ends its stride later
record IsLastRow (rows stride at row : ℕ) : Type 0 where
  below : row < rows
  from : row * stride ≤ at
  last : (row + 1 ≡ rows) ⊎ (at < (row + 1) * stride)

next_row : (row stride : ℕ) → (row + 1) * stride ≡ row * stride + stride
next_row row stride = grind arith

is_last_row : (rows stride at : ℕ) → 0 < rows → IsLastRow rows stride at (last_row rows stride at)
is_last_row rows stride at some = go (cases_Bool (nat_eq stride 0))
  where
    capped : (quotient : ℕ) → 0 < stride → quotient * stride + at % stride ≡ at → at % stride < stride → (quotient < rows) ⊎ (rows ≤ quotient) → IsLastRow rows stride at (min quotient (rows - 1))
    capped quotient some_stride whole part (inl lt) =
        let is : quotient ≡ min quotient (rows - 1) = omega (arith, lt) in
        subst (IsLastRow rows stride at) is (record {
          below = lt;
          from = omega (arith, whole);
          last = inr (let next = next_row quotient stride in omega (arith, whole, part, next));
        })
    capped quotient some_stride whole part (inr past) =
        let is : rows - 1 ≡ min quotient (rows - 1) = omega (arith, past) in
        let earlier : (rows - 1) * stride ≤ quotient * stride = mul-le-mul_right stride (omega (arith, past)) in
        subst (IsLastRow rows stride at) is (record {
          below = omega (arith, some);
          from = omega (arith, earlier, whole);
          last = inl (omega (arith, some));
        })

    go : (nat_eq stride 0 ≡ true) ⊎ (nat_eq stride 0 ≡ false) → IsLastRow rows stride at (last_row rows stride at)
    go (inl z) =
        let none : stride ≡ 0 = eqb-true stride 0 z in
        let nothing : (rows - 1) * stride ≡ 0 = ap (λ s. (rows - 1) * s) none ∙ omega arith in
        subst (IsLastRow rows stride at) (sym (no_stride rows stride at z)) (record {
          below = omega (arith, some);
          from = omega (arith, nothing);
          last = inl (omega (arith, some));
        })
    go (inr nz) =
        let positive : 0 < stride = not_zero stride nz in
        subst (IsLastRow rows stride at) (sym (some_stride rows stride at nz))
        (capped (at / stride) positive (div-add-mod' at stride) (mod_below at stride positive) (cases_lt (at / stride) rows))

-- Bytes of rows

-- a byte of a texel of a row lies in the row
in_row : (left size byte width : ℕ) → left < width → byte < size → left * size + byte < width * size
in_row left size byte width column in_texel = subst (λ n. left * size + byte < n) (mul_comm size width) (mul-add-lt left size byte width column in_texel)

rows_end : (rect : Rect) (stride size : ℕ) → 0 < rect.w → 0 < rect.h → rows_size rect stride size ≡ (rect.h - 1) * stride + rect.w * size
rows_end rect stride size wide high =
    cond-false (eqb rect.w 0 || eqb rect.h 0) 0 ((rect.h - 1) * stride + rect.w * size)
    (or_from (eqb rect.w 0) (eqb rect.h 0) (ne_eqb rect.w 0 (λ e. omega (arith, e, wide))) (ne_eqb rect.h 0 (λ e. omega (arith, e, high))))

pub in_the_range : (rect : Rect) (at stride size left top byte : ℕ) → IsByteOf rect size left top byte → row_place at stride size left top byte < at + rows_size rect stride size
in_the_range rect at stride size left top byte is =
    let column = is.column in
    let row = is.row in
    let before : top * stride ≤ (rect.h - 1) * stride = mul-le-mul_right stride (omega (arith, row)) in
    let inside : left * size + byte < rect.w * size = in_row left size byte rect.w column is.in_texel in
    let all : rows_size rect stride size ≡ (rect.h - 1) * stride + rect.w * size = rows_end rect stride size (omega (arith, column)) (omega (arith, row)) in
    omega (arith, before, inside, all)

-- from a buffer
pub comes_up : (kinds : ℕ → Kind) (q : ℕ) (src : HandleId) (src_at stride size : ℕ) (dst : HandleId) (rect : Rect) (c : Contents) (x y byte left top : ℕ) →
    LiesIn (kinds dst.0) rect x y byte left top → ComesUp rect src_at stride size byte →
    apply kinds (Command q (record { op = BufferToImage src src_at stride size dst rect })) c dst.0 (place (kinds dst.0) x y byte) ≡ c src.0 (row_place src_at stride size left top byte)
comes_up kinds q src src_at stride size dst rect c x y byte left top lies up =
    let is : IsByteOf rect size left top byte = record { column = lies.to_right; row = lies.to_bottom; in_texel = up.in_texel } in
    let inside = in_the_range rect src_at stride size left top byte is in
    let ends = up.ends in
    buffer_to_image_writes kinds q dst rect c x y byte left top lies src src_at stride size (omega (arith, inside, ends))

-- what the operation writes at a place, by the last row and the way from its start
module _ (kind : Kind) (source : ℕ → ℕ) (rect : Rect) (size : ℕ) (expand : Bool) (old : ℕ) where
  abbrev from_row : ℕ → ℕ → ℕ
  from_row row way = cond (nat_lt way (rect.w * size)) (texel_to_buffer kind source expand (ahead rect.x (way / size)) (ahead rect.y row) (way % size)) old

  down_on_top : (stride left top byte at : ℕ) → IsOnTop rect stride size left top byte → at ≡ top * stride + (left * size + byte) → image_to_buffer kind source rect stride size expand at old ≡ texel_to_buffer kind source expand (ahead rect.x left) (ahead rect.y top) byte
  down_on_top stride left top byte at on_top is =
      let rest : ℕ = left * size + byte in
      let last : last_row rect.h stride at ≡ top = ap (last_row rect.h stride) is ∙ last_on_top rect.h stride top (left * size + byte) on_top.is.row on_top.last in
      let way : at - top * stride ≡ left * size + byte = omega (arith, is) in
      ap (λ r. from_row r (at - r * stride)) last
      ∙ ap (from_row top) way
      ∙ cond-true (nat_lt (left * size + byte) (rect.w * size)) (texel_to_buffer kind source expand (ahead rect.x ((left * size + byte) / size)) (ahead rect.y top) ((left * size + byte) % size)) old (lt-ltb (left * size + byte) (rect.w * size) (in_row left size byte rect.w on_top.is.column on_top.is.in_texel))
      ∙ ap (λ l. texel_to_buffer kind source expand (ahead rect.x l) (ahead rect.y top) ((left * size + byte) % size)) (div-mul-add left size byte on_top.is.in_texel)
      ∙ ap (texel_to_buffer kind source expand (ahead rect.x left) (ahead rect.y top)) (mod-mul-add left size byte on_top.is.in_texel)

  down_in_no_row : (stride at i : ℕ) → at ≤ i → 0 < rect.h → IsInNoRow at rect.h stride (rect.w * size) i → image_to_buffer kind source rect stride size expand (i - at) old ≡ old
  down_in_no_row stride at i from high none =
      let row : ℕ = last_row rect.h stride (i - at) in
      let last : IsLastRow rect.h stride (i - at) (last_row rect.h stride (i - at)) = is_last_row rect.h stride (i - at) high in
      let starts : last_row rect.h stride (i - at) * stride ≤ i - at = last.from in
      let past : rect.w * size ≤ (i - at) - last_row rect.h stride (i - at) * stride = elim (none (last_row rect.h stride (i - at)) last.below) [ inl before ↦ absurd (omega (arith, before, starts, from)) | inr after ↦ omega (arith, after, from) ] in
      cond-false (nat_lt ((i - at) - last_row rect.h stride (i - at) * stride) (rect.w * size))
      (texel_to_buffer kind source expand (ahead rect.x (((i - at) - last_row rect.h stride (i - at) * stride) / size)) (ahead rect.y (last_row rect.h stride (i - at))) (((i - at) - last_row rect.h stride (i - at) * stride) % size))
      old
      (le-ltb ((i - at) - last_row rect.h stride (i - at) * stride) (rect.w * size) past)

-- The operation

module _ (kinds : ℕ → Kind) (q : ℕ) (src : HandleId) (rect : Rect) (dst : HandleId) (dst_at stride size : ℕ) (expand : Bool) (c : Contents) where
  abbrev down : Item
  down = Command q (record { op = ImageToBuffer src rect dst dst_at stride size expand })

  abbrev rows_written : Range
  rows_written = record { id = dst.0; start = dst_at; end = min (dst_at + rows_size rect stride (buffer_texel size expand)) the_end; written = true }

  source_found : (i : ℕ) → i < the_end → found down c src.0 i ≡ c src.0 i
  source_found i below =
      let read : Range = record { id = src.0; start = 0; end = the_end; written = false } in
      found_at down c src.0 i (or_left (covers src.0 i read) (covers src.0 i rows_written || false) (covered_from src.0 i read refl (omega arith) below))

  writes_down : (left top byte : ℕ) → ComesDown (kinds src.0) rect dst_at stride (buffer_texel size expand) left top byte →
      apply kinds down c dst.0 (row_place dst_at stride (buffer_texel size expand) left top byte) ≡ texel_to_buffer (kinds src.0) (found down c src.0) expand (ahead rect.x left) (ahead rect.y top) byte
  writes_down left top byte comes =
      let i : ℕ = row_place dst_at stride (buffer_texel size expand) left top byte in
      let inside : row_place dst_at stride (buffer_texel size expand) left top byte < dst_at + rows_size rect stride (buffer_texel size expand) = in_the_range rect dst_at stride (buffer_texel size expand) left top byte comes.on_top.is in
      let ends = comes.ends in
      let way : row_place dst_at stride (buffer_texel size expand) left top byte - dst_at ≡ top * stride + (left * buffer_texel size expand + byte) = omega arith in
      after_written kinds down c dst.0 (row_place dst_at stride (buffer_texel size expand) left top byte)
      (or_left (covers dst.0 (row_place dst_at stride (buffer_texel size expand) left top byte) rows_written) false (covered_from dst.0 (row_place dst_at stride (buffer_texel size expand) left top byte) rows_written refl (omega arith) (omega (arith, inside, ends))))
      ∙ down_on_top (kinds src.0) (found down c src.0) rect (buffer_texel size expand) expand (found down c dst.0 (row_place dst_at stride (buffer_texel size expand) left top byte)) stride left top byte (row_place dst_at stride (buffer_texel size expand) left top byte - dst_at) comes.on_top way

  -- what is written lies in the range, which then has rows
  written_in_range : (id i : ℕ) → is_written down id i ≡ true → (dst_at ≤ i) × (i < dst_at + rows_size rect stride (buffer_texel size expand))
  written_in_range id i w = elim (or_cases (covers id i rows_written) false w) [
    | inl covered ↦
        let parts = and_parts (eqb dst.0 id && nat_le dst_at i) (nat_lt i (min (dst_at + rows_size rect stride (buffer_texel size expand)) the_end)) covered in
        let from : dst_at ≤ i = leb-true dst_at i (and_parts (eqb dst.0 id) (nat_le dst_at i) parts.0).1 in
        let below : i < min (dst_at + rows_size rect stride (buffer_texel size expand)) the_end = ltb-true i (min (dst_at + rows_size rect stride (buffer_texel size expand)) the_end) parts.1 in
        (from, omega (arith, below))
    | inr nowhere ↦ absurd (false≢true nowhere)
  ]

  has_rows : (i : ℕ) → (dst_at ≤ i) × (i < dst_at + rows_size rect stride (buffer_texel size expand)) → 0 < rect.h
  has_rows i range = go (cases_Bool (eqb rect.h 0))
    where
      go : (eqb rect.h 0 ≡ true) ⊎ (eqb rect.h 0 ≡ false) → 0 < rect.h
      go (inl z) =
          let none : rows_size rect stride (buffer_texel size expand) ≡ 0 = cond-true (eqb rect.w 0 || eqb rect.h 0) 0 ((rect.h - 1) * stride + rect.w * buffer_texel size expand) (or_right (eqb rect.w 0) (eqb rect.h 0) z) in
          let from = range.0 in
          let below = range.1 in
          absurd (omega (arith, none, from, below))
      go (inr nz) = not_zero rect.h nz

  pub down_stays : (id i : ℕ) → (dst.0 ≡ id → ⊥) ⊎ IsInNoRow dst_at rect.h stride (rect.w * buffer_texel size expand) i → apply kinds down c id i ≡ c id i
  down_stays id i (inl other) = others_stay kinds q (record { op = ImageToBuffer src rect dst dst_at stride size expand }) c id i other
  down_stays id i (inr none) = go (cases_Bool (is_written down id i))
    where
      go : (is_written down id i ≡ true) ⊎ (is_written down id i ≡ false) → apply kinds down c id i ≡ c id i
      go (inl w) =
          let range = written_in_range id i w in
          after_written kinds down c id i w
          ∙ down_in_no_row (kinds src.0) (found down c src.0) rect (buffer_texel size expand) expand (found down c id i) stride dst_at i range.0 (has_rows i range) none
          ∙ found_at down c id i (touched_from_written down id i w)
      go (inr n) = after_unwritten kinds down c id i n

module _ (kinds : ℕ → Kind) (q : ℕ) (src : HandleId) (rect : Rect) (dst : HandleId) (dst_at stride size : ℕ) (c : Contents) (left top byte : ℕ) where
  pub down_plain : ComesDown (kinds src.0) rect dst_at stride size left top byte → size ≡ texel_size (kinds src.0) →
      apply kinds (Command q (record { op = ImageToBuffer src rect dst dst_at stride size false })) c dst.0 (row_place dst_at stride size left top byte) ≡ c src.0 (place (kinds src.0) (ahead rect.x left) (ahead rect.y top) byte)
  down_plain comes same =
      let on_top = comes.on_top in
      let source = comes.source in
      let ends = source.ends in
      let in_texel : byte < texel_size (kinds src.0) = subst (λ n. byte < n) same on_top.is.in_texel in
      let inside = before_its_end (kinds src.0) (ahead rect.x left) (ahead rect.y top) byte source.column source.row in_texel in
      writes_down kinds q src rect dst dst_at stride size false c left top byte comes
      ∙ source_found kinds q src rect dst dst_at stride size false c (place (kinds src.0) (ahead rect.x left) (ahead rect.y top) byte) (omega (arith, inside, ends))

  pub down_expanded : ComesDown (kinds src.0) rect dst_at stride 16 left top byte →
      apply kinds (Command q (record { op = ImageToBuffer src rect dst dst_at stride size true })) c dst.0 (row_place dst_at stride 16 left top byte) ≡ converted (expanded_texel (format_of (kinds src.0))) (λ b. c src.0 (place (kinds src.0) (ahead rect.x left) (ahead rect.y top) b)) (texel_size (kinds src.0)) byte
  down_expanded comes =
      let item : Item = Command q (record { op = ImageToBuffer src rect dst dst_at stride size true }) in
      let source = comes.source in
      let ends = source.ends in
      writes_down kinds q src rect dst dst_at stride size true c left top byte comes
      ∙ converted_same (expanded_texel (format_of (kinds src.0))) (λ b. found item c src.0 (place (kinds src.0) (ahead rect.x left) (ahead rect.y top) b)) (λ b. c src.0 (place (kinds src.0) (ahead rect.x left) (ahead rect.y top) b)) (texel_size (kinds src.0)) byte
      (λ b lt. let inside = before_its_end (kinds src.0) (ahead rect.x left) (ahead rect.y top) b source.column source.row lt in source_found kinds q src rect dst dst_at stride size true c (place (kinds src.0) (ahead rect.x left) (ahead rect.y top) b) (omega (arith, inside, ends)))

-- Each place behind the first row's start is of one row or of none

before_later : (row k stride at : ℕ) → at < (row + 1) * stride → row + 1 ≤ k → at < k * stride
before_later row k stride at lt le = let later : (row + 1) * stride ≤ k * stride = mul-le-mul_right stride le in omega (arith, lt, later)

pub of_a_row_or_none : (rect : Rect) (at stride size i : ℕ) → at ≤ i → 0 < size → IsOfARow rect at stride size i ⊎ IsInNoRow at rect.h stride (rect.w * size) i
of_a_row_or_none rect at stride size i from some = go (cases_lt 0 rect.h)
  where
    by_row : (row : ℕ) → IsLastRow rect.h stride (i - at) row → (((i - at) - row * stride < rect.w * size) ⊎ (rect.w * size ≤ (i - at) - row * stride)) → IsOfARow rect at stride size i ⊎ IsInNoRow at rect.h stride (rect.w * size) i
    by_row row last (inl inside) =
        let way : ℕ = (i - at) - row * stride in
        let starts = last.from in
        let whole : ((i - at) - row * stride) / size * size + ((i - at) - row * stride) % size ≡ (i - at) - row * stride = div-add-mod' ((i - at) - row * stride) size in
        inl (record {
          left = ((i - at) - row * stride) / size;
          top = row;
          byte = ((i - at) - row * stride) % size;
          on_top = record {
            is = record {
              column = div_below ((i - at) - row * stride) size rect.w some inside;
              row = last.below;
              in_texel = mod_below ((i - at) - row * stride) size some;
            };
            last = elim last.last [ inl is ↦ inl is | inr lt ↦ inr (let next = next_row row stride in omega (arith, lt, next, whole, starts)) ];
          };
          is = omega (arith, whole, starts, from);
        })
    by_row row last (inr past) =
        let starts = last.from in
        inr (λ k lt. elim (cases_lt row k) [
          | inl later ↦ inl (elim last.last [ inl is ↦ absurd (omega (arith, is, later, lt)) | inr before ↦ let b : i - at < k * stride = before_later row k stride (i - at) before (omega (arith, later)) in omega (arith, b, from) ])
          | inr earlier ↦ inr (let up : k * stride ≤ row * stride = mul-le-mul_right stride earlier in omega (arith, up, past, starts, from))
        ])

    go : (0 < rect.h) ⊎ (rect.h ≤ 0) → IsOfARow rect at stride size i ⊎ IsInNoRow at rect.h stride (rect.w * size) i
    go (inl high) = by_row (last_row rect.h stride (i - at)) (is_last_row rect.h stride (i - at) high) (cases_lt ((i - at) - last_row rect.h stride (i - at) * stride) (rect.w * size))
    go (inr none) = inr (λ k lt. absurd (omega (arith, lt, none)))
