-- What a blit leaves, and that it fits.
use Rattle.std.proofs.Common.{◌≡◌, ◌≢◌, ℕ, ◌+◌, ◌-◌, ◌<◌, ◌≤◌, Bool, true, false, cond, eqb, ltb, Option, Some, None, IfSome, List, refl, sym, ◌∙◌, ap, subst, arith, inl, inr}
use Rattle.std.specs.Prelude.{◌⊎◌, ◌&&◌, ◌||◌, ℤ, pos, ◌-ℤ◌, unsigned_abs, is_some, if◌then◌else◌}
use Rattle.std.specs.Option.{option_map, option_map_or, option_and_then}
use Rattle.std.proofs.lemmas.Bool.{cases_lt, and_parts, and_cases, or_parts, or_cases, not-true, not-false, eqb-true, ltb-true, ltb-false, false≢true}
use Rattle.std.proofs.lemmas.List.Elements.{All-from_recursion}
use Rattle.cells.specs.Contents.{Content, cell_at, UNDEFINED}
use Rattle.gl_model.specs.declared.objects.ImageInfo.{ImageInfo}
use Rattle.gl_model.specs.declared.state.ScissorBox.{ScissorBox}
use Rattle.gl_model.specs.ImageEffect.{Picture, texel_bytes, texel_at, in_int_range, is_inside, is_between, blit_source, has_area, in_scissor, in_common, converted, after_blit}
use Rattle.vk_types.specs.declared.handles.Kind.{Kind}
use Rattle.vk_types.specs.declared.handles.HandleId.{HandleId}
use Rattle.vk_types.specs.declared.regions.Coords.{Coords}
use Rattle.vk_types.specs.declared.regions.Rect.{Rect}
use Rattle.vk_types.specs.declared.regions.Touch.{Touch}
use Rattle.vk_types.specs.declared.ops.Node.{Node}
use Rattle.vk_types.specs.Touches.{touches}
use Rattle.vk_model.specs.Texels.{converted_texel}
use Rattle.vk_model.specs.Fitting.{NodeFits, HasRect, IsImage}
use Rattle.vk_model.specs.Cells.{Contents, place, texel_size, format_of, width_of, height_of, source_of, column_at, row_at}
use Rattle.vk_model.specs.Cells as device
use Rattle.vk_model.specs.Log.{NoneEmpty}
use Rattle.vk_model.proofs.Images.{column_of_place, row_of_place}
use Rattle.vk_effects.specs.Places.{IsBeside}
use Rattle.vk_effects.specs.Reads.{ReadsTexel, ReadsNone}
use Rattle.vk_effects.proofs.Outside.{blit_stays}
use Rattle.vk_effects.proofs.Blitting.{blit_nearest, blit_of_none}
use Rattle.vk_effects.proofs.Unwritten.{others_stay}
use Rattle.transfer.specs.declared.overlap.Overlap.{Overlap}
use Rattle.transfer.specs.Shown.{store_kind, place_in, Shows, IsShown, after_node}
use Rattle.transfer.specs.Overlaps.{skipped, entered, count_inside}
use Rattle.transfer.specs.Clears.{IsCommonArea, scissor_of, box_in}
use Rattle.transfer.specs.Blits.{corners_of, AreWords, AreCells, begins, count_between, blit_clip, reads_column, reads_row, blit_part, blit_in, blit_of}
use Rattle.transfer.proofs.Places.{place_is, size_is, content_ends, lies_in, lies_outside}
use Rattle.transfer.proofs.Painting.{IsAmong, painted_shows}
use Rattle.transfer.proofs.Clearing.{in_box, beside_box}
use Rattle.transfer.proofs.Searching.{none_at, some_found}
use Rattle.transfer.proofs.Columns.{among_both, beside_ends, beside_both, nothing_between, column_reads, column_same, column_misses}
use Rattle.transfer.proofs.Converting.{conversions_agree}

-- past an area a line has nothing
past_area : (z : ℤ) (size len x : ℕ) → size ≤ x → (x < entered z) ⊎ (entered z + count_inside z size len ≤ x)
past_area z size len x past = go (cases_lt x (entered z))
  where
    go : (x < entered z) ⊎ (entered z ≤ x) → (x < entered z) ⊎ (entered z + count_inside z size len ≤ x)
    go (inl before) = inl before
    go (inr from') = inr (omega (arith, past, from'))

module _ (kinds : ℕ → Kind) (q : ℕ) (c : Contents) (src dst : HandleId) (read old : Picture) (coords : Coords) (on : Bool) (box : ScissorBox) (attached : List ImageInfo) (area : ℕ × ℕ)
    (shown_read : IsShown kinds c src.0 read) (shown : IsShown kinds c dst.0 old) (are : AreCells read.cells) (words : AreWords coords) (common : IsCommonArea old.info attached area) where
  abbrev bounds : Rect
  bounds = box_in (scissor_of on box) area

  abbrev columns : ℕ
  columns = count_inside bounds.x area.0 bounds.w

  abbrev rows : ℕ
  rows = count_inside bounds.y area.1 bounds.h

  abbrev drawn : Rect
  drawn = record { x = pos (entered bounds.x); y = pos (entered bounds.y); w = columns; h = rows }

  abbrev clip : Rect
  clip = blit_clip coords drawn

  abbrev node : Node
  node = blit_part src dst coords clip

  -- the source of a column and of a row
  abbrev from_x : ℕ → ℤ
  from_x x = blit_source coords.sx0 coords.sx1 coords.dx0 coords.dx1 (pos x)

  abbrev from_y : ℕ → ℤ
  from_y y = blit_source coords.sy0 coords.sy1 coords.dy0 coords.dy1 (pos y)

  abbrev column_read : ℕ → Option ℕ
  column_read x = source_of read.info.width coords.sx0 coords.sx1 coords.dx0 coords.dx1 x

  abbrev row_read : ℕ → Option ℕ
  row_read y = source_of read.info.height coords.sy0 coords.sy1 coords.dy0 coords.dy1 y

  abbrev in_columns : ℕ → Type 0
  in_columns x = IsAmong (begins (entered bounds.x) coords.dx0 coords.dx1) (count_between (entered bounds.x) columns coords.dx0 coords.dx1) x

  abbrev in_rows : ℕ → Type 0
  in_rows y = IsAmong (begins (entered bounds.y) coords.dy0 coords.dy1) (count_between (entered bounds.y) rows coords.dy0 coords.dy1) y

  -- a texel that the blit leaves: outside the clip, or one that reads none
  abbrev IsLeft : ℕ → ℕ → Type 0
  IsLeft x y = (IsBeside clip.x clip.w x ⊎ IsBeside clip.y clip.h y) ⊎ ((column_read x ≡ None) ⊎ (row_read y ≡ None))

  -- what is seen after a blit
  record Leaves (seen : ℕ → ℕ) : Type 0 where
    blitted : (x y byte sx sy : ℕ) → x < old.info.width → y < old.info.height → byte < texel_bytes old.info → in_columns x → in_rows y → column_read x ≡ Some sx → row_read y ≡ Some sy →
        seen (place_in old.info x y byte) ≡ device.converted (converted_texel (format_of (kinds src.0)) (format_of (kinds dst.0))) (λ b. c src.0 (place (kinds src.0) sx sy b)) (texel_size (kinds src.0)) byte
    kept : (x y byte : ℕ) → x < old.info.width → byte < texel_bytes old.info → IsLeft x y → seen (place_in old.info x y byte) ≡ c dst.0 (place_in old.info x y byte)

  -- the tests of a texel
  abbrev tests : ℕ → ℕ → Bool
  tests x y =
      has_area (corners_of coords) && is_between coords.dx0 coords.dx1 (pos x) && is_between coords.dy0 coords.dy1 (pos y) && in_scissor on box x y && in_common attached x y && is_inside read.info (from_x x) (from_y y)

  abbrev texel : ℕ → ℕ → Content
  texel x y = converted read.info old.info (texel_at read (unsigned_abs (from_x x)) (unsigned_abs (from_y y)))

  abbrev paint : ℕ → ℕ → Option Content
  paint x y = if tests x y then Some (texel x y) else None

  abbrev same_x : Bool
  same_x = eqb (unsigned_abs (coords.sx1 -ℤ coords.sx0)) 0

  abbrev same_y : Bool
  same_y = eqb (unsigned_abs (coords.sy1 -ℤ coords.sy0)) 0

  passes : (seen : ℕ → ℕ) → Leaves seen → (x y byte : ℕ) → x < old.info.width → y < old.info.height → byte < texel_bytes old.info → tests x y ≡ true → cell_at (texel x y) byte < UNDEFINED → seen (place_in old.info x y byte) ≡ cell_at (texel x y) byte
  passes seen leaves x y byte column row in_texel passed defined =
      let all = and_parts (has_area (corners_of coords) && is_between coords.dx0 coords.dx1 (pos x) && is_between coords.dy0 coords.dy1 (pos y) && in_scissor on box x y && in_common attached x y) (is_inside read.info (from_x x) (from_y y)) passed in
      let to_common = and_parts (has_area (corners_of coords) && is_between coords.dx0 coords.dx1 (pos x) && is_between coords.dy0 coords.dy1 (pos y) && in_scissor on box x y) (in_common attached x y) all.0 in
      let to_scissor = and_parts (has_area (corners_of coords) && is_between coords.dx0 coords.dx1 (pos x) && is_between coords.dy0 coords.dy1 (pos y)) (in_scissor on box x y) to_common.0 in
      let to_rows = and_parts (has_area (corners_of coords) && is_between coords.dx0 coords.dx1 (pos x)) (is_between coords.dy0 coords.dy1 (pos y)) to_scissor.0 in
      let to_columns = and_parts (has_area (corners_of coords)) (is_between coords.dx0 coords.dx1 (pos x)) to_rows.0 in
      let apart = or_parts same_x same_y (not-true (same_x || same_y) to_columns.0) in
      let inside = and_parts (in_int_range (pos 0) read.info.width (from_x x)) (in_int_range (pos 0) read.info.height (from_y y)) all.1 in
      let in_area = and_parts (ltb x area.0) (ltb y area.1) (sym (common.is x y column row) ∙ to_common.1) in
      let among = in_box on box area x y to_scissor.1 (ltb-true x area.0 in_area.0) (ltb-true y area.1 in_area.1) in
      leaves.blitted x y byte (unsigned_abs (from_x x)) (unsigned_abs (from_y y)) column row in_texel
      (among_both (entered bounds.x) columns coords.dx0 coords.dx1 x among.0 to_columns.1)
      (among_both (entered bounds.y) rows coords.dy0 coords.dy1 y among.1 to_rows.1)
      (column_reads read.info.width coords.sx0 coords.sx1 coords.dx0 coords.dx1 x words.sx0 words.sx1 words.dx0 words.dx1 apart.0 to_columns.1 inside.0)
      (column_reads read.info.height coords.sy0 coords.sy1 coords.dy0 coords.dy1 y words.sy0 words.sy1 words.dy0 words.dy1 apart.1 to_rows.1 inside.1)
      ∙ conversions_agree (kinds src.0) (kinds dst.0) (c src.0) read old.info (unsigned_abs (from_x x)) (unsigned_abs (from_y y)) byte shown_read.kind shown.kind shown_read.shows are in_texel defined

  -- why a texel is left
  left_of_scissor : (x y : ℕ) → in_scissor on box x y ≡ false → IsLeft x y
  left_of_scissor x y out = inl (elim (beside_box on box area x y out) [
    | inl column ↦ inl (beside_both (entered bounds.x) columns coords.dx0 coords.dx1 x column)
    | inr row ↦ inr (beside_both (entered bounds.y) rows coords.dy0 coords.dy1 y row)
  ])

  left_of_common : (x y : ℕ) → x < old.info.width → y < old.info.height → in_common attached x y ≡ false → IsLeft x y
  left_of_common x y column row out = inl (elim (and_cases (ltb x area.0) (ltb y area.1) (sym (common.is x y column row) ∙ out)) [
    | inl past ↦ inl (beside_both (entered bounds.x) columns coords.dx0 coords.dx1 x (past_area bounds.x area.0 bounds.w x (ltb-false x area.0 past)))
    | inr past ↦ inr (beside_both (entered bounds.y) rows coords.dy0 coords.dy1 y (past_area bounds.y area.1 bounds.h y (ltb-false y area.1 past)))
  ])

  left_of_image : (x y : ℕ) → is_inside read.info (from_x x) (from_y y) ≡ false → IsLeft x y
  left_of_image x y out = inr (elim (and_cases (in_int_range (pos 0) read.info.width (from_x x)) (in_int_range (pos 0) read.info.height (from_y y)) out) [
    | inl column ↦ inl (column_misses read.info.width coords.sx0 coords.sx1 coords.dx0 coords.dx1 x words.sx0 words.sx1 words.dx0 words.dx1 column)
    | inr row ↦ inr (column_misses read.info.height coords.sy0 coords.sy1 coords.dy0 coords.dy1 y words.sy0 words.sy1 words.dy0 words.dy1 row)
  ])

  left_of_area : (x y : ℕ) → has_area (corners_of coords) ≡ false → IsLeft x y
  left_of_area x y none = inr (elim (or_cases same_x same_y (not-false (same_x || same_y) none)) [
    | inl column ↦ inl (column_same read.info.width coords.sx0 coords.sx1 coords.dx0 coords.dx1 x words.sx0 words.sx1 words.dx0 words.dx1 column)
    | inr row ↦ inr (column_same read.info.height coords.sy0 coords.sy1 coords.dy0 coords.dy1 y words.sy0 words.sy1 words.dy0 words.dy1 row)
  ])

  fails : (x y : ℕ) → x < old.info.width → y < old.info.height → tests x y ≡ false → IsLeft x y
  fails x y column row failed = elim (and_cases (has_area (corners_of coords) && is_between coords.dx0 coords.dx1 (pos x) && is_between coords.dy0 coords.dy1 (pos y) && in_scissor on box x y && in_common attached x y) (is_inside read.info (from_x x) (from_y y)) failed) [
    | inr outside ↦ left_of_image x y outside
    | inl rest ↦ elim (and_cases (has_area (corners_of coords) && is_between coords.dx0 coords.dx1 (pos x) && is_between coords.dy0 coords.dy1 (pos y) && in_scissor on box x y) (in_common attached x y) rest) [
      | inr out ↦ left_of_common x y column row out
      | inl rest ↦ elim (and_cases (has_area (corners_of coords) && is_between coords.dx0 coords.dx1 (pos x) && is_between coords.dy0 coords.dy1 (pos y)) (in_scissor on box x y) rest) [
        | inr out ↦ left_of_scissor x y out
        | inl rest ↦ elim (and_cases (has_area (corners_of coords) && is_between coords.dx0 coords.dx1 (pos x)) (is_between coords.dy0 coords.dy1 (pos y)) rest) [
          | inr out ↦ inl (inr (beside_ends (entered bounds.y) rows coords.dy0 coords.dy1 y out))
          | inl rest ↦ elim (and_cases (has_area (corners_of coords)) (is_between coords.dx0 coords.dx1 (pos x)) rest) [
            | inr out ↦ inl (inl (beside_ends (entered bounds.x) columns coords.dx0 coords.dx1 x out))
            | inl none ↦ left_of_area x y none
          ]
        ]
      ]
    ]
  ]

  leaves_show : (seen : ℕ → ℕ) → Leaves seen → Shows seen (after_blit old read (corners_of coords) (in_scissor on box) (in_common attached))
  leaves_show seen leaves = painted_shows old paint seen (λ x y byte column row in_texel. go x y byte column row in_texel (tests x y) refl)
    where
      go : (x y byte : ℕ) → x < old.info.width → y < old.info.height → byte < texel_bytes old.info → (t : Bool) → tests x y ≡ t →
          option_map_or (λ texel. cell_at texel byte) (cond t (Some (texel x y)) None) (cell_at old.cells (place_in old.info x y byte)) < UNDEFINED →
          seen (place_in old.info x y byte) ≡ option_map_or (λ texel. cell_at texel byte) (cond t (Some (texel x y)) None) (cell_at old.cells (place_in old.info x y byte))
      go x y byte column row in_texel true passed defined = passes seen leaves x y byte column row in_texel passed defined
      go x y byte column row in_texel false failed defined = leaves.kept x y byte column in_texel (fails x y column row failed) ∙ shown.shows (place_in old.info x y byte) defined

  same_place : (x y byte : ℕ) → place (kinds dst.0) x y byte ≡ place_in old.info x y byte
  same_place x y byte = ap (λ k. place k x y byte) shown.kind ∙ place_is old.info x y byte

  -- the three ways that a blit goes: nothing in common with the box, no texel that reads one, or a node
  nothing_drawn : (eqb columns 0 || eqb rows 0) ≡ true → Leaves (c dst.0)
  nothing_drawn empty = record {
    blitted = λ x y byte sx sy column row in_texel among_x among_y reads_x reads_y. absurd (elim (or_cases (eqb columns 0) (eqb rows 0) empty) [
      | inl none ↦ let z = nothing_between (entered bounds.x) columns coords.dx0 coords.dx1 (eqb-true columns 0 none) in let below = among_x.below in omega (arith, z, below)
      | inr none ↦ let z = nothing_between (entered bounds.y) rows coords.dy0 coords.dy1 (eqb-true rows 0 none) in let below = among_y.below in omega (arith, z, below)
    ]);
    kept = λ x y byte column in_texel left. refl;
  }

  -- a column that is read, where none of the line is
  not_among : (read_of : ℕ → Option ℕ) (from len x s : ℕ) → IsAmong from len x → read_of x ≡ Some s → is_some (read_of (from + (x - from))) ≡ false → ⊥
  not_among read_of from len x s among reads none = false≢true (sym none ∙ ap (λ k. is_some (read_of k)) (sym among.is) ∙ ap is_some reads)

  nothing_read : (reads_column read.info coords clip && reads_row read.info coords clip) ≡ false → Leaves (c dst.0)
  nothing_read none = record {
    blitted = λ x y byte sx sy column row in_texel among_x among_y reads_x reads_y. absurd (elim (and_cases (reads_column read.info coords clip) (reads_row read.info coords clip) none) [
      | inl no_column ↦
          not_among column_read (begins (entered bounds.x) coords.dx0 coords.dx1) (count_between (entered bounds.x) columns coords.dx0 coords.dx1) x sx among_x reads_x
          (none_at (λ x. is_some (column_read x)) (begins (entered bounds.x) coords.dx0 coords.dx1) (count_between (entered bounds.x) columns coords.dx0 coords.dx1) (x - begins (entered bounds.x) coords.dx0 coords.dx1) no_column among_x.below)
      | inr no_row ↦
          not_among row_read (begins (entered bounds.y) coords.dy0 coords.dy1) (count_between (entered bounds.y) rows coords.dy0 coords.dy1) y sy among_y reads_y
          (none_at (λ y. is_some (row_read y)) (begins (entered bounds.y) coords.dy0 coords.dy1) (count_between (entered bounds.y) rows coords.dy0 coords.dy1) (y - begins (entered bounds.y) coords.dy0 coords.dy1) no_row among_y.below)
    ]);
    kept = λ x y byte column in_texel left. refl;
  }

  reads_texel : (x y sx sy : ℕ) → column_read x ≡ Some sx → row_read y ≡ Some sy → ReadsTexel (kinds src.0) coords x y sx sy
  reads_texel x y sx sy reads_x reads_y = subst (λ k. ReadsTexel k coords x y sx sy) (sym shown_read.kind) (record { column = reads_x; row = reads_y; ends = content_ends read.info shown_read.storable })

  reads_none : (x y byte : ℕ) → x < old.info.width → byte < texel_bytes old.info → (column_read x ≡ None) ⊎ (row_read y ≡ None) → ReadsNone (kinds src.0) coords (column_at (kinds dst.0) (place (kinds dst.0) x y byte)) (row_at (kinds dst.0) (place (kinds dst.0) x y byte))
  reads_none x y byte column in_texel none =
      subst (λ k. ReadsNone k coords (column_at (kinds dst.0) (place (kinds dst.0) x y byte)) (row_at (kinds dst.0) (place (kinds dst.0) x y byte))) (sym shown_read.kind)
      (subst (λ k. ReadsNone (store_kind read.info) coords (column_at k (place k x y byte)) (row_at k (place k x y byte))) (sym shown.kind) (here none))
    where
      small : byte < texel_size (store_kind old.info)
      small = let size = size_is old.info in omega (arith, in_texel, size)

      here : (column_read x ≡ None) ⊎ (row_read y ≡ None) → ReadsNone (store_kind read.info) coords (column_at (store_kind old.info) (place (store_kind old.info) x y byte)) (row_at (store_kind old.info) (place (store_kind old.info) x y byte))
      here (inl no_column) = inl (ap column_read (column_of_place (store_kind old.info) x y byte column small) ∙ no_column)
      here (inr no_row) = inr (ap row_read (row_of_place (store_kind old.info) x y byte column small) ∙ no_row)

  node_leaves : Leaves (after_node kinds q (Some node) c dst.0)
  node_leaves = record {
    blitted = λ x y byte sx sy column row in_texel among_x among_y reads_x reads_y.
        ap (after_node kinds q (Some node) c dst.0) (sym (same_place x y byte))
        ∙ blit_nearest kinds q src dst coords clip c x y byte (x - begins (entered bounds.x) coords.dx0 coords.dx1) (y - begins (entered bounds.y) coords.dy0 coords.dy1) sx sy
        (lies_in (kinds dst.0) old.info clip (begins (entered bounds.x) coords.dx0 coords.dx1) (begins (entered bounds.y) coords.dy0 coords.dy1) x y byte (x - begins (entered bounds.x) coords.dx0 coords.dx1) (y - begins (entered bounds.y) coords.dy0 coords.dy1) shown.kind shown.storable refl refl column row in_texel among_x.is among_x.below among_y.is among_y.below)
        (reads_texel x y sx sy reads_x reads_y);
    kept = λ x y byte column in_texel left.
        ap (after_node kinds q (Some node) c dst.0) (sym (same_place x y byte))
        ∙ stays x y byte column in_texel left
        ∙ ap (c dst.0) (same_place x y byte);
  }
    where
      stays : (x y byte : ℕ) → x < old.info.width → byte < texel_bytes old.info → IsLeft x y → after_node kinds q (Some node) c dst.0 (place (kinds dst.0) x y byte) ≡ c dst.0 (place (kinds dst.0) x y byte)
      stays x y byte column in_texel (inl out) = blit_stays kinds q src dst coords clip c dst.0 (place (kinds dst.0) x y byte) (inr (lies_outside (kinds dst.0) old.info clip x y byte shown.kind column in_texel out))
      stays x y byte column in_texel (inr none) = blit_of_none kinds q src dst coords clip c (place (kinds dst.0) x y byte) (reads_none x y byte column in_texel none)

  abbrev part : Overlap
  part = record { left = skipped bounds.x; top = skipped bounds.y; rect = drawn }

  pub blit_shows : Shows (after_node kinds q (blit_of src read.info dst coords (scissor_of on box) area) c dst.0) (after_blit old read (corners_of coords) (in_scissor on box) (in_common attached))
  blit_shows = by_box (eqb columns 0 || eqb rows 0) refl
    where
      by_reads : (reads : Bool) → (reads_column read.info coords clip && reads_row read.info coords clip) ≡ reads → Leaves (after_node kinds q (cond reads (Some node) None) c dst.0)
      by_reads true is = node_leaves
      by_reads false is = nothing_read is

      by_box : (empty : Bool) → (eqb columns 0 || eqb rows 0) ≡ empty →
          Shows (after_node kinds q (option_and_then (blit_in src read.info dst coords) (option_map (λ (part : Overlap). part.rect) (cond empty None (Some part)))) c dst.0) (after_blit old read (corners_of coords) (in_scissor on box) (in_common attached))
      by_box true empty = leaves_show (c dst.0) (nothing_drawn empty)
      by_box false some = leaves_show (after_node kinds q (blit_in src read.info dst coords drawn) c dst.0) (by_reads (reads_column read.info coords clip && reads_row read.info coords clip) refl)

-- All else, and fitting

-- a line that has a number
some_line : (z : ℤ) (size len : ℕ) (d0 d1 : ℤ) → 0 < count_between (entered z) (count_inside z size len) d0 d1 → begins (entered z) d0 d1 + count_between (entered z) (count_inside z size len) d0 d1 ≤ size
some_line z size len d0 d1 some = omega (arith, some)

module _ (src dst : HandleId) (read : ImageInfo) (coords : Coords) (scissor : Option ScissorBox) (area : ℕ × ℕ) where
  abbrev sides : Rect
  sides = box_in scissor area

  abbrev wide : ℕ
  wide = count_inside sides.x area.0 sides.w

  abbrev high : ℕ
  high = count_inside sides.y area.1 sides.h

  abbrev inner : Rect
  inner = record { x = pos (entered sides.x); y = pos (entered sides.y); w = wide; h = high }

  abbrev overlap : Overlap
  overlap = record { left = skipped sides.x; top = skipped sides.y; rect = inner }

  abbrev chosen : Bool → Option Node
  chosen empty = option_and_then (blit_in src read dst coords) (option_map (λ (part : Overlap). part.rect) (cond empty None (Some overlap)))

  abbrev reads : Bool
  reads = reads_column read coords (blit_clip coords inner) && reads_row read coords (blit_clip coords inner)

  -- a fact of the node, where there is one, from the fact of one that reads
  of_node : (P : Node → Type 0) → (reads ≡ true → P (blit_part src dst coords (blit_clip coords inner))) → IfSome (blit_of src read dst coords scissor area) P
  of_node P holds = by_box (eqb wide 0 || eqb high 0)
    where
      by_reads : (t : Bool) → reads ≡ t → IfSome (cond t (Some (blit_part src dst coords (blit_clip coords inner))) None) P
      by_reads true is = holds is
      by_reads false is = tt

      by_box : (empty : Bool) → IfSome (chosen empty) P
      by_box true = tt
      by_box false = by_reads reads refl

  pub others_after_blit : (kinds : ℕ → Kind) (q : ℕ) (c : Contents) (id i : ℕ) → (dst.0 ≡ id → ⊥) → after_node kinds q (blit_of src read dst coords scissor area) c id i ≡ c id i
  others_after_blit kinds q c id i other = by_box (eqb wide 0 || eqb high 0)
    where
      by_reads : (t : Bool) → after_node kinds q (cond t (Some (blit_part src dst coords (blit_clip coords inner))) None) c id i ≡ c id i
      by_reads true = others_stay kinds q (blit_part src dst coords (blit_clip coords inner)) c id i other
      by_reads false = refl

      by_box : (empty : Bool) → after_node kinds q (chosen empty) c id i ≡ c id i
      by_box true = refl
      by_box false = by_reads reads

  pub blit_fits : (kinds : ℕ → Option Kind) (written : ImageInfo) → kinds src.0 ≡ Some (store_kind read) → kinds dst.0 ≡ Some (store_kind written) → src.0 ≢ dst.0 → area.0 ≤ written.width → area.1 ≤ written.height → IfSome (blit_of src read dst coords scissor area) (NodeFits kinds)
  blit_fits kinds written stored_read stored apart columns_in rows_in = of_node (NodeFits kinds) (λ reads_one.
      let parts = and_parts (reads_column read coords (blit_clip coords inner)) (reads_row read coords (blit_clip coords inner)) reads_one in
      let across = some_line sides.x area.0 sides.w coords.dx0 coords.dx1 (some_found (λ x. is_some (source_of read.width coords.sx0 coords.sx1 coords.dx0 coords.dx1 x)) (begins (entered sides.x) coords.dx0 coords.dx1) (count_between (entered sides.x) wide coords.dx0 coords.dx1) parts.0) in
      let down = some_line sides.y area.1 sides.h coords.dy0 coords.dy1 (some_found (λ y. is_some (source_of read.height coords.sy0 coords.sy1 coords.dy0 coords.dy1 y)) (begins (entered sides.y) coords.dy0 coords.dy1) (count_between (entered sides.y) high coords.dy0 coords.dy1) parts.1) in (
        subst IsImage (sym stored_read) tt,
        subst (λ k. HasRect k (blit_clip coords inner)) (sym stored) (record {
          left = begins (entered sides.x) coords.dx0 coords.dx1;
          top = begins (entered sides.y) coords.dy0 coords.dy1;
          x_is = refl;
          y_is = refl;
          to_right = omega (arith, across, columns_in);
          to_bottom = omega (arith, down, rows_in);
        }),
        apart,
      ))

  pub blit_none_empty : IfSome (blit_of src read dst coords scissor area) NoneEmpty
  blit_none_empty = of_node NoneEmpty (λ reads_one. All-from_recursion (λ (t : Touch). t.start < t.end) (touches (blit_part src dst coords (blit_clip coords inner))) (omega arith, (omega arith, tt)))
