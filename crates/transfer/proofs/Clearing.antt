-- What a clear leaves, and that it fits.
use Rattle.std.proofs.Common.{◌≡◌, ℕ, suc, ◌+◌, ◌-◌, ◌<◌, ◌≤◌, Bool, true, false, cond, eqb, ltb, Option, Some, None, IfSome, List, [], ◌∷◌, length, drop, refl, sym, ◌∙◌, ap, subst, arith, inl, inr}
use Rattle.std.specs.Prelude.{◌⊎◌, ◌&&◌, ◌||◌, min, replicate, slice_index, ℤ, pos, negsuc, nat_lt, nat_le, int_lt, if◌then◌else◌}
use Rattle.std.specs.Option.{option_map, option_map_or}
use Rattle.std.proofs.lemmas.Bool.{cases_lt, and_from, and_left, and_right, and_parts, and_cases, or_parts, or_cases, eqb-true, eqb-false, ltb-true, ltb-false, leb-true, leb-false, lt-ltb, le-ltb, false≢true}
use Rattle.std.proofs.lemmas.List.{get_or_append_left, get_or_default}
use Rattle.std.proofs.lemmas.List.Elements.{All-from_recursion}
use Rattle.cells.specs.Contents.{Content, cell_at, UNDEFINED, undefined_cells}
use Rattle.formats.specs.declared.format.Format.{Format}
use Rattle.formats.specs.declared.format.Format.TheVariants.{R8ui, R8i, R16ui, R16i, R32ui, R32i, Rg8ui, Rgba8ui, Rgba8i, Rgb10A2ui, Rgba32ui, Rgba32i}
use Rattle.formats.specs.Texel.{bytes_per_texel}
use Rattle.formats.specs.Components.{packed}
use Rattle.gl_model.specs.declared.objects.ImageInfo.{ImageInfo}
use Rattle.gl_model.specs.declared.state.ScissorBox.{ScissorBox}
use Rattle.gl_model.specs.ImageEffect.{Picture, texel_bytes, in_int_range, undefined_texel, in_scissor, in_common, clear_texel, after_clear}
use Rattle.vk_types.specs.declared.handles.Kind.{Kind}
use Rattle.vk_types.specs.declared.handles.HandleId.{HandleId}
use Rattle.vk_types.specs.declared.regions.Rect.{Rect}
use Rattle.vk_types.specs.declared.regions.Touch.{Touch}
use Rattle.vk_types.specs.declared.ops.Node.{Node}
use Rattle.vk_types.specs.Touches.{touches}
use Rattle.vk_model.specs.Fitting.{NodeFits, HasRect}
use Rattle.vk_model.specs.Cells.{Contents, place}
use Rattle.vk_model.specs.Log.{NoneEmpty}
use Rattle.vk_model.specs.Meaning.{LiesIn}
use Rattle.vk_model.proofs.Images.{clear_writes}
use Rattle.vk_effects.specs.Places.{IsBeside}
use Rattle.vk_effects.proofs.Outside.{clear_stays}
use Rattle.vk_effects.proofs.Unwritten.{others_stay}
use Rattle.transfer.specs.declared.overlap.Overlap.{Overlap}
use Rattle.transfer.specs.Shown.{store_kind, place_in, Shows, IsShown, after_node}
use Rattle.transfer.specs.Overlaps.{skipped, entered, count_inside}
use Rattle.transfer.specs.Clears.{stored, least_area, IsCommonArea, scissor_of, box_in, texel_of, clears_nothing, clear_part, clear_of}
use Rattle.transfer.proofs.Places.{place_is, lies_in, lies_outside}
use Rattle.transfer.proofs.Painting.{IsAmong, painted_shows}
use Rattle.transfer.proofs.Reading.{sub_below, sub_above, no_cell}
use Rattle.transfer.proofs.Copying.{line_fits}

-- The area that images have in common

shuffled : (a b c d : Bool) → ((a && b) && (c && d)) ≡ ((a && c) && (b && d))
shuffled false b c d = refl
shuffled true false false d = refl
shuffled true false true d = refl
shuffled true true false d = refl
shuffled true true true d = refl

below_least : (x a b : ℕ) → ltb x (min a b) ≡ (ltb x a && ltb x b)
below_least x a b = go (cases_lt x a) (cases_lt x b)
  where
    go : (x < a) ⊎ (a ≤ x) → (x < b) ⊎ (b ≤ x) → ltb x (min a b) ≡ (ltb x a && ltb x b)
    go (inl one) (inl two) = lt-ltb x (min a b) (omega (arith, one, two)) ∙ sym (and_from (ltb x a) (ltb x b) (lt-ltb x a one) (lt-ltb x b two))
    go (inr past) two = le-ltb x (min a b) (omega (arith, past)) ∙ sym (and_left (ltb x a) (ltb x b) (le-ltb x a past))
    go (inl one) (inr past) = le-ltb x (min a b) (omega (arith, past)) ∙ sym (and_right (ltb x a) (ltb x b) (le-ltb x b past))

in_least : (images : List (Option ImageInfo)) (area : ℕ × ℕ) (x y : ℕ) → x < area.0 → y < area.1 → in_common (stored images) x y ≡ (ltb x (least_area images area).0 && ltb y (least_area images area).1)
in_least [] area x y column row = sym (and_from (ltb x area.0) (ltb y area.1) (lt-ltb x area.0 column) (lt-ltb y area.1 row))
in_least (None ∷ rest) area x y column row = in_least rest area x y column row
in_least (Some image ∷ rest) area x y column row =
    let least : ℕ × ℕ = least_area rest area in
    ap (λ t. (ltb x image.width && ltb y image.height) && t) (in_least rest area x y column row)
    ∙ shuffled (ltb x image.width) (ltb y image.height) (ltb x (least_area rest area).0) (ltb y (least_area rest area).1)
    ∙ sym (ap (λ t. t && ltb y (min image.height (least_area rest area).1)) (below_least x image.width (least_area rest area).0)
    ∙ ap (λ t. (ltb x image.width && ltb x (least_area rest area).0) && t) (below_least y image.height (least_area rest area).1))

least_columns : (images : List (Option ImageInfo)) (area : ℕ × ℕ) → (least_area images area).0 ≤ area.0
least_columns [] area = omega arith
least_columns (None ∷ rest) area = least_columns rest area
least_columns (Some image ∷ rest) area = let less = least_columns rest area in omega (arith, less)

least_rows : (images : List (Option ImageInfo)) (area : ℕ × ℕ) → (least_area images area).1 ≤ area.1
least_rows [] area = omega arith
least_rows (None ∷ rest) area = least_rows rest area
least_rows (Some image ∷ rest) area = let less = least_rows rest area in omega (arith, less)

pub least_is_common : (info : ImageInfo) (images : List (Option ImageInfo)) → IsCommonArea info (stored images) (least_area images (info.width, info.height))
least_is_common info images = record {
  columns = least_columns images (info.width, info.height);
  rows = least_rows images (info.width, info.height);
  is = λ x y column row. in_least images (info.width, info.height) x y column row;
}

-- A line of the box that lies in an area

pub in_line : (z : ℤ) (size len n : ℕ) → in_int_range z len (pos n) ≡ true → n < size → IsAmong (entered z) (count_inside z size len) n
in_line (pos a) size len n test below =
    let parts = and_parts (nat_le a n) (nat_lt n (a + len)) test in
    let from : a ≤ n = leb-true a n parts.0 in
    let to : n < a + len = ltb-true n (a + len) parts.1 in
    record { from = from; is = omega (arith, from); below = omega (arith, from, to, below) }
in_line (negsuc a) size len n test below = go (cases_lt len (suc a))
  where
    go : (len < suc a) ⊎ (suc a ≤ len) → IsAmong 0 (count_inside (negsuc a) size len) n
    go (inl short) = absurd (false≢true (sym (ap (int_lt (pos n)) (sub_above len (suc a) short)) ∙ test))
    go (inr long) =
        let to : n < len - suc a = ltb-true n (len - suc a) (sym (ap (int_lt (pos n)) (sub_below len (suc a) long)) ∙ test) in
        record { from = omega arith; is = omega arith; below = omega (arith, to, below) }

pub beside_line : (z : ℤ) (size len n : ℕ) → in_int_range z len (pos n) ≡ false → (n < entered z) ⊎ (entered z + count_inside z size len ≤ n)
beside_line (pos a) size len n test = elim (and_cases (nat_le a n) (nat_lt n (a + len)) test) [
  | inl before ↦ inl (leb-false a n before)
  | inr past ↦ inr (let from : a + len ≤ n = ltb-false n (a + len) past in omega (arith, from))
]
beside_line (negsuc a) size len n test = go (cases_lt len (suc a))
  where
    go : (len < suc a) ⊎ (suc a ≤ len) → (n < 0) ⊎ (0 + count_inside (negsuc a) size len ≤ n)
    go (inl short) = inr (omega (arith, short))
    go (inr long) = inr (let from : len - suc a ≤ n = ltb-false n (len - suc a) (sym (ap (int_lt (pos n)) (sub_below len (suc a) long)) ∙ test) in omega (arith, from))

pub in_box : (on : Bool) (box : ScissorBox) (area : ℕ × ℕ) (x y : ℕ) → in_scissor on box x y ≡ true → x < area.0 → y < area.1 →
    IsAmong (entered (box_in (scissor_of on box) area).x) (count_inside (box_in (scissor_of on box) area).x area.0 (box_in (scissor_of on box) area).w) x
    × IsAmong (entered (box_in (scissor_of on box) area).y) (count_inside (box_in (scissor_of on box) area).y area.1 (box_in (scissor_of on box) area).h) y
in_box true box area x y test column row =
    let parts = and_parts (in_int_range box.x box.width (pos x)) (in_int_range box.y box.height (pos y)) test in
    (in_line box.x area.0 box.width x parts.0 column, in_line box.y area.1 box.height y parts.1 row)
in_box false box area x y test column row = (
  record { from = omega arith; is = omega arith; below = omega (arith, column) },
  record { from = omega arith; is = omega arith; below = omega (arith, row) },
)

pub beside_box : (on : Bool) (box : ScissorBox) (area : ℕ × ℕ) (x y : ℕ) → in_scissor on box x y ≡ false →
    IsBeside (pos (entered (box_in (scissor_of on box) area).x)) (count_inside (box_in (scissor_of on box) area).x area.0 (box_in (scissor_of on box) area).w) x
    ⊎ IsBeside (pos (entered (box_in (scissor_of on box) area).y)) (count_inside (box_in (scissor_of on box) area).y area.1 (box_in (scissor_of on box) area).h) y
beside_box true box area x y test = elim (and_cases (in_int_range box.x box.width (pos x)) (in_int_range box.y box.height (pos y)) test) [
  | inl column ↦ inl (beside_line box.x area.0 box.width x column)
  | inr row ↦ inr (beside_line box.y area.1 box.height y row)
]
beside_box false box area x y test = absurd (false≢true (sym test))

-- Texels

pub length-packed : (format : Format) (value : List ℕ) → length (packed format value) ≡ bytes_per_texel format
length-packed R8ui value = refl
length-packed R8i value = refl
length-packed R16ui value = refl
length-packed R16i value = refl
length-packed R32ui value = refl
length-packed R32i value = refl
length-packed Rg8ui value = refl
length-packed Rgba8ui value = refl
length-packed Rgba8i value = refl
length-packed Rgb10A2ui value = refl
length-packed Rgba32ui value = refl
length-packed Rgba32i value = refl

pub texel_byte : (format : Format) (value : List ℕ) (byte : ℕ) → byte < bytes_per_texel format → slice_index (texel_of format value) byte ≡ cell_at (packed format value) byte
texel_byte format value byte below =
    let long : length (packed format value) ≡ bytes_per_texel format = length-packed format value in
    let inside : byte < length (packed format value) = omega (arith, long, below) in
    get_or_append_left (packed format value) (drop (0 + length (packed format value)) (replicate 16 0)) 0 byte inside
    ∙ get_or_default (packed format value) byte 0 UNDEFINED inside

-- The clear

module _ (kinds : ℕ → Kind) (q : ℕ) (c : Contents) (image : HandleId) (old : Picture) (signed : Bool) (value : List ℕ) (on : Bool) (box : ScissorBox) (attached : List ImageInfo) (area : ℕ × ℕ)
    (shown : IsShown kinds c image.0 old) (common : IsCommonArea old.info attached area) where
  abbrev bounds : Rect
  bounds = box_in (scissor_of on box) area

  abbrev columns : ℕ
  columns = count_inside bounds.x area.0 bounds.w

  abbrev rows : ℕ
  rows = count_inside bounds.y area.1 bounds.h

  abbrev written : Rect
  written = record { x = pos (entered bounds.x); y = pos (entered bounds.y); w = columns; h = rows }

  abbrev node : Node
  node = clear_part image (texel_of old.info.format value) written

  abbrev paint : ℕ → ℕ → Option Content
  paint x y = if in_scissor on box x y then Some (if in_common attached x y then clear_texel old.info signed value else undefined_texel old.info) else None

  same_place : (x y byte : ℕ) → place (kinds image.0) x y byte ≡ place_in old.info x y byte
  same_place x y byte = ap (λ k. place k x y byte) shown.kind ∙ place_is old.info x y byte

  abbrev part : Overlap
  part = record { left = skipped bounds.x; top = skipped bounds.y; rect = written }

  -- what is left, by whether no cell gets defined and whether the box and the area have no texel in common
  abbrev left_by : Bool → Bool → Contents
  left_by nothing empty = after_node kinds q (cond nothing None (option_map (clear_part image (texel_of old.info.format value)) (option_map (λ (part : Overlap). part.rect) (cond empty None (Some part))))) c

  abbrev is_empty : Bool
  is_empty = eqb columns 0 || eqb rows 0

  abbrev is_nothing : Bool
  is_nothing = clears_nothing old.info signed value

  writes : (x y byte : ℕ) → x < old.info.width → y < old.info.height → byte < texel_bytes old.info → IsAmong (entered bounds.x) columns x → IsAmong (entered bounds.y) rows y → after_node kinds q (Some node) c image.0 (place_in old.info x y byte) ≡ cell_at (packed old.info.format value) byte
  writes x y byte column row in_texel among_x among_y =
      let in_rect : LiesIn (kinds image.0) written x y byte (x - entered bounds.x) (y - entered bounds.y) =
      lies_in (kinds image.0) old.info written (entered bounds.x) (entered bounds.y) x y byte (x - entered bounds.x) (y - entered bounds.y) shown.kind shown.storable refl refl column row in_texel among_x.is among_x.below among_y.is among_y.below in
      ap (after_node kinds q (Some node) c image.0) (sym (same_place x y byte))
      ∙ clear_writes kinds q image written c x y byte (x - entered bounds.x) (y - entered bounds.y) in_rect (texel_of old.info.format value)
      ∙ texel_byte old.info.format value byte in_texel

  keeps : (nothing empty : Bool) (x y byte : ℕ) → x < old.info.width → byte < texel_bytes old.info → in_scissor on box x y ≡ false → left_by nothing empty image.0 (place_in old.info x y byte) ≡ c image.0 (place_in old.info x y byte)
  keeps true empty x y byte column in_texel out = refl
  keeps false true x y byte column in_texel out = refl
  keeps false false x y byte column in_texel out =
      ap (after_node kinds q (Some node) c image.0) (sym (same_place x y byte))
      ∙ clear_stays kinds q image written (texel_of old.info.format value) c image.0 (place (kinds image.0) x y byte) (inr (lies_outside (kinds image.0) old.info written x y byte shown.kind column in_texel (beside_box on box area x y out)))
      ∙ ap (c image.0) (same_place x y byte)

  none_among : (x y : ℕ) → is_empty ≡ true → IsAmong (entered bounds.x) columns x → IsAmong (entered bounds.y) rows y → ⊥
  none_among x y empty among_x among_y = elim (or_cases (eqb columns 0) (eqb rows 0) empty) [
    | inl none ↦ let z = eqb-true columns 0 none in let below = among_x.below in omega (arith, z, below)
    | inr none ↦ let z = eqb-true rows 0 none in let below = among_y.below in omega (arith, z, below)
  ]

  -- a texel of the clear that has a defined cell
  paints : (nothing empty : Bool) → is_nothing ≡ nothing → is_empty ≡ empty → (x y byte : ℕ) → x < old.info.width → y < old.info.height → byte < texel_bytes old.info → in_scissor on box x y ≡ true → in_common attached x y ≡ true →
      cell_at (clear_texel old.info signed value) byte < UNDEFINED → left_by nothing empty image.0 (place_in old.info x y byte) ≡ cell_at (clear_texel old.info signed value) byte
  paints true empty none is x y byte column row in_texel scissored commonly defined =
      let gone : cell_at (clear_texel old.info signed value) byte ≡ UNDEFINED = ap (λ t. cell_at (cond t (undefined_texel old.info) (packed old.info.format value)) byte) none ∙ no_cell (texel_bytes old.info) byte in
      absurd (omega (arith, gone, defined))
  paints false true some is x y byte column row in_texel scissored commonly defined = absurd (none_among x y is among.0 among.1)
    where
      parts : (ltb x area.0 ≡ true) × (ltb y area.1 ≡ true)
      parts = and_parts (ltb x area.0) (ltb y area.1) (sym (common.is x y column row) ∙ commonly)

      among : IsAmong (entered bounds.x) columns x × IsAmong (entered bounds.y) rows y
      among = in_box on box area x y scissored (ltb-true x area.0 parts.0) (ltb-true y area.1 parts.1)
  paints false false some is x y byte column row in_texel scissored commonly defined =
      writes x y byte column row in_texel among.0 among.1
      ∙ sym (ap (λ t. cell_at (cond t (undefined_texel old.info) (packed old.info.format value)) byte) some)
    where
      parts : (ltb x area.0 ≡ true) × (ltb y area.1 ≡ true)
      parts = and_parts (ltb x area.0) (ltb y area.1) (sym (common.is x y column row) ∙ commonly)

      among : IsAmong (entered bounds.x) columns x × IsAmong (entered bounds.y) rows y
      among = in_box on box area x y scissored (ltb-true x area.0 parts.0) (ltb-true y area.1 parts.1)

  -- what is painted at a texel, by whether the scissor and the common area have it
  abbrev painted_by : ℕ → ℕ → ℕ → Bool → Bool → ℕ
  painted_by x y byte s m = option_map_or (λ texel. cell_at texel byte) (cond s (Some (cond m (clear_texel old.info signed value) (undefined_texel old.info))) None) (cell_at old.cells (place_in old.info x y byte))

  at_texel : (nothing empty : Bool) → is_nothing ≡ nothing → is_empty ≡ empty → (x y byte : ℕ) → x < old.info.width → y < old.info.height → byte < texel_bytes old.info → (s m : Bool) → in_scissor on box x y ≡ s → in_common attached x y ≡ m →
      painted_by x y byte s m < UNDEFINED → left_by nothing empty image.0 (place_in old.info x y byte) ≡ painted_by x y byte s m
  at_texel nothing empty n is x y byte column row in_texel true true scissored commonly defined = paints nothing empty n is x y byte column row in_texel scissored commonly defined
  at_texel nothing empty n is x y byte column row in_texel true false scissored commonly defined = absurd (let gone = no_cell (texel_bytes old.info) byte in omega (arith, gone, defined))
  at_texel nothing empty n is x y byte column row in_texel false m scissored commonly defined =
      keeps nothing empty x y byte column in_texel scissored ∙ shown.shows (place_in old.info x y byte) defined

  pub clear_shows : Shows (after_node kinds q (clear_of image old.info signed value (scissor_of on box) area) c image.0) (after_clear old (in_scissor on box) (in_common attached) (clear_texel old.info signed value))
  clear_shows =
      painted_shows old paint (after_node kinds q (clear_of image old.info signed value (scissor_of on box) area) c image.0)
      (λ x y byte column row in_texel. at_texel is_nothing is_empty refl refl x y byte column row in_texel (in_scissor on box x y) (in_common attached x y) refl refl)

pub undefined_shows : (seen : ℕ → ℕ) (n : ℕ) → Shows seen (undefined_cells n)
undefined_shows seen n i defined = absurd (let gone = no_cell n i in omega (arith, gone, defined))

-- All else, and fitting

module _ (image : HandleId) (info : ImageInfo) (signed : Bool) (value : List ℕ) (scissor : Option ScissorBox) (area : ℕ × ℕ) where
  abbrev sides : Rect
  sides = box_in scissor area

  abbrev wide : ℕ
  wide = count_inside sides.x area.0 sides.w

  abbrev high : ℕ
  high = count_inside sides.y area.1 sides.h

  abbrev inner : Overlap
  inner = record { left = skipped sides.x; top = skipped sides.y; rect = record { x = pos (entered sides.x); y = pos (entered sides.y); w = wide; h = high } }

  abbrev chosen : Bool → Bool → Option Node
  chosen nothing empty = cond nothing None (option_map (clear_part image (texel_of info.format value)) (option_map (λ (part : Overlap). part.rect) (cond empty None (Some inner))))

  pub others_after_clear : (kinds : ℕ → Kind) (q : ℕ) (c : Contents) (id i : ℕ) → (image.0 ≡ id → ⊥) → after_node kinds q (clear_of image info signed value scissor area) c id i ≡ c id i
  others_after_clear kinds q c id i other = go (clears_nothing info signed value) (eqb wide 0 || eqb high 0)
    where
      go : (nothing empty : Bool) → after_node kinds q (chosen nothing empty) c id i ≡ c id i
      go true empty = refl
      go false true = refl
      go false false = others_stay kinds q (clear_part image (texel_of info.format value) inner.rect) c id i other

  pub clear_fits : (kinds : ℕ → Option Kind) → kinds image.0 ≡ Some (store_kind info) → area.0 ≤ info.width → area.1 ≤ info.height → IfSome (clear_of image info signed value scissor area) (NodeFits kinds)
  clear_fits kinds stored columns rows = go (clears_nothing info signed value) (eqb wide 0 || eqb high 0) refl
    where
      go : (nothing empty : Bool) → (eqb wide 0 || eqb high 0) ≡ empty → IfSome (chosen nothing empty) (NodeFits kinds)
      go true empty is = tt
      go false true is = tt
      go false false is =
          let parts = or_parts (eqb wide 0) (eqb high 0) is in
          let across = (line_fits sides.x area.0 sides.w (eqb-false wide 0 parts.0)).1 in
          let down = (line_fits sides.y area.1 sides.h (eqb-false high 0 parts.1)).1 in
          subst (λ k. HasRect k inner.rect) (sym stored) (record { left = entered sides.x; top = entered sides.y; x_is = refl; y_is = refl; to_right = omega (arith, across, columns); to_bottom = omega (arith, down, rows) })

  pub clear_none_empty : IfSome (clear_of image info signed value scissor area) NoneEmpty
  clear_none_empty = go (clears_nothing info signed value) (eqb wide 0 || eqb high 0)
    where
      go : (nothing empty : Bool) → IfSome (chosen nothing empty) NoneEmpty
      go true empty = tt
      go false true = tt
      go false false = All-from_recursion (λ (t : Touch). t.start < t.end) (touches (clear_part image (texel_of info.format value) inner.rect)) (omega arith, tt)
