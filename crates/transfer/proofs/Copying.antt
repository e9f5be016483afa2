-- What a copy between images leaves, and that it fits.
use Rattle.std.proofs.Common.{◌≡◌, ◌≢◌, ℕ, ◌+◌, ◌-◌, ◌<◌, ◌≤◌, Bool, true, false, cond, eqb, Option, Some, None, IfSome, refl, sym, ◌∙◌, ap, subst, arith, inl, inr}
use Rattle.std.specs.Prelude.{◌⊎◌, ◌||◌, ℤ, pos, ◌+ℤ◌, unsigned_abs}
use Rattle.std.specs.Option.{option_map}
use Rattle.std.proofs.lemmas.Bool.{or_cases, or_parts, eqb-true, eqb-false}
use Rattle.std.proofs.lemmas.List.Elements.{All-from_recursion}
use Rattle.cells.specs.Contents.{Content, cell_at, UNDEFINED}
use Rattle.formats.specs.declared.format.Format.{Format}
use Rattle.formats.specs.Pairs.{format_number, same_format}
use Rattle.formats.specs.Texel.{bytes_per_texel}
use Rattle.gl_model.specs.declared.objects.ImageInfo.{ImageInfo}
use Rattle.gl_model.specs.ImageEffect.{Picture, texel_bytes, texel_or_undefined, after_copy, in_int_range}
use Rattle.vk_types.specs.declared.handles.Kind.{Kind}
use Rattle.vk_types.specs.declared.handles.HandleId.{HandleId}
use Rattle.vk_types.specs.declared.regions.Rect.{Rect}
use Rattle.vk_types.specs.declared.regions.Touch.{Touch}
use Rattle.vk_types.specs.declared.ops.Node.{Node}
use Rattle.vk_types.specs.Touches.{the_end, touches}
use Rattle.vk_model.specs.Texels.{format_at}
use Rattle.vk_model.specs.Fitting.{LiesInside, NodeFits, HasRect, format_in}
use Rattle.vk_model.specs.Cells.{Contents, place}
use Rattle.vk_model.specs.Log.{NoneEmpty}
use Rattle.vk_model.specs.Meaning.{LiesIn}
use Rattle.vk_model.proofs.Images.{copy_image_writes}
use Rattle.vk_effects.specs.Places.{IsBeside}
use Rattle.vk_effects.proofs.Outside.{copy_stays}
use Rattle.vk_effects.proofs.Unwritten.{others_stay}
use Rattle.transfer.specs.declared.overlap.Overlap.{Overlap}
use Rattle.transfer.specs.Shown.{store_kind, place_in, Shows, IsShown, after_node}
use Rattle.transfer.specs.Overlaps.{skipped, entered, count_inside}
use Rattle.transfer.specs.Copies.{copy_part, copy_of}
use Rattle.transfer.proofs.Places.{format_back, place_is, before_the_end, lies_in, lies_outside}
use Rattle.transfer.proofs.Painting.{IsAmong, SeesRect, painted_rect_shows}
use Rattle.transfer.proofs.Reading.{IsRead, cases_read, read_inside, read_outside}

-- Overlaps

pub format_same : (a b : Format) → same_format a b ≡ true → a ≡ b
format_same a b same = sym (format_back a) ∙ ap format_at (eqb-true (format_number a) (format_number b) same) ∙ format_back b

-- a line that has something in common with an image begins before its end and fits
pub line_fits : (z : ℤ) (size len : ℕ) → (count_inside z size len ≡ 0 → ⊥) → (skipped z + count_inside z size len ≤ len) × (entered z + count_inside z size len ≤ size)
line_fits z size len some = (omega (arith, some), omega (arith, some))

module _ (kinds : ℕ → Kind) (q : ℕ) (c : Contents) (src dst : HandleId) (read old : Picture) (x y : ℤ) (rect : Rect)
    (shown_read : IsShown kinds c src.0 read) (shown : IsShown kinds c dst.0 old) (lies : LiesInside rect old.info.width old.info.height) (same : same_format read.info.format old.info.format ≡ true) where
  abbrev columns : ℕ
  columns = count_inside x read.info.width rect.w

  abbrev rows : ℕ
  rows = count_inside y read.info.height rect.h

  abbrev part : Overlap
  part = record { left = skipped x; top = skipped y; rect = record { x = pos (entered x); y = pos (entered y); w = columns; h = rows } }

  abbrev node : Node
  node = copy_part src dst rect part

  abbrev written : Rect
  written = record { x = pos (unsigned_abs rect.x + skipped x); y = pos (unsigned_abs rect.y + skipped y); w = columns; h = rows }

  abbrev texel : ℕ → ℕ → Content
  texel m n = texel_or_undefined read (x +ℤ pos (m - unsigned_abs rect.x)) (y +ℤ pos (n - unsigned_abs rect.y))

  same_place : (m n byte : ℕ) → place (kinds dst.0) m n byte ≡ place_in old.info m n byte
  same_place m n byte = ap (λ k. place k m n byte) shown.kind ∙ place_is old.info m n byte

  same_source : (m n byte : ℕ) → place (kinds src.0) m n byte ≡ place_in read.info m n byte
  same_source m n byte = ap (λ k. place k m n byte) shown_read.kind ∙ place_is read.info m n byte

  same_bytes : texel_bytes read.info ≡ texel_bytes old.info
  same_bytes = ap bytes_per_texel (format_same read.info.format old.info.format same)

  copied : (m n byte : ℕ) → m < old.info.width → n < old.info.height → byte < texel_bytes old.info → IsAmong (unsigned_abs rect.x) rect.w m → IsAmong (unsigned_abs rect.y) rect.h n →
      IsRead x read.info.width rect.w (m - unsigned_abs rect.x) → IsRead y read.info.height rect.h (n - unsigned_abs rect.y) → cell_at (texel m n) byte < UNDEFINED → after_node kinds q (Some node) c dst.0 (place_in old.info m n byte) ≡ cell_at (texel m n) byte
  copied m n byte column row in_texel among_x among_y read_x read_y defined =
      let left : ℕ = m - unsigned_abs rect.x - skipped x in
      let top : ℕ = n - unsigned_abs rect.y - skipped y in
      let from_left : m ≡ unsigned_abs rect.x + skipped x + (m - unsigned_abs rect.x - skipped x) = (let a = among_x.is in let f = read_x.from in omega (arith, a, f)) in
      let from_top : n ≡ unsigned_abs rect.y + skipped y + (n - unsigned_abs rect.y - skipped y) = (let a = among_y.is in let f = read_y.from in omega (arith, a, f)) in
      let in_rect : LiesIn (kinds dst.0) written m n byte (m - unsigned_abs rect.x - skipped x) (n - unsigned_abs rect.y - skipped y) =
      lies_in (kinds dst.0) old.info written (unsigned_abs rect.x + skipped x) (unsigned_abs rect.y + skipped y) m n byte (m - unsigned_abs rect.x - skipped x) (n - unsigned_abs rect.y - skipped y) shown.kind shown.storable refl refl column row in_texel from_left read_x.below from_top read_y.below in
      let in_source : byte < texel_bytes read.info = (let b = same_bytes in omega (arith, b, in_texel)) in
      let sx : ℕ = entered x + (m - unsigned_abs rect.x - skipped x) in
      let sy : ℕ = entered y + (n - unsigned_abs rect.y - skipped y) in
      let before : place (store_kind read.info) (entered x + (m - unsigned_abs rect.x - skipped x)) (entered y + (n - unsigned_abs rect.y - skipped y)) byte < the_end =
      before_the_end read.info (entered x + (m - unsigned_abs rect.x - skipped x)) (entered y + (n - unsigned_abs rect.y - skipped y)) byte shown_read.storable read_x.inside read_y.inside in_source in
      let before' : place (kinds src.0) (entered x + (m - unsigned_abs rect.x - skipped x)) (entered y + (n - unsigned_abs rect.y - skipped y)) byte < the_end =
      subst (λ k. place k (entered x + (m - unsigned_abs rect.x - skipped x)) (entered y + (n - unsigned_abs rect.y - skipped y)) byte < the_end) (sym shown_read.kind) before in
      let is : cell_at (texel m n) byte ≡ cell_at read.cells (place_in read.info (entered x + (m - unsigned_abs rect.x - skipped x)) (entered y + (n - unsigned_abs rect.y - skipped y)) byte) =
      read_inside read (x +ℤ pos (m - unsigned_abs rect.x)) (y +ℤ pos (n - unsigned_abs rect.y)) (entered x + (m - unsigned_abs rect.x - skipped x)) (entered y + (n - unsigned_abs rect.y - skipped y)) byte read_x.is read_y.is read_x.inside read_y.inside in_source in
      ap (after_node kinds q (Some node) c dst.0) (sym (same_place m n byte))
      ∙ copy_image_writes kinds q dst written c m n byte (m - unsigned_abs rect.x - skipped x) (n - unsigned_abs rect.y - skipped y) in_rect src (pos (entered x)) (pos (entered y)) before'
      ∙ ap (c src.0) (same_source (entered x + (m - unsigned_abs rect.x - skipped x)) (entered y + (n - unsigned_abs rect.y - skipped y)) byte)
      ∙ shown_read.shows (place_in read.info (entered x + (m - unsigned_abs rect.x - skipped x)) (entered y + (n - unsigned_abs rect.y - skipped y)) byte) (omega (arith, is, defined))
      ∙ sym is

  -- outside the read image no cell is defined
  not_copied : (m n byte : ℕ) → (in_int_range (pos 0) read.info.width (x +ℤ pos (m - unsigned_abs rect.x)) ≡ false) ⊎ (in_int_range (pos 0) read.info.height (y +ℤ pos (n - unsigned_abs rect.y)) ≡ false) → cell_at (texel m n) byte < UNDEFINED → ⊥
  not_copied m n byte out defined =
      let none : cell_at (texel m n) byte ≡ UNDEFINED = read_outside read (x +ℤ pos (m - unsigned_abs rect.x)) (y +ℤ pos (n - unsigned_abs rect.y)) byte out in
      omega (arith, none, defined)

  stays : (eqb columns 0 || eqb rows 0) ≡ false → (m n byte : ℕ) → m < old.info.width → byte < texel_bytes old.info → ((m < unsigned_abs rect.x) ⊎ (unsigned_abs rect.x + rect.w ≤ m)) ⊎ ((n < unsigned_abs rect.y) ⊎ (unsigned_abs rect.y + rect.h ≤ n)) →
      after_node kinds q (Some node) c dst.0 (place_in old.info m n byte) ≡ c dst.0 (place_in old.info m n byte)
  stays some m n byte column in_texel out =
      ap (after_node kinds q (Some node) c dst.0) (sym (same_place m n byte))
      ∙ copy_stays kinds q src (pos (entered x)) (pos (entered y)) dst written c dst.0 (place (kinds dst.0) m n byte) (inr (lies_outside (kinds dst.0) old.info written m n byte shown.kind column in_texel (beside out)))
      ∙ ap (c dst.0) (same_place m n byte)
    where
      parts : (eqb columns 0 ≡ false) × (eqb rows 0 ≡ false)
      parts = or_parts (eqb columns 0) (eqb rows 0) some

      beside_line : (from : ℕ) (z : ℤ) (size len n : ℕ) → (count_inside z size len ≡ 0 → ⊥) → (n < from) ⊎ (from + len ≤ n) → IsBeside (pos (from + skipped z)) (count_inside z size len) n
      beside_line from z size len n some (inl before) = inl (omega (arith, before))
      beside_line from z size len n some (inr past) = inr (let fits = (line_fits z size len some).0 in omega (arith, past, fits))

      beside : ((m < unsigned_abs rect.x) ⊎ (unsigned_abs rect.x + rect.w ≤ m)) ⊎ ((n < unsigned_abs rect.y) ⊎ (unsigned_abs rect.y + rect.h ≤ n)) → IsBeside written.x written.w m ⊎ IsBeside written.y written.h n
      beside (inl columns_out) = inl (beside_line (unsigned_abs rect.x) x read.info.width rect.w m (eqb-false columns 0 parts.0) columns_out)
      beside (inr rows_out) = inr (beside_line (unsigned_abs rect.y) y read.info.height rect.h n (eqb-false rows 0 parts.1) rows_out)

  -- nothing is in common with the image that is read
  none_read : (i j : ℕ) → (eqb columns 0 || eqb rows 0) ≡ true → IsRead x read.info.width rect.w i → IsRead y read.info.height rect.h j → ⊥
  none_read i j empty read_x read_y = elim (or_cases (eqb columns 0) (eqb rows 0) empty) [
    | inl none ↦ let z = eqb-true columns 0 none in let below = read_x.below in omega (arith, z, below)
    | inr none ↦ let z = eqb-true rows 0 none in let below = read_y.below in omega (arith, z, below)
  ]

  abbrev left_by : Bool → Contents
  left_by t = after_node kinds q (option_map (copy_part src dst rect) (cond t None (Some part))) c

  sees : (t : Bool) → (eqb columns 0 || eqb rows 0) ≡ t → SeesRect old (unsigned_abs rect.x) (unsigned_abs rect.y) rect.w rect.h texel (left_by t dst.0) (c dst.0) shown.shows
  sees true empty = record {
    inside = λ m n byte column row in_texel among_x among_y defined. go m n byte defined (cases_read x read.info.width rect.w (m - unsigned_abs rect.x) among_x.below) (cases_read y read.info.height rect.h (n - unsigned_abs rect.y) among_y.below);
    outside = λ m n byte column row in_texel out. refl;
  }
    where
      go : (m n byte : ℕ) → cell_at (texel m n) byte < UNDEFINED → IsRead x read.info.width rect.w (m - unsigned_abs rect.x) ⊎ (in_int_range (pos 0) read.info.width (x +ℤ pos (m - unsigned_abs rect.x)) ≡ false) → IsRead y read.info.height rect.h (n - unsigned_abs rect.y) ⊎ (in_int_range (pos 0) read.info.height (y +ℤ pos (n - unsigned_abs rect.y)) ≡ false) →
          c dst.0 (place_in old.info m n byte) ≡ cell_at (texel m n) byte
      go m n byte defined (inl read_x) (inl read_y) = absurd (none_read (m - unsigned_abs rect.x) (n - unsigned_abs rect.y) empty read_x read_y)
      go m n byte defined (inl read_x) (inr out) = absurd (not_copied m n byte (inr out) defined)
      go m n byte defined (inr out) read_y = absurd (not_copied m n byte (inl out) defined)
  sees false some = record {
    inside = λ m n byte column row in_texel among_x among_y defined. go m n byte column row in_texel among_x among_y defined (cases_read x read.info.width rect.w (m - unsigned_abs rect.x) among_x.below) (cases_read y read.info.height rect.h (n - unsigned_abs rect.y) among_y.below);
    outside = λ m n byte column row in_texel out. stays some m n byte column in_texel out;
  }
    where
      go : (m n byte : ℕ) → m < old.info.width → n < old.info.height → byte < texel_bytes old.info → IsAmong (unsigned_abs rect.x) rect.w m → IsAmong (unsigned_abs rect.y) rect.h n → cell_at (texel m n) byte < UNDEFINED →
          IsRead x read.info.width rect.w (m - unsigned_abs rect.x) ⊎ (in_int_range (pos 0) read.info.width (x +ℤ pos (m - unsigned_abs rect.x)) ≡ false) → IsRead y read.info.height rect.h (n - unsigned_abs rect.y) ⊎ (in_int_range (pos 0) read.info.height (y +ℤ pos (n - unsigned_abs rect.y)) ≡ false) →
          after_node kinds q (Some node) c dst.0 (place_in old.info m n byte) ≡ cell_at (texel m n) byte
      go m n byte column row in_texel among_x among_y defined (inl read_x) (inl read_y) = copied m n byte column row in_texel among_x among_y read_x read_y defined
      go m n byte column row in_texel among_x among_y defined (inl read_x) (inr out) = absurd (not_copied m n byte (inr out) defined)
      go m n byte column row in_texel among_x among_y defined (inr out) read_y = absurd (not_copied m n byte (inl out) defined)

  pub copy_shows : Shows (after_node kinds q (copy_of src read.info x y dst rect) c dst.0) (after_copy old read (unsigned_abs rect.x) (unsigned_abs rect.y) x y rect.w rect.h)
  copy_shows =
      painted_rect_shows old (unsigned_abs rect.x) (unsigned_abs rect.y) rect.w rect.h texel (after_node kinds q (copy_of src read.info x y dst rect) c dst.0) (c dst.0) shown.shows
      (sees (eqb columns 0 || eqb rows 0) refl)

module _ (src dst : HandleId) (read : ImageInfo) (x y : ℤ) (rect : Rect) where
  abbrev wide : ℕ
  wide = count_inside x read.width rect.w

  abbrev high : ℕ
  high = count_inside y read.height rect.h

  abbrev common : Overlap
  common = record { left = skipped x; top = skipped y; rect = record { x = pos (entered x); y = pos (entered y); w = wide; h = high } }

  pub others_after_copy : (kinds : ℕ → Kind) (q : ℕ) (c : Contents) (id i : ℕ) → (dst.0 ≡ id → ⊥) → after_node kinds q (copy_of src read x y dst rect) c id i ≡ c id i
  others_after_copy kinds q c id i other = go (eqb wide 0 || eqb high 0)
    where
      go : (t : Bool) → after_node kinds q (option_map (copy_part src dst rect) (cond t None (Some common))) c id i ≡ c id i
      go true = refl
      go false = others_stay kinds q (copy_part src dst rect common) c id i other

  pub copy_fits : (kinds : ℕ → Option Kind) (written : ImageInfo) → kinds src.0 ≡ Some (store_kind read) → kinds dst.0 ≡ Some (store_kind written) → src.0 ≢ dst.0 → LiesInside rect written.width written.height → same_format read.format written.format ≡ true → IfSome (copy_of src read x y dst rect) (NodeFits kinds)
  copy_fits kinds written stored_read stored apart lies same = go (eqb wide 0 || eqb high 0) refl
    where
      go : (t : Bool) → (eqb wide 0 || eqb high 0) ≡ t → IfSome (option_map (copy_part src dst rect) (cond t None (Some common))) (NodeFits kinds)
      go true empty = tt
      go false some =
          let parts = or_parts (eqb wide 0) (eqb high 0) some in
          let across = line_fits x read.width rect.w (eqb-false wide 0 parts.0) in
          let down = line_fits y read.height rect.h (eqb-false high 0 parts.1) in
          let left_is : unsigned_abs rect.x ≡ lies.left = ap unsigned_abs lies.x_is in
          let top_is : unsigned_abs rect.y ≡ lies.top = ap unsigned_abs lies.y_is in
          let right = lies.to_right in
          let bottom = lies.to_bottom in
          let a = across.0 in
          let d = down.0 in (
            subst (λ k. HasRect k (record { x = pos (entered x); y = pos (entered y); w = wide; h = high })) (sym stored_read) (record { left = entered x; top = entered y; x_is = refl; y_is = refl; to_right = across.1; to_bottom = down.1 }),
            subst (λ k. HasRect k (record { x = pos (unsigned_abs rect.x + skipped x); y = pos (unsigned_abs rect.y + skipped y); w = wide; h = high })) (sym stored) (record {
              left = unsigned_abs rect.x + skipped x;
              top = unsigned_abs rect.y + skipped y;
              x_is = refl;
              y_is = refl;
              to_right = omega (arith, a, left_is, right);
              to_bottom = omega (arith, d, top_is, bottom);
            }),
            ap format_in stored_read ∙ ap Some (eqb-true (format_number read.format) (format_number written.format) same) ∙ sym (ap format_in stored),
            apart,
          )

  pub copy_none_empty : IfSome (copy_of src read x y dst rect) NoneEmpty
  copy_none_empty = go (eqb wide 0 || eqb high 0)
    where
      go : (t : Bool) → IfSome (option_map (copy_part src dst rect) (cond t None (Some common))) NoneEmpty
      go true = tt
      go false = All-from_recursion (λ (t : Touch). t.start < t.end) (touches (copy_part src dst rect common)) (omega arith, (omega arith, tt))
