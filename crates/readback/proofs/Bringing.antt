-- A texel of an image as it comes to a buffer, and as a read gives it.
use Rattle.std.proofs.Common.{◌≡◌, ℕ, zero, suc, ◌+◌, ◌*◌, ◌<◌, ◌≤◌, Bool, true, false, cond, eqb, List, [], ◌∷◌, length, map, length-append, refl, sym, ◌∙◌, ap, subst, arith, inl, inr}
use Rattle.std.specs.Prelude.{◌⊎◌, not, ℤ, pos, unsigned_abs, if◌then◌else◌}
use Rattle.std.specs.List.{list_any, flat_map, range_with_len}
use Rattle.std.proofs.lemmas.Bool.{cases_Bool, or_left, and_from, and_left, and_right, cond-true, cond-false}
use Rattle.std.proofs.lemmas.List.{get_or_default}
use Rattle.cells.specs.Contents.{Content, cell_at, UNDEFINED, undefined_cells}
use Rattle.formats.specs.declared.format.Format.{Format}
use Rattle.formats.specs.Pairs.{format_number}
use Rattle.formats.specs.Components.{expanded, low_bytes}
use Rattle.gl_model.specs.declared.objects.ImageInfo.{ImageInfo}
use Rattle.gl_model.specs.ImageEffect.{Picture, texel_bytes, texel_at, texel_or_undefined, undefined_texel, is_undefined, is_inside, in_int_range}
use Rattle.vk_types.specs.declared.handles.Kind.{Kind}
use Rattle.vk_types.specs.declared.handles.HandleId.{HandleId}
use Rattle.vk_types.specs.declared.regions.Rect.{Rect}
use Rattle.vk_types.specs.declared.ops.Op.TheVariants.{ImageToBuffer}
use Rattle.vk_types.specs.Touches.{the_end, rows_size}
use Rattle.vk_model.specs.Texels.{format_at, expanded_texel}
use Rattle.vk_model.specs.Cells.{Contents, place, ahead, texel_size, format_of}
use Rattle.vk_model.specs.Cells as device
use Rattle.vk_model.specs.Log.{Command}
use Rattle.vk_model.specs.Meaning.{apply}
use Rattle.vk_effects.specs.Places.{IsTexel}
use Rattle.vk_effects.specs.Rows.{row_place, IsOnTop, ComesDown}
use Rattle.vk_effects.proofs.RowsDown.{down_plain, down_expanded}
use Rattle.vk_effects.proofs.Words.{four_words}
use Rattle.transfer.specs.Shown.{place_in, IsShown}
use Rattle.transfer.specs.Blits.{AreCells}
use Rattle.transfer.proofs.Places.{format_back, size_is, place_is, content_ends, some_bytes}
use Rattle.transfer.proofs.Reading.{no_cell, in_range_at, read_inside, read_outside}
use Rattle.transfer.proofs.Converting.{shown_converted}

-- Words

length-words : (words : List ℕ) → length (flat_map (low_bytes 4) words) ≡ length words * 4
length-words [] = omega arith
length-words (v ∷ words) =
    let rest : length (flat_map (low_bytes 4) words) ≡ length words * 4 = length-words words in
    length-append (low_bytes 4 v) (flat_map (low_bytes 4) words) ∙ omega (arith, rest)

length-expanded : (format : ℕ) (texel : List ℕ) → length (expanded_texel format texel) ≡ 16
length-expanded format texel = length-words (expanded (format_at format) texel) ∙ ap (λ n. n * 4) (four_words format texel)

-- Texels

any_undefined : (n a : ℕ) → 0 < n → list_any (λ c. eqb c UNDEFINED) (map (λ _. UNDEFINED) (range_with_len a n)) ≡ true
any_undefined zero a some = absurd (omega arith)
any_undefined (suc n) a some = or_left (eqb UNDEFINED UNDEFINED) (list_any (λ c. eqb c UNDEFINED) (map (λ _. UNDEFINED) (range_with_len (a + 1) n))) refl

-- the four words of a texel
abbrev words_of : Format → List ℕ → List ℕ
words_of format texel = flat_map (λ v. low_bytes 4 v) (expanded format texel)

-- a texel that a read gives, by whether the pair is the format's own
abbrev pub read_by : Picture → Bool → ℤ → ℤ → Content
read_by read own x y =
    if own then texel_or_undefined read x y
    else (if is_undefined (texel_or_undefined read x y) then undefined_cells 16 else flat_map (λ v. low_bytes 4 v) (expanded read.info.format (texel_or_undefined read x y)))

-- the bytes of a texel of the client
abbrev pub client_texel : ImageInfo → Bool → ℕ
client_texel info own = if own then texel_bytes info else 16

pub some_client_texel : (info : ImageInfo) (own : Bool) → 0 < client_texel info own
some_client_texel info true = some_bytes info
some_client_texel info false = omega arith

-- outside the image no cell is defined
pub not_read : (read : Picture) (own : Bool) (x y : ℤ) (byte : ℕ) → (in_int_range (pos 0) read.info.width x ≡ false) ⊎ (in_int_range (pos 0) read.info.height y ≡ false) → cell_at (read_by read own x y) byte ≡ UNDEFINED
not_read read true x y byte out = read_outside read x y byte out
not_read read false x y byte out =
    let gone : texel_or_undefined read x y ≡ undefined_texel read.info = cond-false (is_inside read.info x y) (texel_at read (unsigned_abs x) (unsigned_abs y)) (undefined_texel read.info) (outside out) in
    let all : is_undefined (texel_or_undefined read x y) ≡ true = ap is_undefined gone ∙ any_undefined (texel_bytes read.info) 0 (some_bytes read.info) in
    ap (λ t. cell_at (cond t (undefined_cells 16) (flat_map (λ v. low_bytes 4 v) (expanded read.info.format (texel_or_undefined read x y)))) byte) all
    ∙ no_cell 16 byte
  where
    outside : (in_int_range (pos 0) read.info.width x ≡ false) ⊎ (in_int_range (pos 0) read.info.height y ≡ false) → is_inside read.info x y ≡ false
    outside (inl column) = and_left (in_int_range (pos 0) read.info.width x) (in_int_range (pos 0) read.info.height y) column
    outside (inr row) = and_right (in_int_range (pos 0) read.info.width x) (in_int_range (pos 0) read.info.height y) row

pub texel_inside : (read : Picture) (x y : ℤ) (m n : ℕ) → x ≡ pos m → y ≡ pos n → m < read.info.width → n < read.info.height → texel_or_undefined read x y ≡ texel_at read m n
texel_inside read x y m n x_is y_is column row =
    ap (λ z. texel_or_undefined read z y) x_is
    ∙ ap (λ z. texel_or_undefined read (pos m) z) y_is
    ∙ cond-true (is_inside read.info (pos m) (pos n)) (texel_at read m n) (undefined_texel read.info)
    (and_from (in_int_range (pos 0) read.info.width (pos m)) (in_int_range (pos 0) read.info.height (pos n)) (in_range_at read.info.width m column) (in_range_at read.info.height n row))

-- a byte of a texel of the image, and where it comes to in a buffer
pub record IsBrought (info : ImageInfo) (rect : Rect) (at stride size : ℕ) (x y : ℤ) (left top byte : ℕ) : Type 0 where
  pub m : ℕ
  pub n : ℕ
  pub x_is : x ≡ pos m
  pub y_is : y ≡ pos n
  pub column : m < info.width
  pub row : n < info.height
  pub across : ahead rect.x left ≡ m
  pub down : ahead rect.y top ≡ n
  pub on_top : IsOnTop rect stride size left top byte
  pub ends : at + rows_size rect stride size ≤ the_end

module _ (kinds : ℕ → Kind) (q : ℕ) (c : Contents) (src dst : HandleId) (read : Picture) (rect : Rect) (at stride : ℕ) (shown : IsShown kinds c src.0 read) (are : AreCells read.cells) (x y : ℤ) (left top byte : ℕ) where
  comes : (size : ℕ) → IsBrought read.info rect at stride size x y left top byte → ComesDown (kinds src.0) rect at stride size left top byte
  comes size brought = record {
    on_top = brought.on_top;
    source = subst (λ k. IsTexel k (ahead rect.x left) (ahead rect.y top)) (sym shown.kind) (record {
      column = subst (λ k. k < read.info.width) (sym brought.across) brought.column;
      row = subst (λ k. k < read.info.height) (sym brought.down) brought.row;
      ends = content_ends read.info shown.storable;
    });
    ends = brought.ends;
  }

  brought_plain : IsBrought read.info rect at stride (texel_bytes read.info) x y left top byte → cell_at (texel_or_undefined read x y) byte < UNDEFINED →
      apply kinds (Command q (record { op = ImageToBuffer src rect dst at stride (texel_bytes read.info) false })) c dst.0 (row_place at stride (texel_bytes read.info) left top byte) ≡ cell_at (texel_or_undefined read x y) byte
  brought_plain brought defined =
      let in_texel : byte < texel_bytes read.info = brought.on_top.is.in_texel in
      let is : cell_at (texel_or_undefined read x y) byte ≡ cell_at read.cells (place_in read.info brought.m brought.n byte) = read_inside read x y brought.m brought.n byte brought.x_is brought.y_is brought.column brought.row in_texel in
      down_plain kinds q src rect dst at stride (texel_bytes read.info) c left top byte (comes (texel_bytes read.info) brought) (sym (size_is read.info) ∙ sym (ap texel_size shown.kind))
      ∙ ap (λ l. c src.0 (place (kinds src.0) l (ahead rect.y top) byte)) brought.across
      ∙ ap (λ t. c src.0 (place (kinds src.0) brought.m t byte)) brought.down
      ∙ ap (λ k. c src.0 (place k brought.m brought.n byte)) shown.kind
      ∙ ap (c src.0) (place_is read.info brought.m brought.n byte)
      ∙ shown.shows (place_in read.info brought.m brought.n byte) (omega (arith, is, defined))
      ∙ sym is

  brought_expanded : IsBrought read.info rect at stride 16 x y left top byte → cell_at (read_by read false x y) byte < UNDEFINED →
      apply kinds (Command q (record { op = ImageToBuffer src rect dst at stride (texel_bytes read.info) true })) c dst.0 (row_place at stride 16 left top byte) ≡ cell_at (read_by read false x y) byte
  brought_expanded brought defined = go (cases_Bool (is_undefined (texel_or_undefined read x y)))
    where
      chosen : (t : Bool) → is_undefined (texel_or_undefined read x y) ≡ t → cell_at (read_by read false x y) byte ≡ cell_at (cond t (undefined_cells 16) (words_of read.info.format (texel_or_undefined read x y))) byte
      chosen t is = ap (λ t. cell_at (cond t (undefined_cells 16) (words_of read.info.format (texel_or_undefined read x y))) byte) is

      same : texel_or_undefined read x y ≡ texel_at read brought.m brought.n
      same = texel_inside read x y brought.m brought.n brought.x_is brought.y_is brought.column brought.row

      go : (is_undefined (texel_or_undefined read x y) ≡ true) ⊎ (is_undefined (texel_or_undefined read x y) ≡ false) →
          apply kinds (Command q (record { op = ImageToBuffer src rect dst at stride (texel_bytes read.info) true })) c dst.0 (row_place at stride 16 left top byte) ≡ cell_at (read_by read false x y) byte
      go (inl lost) = absurd (let gone : cell_at (read_by read false x y) byte ≡ UNDEFINED = chosen true lost ∙ no_cell 16 byte in omega (arith, gone, defined))
      go (inr whole) =
          let in_texel : byte < 16 = brought.on_top.is.in_texel in
          let long : length (expanded_texel (format_number read.info.format) (texel_at read brought.m brought.n)) ≡ 16 = length-expanded (format_number read.info.format) (texel_at read brought.m brought.n) in
          down_expanded kinds q src rect dst at stride (texel_bytes read.info) c left top byte (comes 16 brought)
          ∙ ap (λ l. device.converted (expanded_texel (format_of (kinds src.0))) (λ b. c src.0 (place (kinds src.0) l (ahead rect.y top) b)) (texel_size (kinds src.0)) byte) brought.across
          ∙ ap (λ t. device.converted (expanded_texel (format_of (kinds src.0))) (λ b. c src.0 (place (kinds src.0) brought.m t b)) (texel_size (kinds src.0)) byte) brought.down
          ∙ ap (λ k. device.converted (expanded_texel (format_of k)) (λ b. c src.0 (place (kinds src.0) brought.m brought.n b)) (texel_size (kinds src.0)) byte) shown.kind
          ∙ shown_converted (kinds src.0) (c src.0) read (expanded_texel (format_number read.info.format)) brought.m brought.n byte shown.kind shown.shows are (sym (ap is_undefined same) ∙ whole)
          ∙ get_or_default (expanded_texel (format_number read.info.format) (texel_at read brought.m brought.n)) byte 0 UNDEFINED (omega (arith, in_texel, long))
          ∙ ap (λ f. cell_at (flat_map (low_bytes 4) (expanded f (texel_at read brought.m brought.n))) byte) (format_back read.info.format)
          ∙ ap (λ t. cell_at (words_of read.info.format t) byte) (sym same)
          ∙ sym (chosen false whole)

  pub brought_down : (own : Bool) → IsBrought read.info rect at stride (client_texel read.info own) x y left top byte → cell_at (read_by read own x y) byte < UNDEFINED →
      apply kinds (Command q (record { op = ImageToBuffer src rect dst at stride (texel_bytes read.info) (not own) })) c dst.0 (row_place at stride (client_texel read.info own) left top byte) ≡ cell_at (read_by read own x y) byte
  brought_down true brought defined = brought_plain brought defined
  brought_down false brought defined = brought_expanded brought defined
