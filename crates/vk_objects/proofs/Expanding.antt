-- Texels of an image as lists of bytes, and rows that grow by one piece.
use Rattle.std.proofs.Common.{◌≡◌, ℕ, zero, suc, ◌+◌, ◌-◌, ◌*◌, ◌<◌, ◌≤◌, List, [], ◌∷◌, length, map, take, drop, get_or, true, false, refl, sym, ◌∙◌, ap, arith, add-zero, inl, inr}
use Rattle.std.specs.Prelude.{◌⊎◌, nat_lt, slice_index}
use Rattle.std.specs.List.{range_with_len, flat_map}
use Rattle.formats.specs.Texel.{component_bits, has_signed_components}
use Rattle.formats.specs.Components.{low_bytes, filled, all_widened, components}
use Rattle.vk_model.specs.Texels.{format_at, expanded_texel}
use Rattle.std.proofs.lemmas.Bool.{cases_Bool, and_from, lt-ltb, ltb-true, ltb-false, cond-true}
use Rattle.std.proofs.lemmas.List.{drop_more}
use Rattle.std.proofs.lemmas.Grind.{get_or_default_zero}
use Rattle.cells.specs.Contents.{UNDEFINED, cell_at, cells, part, overwritten}
use Rattle.vk_model.specs.Cells.{all_defined, converted}
use Rattle.vk_objects.specs.Rows.{HasRow}
use Rattle.vk_model.proofs.Parts.{overwritten-before, overwritten-inside, overwritten-after}
use Rattle.vk_objects.proofs.RowSteps.{distributes}

module _ (image : List ℕ) (small : (i : ℕ) → get_or image i 0 < 256) (at : ℕ) where
  -- the cells from a place on are bytes
  texel_from : (a n : ℕ) → at + a + n ≤ length image → map (λ b. cell_at image (at + b)) (range_with_len a n) ≡ take n (drop (at + a) image)
  texel_from a zero fits = refl
  texel_from a (suc n) fits =
      let next : at + a + 1 ≡ at + (a + 1) = omega arith in
      ap (λ xs. cell_at image (at + a) ∷ xs) (texel_from (a + 1) n (omega (arith, fits)))
      ∙ ap (λ i. cell_at image (at + a) ∷ take n (drop i image)) (sym next)
      ∙ sym (ap (take (suc n)) (drop_more image (at + a) UNDEFINED (omega (arith, fits))))

  pub texel_is : (n : ℕ) → at + n ≤ length image → cells n (λ b. cell_at image (at + b)) ≡ part image at n
  texel_is n fits = texel_from 0 n (omega (arith, fits)) ∙ ap (λ i. take n (drop i image)) (add-zero at)

  defined_from : (a n : ℕ) → at + a + n ≤ length image → all_defined (map (λ b. cell_at image (at + b)) (range_with_len a n)) ≡ true
  defined_from a zero fits = refl
  defined_from a (suc n) fits =
      let byte : cell_at image (at + a) ≡ get_or image (at + a) 0 = get_or_default_zero image (at + a) UNDEFINED (omega (arith, fits)) in
      and_from (nat_lt (cell_at image (at + a)) UNDEFINED) (all_defined (map (λ b. cell_at image (at + b)) (range_with_len (a + 1) n)))
      (lt-ltb (cell_at image (at + a)) 256 (omega (arith, byte, small (at + a))))
      (defined_from (a + 1) n (omega (arith, fits)))

  -- what is made of a texel of bytes
  pub texel_converted : (f : List ℕ → List ℕ) (n byte : ℕ) → at + n ≤ length image → converted f (λ b. cell_at image (at + b)) n byte ≡ slice_index (f (part image at n)) byte
  texel_converted f n byte fits =
      cond-true (all_defined (cells n (λ b. cell_at image (at + b)))) (slice_index (f (cells n (λ b. cell_at image (at + b)))) byte) UNDEFINED (defined_from 0 n (omega (arith, fits)))
      ∙ ap (λ t. slice_index (f t) byte) (texel_is n fits)

-- a row grows by a piece
module _ (old now piece : List ℕ) (at x size : ℕ) (g : ℕ → ℕ) (row : HasRow old now at (x * size) g) (len : length piece ≡ size) (fits : at + x * size + size ≤ length now) where
  more : (x + 1) * size ≡ x * size + size
  more = distributes x 1 size ∙ omega arith

  piece_fits : at + x * size + length piece ≤ length now
  piece_fits = omega (arith, len, fits)

  pub row_more : ((b : ℕ) → b < size → cell_at piece b ≡ g (x * size + b)) → HasRow old (overwritten now (at + x * size) piece) at ((x + 1) * size) g
  row_more same = record {
    inside = λ j lt. go j lt (cases_Bool (nat_lt j (x * size)));
    before = λ i lt. overwritten-before now (at + x * size) piece piece_fits i (omega (arith, lt)) ∙ row.before i lt;
    after = λ j.
        let past : at + (x + 1) * size + j ≡ at + x * size + (size + j) = omega (arith, more) in
        overwritten-after now (at + x * size) piece piece_fits (at + (x + 1) * size + j) (omega (arith, more, len)) ∙ ap (cell_at now) past ∙ row.after (size + j) ∙ ap (cell_at old) (sym past);
  }
    where
      go : (j : ℕ) → j < (x + 1) * size → (nat_lt j (x * size) ≡ true) ⊎ (nat_lt j (x * size) ≡ false) → cell_at (overwritten now (at + x * size) piece) (at + j) ≡ g j
      go j lt (inl b) =
          let below : j < x * size = ltb-true j (x * size) b in
          overwritten-before now (at + x * size) piece piece_fits (at + j) (omega (arith, below)) ∙ row.inside j below
      go j lt (inr nb) =
          let from : x * size ≤ j = ltb-false j (x * size) nb in
          let b : ℕ = j - x * size in
          let is : x * size + b ≡ j = omega (arith, from) in
          let b_lt : b < size = omega (arith, from, lt, more) in
          let place : at + x * size + b ≡ at + j = omega (arith, is) in
          ap (cell_at (overwritten now (at + x * size) piece)) (sym place) ∙ overwritten-inside now (at + x * size) piece piece_fits b (omega (arith, len, b_lt)) ∙ same b b_lt ∙ ap g is

pub no_piece : (old : List ℕ) (at size : ℕ) (g : ℕ → ℕ) → HasRow old old at (0 * size) g
no_piece old at size g = record { inside = λ j lt. absurd (omega (arith, lt)); before = λ i lt. refl; after = λ j. refl }

-- four words have 16 bytes
words_len : (words : List ℕ) → length (flat_map (low_bytes 4) (filled words)) ≡ 16
words_len [] = refl
words_len (r ∷ []) = refl
words_len (r ∷ g ∷ []) = refl
words_len (r ∷ g ∷ b ∷ []) = refl
words_len (r ∷ g ∷ b ∷ a ∷ rest) = refl

pub expanded_len : (format : ℕ) (texel : List ℕ) → length (expanded_texel format texel) ≡ 16
expanded_len format texel = words_len (all_widened (has_signed_components (format_at format)) (component_bits (format_at format)) (components (format_at format) texel))
