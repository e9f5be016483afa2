-- Texels that are converted whole, and the words of expanded ones.
use Rattle.std.proofs.Common.{◌≡◌, ℕ, zero, suc, ◌+◌, ◌*◌, ◌<◌, ◌≤◌, List, [], ◌∷◌, ◌++◌, length, map, get_or, true, cond, refl, sym, ◌∙◌, ap, subst, add-zero, arith}
use Rattle.std.specs.Prelude.{slice_index, nat_lt}
use Rattle.std.specs.List.{range_with_len, flat_map, list_all}
use Rattle.std.proofs.lemmas.List.{get_or_append_left, get_or-append-add}
use Rattle.std.proofs.lemmas.List.FromFn.{length-map-range_with_len, get_or-map-range_with_len}
use Rattle.std.proofs.lemmas.List.Folds.{list_all_at}
use Rattle.std.proofs.lemmas.Bool.{lt-ltb, le-ltb, and_from, cond-true, cond-false}
use Rattle.formats.specs.declared.format.Format.{Format}
use Rattle.formats.specs.declared.format.Format.TheVariants.{R8ui, R8i, R16ui, R16i, R32ui, R32i, Rg8ui, Rgba8ui, Rgba8i, Rgb10A2ui, Rgba32ui, Rgba32i}
use Rattle.formats.specs.Components.{expanded, filled, all_widened, components, low_bytes}
use Rattle.formats.specs.Texel.{has_signed_components, component_bits}
use Rattle.cells.specs.Contents.{UNDEFINED, cells}
use Rattle.vk_model.specs.Texels.{format_at, expanded_texel}
use Rattle.vk_model.specs.Cells.{converted, all_defined}

-- Cells

cells_from : (f g : ℕ → ℕ) (a n : ℕ) → ((b : ℕ) → b < n → f (a + b) ≡ g (a + b)) → map f (range_with_len a n) ≡ map g (range_with_len a n)
cells_from f g a zero same = refl
cells_from f g a (suc n) same =
    let first : f a ≡ g a = subst (λ k. f k ≡ g k) (add-zero a) (same 0 (omega arith)) in
    ap (λ x. x ∷ map f (range_with_len (a + 1) n)) first
    ∙ ap (λ xs. g a ∷ xs) (cells_from f g (a + 1) n (λ b lt. let e : a + suc b ≡ a + 1 + b = omega arith in subst (λ k. f k ≡ g k) e (same (suc b) (omega (arith, lt)))))

-- the same cells are converted alike
pub converted_same : (h : List ℕ → List ℕ) (f g : ℕ → ℕ) (size byte : ℕ) → ((b : ℕ) → b < size → f b ≡ g b) → converted h f size byte ≡ converted h g size byte
converted_same h f g size byte same =
    ap (λ texel. cond (all_defined texel) (slice_index (h texel) byte) UNDEFINED)
    (cells_from f g 0 size (λ b lt. let e : 0 + b ≡ b = omega arith in ap f e ∙ same b lt ∙ sym (ap g e)))

defined_from : (f : ℕ → ℕ) (a n : ℕ) → ((b : ℕ) → b < n → f (a + b) < UNDEFINED) → list_all (λ cell. nat_lt cell UNDEFINED) (map f (range_with_len a n)) ≡ true
defined_from f a zero each = refl
defined_from f a (suc n) each =
    and_from (nat_lt (f a) UNDEFINED) (list_all (λ cell. nat_lt cell UNDEFINED) (map f (range_with_len (a + 1) n)))
    (lt-ltb (f a) UNDEFINED (subst (λ k. f k < UNDEFINED) (add-zero a) (each 0 (omega arith))))
    (defined_from f (a + 1) n (λ b lt. let e : a + suc b ≡ a + 1 + b = omega arith in subst (λ k. f k < UNDEFINED) e (each (suc b) (omega (arith, lt)))))

pub converted_defined : (h : List ℕ → List ℕ) (texel : ℕ → ℕ) (size byte : ℕ) → ((b : ℕ) → b < size → texel b < UNDEFINED) → converted h texel size byte ≡ slice_index (h (cells size texel)) byte
converted_defined h texel size byte each =
    cond-true (all_defined (cells size texel)) (slice_index (h (cells size texel)) byte) UNDEFINED
    (defined_from texel 0 size (λ b lt. let e : b ≡ 0 + b = omega arith in subst (λ k. texel k < UNDEFINED) e (each b lt)))

pub converted_undefined : (h : List ℕ → List ℕ) (texel : ℕ → ℕ) (size byte b : ℕ) → b < size → UNDEFINED ≤ texel b → converted h texel size byte ≡ UNDEFINED
converted_undefined h texel size byte b below none =
    let cell : get_or (cells size texel) b 0 ≡ texel b = get_or-map-range_with_len texel 0 size b b 0 below (omega arith) in
    cond-false (all_defined (cells size texel)) (slice_index (h (cells size texel)) byte) UNDEFINED
    (list_all_at (λ cell. nat_lt cell UNDEFINED) (cells size texel) b 0 (subst (λ n. b < n) (sym (length-map-range_with_len texel 0 size)) below) (ap (λ v. nat_lt v UNDEFINED) cell ∙ le-ltb (texel b) UNDEFINED none))

-- Words

bytes_of_words : (words : List ℕ) (word byte : ℕ) → word < length words → byte < 4 → slice_index (flat_map (low_bytes 4) words) (word * 4 + byte) ≡ slice_index (low_bytes 4 (slice_index words word)) byte
bytes_of_words [] word byte lt small = absurd (omega arith)
bytes_of_words (x ∷ words) zero byte lt small =
    let at : 0 * 4 + byte ≡ byte = omega arith in
    ap (λ k. slice_index (low_bytes 4 x ++ flat_map (low_bytes 4) words) k) at
    ∙ get_or_append_left (low_bytes 4 x) (flat_map (low_bytes 4) words) 0 byte small
bytes_of_words (x ∷ words) (suc word) byte lt small =
    let at : suc word * 4 + byte ≡ 4 + (word * 4 + byte) = omega arith in
    ap (λ k. slice_index (low_bytes 4 x ++ flat_map (low_bytes 4) words) k) at
    ∙ get_or-append-add (low_bytes 4 x) (flat_map (low_bytes 4) words) (word * 4 + byte) 0
    ∙ bytes_of_words words word byte (omega (arith, lt)) small

four_filled : (components : List ℕ) → length (filled components) ≡ 4
four_filled [] = refl
four_filled (r ∷ []) = refl
four_filled (r ∷ g ∷ []) = refl
four_filled (r ∷ g ∷ b ∷ []) = refl
four_filled (r ∷ g ∷ b ∷ a ∷ rest) = refl

pub four_words : (format : ℕ) (texel : List ℕ) → length (expanded (format_at format) texel) ≡ 4
four_words format texel = four_filled (all_widened (has_signed_components (format_at format)) (component_bits (format_at format)) (components (format_at format) texel))

pub words_of_expanded : (format : ℕ) (texel : List ℕ) (word byte : ℕ) → word < 4 → byte < 4 → slice_index (expanded_texel format texel) (word * 4 + byte) ≡ slice_index (low_bytes 4 (slice_index (expanded (format_at format) texel) word)) byte
words_of_expanded format texel word byte lt small = bytes_of_words (expanded (format_at format) texel) word byte (subst (λ n. word < n) (sym (four_words format texel)) lt) small

-- Components that a format lacks

missing_green : (format : Format) (texel : List ℕ) → length (component_bits format) < 2 → slice_index (expanded format texel) 1 ≡ 0
missing_green R8ui texel few = refl
missing_green R8i texel few = refl
missing_green R16ui texel few = refl
missing_green R16i texel few = refl
missing_green R32ui texel few = refl
missing_green R32i texel few = refl
missing_green Rg8ui texel few = absurd (omega (arith, few))
missing_green Rgba8ui texel few = absurd (omega (arith, few))
missing_green Rgba8i texel few = absurd (omega (arith, few))
missing_green Rgb10A2ui texel few = absurd (omega (arith, few))
missing_green Rgba32ui texel few = absurd (omega (arith, few))
missing_green Rgba32i texel few = absurd (omega (arith, few))

missing_blue : (format : Format) (texel : List ℕ) → length (component_bits format) < 3 → slice_index (expanded format texel) 2 ≡ 0
missing_blue R8ui texel few = refl
missing_blue R8i texel few = refl
missing_blue R16ui texel few = refl
missing_blue R16i texel few = refl
missing_blue R32ui texel few = refl
missing_blue R32i texel few = refl
missing_blue Rg8ui texel few = refl
missing_blue Rgba8ui texel few = absurd (omega (arith, few))
missing_blue Rgba8i texel few = absurd (omega (arith, few))
missing_blue Rgb10A2ui texel few = absurd (omega (arith, few))
missing_blue Rgba32ui texel few = absurd (omega (arith, few))
missing_blue Rgba32i texel few = absurd (omega (arith, few))

missing_alpha : (format : Format) (texel : List ℕ) → length (component_bits format) < 4 → slice_index (expanded format texel) 3 ≡ 1
missing_alpha R8ui texel few = refl
missing_alpha R8i texel few = refl
missing_alpha R16ui texel few = refl
missing_alpha R16i texel few = refl
missing_alpha R32ui texel few = refl
missing_alpha R32i texel few = refl
missing_alpha Rg8ui texel few = refl
missing_alpha Rgba8ui texel few = absurd (omega (arith, few))
missing_alpha Rgba8i texel few = absurd (omega (arith, few))
missing_alpha Rgb10A2ui texel few = absurd (omega (arith, few))
missing_alpha Rgba32ui texel few = absurd (omega (arith, few))
missing_alpha Rgba32i texel few = absurd (omega (arith, few))

pub no_green : (format : ℕ) (texel : List ℕ) → length (component_bits (format_at format)) < 2 → slice_index (expanded (format_at format) texel) 1 ≡ 0
no_green format texel few = missing_green (format_at format) texel few

pub no_blue : (format : ℕ) (texel : List ℕ) → length (component_bits (format_at format)) < 3 → slice_index (expanded (format_at format) texel) 2 ≡ 0
no_blue format texel few = missing_blue (format_at format) texel few

pub no_alpha : (format : ℕ) (texel : List ℕ) → length (component_bits (format_at format)) < 4 → slice_index (expanded (format_at format) texel) 3 ≡ 1
no_alpha format texel few = missing_alpha (format_at format) texel few
