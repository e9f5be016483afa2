-- Loads that clear a whole image, and clears in order.
use Rattle.std.proofs.Common.{◌≡◌, ℕ, ◌-◌, ◌*◌, ◌/◌, ◌<◌, ◌≤◌, List, [], ◌∷◌, ◌++◌, true, false, refl, sym, ◌∙◌, ap, subst, arith, lit<, inl, inr}
use Rattle.std.specs.Prelude.{◌⊎◌, Option, Some, None, nat_lt, pos, slice_index}
use Rattle.std.proofs.lemmas.Bool.{cases_Bool, ltb-true, ltb-false, cond-true, cond-false}
use Rattle.std.proofs.lemmas.Nat.{div_below, mod_below, le-div}
use Rattle.formats.specs.declared.format.Format.{Format}
use Rattle.formats.specs.declared.format.Format.TheVariants.{R8ui, R8i, R16ui, R16i, R32ui, R32i, Rg8ui, Rgba8ui, Rgba8i, Rgb10A2ui, Rgba32ui, Rgba32i}
use Rattle.formats.specs.Texel.{bytes_per_texel}
use Rattle.vk_model.specs.Texels.{format_at}
use Rattle.vk_types.specs.declared.handles.Kind.{Kind}
use Rattle.vk_types.specs.declared.regions.Clear.{Clear}
use Rattle.vk_types.specs.declared.ops.Load.TheVariants as loads
use Rattle.vk_model.specs.Cells.{texel_size, column_at, row_at, byte_at, behind, at_both, clear_image, cleared, loaded}
use Rattle.cells.specs.Contents.{AgreesAt}
use Rattle.vk_model.specs.Fitting.{size_of}
use Rattle.vk_model.proofs.Images.{behind_in, behind_out}
use Rattle.vk_objects.specs.Undefined.{KeepsAt}
use Rattle.vk_objects.specs.declared.shapes.Shape.{Shape}
use Rattle.vk_objects.specs.Images.{kind_of_shape, whole_rect}
use Rattle.vk_objects.proofs.Finding.{kept_exactly}

-- one clear more
pub cleared_push : (kind : Kind) (clears : List Clear) (one : Clear) (i old : ℕ) → cleared kind (clears ++ one ∷ []) i old ≡ clear_image kind one.rect one.texel i (cleared kind clears i old)
cleared_push kind [] one i old = refl
cleared_push kind (clear ∷ clears) one i old = cleared_push kind clears one i (clear_image kind clear.rect clear.texel i old)

-- a clear of all columns and rows writes each place of the image
module _ (s : Shape) (texel : List ℕ) (some : 0 < texel_size (kind_of_shape s)) where
  pub whole_clear : (i old : ℕ) → clear_image (kind_of_shape s) (whole_rect s) texel i old ≡ loaded (kind_of_shape s) (loads.Clear texel) i old
  whole_clear i old = go (cases_Bool (nat_lt i (size_of (kind_of_shape s))))
    where
      turned : s.height * s.width ≡ s.width * s.height
      turned = omega arith

      nothing_there : (o : Option ℕ) → at_both o None (λ x y. slice_index texel (byte_at (kind_of_shape s) i)) old ≡ old
      nothing_there None = refl
      nothing_there (Some a) = refl

      go : (nat_lt i (size_of (kind_of_shape s)) ≡ true) ⊎ (nat_lt i (size_of (kind_of_shape s)) ≡ false) → clear_image (kind_of_shape s) (whole_rect s) texel i old ≡ loaded (kind_of_shape s) (loads.Clear texel) i old
      go (inl b) =
          let kind = kind_of_shape s in let t = texel_size kind in let w = s.width in let h = s.height in
          let lt : i < w * h * t = ltb-true i (size_of kind) b in
          let texels : i / t < w * h = div_below i t (w * h) some lt in
          let row : row_at kind i < h = div_below (i / t) w h (omega (arith, s.some_columns)) (subst (λ n. i / t < n) (sym turned) texels) in
          let column : column_at kind i < w = mod_below (i / t) w (omega (arith, s.some_columns)) in
          ap (λ o. at_both o (behind (pos 0) h (row_at kind i)) (λ x y. slice_index texel (byte_at kind i)) old) (behind_in 0 w (column_at kind i) (omega arith) (omega (arith, column)))
          ∙ ap (λ o. at_both (Some (column_at kind i - 0)) o (λ x y. slice_index texel (byte_at kind i)) old) (behind_in 0 h (row_at kind i) (omega arith) (omega (arith, row)))
          ∙ sym (cond-true (nat_lt i (size_of kind)) (slice_index texel (byte_at kind i)) old b)
      go (inr nb) =
          let kind = kind_of_shape s in let t = texel_size kind in let w = s.width in let h = s.height in
          let le : w * h * t ≤ i = ltb-false i (size_of kind) nb in
          let texels : w * h ≤ i / t = le-div (w * h) i t some le in
          let row : h ≤ row_at kind i = le-div h (i / t) w (omega (arith, s.some_columns)) (subst (λ n. n ≤ i / t) (sym turned) texels) in
          ap (λ o. at_both (behind (pos 0) w (column_at kind i)) o (λ x y. slice_index texel (byte_at kind i)) old) (behind_out 0 h (row_at kind i) (inr (omega (arith, row))))
          ∙ nothing_there (behind (pos 0) w (column_at kind i))
          ∙ sym (cond-false (nat_lt i (size_of kind)) (slice_index texel (byte_at kind i)) old nb)

-- a texel has a byte at least
pub some_bytes : (f : Format) → 0 < bytes_per_texel f
some_bytes R8ui = lit< tt
some_bytes R8i = lit< tt
some_bytes R16ui = lit< tt
some_bytes R16i = lit< tt
some_bytes R32ui = lit< tt
some_bytes R32i = lit< tt
some_bytes Rg8ui = lit< tt
some_bytes Rgba8ui = lit< tt
some_bytes Rgba8i = lit< tt
some_bytes Rgb10A2ui = lit< tt
some_bytes Rgba32ui = lit< tt
some_bytes Rgba32i = lit< tt

pub texel_some : (s : Shape) → 0 < texel_size (kind_of_shape s)
texel_some s = some_bytes (format_at s.format)

-- clears of what agrees agree
at_both_agrees : (x y : Option ℕ) (f : ℕ → ℕ → ℕ) (a b : ℕ) → AgreesAt a b → AgreesAt (at_both x y f a) (at_both x y f b)
at_both_agrees None y f a b same = same
at_both_agrees (Some x) None f a b same = same
at_both_agrees (Some x) (Some y) f a b same = λ below. refl

pub cleared_agrees : (kind : Kind) (clears : List Clear) (i a b : ℕ) → AgreesAt a b → AgreesAt (cleared kind clears i a) (cleared kind clears i b)
cleared_agrees kind [] i a b same = same
cleared_agrees kind (clear ∷ clears) i a b same =
    cleared_agrees kind clears i (clear_image kind clear.rect clear.texel i a) (clear_image kind clear.rect clear.texel i b)
    (at_both_agrees (behind clear.rect.x clear.rect.w (column_at kind i)) (behind clear.rect.y clear.rect.h (row_at kind i)) (λ x y. slice_index clear.texel (byte_at kind i)) a b same)

-- clears of what is kept keep it
at_both_keeps : (x y : Option ℕ) (f : ℕ → ℕ → ℕ) (old a b : ℕ) → KeepsAt old a b → KeepsAt old (at_both x y f a) (at_both x y f b)
at_both_keeps None y f old a b keeps = keeps
at_both_keeps (Some x) None f old a b keeps = keeps
at_both_keeps (Some x) (Some y) f old a b keeps = kept_exactly old (f x y) (f x y) refl

pub cleared_keeps : (kind : Kind) (clears : List Clear) (i old a b : ℕ) → KeepsAt old a b → KeepsAt old (cleared kind clears i a) (cleared kind clears i b)
cleared_keeps kind [] i old a b keeps = keeps
cleared_keeps kind (clear ∷ clears) i old a b keeps =
    cleared_keeps kind clears i old (clear_image kind clear.rect clear.texel i a) (clear_image kind clear.rect clear.texel i b)
    (at_both_keeps (behind clear.rect.x clear.rect.w (column_at kind i)) (behind clear.rect.y clear.rect.h (row_at kind i)) (λ x y. slice_index clear.texel (byte_at kind i)) old a b keeps)
