-- What follows where a node fits.
use Rattle.std.proofs.Common.{◌≡◌, ◌≢◌, ℕ, ◌+◌, ◌-◌, ◌*◌, ◌<◌, ◌≤◌, List, [], ◌∷◌, length, true, false, sym, ap, subst, arith, inl, inr}
use Rattle.std.specs.Prelude.{◌⊎◌, ◌||◌, ◌==◌, Option, Some, None, option_map, unwrap_or}
use Rattle.std.specs.List.{AllByRecursion}
use Rattle.std.proofs.lemmas.Bool.{cases_Bool, cond-true, cond-false}
use Rattle.std.proofs.Math.Nat.{mul-le-mul_right}
use Rattle.vk_types.specs.declared.handles.Kind.{Kind}
use Rattle.vk_types.specs.declared.handles.Kind.TheVariants.{Buffer, Image}
use Rattle.vk_types.specs.declared.regions.Rect.{Rect}
use Rattle.vk_types.specs.declared.regions.Touch.{Touch}
use Rattle.vk_types.specs.declared.ops.Node.{Node}
use Rattle.vk_types.specs.Touches.{rows_size, touches}
use Rattle.vk_model.specs.Cells.{texel_size}
use Rattle.vk_model.specs.Fitting.{HasRange, HasRect, HasTexels}
use Rattle.vk_objects.specs.declared.objects.Object.{Object}
use Rattle.vk_objects.specs.declared.objects.Objects.{Objects}
use Rattle.vk_objects.specs.Objects.{kind_of, bytes_in, bytes_of, HasSize, HaveSizes, TouchedHaveSizes}

-- a range of a buffer lies in its bytes
pub range_inside : (kind : Option Kind) (bytes : List ℕ) (at size : ℕ) → HasRange kind at size → HasSize kind bytes → (0 < size) × (at + size ≤ length bytes)
range_inside None bytes at size range sized = absurd range
range_inside (Some (Buffer len)) bytes at size range sized = (range.0, subst (λ n. at + size ≤ n) (sym sized.1) range.1)
range_inside (Some (Image format width height)) bytes at size range sized = absurd range

-- a buffer is no image
both_kinds : (kind : Option Kind) (at size : ℕ) (rect : Rect) → HasRange kind at size → HasRect kind rect → ⊥
both_kinds None at size rect range inside = range
both_kinds (Some (Buffer len)) at size rect range inside = inside
both_kinds (Some (Image format width height)) at size rect range inside = range

pub buffer_is_no_image : (kinds : ℕ → Option Kind) (a b at size : ℕ) (rect : Rect) → HasRange (kinds a) at size → HasRect (kinds b) rect → a ≢ b
buffer_is_no_image kinds a b at size rect range inside e = both_kinds (kinds b) at size rect (subst (λ i. HasRange (kinds i) at size) e range) inside

-- the bytes that a look-up gives
pub bytes_found : (o : Option Object) (bytes : List ℕ) → Some bytes ≡ option_map (λ o. o.bytes) o → bytes ≡ bytes_in o
bytes_found None bytes e = let never : Some bytes ≡ None = e in cc
bytes_found (Some x) bytes e = ap (λ o. unwrap_or o bytes) e

-- rows that are not empty lie in their range, each of them
module _ (rect : Rect) (stride size : ℕ) (some : 0 < rows_size rect stride size) where
  pub filled : rows_size rect stride size ≡ (rect.h - 1) * stride + rect.w * size
  filled = go (cases_Bool ((rect.w == 0) || (rect.h == 0)))
    where
      go : (((rect.w == 0) || (rect.h == 0)) ≡ true) ⊎ (((rect.w == 0) || (rect.h == 0)) ≡ false) → rows_size rect stride size ≡ (rect.h - 1) * stride + rect.w * size
      go (inl t) = absurd (let none : rows_size rect stride size ≡ 0 = cond-true ((rect.w == 0) || (rect.h == 0)) 0 ((rect.h - 1) * stride + rect.w * size) t in omega (arith, some, none))
      go (inr f) = cond-false ((rect.w == 0) || (rect.h == 0)) 0 ((rect.h - 1) * stride + rect.w * size) f

  pub some_rows : 0 < rect.h
  some_rows = go (cases_Bool (rect.h == 0))
    where
      go : ((rect.h == 0) ≡ true) ⊎ ((rect.h == 0) ≡ false) → 0 < rect.h
      go (inl z) = absurd (let none : rows_size rect stride size ≡ 0 = cond-true ((rect.w == 0) || (rect.h == 0)) 0 ((rect.h - 1) * stride + rect.w * size) (Rattle.std.proofs.lemmas.Bool.or_right (rect.w == 0) (rect.h == 0) z) in omega (arith, some, none))
      go (inr nz) = (let ne = Rattle.std.proofs.lemmas.Bool.eqb-false rect.h 0 nz in omega (arith, ne))

  pub row_in_rows : (k : ℕ) → k < rect.h → k * stride + rect.w * size ≤ rows_size rect stride size
  row_in_rows k below =
      let lower : k * stride ≤ (rect.h - 1) * stride = mul-le-mul_right stride (omega (arith, below)) in
      omega (arith, lower, filled)

-- the size of an image's texels
pub texels_are : (kind : Option Kind) (size : ℕ) → HasTexels kind size → size ≡ texel_size (unwrap_or kind (Buffer 0))
texels_are None size is = absurd is
texels_are (Some (Buffer _)) size is = absurd is
texels_are (Some (Image format width height)) size is = is

-- where each live object has all its bytes, so has each that a node touches
pub touched_sized : (objects : Objects) (n : Node) → HaveSizes objects → TouchedHaveSizes objects n
touched_sized objects n sized = go (touches n)
  where
    go : (ts : List Touch) → AllByRecursion (λ t. HasSize (kind_of objects t.id.0) (bytes_of objects t.id.0)) ts
    go [] = tt
    go (t ∷ ts) = (sized t.id.0, go ts)
