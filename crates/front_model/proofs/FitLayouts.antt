-- A node that fits names a layout for each image that it touches, and none for buffers.
use Rattle.std.proofs.Common.{◌≡◌, ◌≢◌, ℕ, Bool, true, false, List, [], ◌∷◌, refl, sym, subst}
use Rattle.std.specs.Prelude.{Option, Some, None, is_some, Contains, unwrap_or}
use Rattle.std.specs.List.{AllByRecursion}
use Rattle.std.proofs.lemmas.Option.{none-some, same_Some}
use Rattle.std.proofs.lemmas.List.Elements.{All-contains, All-from_recursion}
use Rattle.vk_types.specs.declared.accesses.Layout.{Layout}
use Rattle.vk_types.specs.declared.accesses.Layout.TheVariants.{Undefined, TransferSrc, TransferDst, ColorAttachment}
use Rattle.vk_types.specs.declared.handles.Kind.{Kind}
use Rattle.vk_types.specs.declared.handles.Kind.TheVariants.{Buffer, Image}
use Rattle.vk_types.specs.declared.regions.Rect.{Rect}
use Rattle.vk_types.specs.declared.regions.Touch.{Touch}
use Rattle.vk_types.specs.declared.ops.Op.{Op}
use Rattle.vk_types.specs.declared.ops.Op.TheVariants.{CopyBuffer, BufferToImage, ImageToBuffer, CopyImage, BlitImage, ClearImage, FillBuffer, PassPart}
use Rattle.vk_types.specs.declared.ops.Node.{Node}
use Rattle.vk_types.specs.Accesses.{transfer_read, transfer_write, color}
use Rattle.vk_types.specs.Touches.{touches, op_touches, barrier_of, op_barrier, part, whole, rows_size, buffer_texel}
use Rattle.vk_model.specs.Fitting.{HasRange, HasRect, IsImage, OpFits, NodeFits}
use Rattle.barriers.specs.Recording.{HasLayouts}
use Rattle.back_core.specs.Link.{Link}
use Rattle.object_helper.specs.Objects.{is_image}
use Rattle.front_model.specs.Stands.{is_image_of}

-- whether an object of this kind, or of none, is an image
abbrev image_in : Option Kind → Bool
image_in k = is_image (unwrap_or k (Buffer 0))

of_range : (k : Option Kind) (at size : ℕ) → HasRange k at size → false ≡ image_in k
of_range None at size has = refl
of_range (Some (Buffer len)) at size has = refl
of_range (Some (Image format width height)) at size has = absurd has

of_rect : (k : Option Kind) (rect : Rect) → HasRect k rect → true ≡ image_in k
of_rect None rect has = absurd has
of_rect (Some (Buffer len)) rect has = absurd has
of_rect (Some (Image format width height)) rect has = refl

of_image : (k : Option Kind) → IsImage k → true ≡ image_in k
of_image None has = absurd has
of_image (Some (Buffer len)) has = absurd has
of_image (Some (Image format width height)) has = refl

not_both : (k : Option Kind) (at size : ℕ) (rect : Rect) → HasRange k at size → HasRect k rect → ⊥
not_both None at size rect range has = has
not_both (Some (Buffer len)) at size rect range has = has
not_both (Some (Image format width height)) at size rect range has = range

-- layouts that are there are not Undefined
src_defined : Some TransferSrc ≢ Some Undefined
src_defined e = let same : TransferSrc ≡ Undefined = same_Some TransferSrc Undefined e in cc

dst_defined : Some TransferDst ≢ Some Undefined
dst_defined e = let same : TransferDst ≡ Undefined = same_Some TransferDst Undefined e in cc

color_defined : Some ColorAttachment ≢ Some Undefined
color_defined e = let same : ColorAttachment ≡ Undefined = same_Some ColorAttachment Undefined e in cc

none_defined : ◌≢◌ {A = Option Layout} None (Some Undefined)
none_defined e = none-some Undefined e

module _ (made : ℕ → Option Kind) where
  abbrev Right : Touch → Type 0
  Right t = (is_some t.layout ≡ image_in (made t.id.0)) × (t.layout ≢ Some Undefined)

  op_right : (o : Op) → op_barrier o ≡ None → OpFits made o → AllByRecursion Right (op_touches o)
  op_right (CopyBuffer src src_at dst dst_at size) device fits = ((of_range (made src.0) src_at size fits.0, none_defined), ((of_range (made dst.0) dst_at size fits.1, none_defined), tt))
  op_right (BufferToImage src src_at stride texel_size dst rect) device fits =
      ((of_range (made src.0) src_at (rows_size rect stride texel_size) fits.0, none_defined), ((of_rect (made dst.0) rect fits.1, dst_defined), tt))
  op_right (ImageToBuffer src rect dst dst_at stride texel_size expand) device fits =
      ((of_rect (made src.0) rect fits.0, src_defined), ((of_range (made dst.0) dst_at (rows_size rect stride (buffer_texel texel_size expand)) fits.2, none_defined), tt))
  op_right (CopyImage src src_x src_y dst rect) device fits =
      ((of_rect (made src.0) (record { x = src_x; y = src_y; w = rect.w; h = rect.h }) fits.0, src_defined), ((of_rect (made dst.0) rect fits.1, dst_defined), tt))
  op_right (BlitImage src dst coords clip) device fits = ((of_image (made src.0) fits.0, src_defined), ((of_rect (made dst.0) clip fits.1, dst_defined), tt))
  op_right (ClearImage image rect texel) device fits = ((of_rect (made image.0) rect fits, dst_defined), tt)
  op_right (FillBuffer dst dst_at size byte) device fits = ((of_range (made dst.0) dst_at size fits, none_defined), tt)
  op_right (PassPart _ _ image _ _ clears) device fits = ((of_image (made image.0) fits.0, color_defined), tt)
  op_right (Op.Barrier barrier) device fits = absurd (none-some barrier (sym device))

  -- touches of one object have one layout
  abbrev SameLayout : Touch → Touch → Type 0
  SameLayout t u = t.id.0 ≡ u.id.0 → t.layout ≡ u.layout

  abbrev One : List Touch → Type 0
  One ts = AllByRecursion (λ t. AllByRecursion (SameLayout t) ts) ts

  of_one : (t : Touch) → One (t ∷ [])
  of_one t = ((λ e. refl, tt), tt)

  of_two : (t u : Touch) → SameLayout t u → One (t ∷ u ∷ [])
  of_two t u same = ((λ e. refl, (same, tt)), ((λ e. sym (same (sym e)), (λ e. refl, tt)), tt))

  op_one : (o : Op) → op_barrier o ≡ None → OpFits made o → One (op_touches o)
  op_one (CopyBuffer src src_at dst dst_at size) device fits = of_two (part src src_at size transfer_read) (part dst dst_at size transfer_write) (λ e. refl)
  op_one (BufferToImage src src_at stride texel_size dst rect) device fits =
      of_two (part src src_at (rows_size rect stride texel_size) transfer_read) (whole dst transfer_write (Some TransferDst))
      (λ e. absurd (not_both (made dst.0) src_at (rows_size rect stride texel_size) rect (subst (λ j. HasRange (made j) src_at (rows_size rect stride texel_size)) e fits.0) fits.1))
  op_one (ImageToBuffer src rect dst dst_at stride texel_size expand) device fits =
      of_two (whole src transfer_read (Some TransferSrc)) (part dst dst_at (rows_size rect stride (buffer_texel texel_size expand)) transfer_write)
      (λ e. absurd (not_both (made dst.0) dst_at (rows_size rect stride (buffer_texel texel_size expand)) rect fits.2 (subst (λ j. HasRect (made j) rect) e fits.0)))
  op_one (CopyImage src src_x src_y dst rect) device fits = of_two (whole src transfer_read (Some TransferSrc)) (whole dst transfer_write (Some TransferDst)) (λ e. absurd (fits.3 e))
  op_one (BlitImage src dst coords clip) device fits = of_two (whole src transfer_read (Some TransferSrc)) (whole dst transfer_write (Some TransferDst)) (λ e. absurd (fits.2 e))
  op_one (ClearImage image rect texel) device fits = of_one (whole image transfer_write (Some TransferDst))
  op_one (FillBuffer dst dst_at size byte) device fits = of_one (part dst dst_at size transfer_write)
  op_one (PassPart _ _ image _ _ clears) device fits = of_one (whole image color (Some ColorAttachment))
  op_one (Op.Barrier barrier) device fits = absurd (none-some barrier (sym device))

  each : (P : Touch → Type 0) (ts : List Touch) → AllByRecursion P ts → (t : Touch) → Contains ts t → P t
  each P ts all t has = All-contains P ts t (All-from_recursion P ts all) has

pub fit_layouts : (s : Link) (n : Node) → barrier_of n ≡ None → NodeFits s.kinds n → HasLayouts (is_image_of s) n
fit_layouts s n device fits = record {
  images = λ t has. (right t has).0;
  defined = λ t has. (right t has).1;
  one = λ t u has also. each s.kinds (SameLayout s.kinds t) (touches n) (each s.kinds (λ t. AllByRecursion (SameLayout s.kinds t) (touches n)) (touches n) (op_one s.kinds n.op device fits) t has) u also;
}
  where
    right : (t : Touch) → Contains (touches n) t → Right s.kinds t
    right t has = each s.kinds (Right s.kinds) (touches n) (op_right s.kinds n.op device fits) t has
