use Rattle.std.proofs.Common.{◌≡◌, ◌≢◌, ℕ, ◌*◌, List, length, sym, ◌∙◌, ap, subst, arith}
use Rattle.std.specs.Prelude.{unwrap_or, option_map}
use Rattle.cells.proofs.Refills.{refilled-whole}
use Rattle.vk_types.specs.declared.handles.Kind.{Kind}
use Rattle.vk_types.specs.declared.handles.Kind.TheVariants.{Buffer}
use Rattle.vk_types.specs.declared.regions.Rect.{Rect}
use Rattle.vk_types.specs.Touches.{rows_size, buffer_texel}
use Rattle.vk_model.specs.Cells.{texel_size}
use Rattle.vk_objects.specs.Images.{kind_of_shape, rect_of, HasRows}
use Rattle.vk_objects.specs.Rows.{row_byte, HasOutRows}
use Rattle.vk_objects.specs.Objects.{kind_of, bytes_of, kinds_of}
use Rattle.vk_objects.proofs.Fits.{buffer_is_no_image, bytes_found, range_inside, row_in_rows}
use Rattle.vk_objects.proofs.image_nodes.put_out_rows.Goals as goal

pub read_area-requires-clause-rows : goal.read_area-requires-clause-rows
read_area-requires-clause-rows c =
    let old = c.args.objects.now in let src = c.args.src.0 in let dst = c.args.dst.0 in let rect = c.args.rect in let at = c.args.dst_at in let stride = c.args.stride in let expand = c.args.expand in
    let size = buffer_texel (texel_size (kinds_of old src)) expand in
    let fits = range_inside (kind_of old dst) (bytes_of old dst) at (rows_size rect stride size) c.requires.dst c.requires.sized in
    let kind_is : kinds_of old src ≡ kind_of_shape c.shape-shape.result = ap (λ k. unwrap_or k (Buffer 0)) c.shape-shape.ensures in
    let bytes_is : c.as_mut_slice.result.now ≡ bytes_of old dst = c.as_mut_slice.ensures.value ∙ c.take-bytes.ensures.bytes in
    let rows : HasRows (length (bytes_of old dst)) at stride rect.h (rect.w * size) = λ k lt. omega (arith, row_in_rows rect stride size fits.0 k lt, fits.1) in
    subst (λ b. HasRows (length b) at stride c.of-area.result.height (c.of-area.result.width * buffer_texel (texel_size (kind_of_shape c.shape-shape.result)) expand)) (sym bytes_is)
    (subst (λ r. HasRows (length (bytes_of old dst)) at stride r.h (r.w * buffer_texel (texel_size (kind_of_shape c.shape-shape.result)) expand)) (sym c.of-area.ensures.rect)
    (subst (λ k. HasRows (length (bytes_of old dst)) at stride rect.h (rect.w * buffer_texel (texel_size k) expand)) kind_is rows))

pub returns-clause-rows : goal.returns-clause-rows
returns-clause-rows c =
    let old = c.args.objects.now in let src = c.args.src.0 in let dst = c.args.dst.0 in let rect = c.args.rect in let at = c.args.dst_at in let stride = c.args.stride in let expand = c.args.expand in
    let kind = kind_of_shape c.shape-shape.result in let area = rect_of c.of-area.result in let found = c.in-Some.image.now in let new = bytes_of c.put_back.new.self dst in
    let apart : dst ≢ src = buffer_is_no_image (kind_of old) dst src at (rows_size rect stride (buffer_texel (texel_size (kinds_of old src)) expand)) rect c.requires.dst c.requires.rect in
    let image_is : found ≡ bytes_of old src = bytes_found _ found (c.in-Some.ensures ∙ ap (option_map (λ o. o.bytes)) (c.take-bytes.ensures.taken.others src (λ e. apart (sym e)))) in
    let len : length c.read_area.new.bytes ≡ length c.take-bytes.result = c.read_area.auto.bytes ∙ ap length c.as_mut_slice.ensures.value in
    let new_is : new ≡ c.read_area.new.bytes = c.put_back.ensures.here ∙ refilled-whole c.take-bytes.result c.read_area.new.bytes len in
    let old_is : c.as_mut_slice.result.now ≡ bytes_of old dst = c.as_mut_slice.ensures.value ∙ c.take-bytes.ensures.bytes in
    let kind_is : kind ≡ kinds_of old src = sym (ap (λ k. unwrap_or k (Buffer 0)) c.shape-shape.ensures) in
    let rows : Rect → Kind → List ℕ → List ℕ → List ℕ → Type 0 = λ r k image o n. HasOutRows o n at (r.w * buffer_texel (texel_size k) expand) stride r.h (row_byte k image r (buffer_texel (texel_size k) expand) expand) in
    subst (λ b. rows rect (kinds_of old src) (bytes_of old src) (bytes_of old dst) b) (sym new_is)
    (subst (λ b. rows rect (kinds_of old src) (bytes_of old src) b c.read_area.new.bytes) old_is
    (subst (λ b. rows rect (kinds_of old src) b c.as_mut_slice.result.now c.read_area.new.bytes) image_is
    (subst (λ k. rows rect k found c.as_mut_slice.result.now c.read_area.new.bytes) kind_is
    (subst (λ r. rows r kind found c.as_mut_slice.result.now c.read_area.new.bytes) c.of-area.ensures.rect c.read_area.ensures))))
