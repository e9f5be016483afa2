use Rattle.std.proofs.Common.{◌≡◌, ◌≢◌, ◌*◌, length, sym, ◌∙◌, ap, subst, arith}
use Rattle.std.specs.Prelude.{unwrap_or, option_map}
use Rattle.cells.specs.Contents.{cell_at}
use Rattle.cells.proofs.Refills.{refilled-whole}
use Rattle.vk_types.specs.declared.handles.Kind.TheVariants.{Buffer}
use Rattle.vk_types.specs.Touches.{rows_size}
use Rattle.vk_model.specs.Cells.{buffer_to_image, texel_size}
use Rattle.vk_objects.specs.Images.{kind_of_shape, rect_of, HasRows}
use Rattle.vk_objects.specs.Objects.{kind_of, bytes_of, kinds_of}
use Rattle.vk_objects.proofs.Fits.{range_inside, buffer_is_no_image, bytes_found, row_in_rows}
use Rattle.vk_objects.proofs.image_nodes.put_rows.Goals as goal

pub write_rows-requires-clause-rows : goal.write_rows-requires-clause-rows
write_rows-requires-clause-rows c =
    let old = c.args.objects.now in let src = c.args.src.0 in let dst = c.args.dst.0 in let rect = c.args.rect in let t = texel_size (kinds_of old dst) in
    let apart : src ≢ dst = buffer_is_no_image (kind_of old) src dst c.args.src_at (rows_size rect c.args.stride t) rect c.requires.src c.requires.rect in
    let from_is : c.in-Some.from.now ≡ bytes_of old src = bytes_found _ c.in-Some.from.now (c.in-Some.ensures ∙ ap (option_map (λ o. o.bytes)) (c.take-bytes.ensures.taken.others src apart)) in
    let fits = range_inside (kind_of old src) (bytes_of old src) c.args.src_at (rows_size rect c.args.stride t) c.requires.src c.requires.src_sized in
    let kind_is : kinds_of old dst ≡ kind_of_shape c.shape-shape.result = ap (λ k. unwrap_or k (Buffer 0)) c.shape-shape.ensures in
    let rows : HasRows (length (bytes_of old src)) c.args.src_at c.args.stride rect.h (rect.w * t) = λ k lt. omega (arith, row_in_rows rect c.args.stride t fits.0 k lt, fits.1) in
    subst (λ b. HasRows (length b) c.args.src_at c.args.stride c.of-area.result.height (c.of-area.result.width * texel_size (kind_of_shape c.shape-shape.result))) (sym from_is)
    (subst (λ r. HasRows (length (bytes_of old src)) c.args.src_at c.args.stride r.h (r.w * texel_size (kind_of_shape c.shape-shape.result))) (sym c.of-area.ensures.rect)
    (subst (λ k. HasRows (length (bytes_of old src)) c.args.src_at c.args.stride rect.h (rect.w * texel_size k)) kind_is rows))

pub returns-clause-written : goal.returns-clause-written
returns-clause-written c =
    let old = c.args.objects.now in let src = c.args.src.0 in let dst = c.args.dst.0 in let rect = c.args.rect in let t = texel_size (kinds_of old dst) in
    let at = c.args.src_at in let stride = c.args.stride in let kind = kind_of_shape c.shape-shape.result in let area = rect_of c.of-area.result in
    let apart : src ≢ dst = buffer_is_no_image (kind_of old) src dst at (rows_size rect stride t) rect c.requires.src c.requires.rect in
    let from_is : c.in-Some.from.now ≡ bytes_of old src = bytes_found _ c.in-Some.from.now (c.in-Some.ensures ∙ ap (option_map (λ o. o.bytes)) (c.take-bytes.ensures.taken.others src apart)) in
    let len : length c.write_rows.new.bytes ≡ length c.take-bytes.result = c.write_rows.auto.bytes ∙ ap length c.as_mut_slice.ensures.value in
    let new_is : bytes_of c.put_back.new.self dst ≡ c.write_rows.new.bytes = c.put_back.ensures.here ∙ refilled-whole c.take-bytes.result c.write_rows.new.bytes len in
    let old_is : c.as_mut_slice.result.now ≡ bytes_of old dst = c.as_mut_slice.ensures.value ∙ c.take-bytes.ensures.bytes in
    let kind_is : kind ≡ kinds_of old dst = sym (ap (λ k. unwrap_or k (Buffer 0)) c.shape-shape.ensures) in
    λ i. ap (λ b. cell_at b i) new_is
    ∙ c.write_rows.ensures i
    ∙ ap (λ b. buffer_to_image kind (cell_at c.in-Some.from.now) at stride (texel_size kind) area i (cell_at b i)) old_is
    ∙ ap (λ k. buffer_to_image k (cell_at c.in-Some.from.now) at stride (texel_size k) area i (cell_at (bytes_of old dst) i)) kind_is
    ∙ ap (λ r. buffer_to_image (kinds_of old dst) (cell_at c.in-Some.from.now) at stride t r i (cell_at (bytes_of old dst) i)) c.of-area.ensures.rect
    ∙ ap (λ b. buffer_to_image (kinds_of old dst) (cell_at b) at stride t rect i (cell_at (bytes_of old dst) i)) from_is
