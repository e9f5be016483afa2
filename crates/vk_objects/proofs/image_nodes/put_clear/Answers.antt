use Rattle.std.proofs.Common.{◌≡◌, length, sym, ◌∙◌, ap}
use Rattle.std.specs.Prelude.{unwrap_or}
use Rattle.cells.specs.Contents.{cell_at}
use Rattle.cells.proofs.Refills.{refilled-whole}
use Rattle.vk_types.specs.declared.handles.Kind.TheVariants.{Buffer}
use Rattle.vk_model.specs.Cells.{clear_image}
use Rattle.vk_objects.specs.Images.{kind_of_shape, rect_of}
use Rattle.vk_objects.specs.Objects.{bytes_of, kinds_of}
use Rattle.vk_objects.proofs.image_nodes.put_clear.Goals as goal

pub returns-clause-cleared : goal.returns-clause-cleared
returns-clause-cleared c =
    let old = c.args.objects.now in let id = c.args.image.0 in let texel = c.args.texel.now in
    let len : length c.clear.new.bytes ≡ length c.take-bytes.result = c.clear.auto.bytes ∙ ap length c.as_mut_slice.ensures.value in
    let new_is : bytes_of c.put_back.new.self id ≡ c.clear.new.bytes = c.put_back.ensures.here ∙ refilled-whole c.take-bytes.result c.clear.new.bytes len in
    let old_is : c.as_mut_slice.result.now ≡ bytes_of old id = c.as_mut_slice.ensures.value ∙ c.take-bytes.ensures.bytes in
    let kind_is : kind_of_shape c.shape-shape.result ≡ kinds_of old id = sym (ap (λ k. unwrap_or k (Buffer 0)) c.shape-shape.ensures) in
    λ i. ap (λ b. cell_at b i) new_is
    ∙ c.clear.ensures i
    ∙ ap (λ b. clear_image (kind_of_shape c.shape-shape.result) (rect_of c.of-area.result) texel i (cell_at b i)) old_is
    ∙ ap (λ k. clear_image k (rect_of c.of-area.result) texel i (cell_at (bytes_of old id) i)) kind_is
    ∙ ap (λ r. clear_image (kinds_of old id) r texel i (cell_at (bytes_of old id) i)) c.of-area.ensures.rect
