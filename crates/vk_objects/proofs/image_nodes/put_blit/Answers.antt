use Rattle.std.proofs.Common.{◌≡◌, length, sym, ◌∙◌, ap}
use Rattle.std.specs.Prelude.{unwrap_or, option_map}
use Rattle.cells.specs.Contents.{cell_at}
use Rattle.cells.proofs.Refills.{refilled-whole}
use Rattle.vk_types.specs.declared.handles.Kind.TheVariants.{Buffer}
use Rattle.vk_model.specs.Cells.{blit_image}
use Rattle.vk_objects.specs.Images.{kind_of_shape, rect_of}
use Rattle.vk_objects.specs.Objects.{bytes_of, kinds_of}
use Rattle.vk_objects.proofs.Fits.{bytes_found}
use Rattle.vk_objects.proofs.image_nodes.put_blit.Goals as goal

pub returns-clause-blitted : goal.returns-clause-blitted
returns-clause-blitted c =
    let old = c.args.objects.now in let src = c.args.src.0 in let dst = c.args.dst.0 in let coords = c.args.coords.now in
    let from = kind_of_shape c.shape-source.result in let kind = kind_of_shape c.shape-shape.result in let area = rect_of c.of-area.result in let found = c.in-Some.image.now in
    let image_is : found ≡ bytes_of old src = bytes_found _ found (c.in-Some.ensures ∙ ap (option_map (λ o. o.bytes)) (c.take-bytes.ensures.taken.others src c.requires.apart)) in
    let len : length c.blit.new.bytes ≡ length c.take-bytes.result = c.blit.auto.bytes ∙ ap length c.as_mut_slice.ensures.value in
    let new_is : bytes_of c.put_back.new.self dst ≡ c.blit.new.bytes = c.put_back.ensures.here ∙ refilled-whole c.take-bytes.result c.blit.new.bytes len in
    let old_is : c.as_mut_slice.result.now ≡ bytes_of old dst = c.as_mut_slice.ensures.value ∙ c.take-bytes.ensures.bytes in
    let kind_is : kind ≡ kinds_of old dst = sym (ap (λ k. unwrap_or k (Buffer 0)) c.shape-shape.ensures) in
    let from_is : from ≡ kinds_of old src = sym (ap (λ k. unwrap_or k (Buffer 0)) c.shape-source.ensures) in
    λ i. ap (λ b. cell_at b i) new_is
    ∙ c.blit.ensures i
    ∙ ap (λ b. blit_image from kind (cell_at found) coords area i (cell_at b i)) old_is
    ∙ ap (λ b. blit_image from kind (cell_at b) coords area i (cell_at (bytes_of old dst) i)) image_is
    ∙ ap (λ k. blit_image k kind (cell_at (bytes_of old src)) coords area i (cell_at (bytes_of old dst) i)) from_is
    ∙ ap (λ k. blit_image (kinds_of old src) k (cell_at (bytes_of old src)) coords area i (cell_at (bytes_of old dst) i)) kind_is
    ∙ ap (λ r. blit_image (kinds_of old src) (kinds_of old dst) (cell_at (bytes_of old src)) coords r i (cell_at (bytes_of old dst) i)) c.of-area.ensures.rect
