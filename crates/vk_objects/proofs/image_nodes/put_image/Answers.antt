use Rattle.std.proofs.Common.{◌≡◌, ◌*◌, ◌<◌, length, sym, ◌∙◌, ap, subst, arith}
use Rattle.std.proofs.Math.Facts.{to_z-of_z}
use mir.Val.{to_z, of_z}
use mir.Syntax.{w32}
use Rattle.std.specs.Prelude.{unwrap_or, option_map, Some, pos}
use Rattle.cells.specs.Contents.{cell_at}
use Rattle.cells.proofs.Refills.{refilled-whole}
use Rattle.vk_types.specs.declared.handles.Kind.TheVariants.{Buffer}
use Rattle.vk_model.specs.Texels.{texel_bytes}
use Rattle.vk_model.specs.Cells.{place, buffer_to_image, copy_image, texel_size}
use Rattle.vk_model.specs.Fitting.{format_in}
use Rattle.vk_objects.specs.Images.{kind_of_shape, rect_of, HasRows}
use Rattle.vk_objects.specs.Objects.{bytes_of, kinds_of, HasSize}
use Rattle.vk_objects.proofs.Fits.{bytes_found}
use Rattle.vk_objects.proofs.ImageNodes.{source_rows, rows_are_copied}
use Rattle.vk_objects.proofs.image_nodes.put_image.Goals as goal

pub write_rows-requires-clause-rows : goal.write_rows-requires-clause-rows
write_rows-requires-clause-rows c =
    let old = c.args.objects.now in let src = c.args.src.0 in let from = c.shape-from.result in let shape = c.shape-shape.result in let source = c.of-source.result in let area = c.of-area.result in
    let image = bytes_of old src in let t = texel_size (kind_of_shape from) in let at = place (kind_of_shape from) source.left source.top 0 in
    let image_is : c.in-Some.image.now ≡ image = bytes_found _ c.in-Some.image.now (c.in-Some.ensures ∙ ap (option_map (λ o. o.bytes)) (c.take-bytes.ensures.taken.others src c.requires.apart)) in
    let t_is : c.texel.result ≡ t = c.texel.ensures.size in
    let some : 0 < t = omega (arith, c.texel.ensures.some, t_is) in
    let format : from.format ≡ shape.format = ap (λ o. unwrap_or o 0) (ap format_in (sym c.shape-from.ensures) ∙ c.requires.format ∙ ap format_in c.shape-shape.ensures) in
    let sized : HasSize (Some (kind_of_shape from)) image = subst (λ k. HasSize k image) c.shape-from.ensures c.requires.src_sized in
    let rows : HasRows (length image) at (from.width * t) source.height (source.width * t) = source_rows from source c.of-source.ensures.inside some (length image) sized.1 in
    let same_height : source.height ≡ area.height = ap (λ r. r.h) (c.of-source.ensures.rect ∙ c.rectangle.ensures) ∙ sym (ap (λ r. r.h) c.of-area.ensures.rect) in
    let same_width : source.width ≡ area.width = ap (λ r. r.w) (c.of-source.ensures.rect ∙ c.rectangle.ensures) ∙ sym (ap (λ r. r.w) c.of-area.ensures.rect) in
    let high : HasRows (length image) at (from.width * t) area.height (source.width * t) = subst (λ h. HasRows (length image) at (from.width * t) h (source.width * t)) same_height rows in
    let wide : HasRows (length image) at (from.width * t) area.height (area.width * t) = subst (λ w. HasRows (length image) at (from.width * t) area.height (w * t)) same_width high in
    let sizes : HasRows (length image) at (from.width * t) area.height (area.width * texel_size (kind_of_shape shape)) = subst (λ f. HasRows (length image) at (from.width * t) area.height (area.width * texel_bytes f)) format wide in
    subst (λ b. HasRows (length b) c.place-at.result (from.width * c.texel.result) area.height (area.width * texel_size (kind_of_shape shape))) (sym image_is)
    (subst (λ p. HasRows (length image) p (from.width * c.texel.result) area.height (area.width * texel_size (kind_of_shape shape))) (sym c.place-at.ensures)
    (subst (λ n. HasRows (length image) at (from.width * n) area.height (area.width * texel_size (kind_of_shape shape))) (sym t_is) sizes))

pub returns-clause-copied : goal.returns-clause-copied
returns-clause-copied c =
    let old = c.args.objects.now in let src = c.args.src.0 in let dst = c.args.dst.0 in let rect = c.args.rect in
    let from = c.shape-from.result in let shape = c.shape-shape.result in let source = c.of-source.result in let area = rect_of c.of-area.result in
    let image = bytes_of old src in let t = texel_size (kind_of_shape from) in let at = place (kind_of_shape from) source.left source.top 0 in
    let found = c.in-Some.image.now in let kind = kind_of_shape shape in
    let image_is : found ≡ image = bytes_found _ found (c.in-Some.ensures ∙ ap (option_map (λ o. o.bytes)) (c.take-bytes.ensures.taken.others src c.requires.apart)) in
    let t_is : c.texel.result ≡ t = c.texel.ensures.size in
    let format : from.format ≡ shape.format = ap (λ o. unwrap_or o 0) (ap format_in (sym c.shape-from.ensures) ∙ c.requires.format ∙ ap format_in c.shape-shape.ensures) in
    let len : length c.write_rows.new.bytes ≡ length c.take-bytes.result = c.write_rows.auto.bytes ∙ ap length c.as_mut_slice.ensures.value in
    let new_is : bytes_of c.put_back.new.self dst ≡ c.write_rows.new.bytes = c.put_back.ensures.here ∙ refilled-whole c.take-bytes.result c.write_rows.new.bytes len in
    let old_is : c.as_mut_slice.result.now ≡ bytes_of old dst = c.as_mut_slice.ensures.value ∙ c.take-bytes.ensures.bytes in
    let kind_is : kind ≡ kinds_of old dst = sym (ap (λ k. unwrap_or k (Buffer 0)) c.shape-shape.ensures) in
    let from_is : kind_of_shape from ≡ kinds_of old src = sym (ap (λ k. unwrap_or k (Buffer 0)) c.shape-from.ensures) in
    λ i. ap (λ b. cell_at b i) new_is
    ∙ c.write_rows.ensures i
    ∙ ap (λ b. buffer_to_image kind (cell_at found) c.place-at.result (from.width * c.texel.result) (texel_size kind) area i (cell_at b i)) old_is
    ∙ ap (λ p. buffer_to_image kind (cell_at found) p (from.width * c.texel.result) (texel_size kind) area i (cell_at (bytes_of old dst) i)) c.place-at.ensures
    ∙ ap (λ n. buffer_to_image kind (cell_at found) at (from.width * n) (texel_size kind) area i (cell_at (bytes_of old dst) i)) t_is
    ∙ rows_are_copied (kind_of_shape from) kind source.left source.top (cell_at found) area i (cell_at (bytes_of old dst) i) (ap texel_bytes format)
    ∙ ap (λ b. copy_image (kind_of_shape from) kind (cell_at b) (pos source.left) (pos source.top) area i (cell_at (bytes_of old dst) i)) image_is
    ∙ ap (λ r. copy_image (kind_of_shape from) kind (cell_at image) r.x r.y area i (cell_at (bytes_of old dst) i)) (c.of-source.ensures.rect ∙ c.rectangle.ensures)
    ∙ ap (λ x. copy_image (kind_of_shape from) kind (cell_at image) x (to_z w32 (of_z w32 c.args.src_y)) area i (cell_at (bytes_of old dst) i)) (to_z-of_z {w = w32} {z = c.args.src_x} c.ranges.src_x)
    ∙ ap (λ y. copy_image (kind_of_shape from) kind (cell_at image) c.args.src_x y area i (cell_at (bytes_of old dst) i)) (to_z-of_z {w = w32} {z = c.args.src_y} c.ranges.src_y)
    ∙ ap (λ k. copy_image k kind (cell_at image) c.args.src_x c.args.src_y area i (cell_at (bytes_of old dst) i)) from_is
    ∙ ap (λ k. copy_image (kinds_of old src) k (cell_at image) c.args.src_x c.args.src_y area i (cell_at (bytes_of old dst) i)) kind_is
    ∙ ap (λ r. copy_image (kinds_of old src) (kinds_of old dst) (cell_at image) c.args.src_x c.args.src_y r i (cell_at (bytes_of old dst) i)) c.of-area.ensures.rect
