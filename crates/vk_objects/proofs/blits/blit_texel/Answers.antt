use Rattle.std.proofs.Common.{◌≡◌, ◌+◌, ◌≤◌, length, sym, ◌∙◌, ap, subst}
use Rattle.cells.specs.Contents.{part, overwritten}
use Rattle.vk_model.specs.Texels.{converted_texel}
use Rattle.vk_model.specs.Cells.{place, texel_size}
use Rattle.vk_objects.specs.Images.{kind_of_shape}
use Rattle.vk_objects.specs.Blits.{HasTexel}
use Rattle.vk_objects.proofs.ImageNodes.{texel_fits}
use Rattle.vk_objects.proofs.PassSteps.{texel_some}
use Rattle.vk_objects.proofs.BlitSteps.{no_row_read, texel_read}
use Rattle.vk_objects.proofs.blits.blit_texel.Goals as goal

pub put_converted-requires-clause-fits : goal.put_converted-requires-clause-fits
put_converted-requires-clause-fits c =
    let s = c.args.shape in
    subst (λ p. p + texel_size (kind_of_shape s) ≤ length c.args.bytes.now) (sym c.place.ensures) (texel_fits s c.args.column c.args.row (length c.args.bytes.now) (texel_some s) c.requires.column c.requires.row c.requires.whole)

pub returns-in_default-source_row : goal.returns-in_default-source_row
returns-in_default-source_row c = no_row_read c.args.shape c.args.source c.args.from.now c.args.bytes.now c.args.coords.now c.args.column c.args.row (sym c.source_row.ensures.value ∙ c.in_default-source_row.is)

pub returns : goal.returns
returns c =
    let s = c.args.shape in let source = c.args.source in let image = c.args.from.now in let bytes = c.args.bytes.now in let x = c.in-Some.x in let y = c.in-Some-source_row.y in
    let fits : place (kind_of_shape s) c.args.column c.args.row 0 + texel_size (kind_of_shape s) ≤ length bytes = texel_fits s c.args.column c.args.row (length bytes) (texel_some s) c.requires.column c.requires.row c.requires.whole in
    let new_is : c.put_converted.new.bytes ≡ overwritten bytes (place (kind_of_shape s) c.args.column c.args.row 0) (converted_texel source.format s.format (part image (place (kind_of_shape source) x y 0) (texel_size (kind_of_shape source)))) =
    c.put_converted.ensures ∙ ap (λ p. overwritten bytes p (converted_texel source.format s.format c.texel_of-texel.result.now)) c.place.ensures ∙ ap (λ t. overwritten bytes (place (kind_of_shape s) c.args.column c.args.row 0) (converted_texel source.format s.format t)) c.texel_of-texel.ensures.texel in
    subst (λ b. HasTexel bytes b (kind_of_shape source) (kind_of_shape s) image c.args.coords.now c.args.column c.args.row) (sym new_is)
    (texel_read s source image bytes c.args.coords.now c.args.column c.args.row x y (sym c.source_column.ensures.value ∙ c.in-Some.is) (sym c.source_row.ensures.value ∙ c.in-Some-source_row.is) c.in-Some.ensures.bound c.in-Some-source_row.ensures.bound c.requires.source_whole (λ i. (c.type_inv.from i).fits) fits)
