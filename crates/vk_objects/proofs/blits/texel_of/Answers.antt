use Rattle.std.proofs.Common.{◌+◌, ◌≤◌, length, sym, ◌∙◌, ap, subst}
use Rattle.cells.specs.Contents.{part}
use Rattle.vk_model.specs.Cells.{place, texel_size}
use Rattle.vk_objects.specs.Images.{kind_of_shape}
use Rattle.vk_model.proofs.Parts.{length-part}
use Rattle.vk_objects.proofs.ImageNodes.{texel_fits}
use Rattle.vk_objects.proofs.PassSteps.{texel_some}
use Rattle.vk_objects.proofs.blits.texel_of.Goals as goal

pub row_of-requires : goal.row_of-requires
row_of-requires c =
    let s = c.args.shape in let image = c.args.image.now in let start = place (kind_of_shape s) c.args.column c.args.row 0 in
    let fits : start + texel_size (kind_of_shape s) ≤ length image = texel_fits s c.args.column c.args.row (length image) (texel_some s) c.requires.column c.requires.row c.requires.whole in
    subst (λ t. c.place.result + t ≤ length image) (sym c.texel.ensures.size) (subst (λ p. p + texel_size (kind_of_shape s) ≤ length image) (sym c.place.ensures) fits)

pub returns-clause-size : goal.returns-clause-size
returns-clause-size c =
    let s = c.args.shape in let image = c.args.image.now in let start = place (kind_of_shape s) c.args.column c.args.row 0 in
    let fits : start + texel_size (kind_of_shape s) ≤ length image = texel_fits s c.args.column c.args.row (length image) (texel_some s) c.requires.column c.requires.row c.requires.whole in
    ap length c.row_of.ensures ∙ ap (λ p. length (part image p c.texel.result)) c.place.ensures ∙ ap (λ t. length (part image start t)) c.texel.ensures.size ∙ length-part image start (texel_size (kind_of_shape s)) fits
