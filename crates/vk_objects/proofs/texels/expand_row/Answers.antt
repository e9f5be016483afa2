use mathlib.Core.Path.{fun_ext}
use Rattle.std.proofs.Common.{◌≡◌, ℕ, ◌+◌, ◌*◌, ◌/◌, ◌%◌, ◌<◌, ◌≤◌, length, get_or, true, sym, ◌∙◌, ap, subst, arith}
use Rattle.std.specs.Prelude.{slice_index}
use Rattle.std.proofs.Math.Nat.{mul-le-mul_right}
use Rattle.std.proofs.lemmas.Grind.{get_or_default_zero}
use Rattle.std.proofs.lemmas.Nat.{div-mul-add, mod-mul-add}
use Rattle.cells.specs.Contents.{UNDEFINED, cell_at, part, overwritten}
use Rattle.vk_model.specs.Texels.{expanded_texel}
use Rattle.vk_model.specs.Cells.{place, texel_size, texel_to_buffer, converted}
use Rattle.vk_objects.specs.Images.{kind_of_shape}
use Rattle.vk_objects.specs.Rows.{HasRow}
use Rattle.vk_model.proofs.Parts.{length-part}
use Rattle.vk_objects.proofs.ImageNodes.{texel_fits}
use Rattle.vk_objects.proofs.PassSteps.{texel_some}
use Rattle.vk_objects.proofs.Expanding.{texel_converted, row_more, expanded_len}
use Rattle.vk_objects.proofs.texels.expand_row.Goals as goal

pub row_of-texel-requires : goal.row_of-texel-requires
row_of-texel-requires c =
    let s = c.args.shape in let image = c.args.image.now in let column = c.args.left + c.loop-x.x in
    let fits : place (kind_of_shape s) column c.args.row 0 + texel_size (kind_of_shape s) ≤ length image = texel_fits s column c.args.row (length image) (texel_some s) (omega (arith, c.requires.columns, c.loop-x-test.true)) c.requires.row c.requires.whole in
    subst (λ t. c.place.result + t ≤ length image) (sym c.texel.ensures.size) (subst (λ p. p + texel_size (kind_of_shape s) ≤ length image) (sym c.place.ensures) fits)

pub expanded-requires-clause-size : goal.expanded-requires-clause-size
expanded-requires-clause-size c =
    let s = c.args.shape in let image = c.args.image.now in let column = c.args.left + c.loop-x.x in
    let fits : place (kind_of_shape s) column c.args.row 0 + texel_size (kind_of_shape s) ≤ length image = texel_fits s column c.args.row (length image) (texel_some s) (omega (arith, c.requires.columns, c.loop-x-test.true)) c.requires.row c.requires.whole in
    ap length c.row_of-texel.ensures ∙ ap (λ p. length (part image p c.texel.result)) c.place.ensures ∙ ap (λ t. length (part image (place (kind_of_shape s) column c.args.row 0) t)) c.texel.ensures.size
    ∙ length-part image (place (kind_of_shape s) column c.args.row 0) (texel_size (kind_of_shape s)) fits

pub loop-x-preserved : goal.loop-x-preserved
loop-x-preserved c =
    let s = c.args.shape in let kind = kind_of_shape s in let image = c.args.image.now in let x = c.loop-x.x in let column = c.args.left + x in let at = c.args.at in
    let start = place kind column c.args.row 0 in let t = texel_size kind in let now = c.loop-x.bytes in let piece = c.expanded.result in
    let g : ℕ → ℕ = λ j. texel_to_buffer kind (cell_at image) true (c.args.left + j / 16) c.args.row (j % 16) in
    let fits : start + t ≤ length image = texel_fits s column c.args.row (length image) (texel_some s) (omega (arith, c.requires.columns, c.loop-x-test.true)) c.requires.row c.requires.whole in
    let texel_is : c.row_of-texel.result.now ≡ part image start t = c.row_of-texel.ensures ∙ ap (λ p. part image p c.texel.result) c.place.ensures ∙ ap (part image start) c.texel.ensures.size in
    let piece_is : piece ≡ expanded_texel s.format (part image start t) = c.expanded.ensures ∙ ap (expanded_texel s.format) texel_is in
    let len : length piece ≡ 16 = ap length piece_is ∙ expanded_len s.format (part image start t) in
    let rows : (x + 1) * 16 ≤ c.args.count * 16 = mul-le-mul_right 16 (omega (arith, c.loop-x-test.true)) in
    let has : at + x * 16 + 16 ≤ length now = omega (arith, rows, c.requires.fits, c.loop-x.auto.bytes) in
    let small : (i : ℕ) → get_or image i 0 < 256 = λ i. (c.type_inv.image i).fits in
    let row : HasRow c.args.bytes.now (overwritten now (at + x * 16) piece) at ((x + 1) * 16) g = row_more c.args.bytes.now now piece at x 16 g c.loop-x.invariant len has (λ b lt.
    let texel : texel_to_buffer kind (cell_at image) true column c.args.row b ≡ slice_index (expanded_texel s.format (part image start t)) b =
    (let places : (b : ℕ) → place kind column c.args.row b ≡ start + b = λ b. omega arith in
    ap (λ f. converted (expanded_texel s.format) f t b) (fun_ext (λ b. ap (cell_at image) (places b))) ∙ texel_converted image small start (expanded_texel s.format) t b fits) in
    get_or_default_zero piece b UNDEFINED (omega (arith, len, lt))
    ∙ ap (λ l. slice_index l b) piece_is
    ∙ sym texel
    ∙ ap (λ n. texel_to_buffer kind (cell_at image) true (c.args.left + n) c.args.row b) (sym (div-mul-add x 16 b lt))
    ∙ ap (texel_to_buffer kind (cell_at image) true (c.args.left + (x * 16 + b) / 16) c.args.row) (sym (mod-mul-add x 16 b lt))) in
    subst (λ l. HasRow c.args.bytes.now l at ((x + 1) * 16) g) (sym c.put.ensures) row
