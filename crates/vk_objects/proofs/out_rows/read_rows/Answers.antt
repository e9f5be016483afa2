use Rattle.std.proofs.Common.{◌≡◌, ◌+◌, ◌*◌, ◌<◌, ◌≤◌, length, false, sym, ◌∙◌, ap, subst, arith}
use Rattle.cells.specs.Contents.{part, overwritten}
use Rattle.vk_model.specs.Cells.{place, texel_size}
use Rattle.vk_objects.specs.Images.{kind_of_shape, rect_of}
use Rattle.vk_objects.specs.Rows.{row_byte, HasRow}
use Rattle.vk_objects.proofs.ImageNodes.{row_fits}
use Rattle.vk_objects.proofs.OutRows.{no_out_rows, out_row_step, plain_row}
use Rattle.vk_objects.proofs.out_rows.read_rows.Goals as goal

pub loop-k-init : goal.loop-k-init
loop-k-init c = no_out_rows c.args.bytes.now c.args.at (c.args.area.width * texel_size (kind_of_shape c.args.shape)) c.args.stride (row_byte (kind_of_shape c.args.shape) c.args.image.now (rect_of c.args.area) (texel_size (kind_of_shape c.args.shape)) false)

pub row_of-row-requires : goal.row_of-row-requires
row_of-row-requires c =
    let kind = kind_of_shape c.args.shape in let a = c.args.area in let k = c.loop-k.k in
    let t_is : c.texel.result ≡ texel_size kind = c.texel.ensures.size in
    let some : 0 < texel_size kind = omega (arith, c.texel.ensures.some, t_is) in
    let fits : place kind a.left (a.top + k) 0 + a.width * texel_size kind ≤ length c.args.image.now = row_fits c.args.shape a c.requires.inside some k (length c.args.image.now) c.loop-k-test.true c.requires.whole in
    subst (λ t. c.place.result + a.width * t ≤ length c.args.image.now) (sym t_is) (subst (λ p. p + a.width * texel_size kind ≤ length c.args.image.now) (sym c.place.ensures) fits)

pub loop-k-preserved : goal.loop-k-preserved
loop-k-preserved c =
    let kind = kind_of_shape c.args.shape in let a = c.args.area in let k = c.loop-k.k in let image = c.args.image.now in let at = c.args.at + k * c.args.stride in
    let size = a.width * texel_size kind in let g = row_byte kind image (rect_of a) (texel_size kind) false in
    let t_is : c.texel.result ≡ texel_size kind = c.texel.ensures.size in
    let some : 0 < texel_size kind = omega (arith, c.texel.ensures.some, t_is) in
    let row_is : c.row_of-row.result.now ≡ part image (place kind a.left (a.top + k) 0) size = c.row_of-row.ensures ∙ ap (λ p. part image p (a.width * c.texel.result)) c.place.ensures ∙ ap (λ t. part image (place kind a.left (a.top + k) 0) (a.width * t)) t_is in
    let new_is : c.put.new.bytes ≡ overwritten c.loop-k.bytes at (part image (place kind a.left (a.top + k) 0) size) = c.put.ensures ∙ ap (overwritten c.loop-k.bytes at) row_is in
    let has : at + size ≤ length c.loop-k.bytes = subst (λ n. at + size ≤ n) (sym c.loop-k.auto.bytes) (c.requires.rows k c.loop-k-test.true) in
    let row : HasRow c.loop-k.bytes c.put.new.bytes at size (g k) = subst (λ b. HasRow c.loop-k.bytes b at size (g k)) (sym new_is) (plain_row c.args.shape a c.requires.inside some k image c.loop-k.bytes at c.loop-k-test.true c.requires.whole has) in
    out_row_step g size c.args.stride c.args.bytes.now c.loop-k.bytes c.put.new.bytes c.args.at k c.loop-k.invariant row
