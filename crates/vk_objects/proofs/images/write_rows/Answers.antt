use Rattle.std.proofs.Common.{◌≡◌, ◌+◌, ◌*◌, ◌<◌, ◌≤◌, length, sym, ◌∙◌, ap, subst, arith}
use Rattle.cells.specs.Contents.{part, overwritten}
use Rattle.vk_model.specs.Cells.{place, texel_size}
use Rattle.vk_objects.specs.Images.{kind_of_shape, rect_of, HasAll, AreWritten}
use Rattle.vk_model.proofs.Parts.{length-part}
use Rattle.vk_objects.proofs.RowSteps.{first_rows}
use Rattle.vk_objects.proofs.ImageNodes.{row_fits, rows_step}
use Rattle.vk_objects.proofs.images.write_rows.Goals as goal

pub put-requires : goal.put-requires
put-requires c =
    let kind = kind_of_shape c.args.shape in let a = c.args.area in let k = c.loop-k.k in let from = c.args.from.now in let at = c.args.at + k * c.args.stride in
    let t_is : c.texel.result ≡ texel_size kind = c.texel.ensures.size in
    let some : 0 < texel_size kind = omega (arith, c.texel.ensures.some, t_is) in
    let all : HasAll c.args.shape (length c.loop-k.bytes) = c.loop-k.auto.bytes ∙ c.requires.whole in
    let row_is : c.row_of-row.result.now ≡ part from at (a.width * texel_size kind) = c.row_of-row.ensures ∙ ap (λ t. part from at (a.width * t)) t_is in
    let len : length c.row_of-row.result.now ≡ a.width * texel_size kind = ap length row_is ∙ length-part from at (a.width * texel_size kind) (c.requires.rows k c.loop-k-test.true) in
    let fits : place kind a.left (a.top + k) 0 + a.width * texel_size kind ≤ length c.loop-k.bytes = row_fits c.args.shape a c.requires.inside some k (length c.loop-k.bytes) c.loop-k-test.true all in
    subst (λ n. c.place.result + n ≤ length c.loop-k.bytes) (sym len) (subst (λ p. p + a.width * texel_size kind ≤ length c.loop-k.bytes) (sym c.place.ensures) fits)

pub loop-k-preserved : goal.loop-k-preserved
loop-k-preserved c =
    let kind = kind_of_shape c.args.shape in let a = c.args.area in let k = c.loop-k.k in let from = c.args.from.now in let at = c.args.at + k * c.args.stride in
    let t_is : c.texel.result ≡ texel_size kind = c.texel.ensures.size in
    let some : 0 < texel_size kind = omega (arith, c.texel.ensures.some, t_is) in
    let all : HasAll c.args.shape (length c.loop-k.bytes) = c.loop-k.auto.bytes ∙ c.requires.whole in
    let row_is : c.row_of-row.result.now ≡ part from at (a.width * texel_size kind) = c.row_of-row.ensures ∙ ap (λ t. part from at (a.width * t)) t_is in
    let new_is : c.put.new.bytes ≡ overwritten c.loop-k.bytes (place kind a.left (a.top + k) 0) (part from at (a.width * texel_size kind)) =
    c.put.ensures ∙ ap (λ p. overwritten c.loop-k.bytes p c.row_of-row.result.now) c.place.ensures ∙ ap (overwritten c.loop-k.bytes (place kind a.left (a.top + k) 0)) row_is in
    subst (λ b. AreWritten c.args.bytes.now b kind (first_rows (rect_of a) (k + 1)) from c.args.at c.args.stride) (sym new_is)
    (rows_step c.args.shape a c.requires.inside some k c.args.bytes.now c.loop-k.bytes from c.args.at c.args.stride c.loop-k-test.true all (c.requires.rows k c.loop-k-test.true) c.loop-k.invariant)
