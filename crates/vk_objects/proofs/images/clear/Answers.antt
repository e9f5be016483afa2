use Rattle.std.proofs.Common.{◌≡◌, ◌+◌, ◌*◌, ◌<◌, ◌≤◌, length, take, sym, ◌∙◌, subst, arith}
use Rattle.std.proofs.lemmas.List.{length-take-le}
use Rattle.vk_model.specs.Cells.{place, texel_size}
use Rattle.vk_objects.specs.Images.{kind_of_shape, HasAll, IsPainted}
use Rattle.vk_objects.proofs.ImageNodes.{row_fits, clear_starts, clear_step, texel_start}
use Rattle.vk_objects.proofs.images.clear.Goals as goal

pub loop-k-init : goal.loop-k-init
loop-k-init c =
    let some : 0 < texel_size (kind_of_shape c.args.shape) = omega (arith, c.texel.ensures.some, c.texel.ensures.size) in
    clear_starts c.args.shape c.args.area c.requires.inside some c.args.bytes.now c.args.texel.now

pub paint-requires : goal.paint-requires
paint-requires c =
    let kind = kind_of_shape c.args.shape in let a = c.args.area in
    let some : 0 < texel_size kind = omega (arith, c.texel.ensures.some, c.texel.ensures.size) in
    let all : HasAll c.args.shape (length c.loop-k.bytes) = c.loop-k.auto.bytes ∙ c.requires.whole in
    let len : length (take c.texel.result c.args.texel.now) ≡ texel_size kind = length-take-le c.texel.result c.args.texel.now (omega (arith, c.texel.ensures.few, c.told-texel)) ∙ c.texel.ensures.size in
    let fits : place kind a.left (a.top + c.loop-k.k) 0 + a.width * texel_size kind ≤ length c.loop-k.bytes = row_fits c.args.shape a c.requires.inside some c.loop-k.k (length c.loop-k.bytes) c.loop-k-test.true all in
    subst (λ t. c.place-at.result + a.width * t ≤ length c.loop-k.bytes) (sym len) (subst (λ p. p + a.width * texel_size kind ≤ length c.loop-k.bytes) (sym c.place-at.ensures) fits)

pub loop-k-preserved : goal.loop-k-preserved
loop-k-preserved c =
    let kind = kind_of_shape c.args.shape in let a = c.args.area in let start = take c.texel.result c.args.texel.now in
    let some : 0 < texel_size kind = omega (arith, c.texel.ensures.some, c.texel.ensures.size) in
    let enough : c.texel.result ≤ length c.args.texel.now = omega (arith, c.texel.ensures.few, c.told-texel) in
    let len : length start ≡ texel_size kind = length-take-le c.texel.result c.args.texel.now enough ∙ c.texel.ensures.size in
    clear_step c.args.shape a c.requires.inside some c.loop-k.k c.args.bytes.now c.loop-k.bytes c.paint.new.bytes c.args.texel.now start len
    (λ b lt. texel_start c.texel.result c.args.texel.now enough b (subst (λ t. b < t) (sym c.texel.ensures.size) lt))
    c.loop-k.invariant
    (subst (λ p. IsPainted c.loop-k.bytes c.paint.new.bytes p a.width start) c.place-at.ensures c.paint.ensures)
