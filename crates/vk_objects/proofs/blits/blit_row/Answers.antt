use Rattle.std.proofs.Common.{subst, arith, ◌≡◌}
use Rattle.vk_objects.specs.Images.{kind_of_shape}
use Rattle.vk_objects.specs.Blits.{HasTexels}
use Rattle.vk_objects.proofs.BlitSteps.{texels_more}
use Rattle.vk_objects.proofs.blits.blit_row.Goals as goal

pub loop-x-preserved : goal.loop-x-preserved
loop-x-preserved c =
    texels_more c.args.bytes.now c.loop-x.bytes c.blit_texel.new.bytes (kind_of_shape c.args.source) (kind_of_shape c.args.shape) c.args.from.now c.args.coords.now c.args.area.left c.args.row c.loop-x.x c.loop-x.invariant c.blit_texel.ensures

pub returns : goal.returns
returns c =
    let all : c.loop-x.x ≡ c.args.area.width = omega (arith, c.loop-x-test.false, c.loop-x.auto.x-end) in
    subst (HasTexels c.args.bytes.now c.loop-x.bytes (kind_of_shape c.args.source) (kind_of_shape c.args.shape) c.args.from.now c.args.coords.now c.args.area.left c.args.row) all c.loop-x.invariant
