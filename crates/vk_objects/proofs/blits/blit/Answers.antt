use Rattle.vk_objects.specs.Images.{kind_of_shape}
use Rattle.vk_objects.proofs.PassSteps.{texel_some}
use Rattle.vk_objects.proofs.BlitSteps.{blit_starts, blit_step}
use Rattle.vk_objects.proofs.blits.blit.Goals as goal

pub loop-k-init : goal.loop-k-init
loop-k-init c = blit_starts c.args.shape c.args.area c.requires.inside (texel_some c.args.shape) (kind_of_shape c.args.source) c.args.from.now c.args.coords.now c.args.bytes.now

pub loop-k-preserved : goal.loop-k-preserved
loop-k-preserved c =
    blit_step c.args.shape c.args.area c.requires.inside (texel_some c.args.shape) (kind_of_shape c.args.source) c.args.from.now c.args.coords.now c.args.bytes.now c.loop-k.k c.loop-k.bytes c.blit_row.new.bytes c.loop-k.invariant c.blit_row.ensures
