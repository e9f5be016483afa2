use Rattle.cells.specs.Contents.{cell_at, UNDEFINED}
use Rattle.std.proofs.Common.{◌<◌, ◌∙◌, subst}
use Rattle.vk_model.specs.Cells.{loaded}
use Rattle.vk_objects.specs.Images.{kind_of_shape}
use Rattle.vk_objects.proofs.PassSteps.{cleared_agrees, cleared_keeps}
use Rattle.vk_objects.proofs.passes.pass_over.Goals as goal

pub returns : goal.returns
returns c =
    let kind = kind_of_shape c.args.shape in
    λ i. (
      λ below. c.clear_all.ensures i ∙ cleared_agrees kind c.args.clears.now i (cell_at c.load_image.new.bytes i) (loaded kind c.args.load i (cell_at c.args.bytes.now i)) (c.load_image.ensures i).0 below,
      λ undefined byte.
          c.clear_all.ensures i
          ∙ cleared_keeps kind c.args.clears.now i (cell_at c.args.bytes.now i) (cell_at c.load_image.new.bytes i) (loaded kind c.args.load i (cell_at c.args.bytes.now i)) (c.load_image.ensures i).1 undefined (subst (λ v. v < UNDEFINED) (c.clear_all.ensures i) byte),
    )
