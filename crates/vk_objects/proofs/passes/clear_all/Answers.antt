use Rattle.std.proofs.Common.{[], take, get_or, sym, ◌∙◌, ap}
use Rattle.std.specs.Prelude.{pos}
use Rattle.std.proofs.lemmas.List.{take_more}
use Rattle.cells.specs.Contents.{cell_at}
use Rattle.vk_types.specs.declared.regions.Clear.{Clear}
use Rattle.vk_model.specs.Cells.{clear_image, cleared}
use Rattle.vk_objects.specs.Images.{kind_of_shape}
use Rattle.vk_objects.proofs.PassSteps.{cleared_push}
use Rattle.vk_objects.proofs.passes.clear_all.Goals as goal

pub loop-one-preserved : goal.loop-one-preserved
loop-one-preserved c =
    let kind = kind_of_shape c.args.shape in let clears = c.args.clears.now in let k = c.loop-one.one-index in let old = c.args.bytes.now in
    let none : Clear = record { rect = record { x = pos 0; y = pos 0; w = 0; h = 0 }; texel = [] } in
    let one : Clear = get_or clears k none in
    λ i. c.clear.ensures i
    ∙ ap (λ r. clear_image kind r one.texel i (cell_at c.loop-one.bytes i)) c.of-area.ensures.rect
    ∙ ap (clear_image kind one.rect one.texel i) (c.loop-one.invariant i)
    ∙ sym (cleared_push kind (take k clears) one i (cell_at old i))
    ∙ ap (λ l. cleared kind l i (cell_at old i)) (sym (take_more clears k none c.loop-one-test.true))
