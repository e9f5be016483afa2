use Rattle.std.proofs.Common.{sym, ◌∙◌, ap}
use Rattle.cells.specs.Contents.{cell_at}
use Rattle.vk_model.specs.Cells.{clear_image, loaded}
use Rattle.vk_objects.specs.Images.{kind_of_shape}
use Rattle.vk_objects.proofs.PassSteps.{whole_clear, texel_some}
use Rattle.vk_objects.proofs.Finding.{kept_exactly}
use Rattle.vk_objects.proofs.passes.load_image.Goals as goal

pub returns-in-Clear : goal.returns-in-Clear
returns-in-Clear c =
    let s = c.args.shape in let old = c.args.bytes.now in
    λ i.
    let is =
    c.clear.ensures i
    ∙ ap (λ r. clear_image (kind_of_shape s) r c.in-Clear.texel i (cell_at old i)) c.all.ensures.rect
    ∙ whole_clear s c.in-Clear.texel (texel_some s) i (cell_at old i)
    ∙ ap (λ l. loaded (kind_of_shape s) l i (cell_at old i)) (sym c.in-Clear.is)
    in
    (λ below. is, kept_exactly _ _ _ is)
