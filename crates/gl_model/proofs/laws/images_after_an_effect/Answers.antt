use Rattle.gl_model.proofs.ImageLaws.{effect-cells, effect-cells_other, change_picture-other}
use Rattle.gl_model.proofs.PictureSizes.{painted_at}
use Rattle.gl_model.proofs.laws.images_after_an_effect.Goals as goal

pub returns : goal.returns
returns c = record { written = effect-cells; others = effect-cells_other; one = painted_at; no_other = change_picture-other }
