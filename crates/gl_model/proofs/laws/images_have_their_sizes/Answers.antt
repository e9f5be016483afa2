use Rattle.gl_model.proofs.ReachedImages.{reached-image_sizes, after_entry-image_sizes, effect-image_sizes}
use Rattle.gl_model.proofs.laws.images_have_their_sizes.Goals as goal

pub returns : goal.returns
returns c = record { reached = reached-image_sizes; entry = after_entry-image_sizes; effect = effect-image_sizes }
