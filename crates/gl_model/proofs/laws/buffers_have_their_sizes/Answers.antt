use Rattle.gl_model.proofs.ReachedSizes.{reached-sizes, after_entry-sizes, effect-sizes}
use Rattle.gl_model.proofs.laws.buffers_have_their_sizes.Goals as goal

pub returns : goal.returns
returns c = record { reached = reached-sizes; entry = after_entry-sizes; effect = effect-sizes }
