use Rattle.front_model.proofs.Fresh.{blank_shows, filled_shows}
use Rattle.front_model.proofs.fresh_laws.fresh_handles_show.Goals as goal

pub returns : goal.returns
returns c = record { blank = blank_shows; filled = filled_shows }
