use Rattle.front_model.proofs.Constants.{listed_plain, pending_plain}
use Rattle.front_model.proofs.constants_laws.no_constants_are_recorded.Goals as goal

pub returns : goal.returns
returns c = record { listed = listed_plain; pending = pending_plain }
