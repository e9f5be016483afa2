use Rattle.transfer.proofs.Clearing.{undefined_shows}
use Rattle.transfer.proofs.clear_laws.undefined_is_shown.Goals as goal

pub returns : goal.returns
returns c = undefined_shows
