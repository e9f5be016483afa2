use Rattle.barriers.proofs.Tracked.{made_known}
use Rattle.barriers.proofs.recording_laws.writes_are_made_known.Goals as goal

pub returns : goal.returns
returns c = made_known
