use Rattle.sync_serials.proofs.Signalled.{finished, asked}
use Rattle.sync_serials.proofs.laws.syncs_are_signalled.Goals as goal

pub returns : goal.returns
returns c = record { finished = finished; asked = asked }
