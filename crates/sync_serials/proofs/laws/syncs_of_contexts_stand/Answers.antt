use Rattle.sync_serials.proofs.Contexts.{created, left}
use Rattle.sync_serials.proofs.laws.syncs_of_contexts_stand.Goals as goal

pub returns : goal.returns
returns c = record { created = created; left = left }
