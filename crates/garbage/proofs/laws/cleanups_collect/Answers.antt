use Rattle.garbage.proofs.Cleanups.{cleanup-collects}
use Rattle.garbage.proofs.laws.cleanups_collect.Goals as goal

pub returns : goal.returns
returns c = cleanup-collects
