use Rattle.front_model.specs.Stands.{no_hands}
use Rattle.front_moves.specs.Core.{face}
use Rattle.front_core.proofs.laws.fronts_license_barriers.Goals as goal

pub returns : goal.returns
returns c f s stands = (c.steps_may.ensures.owns (face f.core) no_hands s stands.stands.holds).licensed
