use Rattle.front_moves.proofs.ClosedFronts.{has_closed}
use Rattle.front_moves.proofs.closing_comes_to.close_comes_to.Goals as goal

pub returns : goal.returns
returns c = has_closed
