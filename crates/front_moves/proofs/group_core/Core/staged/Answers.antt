use Rattle.front_moves.specs.Core.{face}
use Rattle.front_moves.proofs.AtBack.{did_nothing}
use Rattle.front_moves.proofs.group_core.Core.staged.Goals as goal

pub returns-then-is_err-clause-err : goal.returns-then-is_err-clause-err
returns-then-is_err-clause-err g c = c.filled_comes_to.ensures.owns (face c.args.self.now) (g.L.BackLink.state c.args.link.now) c.requires.holds

pub returns-then-is_err-clause-at_back : goal.returns-then-is_err-clause-at_back
returns-then-is_err-clause-at_back g c = did_nothing (g.L.BackLink.state c.args.link.now) (g.L.BackLink.told c.args.link.now)
