use Rattle.std.proofs.Common.{◌≡◌}
use Rattle.std.proofs.lemmas.Result.{on_err_weaker}
use Rattle.front_moves.specs.Core.{face}
use Rattle.front_moves.proofs.group_core.Core.blank.Goals as goal

pub returns-clause-err : goal.returns-clause-err
returns-clause-err g c =
    on_err_weaker c.create.result
    (λ (e : g.L.BackLink.state c.create.new.self ≡ g.L.BackLink.state c.args.link.now). rw e (c.blank_comes_to.ensures.owns (face c.args.self.now) (g.L.BackLink.state c.args.link.now) c.requires.holds))
    c.create.ensures.err
