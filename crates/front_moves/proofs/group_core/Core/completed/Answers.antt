use Rattle.back_core.specs.Link.{Link}
use Rattle.front_moves.specs.Core.{face}
use Rattle.front_moves.proofs.Waiting.{completed_learns}
use Rattle.front_moves.proofs.group_core.Core.completed.Goals as goal

pub returns-clause-moved : goal.returns-clause-moved
returns-clause-moved g c =
    let s : Link = g.L.BackLink.state c.args.link.now in
    let t : Link = g.L.BackLink.state c.completed.new.self in
    c.waiting_comes_to.ensures.moved (face c.args.self.now) s t c.requires (completed_learns s t c.args.index c.completed.result c.completed.ensures.answer)
