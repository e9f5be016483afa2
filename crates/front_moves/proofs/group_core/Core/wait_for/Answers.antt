use Rattle.front_moves.specs.Core.{face}
use Rattle.front_moves.proofs.Preparing.{on_ok}
use Rattle.front_moves.proofs.Reading.{on_err}
use Rattle.front_moves.proofs.Waiting.{batch_is}
use Rattle.front_moves.proofs.group_core.Core.wait_for.Goals as goal

pub wait_for-requires : goal.wait_for-requires
wait_for-requires g c =
    batch_is (face c.args.self.now) (g.L.BackLink.state c.args.link.now) c.args.serial.index c.args.serial.number c.requires.holds c.requires.group c.requires.some c.requires.batch

pub returns-clause-moved : goal.returns-clause-moved
returns-clause-moved g c =
    on_ok c.wait_for.result
    (λ waits. c.waiting_comes_to.ensures.moved (face c.args.self.now) (g.L.BackLink.state c.args.link.now) (g.L.BackLink.state c.wait_for.new.self) c.requires.holds waits.learns) c.wait_for.ensures.ok

pub returns-clause-reached : goal.returns-clause-reached
returns-clause-reached g c = on_ok c.wait_for.result (λ waits. waits.reached) c.wait_for.ensures.ok

pub returns-clause-learns : goal.returns-clause-learns
returns-clause-learns g c = on_ok c.wait_for.result (λ waits. waits.learns) c.wait_for.ensures.ok

pub returns-clause-err : goal.returns-clause-err
returns-clause-err g c =
    on_err c.wait_for.result
    (λ learns. c.waiting_comes_to.ensures.owns (face c.args.self.now) (g.L.BackLink.state c.args.link.now) (g.L.BackLink.state c.wait_for.new.self) c.requires.holds learns) c.wait_for.ensures.err
