use Rattle.std.proofs.Common.{true, false, arith}
use Rattle.front_moves.specs.Core.{face}
use Rattle.front_moves.proofs.AtBack.{did_nothing, did_for}
use Rattle.front_moves.proofs.Handing.{is_touching}
use Rattle.front_moves.proofs.Preparing.{on_ok, on_ok_both, some_flushed, apart_flushed, decided}
use Rattle.front_moves.proofs.group_core.Core.part.Goals as goal

pub returns-then-conflicts-clause-some : goal.returns-then-conflicts-clause-some
returns-then-conflicts-clause-some g c =
    on_ok_both c.flush.result (some_flushed (face c.args.self.now) (face c.flush.new.self) (g.L.BackLink.state c.args.link.now) (g.L.BackLink.state c.flush.new.link) c.args.index)
    c.flush.ensures.moved c.flush.ensures.flushed

pub returns-then-conflicts-clause-apart : goal.returns-then-conflicts-clause-apart
returns-then-conflicts-clause-apart g c =
    on_ok c.flush.result (apart_flushed c.args.reads (face c.args.self.now) (face c.flush.new.self) c.args.index c.args.object) c.flush.ensures.flushed

pub returns-clause-apart : goal.returns-clause-apart
returns-clause-apart g c =
    decided c.args.reads (face c.args.self.now) c.args.index c.args.object c.conflicts.result false c.if-conflicts.false (c.conflicts.ensures (g.L.BackLink.state c.args.link.now) c.requires.holds)

pub returns-then-conflicts-clause-at_back : goal.returns-then-conflicts-clause-at_back
returns-then-conflicts-clause-at_back g c =
    did_for (omega arith)
    (is_touching (face c.args.self.now) c.args.index c.args.object c.args.reads c.args.reason
    (decided c.args.reads (face c.args.self.now) c.args.index c.args.object c.conflicts.result true c.if-conflicts.true (c.conflicts.ensures (g.L.BackLink.state c.args.link.now) c.requires.holds)))
    c.flush.ensures.at_back

pub returns-clause-at_back : goal.returns-clause-at_back
returns-clause-at_back g c = did_nothing (g.L.BackLink.state c.args.link.now) (g.L.BackLink.told c.args.link.now)
