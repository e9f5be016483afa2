use Rattle.std.proofs.Common.{sym, ◌∙◌}
use Rattle.std.proofs.lemmas.Bool.{false≢true}
use Rattle.front_moves.specs.Core.{face}
use Rattle.front_moves.proofs.Preparing.{conflicting, decides, decides_apart}
use Rattle.front_moves.proofs.group_core.Core.pending_conflicts.Goals as goal

pub returns-then-reads : goal.returns-then-reads
returns-then-reads c s h =
    decides c.args.reads (face c.args.self.now) c.args.index c.args.object c.is_touched.result (c.is_touched.ensures.some s h) c.is_touched.ensures.none c.if-is_touched.true c.if-reads.true
    c.is_read_together.result c.is_read_together.ensures

pub returns-then-is_touched : goal.returns-then-is_touched
returns-then-is_touched c s h =
    conflicting c.args.reads (face c.args.self.now) c.args.index c.args.object c.is_touched.result (c.is_touched.ensures.some s h) c.is_touched.ensures.none c.if-is_touched.true
    (λ x at alone together. false≢true (sym c.if-reads.false ∙ alone))

pub returns : goal.returns
returns c s h = decides_apart c.args.reads (face c.args.self.now) c.args.index c.args.object c.is_touched.result (c.is_touched.ensures.some s h) c.if-is_touched.false
