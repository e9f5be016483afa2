use Rattle.gl_model.proofs.CountedTables.{total-le}
use Rattle.gl_model.proofs.counted.Counted.total.Goals as goal

pub returns-clause-bound : goal.returns-clause-bound
returns-clause-bound g c = total-le g.V.HasBytes.bytes c.self.inside.table c.self.inside.sum c.self.invariant
