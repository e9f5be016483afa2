use Rattle.gl_model.proofs.CountedTables.{held-le, IsCounted-without}
use Rattle.gl_model.proofs.counted.Counted.remove.Goals as goal

pub overflow_sub-self : goal.overflow_sub-self
overflow_sub-self g c = rw c.bytes_at.ensures (held-le g.V.HasBytes.bytes c.self.inside.table c.self.inside.sum c.self.invariant c.args.key)

pub invariant_of-self : goal.invariant_of-self
invariant_of-self g c = rw (c.bytes_at.ensures, c.remove.ensures) (IsCounted-without g.V.HasBytes.bytes c.self.inside.table c.self.inside.sum c.self.invariant c.args.key)
