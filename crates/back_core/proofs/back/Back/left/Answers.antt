use Rattle.back_core.proofs.back.Back.left.Goals as goal

pub returns-clause-nodes : goal.returns-clause-nodes
returns-clause-nodes g c = rw (← c.self.view_is) (c.nodes_left.ensures _ c.self.invariant.0.kept)

pub returns-clause-batches : goal.returns-clause-batches
returns-clause-batches g c = rw (← c.self.view_is) (c.batches_left.ensures _ c.self.invariant.0.kept)
