use Rattle.std.proofs.Common.{◌≤◌, false, length}
use Rattle.back_core.specs.Frame.{AtBack, NoBatch}
use Rattle.front_moves.specs.Ending.{HasLetGo}
use Rattle.front_moves.proofs.group_core.Core.abandon.Given as goal

abbrev pub invariant-loop-store : goal.invariant-loop-store
invariant-loop-store g l = record {
  let_go : HasLetGo l.fn.self.stores l.objects (g.L.BackLink.state l.fn.link) (g.L.BackLink.state l.link);
  faults : g.L.BackLink.faults l.fn.link ≤ g.L.BackLink.faults l.link;
  at_back : AtBack (g.L.BackLink.state l.fn.link) (g.L.BackLink.state l.link) (g.L.BackLink.told l.fn.link) (g.L.BackLink.told l.link) 0 false false NoBatch;
}

abbrev pub decreases-loop-store : goal.decreases-loop-store
decreases-loop-store g l = length l.objects
