use Rattle.std.proofs.Common.{◌≤◌, true, false}
use Rattle.back_core.specs.Frame.{AtBack, NoBatch}
use Rattle.front_moves.specs.Core.{face}
use Rattle.front_moves.proofs.Waiting.{WaitedTo}
use Rattle.front_moves.proofs.group_core.Core.wait_for_uses.Given as goal

-- what was learned so far
abbrev pub invariant-loop-place : goal.invariant-loop-place
invariant-loop-place g l = record {
  waited : WaitedTo (face l.fn.self) (g.L.BackLink.state l.fn.link) (g.L.BackLink.state l.link) l.fn.object l.place;
  faults : g.L.BackLink.faults l.fn.link ≤ g.L.BackLink.faults l.link;
  at_back : AtBack (g.L.BackLink.state l.fn.link) (g.L.BackLink.state l.link) (g.L.BackLink.told l.fn.link) (g.L.BackLink.told l.link) 0 true false NoBatch;
}
