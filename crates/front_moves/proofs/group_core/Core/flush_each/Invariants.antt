use Rattle.std.proofs.Common.{◌≡◌, ◌≤◌, false}
use Rattle.back_core.specs.Frame.{AtBack}
use Rattle.front_moves.specs.Core.{face}
use Rattle.front_moves.specs.Reasons.{IsEnding}
use Rattle.front_moves.proofs.ClosedFronts.{IsFlushedTo}
use Rattle.front_moves.proofs.group_core.Core.flush_each.Given as goal

abbrev pub invariant-loop-place : goal.invariant-loop-place
invariant-loop-place g l = record {
  flushed : IsFlushedTo (face l.self) (g.L.BackLink.state l.link) l.place;
  group : (face l.self).group ≡ (face l.fn.self).group;
  faults : g.L.BackLink.faults l.fn.link ≤ g.L.BackLink.faults l.link;
  at_back : AtBack (g.L.BackLink.state l.fn.link) (g.L.BackLink.state l.link) (g.L.BackLink.told l.fn.link) (g.L.BackLink.told l.link) 0 false false IsEnding;
}
