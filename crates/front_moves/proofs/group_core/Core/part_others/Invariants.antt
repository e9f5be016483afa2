use Rattle.std.proofs.Common.{◌≤◌, false}
use Rattle.front_moves.specs.Core.{face, HasFlushedSome}
use Rattle.back_core.specs.Frame.{AtBack}
use Rattle.front_moves.specs.Reasons.{IsCross}
use Rattle.front_moves.proofs.Preparing.{AreApart}
use Rattle.front_moves.proofs.group_core.Core.part_others.Given as goal

abbrev pub invariant-loop-place : goal.invariant-loop-place
invariant-loop-place g l = record {
  some : HasFlushedSome (face l.fn.self) (face l.self) (g.L.BackLink.state l.fn.link) (g.L.BackLink.state l.link);
  apart : AreApart l.fn.reads (face l.self) l.fn.index l.fn.object l.place;
  faults : g.L.BackLink.faults l.fn.link ≤ g.L.BackLink.faults l.link;
  at_back : AtBack (g.L.BackLink.state l.fn.link) (g.L.BackLink.state l.link) (g.L.BackLink.told l.fn.link) (g.L.BackLink.told l.link) 0 false false (IsCross (face l.fn.self) l.fn.index l.fn.object l.fn.reads);
}
