use Rattle.std.proofs.Common.{◌≡◌, ◌≤◌, false}
use Rattle.back_core.specs.Frame.{AtBack, NoBatch}
use Rattle.std.specs.Prelude.{take, map}
use Rattle.front_model.specs.Face.{object_of}
use Rattle.front_moves.specs.Core.{face}
use Rattle.front_moves.specs.Ending.{HasEnded}
use Rattle.front_moves.proofs.group_core.Core.end_kind.Given as goal

abbrev pub invariant-loop-number : goal.invariant-loop-number
invariant-loop-number g l = record {
  ended : HasEnded (face l.fn.self) (face l.self) (g.L.BackLink.state l.fn.link) (g.L.BackLink.state l.link) (map (object_of l.fn.kind) (take l.number-index l.numbers));
  pending : (face l.self).pending ≡ (face l.fn.self).pending;
  faults : g.L.BackLink.faults l.fn.link ≤ g.L.BackLink.faults l.link;
  at_back : AtBack (g.L.BackLink.state l.fn.link) (g.L.BackLink.state l.link) (g.L.BackLink.told l.fn.link) (g.L.BackLink.told l.link) 0 false false NoBatch;
}
