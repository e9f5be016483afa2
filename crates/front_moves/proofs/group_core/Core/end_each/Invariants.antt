use Rattle.std.proofs.Common.{◌≡◌, ◌≤◌, ◌<◌, false, length}
use Rattle.back_core.specs.Frame.{AtBack, NoBatch}
use Rattle.front_model.specs.Stands.{Holds, no_hands}
use Rattle.front_moves.specs.Core.{CoreParts, face}
use Rattle.front_moves.proofs.group_core.Core.end_each.Given as goal

abbrev pub invariant-loop-store : goal.invariant-loop-store
invariant-loop-store g l =
    let now : CoreParts = record { indexes = l.self-inside.indexes; pending = l.self-inside.pending; stores = l.self-inside.objects } in
    record {
      holds : Holds (face now) no_hands (g.L.BackLink.state l.link);
      pending : (face now).pending ≡ (face l.fn.self).pending;
      group : (face now).group ≡ (face l.fn.self).group;
      inside : (l.self-inside.group ≡ l.self-inside.indexes.group) × (l.self-inside.group < 8);
      faults : g.L.BackLink.faults l.fn.link ≤ g.L.BackLink.faults l.link;
      at_back : AtBack (g.L.BackLink.state l.fn.link) (g.L.BackLink.state l.link) (g.L.BackLink.told l.fn.link) (g.L.BackLink.told l.link) 0 false false NoBatch;
    }

abbrev pub decreases-loop-store : goal.decreases-loop-store
decreases-loop-store g l = length l.self-inside.objects
