use Rattle.std.proofs.Common.{◌≤◌, ◌<◌, ◌+◌, ◌*◌, ℕ, false}
use Rattle.back_core.specs.Frame.{AtBack}
use Rattle.front_moves.specs.Core.{face}
use Rattle.sync_serials.specs.Serials.{HasGoneOn}
use Rattle.front_core.specs.Share.{Stays}
use Rattle.front_core.specs.Economy.{IsEndingBatch}
use Rattle.front_core.specs.Polls.{HasFlushedAll}
use Rattle.front_core.proofs.share.Share.flush_all.Given as goal

abbrev pub invariant-loop-place : goal.invariant-loop-place
invariant-loop-place g l = record {
  stays : Stays (face l.fn.self.core) (face l.self.core) (g.L.BackLink.state l.fn.link) (g.L.BackLink.state l.link);
  gone : HasGoneOn (face l.fn.self.core) (face l.self.core) (g.L.BackLink.state l.fn.link) (g.L.BackLink.state l.link);
  flushed : (i : ℕ) → 8 * (face l.fn.self.core).group ≤ i → i < 8 * (face l.fn.self.core).group + l.place → HasFlushedAll (face l.self.core) l.fn.syncs i;
  faults : g.L.BackLink.faults l.fn.link ≤ g.L.BackLink.faults l.link;
  at_back : AtBack (g.L.BackLink.state l.fn.link) (g.L.BackLink.state l.link) (g.L.BackLink.told l.fn.link) (g.L.BackLink.told l.link) 0 false false (IsEndingBatch l.fn.syncs);
}
