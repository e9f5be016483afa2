use Rattle.std.proofs.Common.{◌≡◌, ℕ, ◌<◌, length, get_or}
use Rattle.back_core.specs.History.{completed}
use Rattle.back_core.proofs.back.Back.all_completed.Given as goal

abbrev pub invariant-loop-index : goal.invariant-loop-index
invariant-loop-index g l = record {
  long : length l.read ≡ 64;
  below : (i : ℕ) → i < l.index → get_or l.read i 0 ≡ completed l.self.history i;
}
