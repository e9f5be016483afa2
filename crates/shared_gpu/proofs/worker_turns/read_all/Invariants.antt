use Rattle.std.proofs.Common.{◌≡◌, ℕ, ◌+◌, ◌<◌, length}
use Rattle.std.specs.Prelude.{slice_index}
use Rattle.turnstile.specs.Histories.{greatest}
use Rattle.shared_gpu.proofs.worker_turns.read_all.Given as goal

abbrev pub invariant-loop-index : goal.invariant-loop-index
invariant-loop-index g l = record {
  pass : l.pass ≡ record l.initial.pass { loads = l.pass.loads };
  wide : length l.read ≡ 64;
  loaded : (k : ℕ) → k < l.index → slice_index l.read k ≡ greatest (k + 1) l.pass.loads;
}
