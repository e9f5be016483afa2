use Rattle.std.proofs.Common.{◌≡◌, false}
use mathlib.Core.List.{IsPrefix}
use Rattle.shared_gpu.specs.Turns.{IsKept}
use Rattle.shared_gpu.proofs.workers.cleanup_worker.Given as goal

abbrev pub invariant-loop : goal.invariant-loop
invariant-loop g l = record {
  kept : IsKept l.initial.pass l.pass;
  begins : IsPrefix l.initial.pass.seen l.pass.seen;
  idle : l.pass.holds ≡ false;
}
