use Rattle.std.proofs.Common.{◌≡◌}
use Rattle.shared_gpu.proofs.workers.wait_past.Given as goal

abbrev pub invariant-loop : goal.invariant-loop
invariant-loop g l = record {
  same : l.pass ≡ record l.initial.pass { counted = l.pass.counted };
}
