use Rattle.std.proofs.Common.{◌≡◌, take}
use Rattle.back_core.specs.Frame.{host_bytes}
use Rattle.run_summary.specs.Counting.{capped}
use Rattle.run_summary.proofs.counting.uploads.Given as goal

abbrev pub invariant-loop-entry : goal.invariant-loop-entry
invariant-loop-entry l = l.total ≡ capped (host_bytes (take l.entry-index l.journal))
