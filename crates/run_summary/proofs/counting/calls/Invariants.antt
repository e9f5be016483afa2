use Rattle.std.proofs.Common.{◌≡◌, map, take}
use Rattle.std.specs.Prelude.{sum}
use Rattle.run_summary.specs.Counting.{capped, calls_in}
use Rattle.run_summary.proofs.counting.calls.Given as goal

abbrev pub invariant-loop-group : goal.invariant-loop-group
invariant-loop-group l = l.total ≡ capped (sum (map calls_in (take l.group-index l.groups)))
