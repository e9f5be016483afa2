use Rattle.std.proofs.Common.{◌≡◌, map, take}
use Rattle.std.specs.Prelude.{sum}
use Rattle.run_summary.specs.Counting.{capped, errors_in}
use Rattle.run_summary.proofs.counting.errors.Given as goal

abbrev pub invariant-loop-group : goal.invariant-loop-group
invariant-loop-group l = l.total ≡ capped (sum (map errors_in (take l.group-index l.groups)))
