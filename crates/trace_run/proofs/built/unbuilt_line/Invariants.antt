use Rattle.std.proofs.Common.{◌≡◌, drop}
use Rattle.trace_run.specs.Runs.{unbuilt_line}
use Rattle.trace_run.proofs.built.unbuilt_line.Given as goal

abbrev pub invariant-loop-line : goal.invariant-loop-line
invariant-loop-line l = unbuilt_line l.lines ≡ unbuilt_line (drop l.line-index l.lines)
