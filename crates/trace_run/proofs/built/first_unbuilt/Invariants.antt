use Rattle.std.proofs.Common.{◌≡◌, map, drop}
use Rattle.trace_text.specs.Reading.{plan}
use Rattle.trace_run.specs.Runs.{first_of, first_unbuilt}
use Rattle.trace_run.proofs.built.first_unbuilt.Given as goal

abbrev pub invariant-loop-thread : goal.invariant-loop-thread
invariant-loop-thread l = first_of l.first (first_unbuilt (map plan (drop l.thread-index l.threads))) ≡ first_unbuilt (map plan l.threads)
