use Rattle.std.proofs.Common.{◌≡◌, map, drop}
use Rattle.trace_text.specs.Reading.{plan}
use Rattle.world_core.specs.World.{is_declared}
use Rattle.world_core.proofs.ending.is_declared.Given as goal

abbrev pub invariant-loop-thread : goal.invariant-loop-thread
invariant-loop-thread l = is_declared (map plan (drop l.thread-index l.threads)) l.group ≡ is_declared (map plan l.threads) l.group
