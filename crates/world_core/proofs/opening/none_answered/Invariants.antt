use Rattle.std.proofs.Common.{ℕ, ◌<◌, map}
use Rattle.trace_text.specs.declared.trace.Line.{Line}
use Rattle.trace_text.specs.Reading.{plan}
use Rattle.trace_text.specs.Orders.{IsLineOf}
use Rattle.world_core.proofs.opening.none_answered.Given as goal

abbrev pub invariant-loop-thread : goal.invariant-loop-thread
invariant-loop-thread l = (thread place : ℕ) (line : Line) → thread < l.thread-index → IsLineOf (map plan l.threads) thread place line →
    line.number < l.past
