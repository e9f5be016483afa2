use Rattle.std.proofs.Common.{◌*◌, ◌+◌, ◌<◌}
use Rattle.tables.specs.Table.{IsOrdered}
use Rattle.front_core.proofs.ContextIndexes.{AreTaken}
use Rattle.front_core.proofs.context_calls.free_index.Given as goal

abbrev pub invariant-loop-place : goal.invariant-loop-place
invariant-loop-place l = record {
  taken : AreTaken l.serials (8 * l.group) (8 * l.group + l.place);
  ordered : 0 < l.place → IsOrdered l.serials;
}
