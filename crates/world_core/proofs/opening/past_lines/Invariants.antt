use Rattle.std.proofs.Common.{◌≡◌, ℕ, ◌<◌, ◌≤◌, Some}
use Rattle.std.specs.Prelude.{slice_get}
use Rattle.trace_text.specs.declared.trace.Line.{Line}
use Rattle.world_core.proofs.opening.past_lines.Given as goal

abbrev pub invariant-loop-line : goal.invariant-loop-line
invariant-loop-line l = record {
  past : (place : ℕ) (line : Line) → place < l.line-index → slice_get l.lines place ≡ Some line → line.number < l.past;
  later : l.fn.past ≤ l.past;
}
