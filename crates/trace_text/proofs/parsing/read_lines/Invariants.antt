use Rattle.std.proofs.Common.{◌≡◌, ◌+◌, ◌≤◌, length, vec_len}
use Rattle.trace_words.specs.Lexing.{lines_of}
use Rattle.trace_text.specs.Reading.{state_of, at_start, lines_after}
use Rattle.trace_text.proofs.parsing.read_lines.Given as goal

abbrev pub invariant-loop-line : goal.invariant-loop-line
invariant-loop-line l = record {
  same : lines_after (state_of l.reader) l.lines ≡ lines_after at_start (lines_of l.text);
  room : vec_len l.reader.owners + length l.lines ≤ 67108866;
}

abbrev pub decreases-loop-line : goal.decreases-loop-line
decreases-loop-line l = length l.lines
