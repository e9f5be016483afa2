use Rattle.trace_words.proofs.Splitting.{NoneBefore}
use Rattle.trace_words.proofs.lexing.at_first.Given as goal

abbrev pub invariant-loop-i : goal.invariant-loop-i
invariant-loop-i l = NoneBefore l.byte l.i l.text
