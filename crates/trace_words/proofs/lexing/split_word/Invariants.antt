use Rattle.trace_words.proofs.Splitting.{NoneBefore}
use Rattle.trace_words.proofs.lexing.split_word.Given as goal

abbrev pub invariant-loop-i : goal.invariant-loop-i
invariant-loop-i l = NoneBefore 32 l.i l.line
