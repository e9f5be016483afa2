use Rattle.std.proofs.Common.{◌≡◌, ◌+◌, length}
use Rattle.trace_words.specs.Lexing.{words_of}
use Rattle.trace_words.proofs.lexing.count_words.Given as goal

abbrev pub invariant-loop-words : goal.invariant-loop-words
invariant-loop-words l = l.count + length l.words ≡ length (words_of l.line)

abbrev pub decreases-loop-words : goal.decreases-loop-words
decreases-loop-words l = length l.words
