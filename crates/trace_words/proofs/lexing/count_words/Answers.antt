use Rattle.std.proofs.Common.{arith}
use Rattle.trace_words.proofs.Splitting.{length-words_of}
use Rattle.trace_words.proofs.lexing.count_words.Goals as goal

pub overflow_add-count : goal.overflow_add-count
overflow_add-count c = omega (arith, c.loop-words.invariant, length-words_of c.args.line.now)
