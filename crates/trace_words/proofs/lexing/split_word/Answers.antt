use Rattle.std.proofs.Common.{arith}
use Rattle.trace_words.proofs.Splitting.{words_at_space, words_last}
use Rattle.trace_words.proofs.lexing.split_word.Goals as goal

pub returns-then-byte-eq-SPACE : goal.returns-then-byte-eq-SPACE
returns-then-byte-eq-SPACE c = words_at_space c.loop-i.i c.args.line.now c.skip_spaces.result.now c.loop-i.invariant c.loop-i-test.true c.if-byte-eq-SPACE.true c.skip_spaces.ensures

pub returns : goal.returns
returns c = words_last c.args.line.now (λ k lt. c.loop-i.invariant k (omega arith))
