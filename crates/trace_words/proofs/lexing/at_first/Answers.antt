use Rattle.std.proofs.Common.{arith}
use Rattle.trace_words.proofs.Splitting.{byte_at, byte_nowhere}
use Rattle.trace_words.proofs.lexing.at_first.Goals as goal

pub returns-then-here-byte : goal.returns-then-here-byte
returns-then-here-byte c = byte_at c.args.byte c.loop-i.i c.args.text.now c.loop-i.invariant c.loop-i-test.true c.if-here-byte.true

pub returns : goal.returns
returns c = byte_nowhere c.args.byte c.args.text.now (λ k lt. c.loop-i.invariant k (omega arith))
