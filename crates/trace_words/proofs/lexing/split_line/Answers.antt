use Rattle.std.proofs.Common.{arith}
use Rattle.trace_words.proofs.Splitting.{lines_at_feed, lines_at_end}
use Rattle.trace_words.proofs.lexing.split_line.Goals as goal

pub returns-then-byte-eq-LINE_FEED : goal.returns-then-byte-eq-LINE_FEED
returns-then-byte-eq-LINE_FEED c = lines_at_feed c.loop-i.i c.args.text.now c.loop-i.invariant c.loop-i-test.true c.if-byte-eq-LINE_FEED.true

pub returns : goal.returns
returns c = lines_at_end c.args.text.now (λ k lt. c.loop-i.invariant k (omega arith)) c.requires
