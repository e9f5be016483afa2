use Rattle.std.proofs.Common.{false, arith}
use Rattle.world_core.proofs.Starts.{filled, at_filled, past_more, thread_within}
use Rattle.world_core.proofs.opening.none_answered.Goals as goal

pub loop-thread-preserved : goal.loop-thread-preserved
loop-thread-preserved c =
    past_more c.args.threads.now c.loop-thread.thread-index c.loop-thread.past c.past_lines-past.result c.thread-item.result
    c.deref.result.now c.loop-thread-test.true c.thread-item.is
    c.deref.ensures.value c.loop-thread.invariant c.past_lines-past.ensures.past c.past_lines-past.ensures.later

pub returns : goal.returns
returns c = λ thread place line is.
    let low = thread_within c.args.threads.now thread place line is in
    at_filled c.resize.new.self.items c.loop-thread.past line.number
    (filled c.resize.new.self.items c.new-answered.result.items _ _ false c.in_ok-resize.ensures.items c.new-answered.ensures.items
    c.new-answered.ensures.len)
    (c.loop-thread.invariant thread place line (omega (arith, low, c.loop-thread-test.false)) is)
