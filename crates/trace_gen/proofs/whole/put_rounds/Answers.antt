use Rattle.trace_gen.proofs.TextParts.{round_step, rounds_end}
use Rattle.trace_gen.proofs.whole.put_rounds.Goals as goal

pub loop-round-preserved : goal.loop-round-preserved
loop-round-preserved c = round_step _ _ _ c.loop-round._round _ _ c.loop-round-test.true c.in_ok-put_round.ensures.text c.in_ok-put_round.ensures.left c.loop-round.invariant

pub returns : goal.returns
returns c = rounds_end _ _ c.loop-round._round _ c.loop-round-test.false c.loop-round.invariant
