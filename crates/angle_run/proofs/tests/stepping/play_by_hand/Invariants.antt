use Rattle.std.proofs.Common.{◌≡◌, true}
use Rattle.angle_run.proofs.tests.stepping.play_by_hand.Given as goal

abbrev pub invariant-loop-round : goal.invariant-loop-round
invariant-loop-round g l = l.world.running ≡ true

abbrev pub invariant-loop-k : goal.invariant-loop-k
invariant-loop-k g l = l.world.running ≡ true
