use Rattle.std.proofs.Common.{◌≡◌, true}
use Rattle.angle_run.proofs.tests.polls.make_all.Given as goal

abbrev pub invariant-loop-letter : goal.invariant-loop-letter
invariant-loop-letter g l = l.world.running ≡ true
