use Rattle.std.proofs.Common.{◌≡◌, drop}
use Rattle.group_gpu.specs.Groups.{is_answered}
use Rattle.group_gpu.proofs.call_turn.has_answered.Given as goal

abbrev pub invariant-loop-entry : goal.invariant-loop-entry
invariant-loop-entry l = is_answered (drop l.entry-index l.history) l.line ≡ is_answered l.history l.line
