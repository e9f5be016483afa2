use Rattle.std.proofs.Common.{◌≡◌, drop}
use Rattle.trace_words.specs.Lexing.{after_spaces}
use Rattle.trace_words.proofs.lexing.skip_spaces.Given as goal

abbrev pub invariant-loop-i : goal.invariant-loop-i
invariant-loop-i l = after_spaces (drop l.i l.text) ≡ after_spaces l.text
