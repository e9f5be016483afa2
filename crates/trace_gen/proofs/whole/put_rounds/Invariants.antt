use Rattle.std.proofs.Common.{◌≡◌, ◌++◌, ◌*◌, ◌-◌}
use Rattle.std.specs.Prelude.{string_bytes}
use Rattle.rand_core.specs.Steps.{stream_of, steps_u64_high}
use Rattle.rand_xoshiro.specs.Xoshiro256.{plus_plus}
use Rattle.trace_gen.specs.Lines.{lines_text}
use Rattle.trace_gen.specs.Generated.{rounds, stream_words}
use Rattle.trace_gen.proofs.whole.put_rounds.Given as goal

-- what is written, and the rounds that are left, are all rounds
abbrev pub invariant-loop-round : goal.invariant-loop-round
invariant-loop-round l =
    string_bytes l.out ++ lines_text (rounds (stream_words (4 * (500 - l._round)) (stream_of (steps_u64_high plus_plus) l.words)))
    ≡ string_bytes l.initial.out ++ lines_text (rounds (stream_words 2000 (stream_of (steps_u64_high plus_plus) l.initial.words)))
