use Rattle.std.proofs.Common.{◌≡◌, length}
use Rattle.trace_words.specs.Data.{hex_bytes}
use Rattle.trace_words.proofs.DataLaws.{after_bytes}
use Rattle.trace_words.proofs.data.hex.Given as goal

abbrev pub invariant-loop-rest : goal.invariant-loop-rest
invariant-loop-rest l = after_bytes l.bytes.items (hex_bytes l.rest) ≡ hex_bytes l.word

abbrev pub decreases-loop-rest : goal.decreases-loop-rest
decreases-loop-rest l = length l.rest
