use Rattle.std.proofs.Common.{◌≡◌, false}
use Rattle.transfer.specs.Blits.{reads_some}
use Rattle.transfer.proofs.blit_source.reads_some.Given as goal

abbrev pub invariant-loop-k : goal.invariant-loop-k
invariant-loop-k l = reads_some l.size l.s0 l.s1 l.d0 l.d1 l.from l.k ≡ false
