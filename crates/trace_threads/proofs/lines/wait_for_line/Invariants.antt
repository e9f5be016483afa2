use Rattle.std.proofs.Common.{◌≡◌, ℕ, false}
use mathlib.Core.List.{IsPrefix}
use Rattle.turnstile.specs.Histories.{own}
use Rattle.group_gpu.specs.Groups.{names_of, IsBetween, IsThreads}
use Rattle.trace_threads.proofs.lines.wait_for_line.Given as goal

abbrev pub invariant-loop : goal.invariant-loop
invariant-loop g l = record {
  kept : IsBetween l.initial.pass l.pass;
  mine : (thread : ℕ) → IsThreads l.initial.pass thread → IsThreads l.pass thread;
  begins : IsPrefix l.initial.pass.seen l.pass.seen;
  same : own names_of l.initial.pass.number l.pass.seen ≡ own names_of l.initial.pass.number l.initial.pass.seen;
}
