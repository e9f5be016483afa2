use Rattle.std.proofs.Common.{◌≡◌, false}
use mathlib.Core.List.{IsPrefix}
use Rattle.group_gpu.specs.Groups.{IsBetween, IsThreads}
use Rattle.trace_threads.specs.Lines.{HasMade}
use Rattle.trace_threads.proofs.lines.play_lines.Given as goal

abbrev pub invariant-loop-line : goal.invariant-loop-line
invariant-loop-line g l = record {
  kept : IsBetween l.initial.pass l.pass;
  mine : IsThreads l.pass l.thread;
  begins : IsPrefix l.initial.pass.seen l.pass.seen;
  made : HasMade l.thread l.lines l.initial.pass.number l.pass.seen l.line-index;
}
