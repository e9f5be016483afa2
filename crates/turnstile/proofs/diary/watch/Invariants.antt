use Rattle.std.proofs.Common.{◌≡◌, ◌+◌, false, length}
use Rattle.turnstile.specs.Histories.{greatest}
use Rattle.turnstile.proofs.diary.watch.Given as goal

abbrev pub invariant-loop : goal.invariant-loop
invariant-loop l = record {
  name : l.pass.name ≡ l.initial.pass.name;
  number : l.pass.number ≡ l.initial.pass.number;
  joined : l.pass.joined ≡ l.initial.pass.joined;
  holds : l.pass.holds ≡ l.initial.pass.holds;
  rounds : length l.pass.loads ≡ length l.initial.pass.loads + l.counter;
  last : l.last ≡ greatest 1 l.pass.loads;
  never : l.fell ≡ false;
}
