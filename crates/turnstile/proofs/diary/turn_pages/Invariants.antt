use Rattle.std.proofs.Common.{◌≡◌, ◌+◌, ◌≤◌, false}
use Rattle.std.specs.Prelude.{min, slice_index}
use Rattle.turnstile.proofs.diary.turn_pages.Given as goal

abbrev pub invariant-loop : goal.invariant-loop
invariant-loop g l = record {
  name : l.pass.name ≡ l.initial.pass.name;
  number : l.pass.number ≡ l.initial.pass.number;
  made : l.pass.made ≡ l.initial.pass.made;
  joined : l.pass.joined ≡ l.initial.pass.joined;
  idle : l.pass.holds ≡ false;
  page : min (slice_index l.initial.pass.words 1 + l.counter) 18446744073709551615 ≤ slice_index l.pass.words 1;
}
