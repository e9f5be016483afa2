use Rattle.std.proofs.Common.{◌≡◌, ◌++◌, ◌-◌, not}
use Rattle.std.specs.List.{filter, range_with_len}
use Rattle.tables.specs.Table.{has}
use Rattle.unused_names.proofs.walk.Given as goal

abbrev pub invariant-loop-k : goal.invariant-loop-k
invariant-loop-k g l = l.found.items ≡ l.initial.found.items ++ filter (λ n. not (has n l.used)) (range_with_len l.from (l.k - (l.from - 1)))
