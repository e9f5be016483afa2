use Rattle.std.proofs.Common.{◌≡◌, drop}
use Rattle.unused_names.specs.Names.{without_all}
use Rattle.unused_names.proofs.forget.Given as goal

abbrev pub invariant-loop-name : goal.invariant-loop-name
invariant-loop-name g l = without_all (drop l.name-index l.found) l.used ≡ without_all l.found l.initial.used
