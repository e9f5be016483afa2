use Rattle.std.proofs.Common.{◌≡◌, drop}
use Rattle.gl_model.specs.GroupEffect.{with_generated}
use Rattle.unused_names.proofs.put_into_use.Given as goal

abbrev pub invariant-loop-k : goal.invariant-loop-k
invariant-loop-k g l = l.used ≡ with_generated (drop l.k l.found) l.initial.used
