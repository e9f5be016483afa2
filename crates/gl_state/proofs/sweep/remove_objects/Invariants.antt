use Rattle.std.proofs.Common.{◌≡◌, drop}
use Rattle.gl_state.specs.Ended.{without_all}
use Rattle.gl_state.proofs.sweep.remove_objects.Given as goal

abbrev pub invariant-loop-key : goal.invariant-loop-key
invariant-loop-key g l = without_all (drop l.key-index l.keys) l.objects ≡ without_all l.keys l.initial.objects
