use Rattle.std.proofs.Common.{◌≡◌, drop}
use Rattle.gl_state.specs.Ended.{without_all}
use Rattle.gl_state.proofs.sweep.unlist_all.Given as goal

abbrev pub invariant-loop-key : goal.invariant-loop-key
invariant-loop-key l = without_all (drop l.key-index l.keys) l.nameless ≡ without_all l.keys l.initial.nameless
