use Rattle.std.proofs.Common.{◌≡◌, drop}
use Rattle.fbo_state.specs.Framebuffers.{stored, least_sides}
use Rattle.fbo_state.proofs.status.common_area.Given as goal

abbrev pub invariant-loop-k : goal.invariant-loop-k
invariant-loop-k l = l.sides ≡ least_sides (stored (drop l.k l.infos))
