use Rattle.std.proofs.Common.{◌≡◌, take, map, length}
use Rattle.fbo_state.specs.Framebuffers.{without_image}
use Rattle.fbo_state.proofs.attachment.detached.Given as goal

abbrev pub invariant-loop-attachment : goal.invariant-loop-attachment
invariant-loop-attachment l = record {
  so_far : l.left.items ≡ map (without_image l.image) (take l.attachment-index l.points);
  count : length l.left.items ≡ l.attachment-index;
}
