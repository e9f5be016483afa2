use Rattle.std.proofs.Common.{◌+◌, ◌≤◌}
use Rattle.vk_types.specs.Touches.{the_end}
use Rattle.vk_model.specs.Log.{Command}
use Rattle.vk_model.specs.Meaning.{apply}
use Rattle.gl_model.specs.ImageEffect.{read_cells}
use Rattle.vk_effects.proofs.Unwritten.{others_stay}
use Rattle.transfer.specs.Shown.{Shows}
use Rattle.readback.specs.Plans.{plan_size, read_node}
use Rattle.readback.proofs.Showing.{of_plan, client_shows}
use Rattle.readback.proofs.laws.read_is_exact.Goals as goal

pub returns : goal.returns
returns c = record {
  buffer = λ kinds q c image buffer read pixels kind rect plan at shown are is ends.
      of_plan read.info pixels kind rect
      (λ plan. at + plan_size plan ≤ the_end → Shows (λ i. apply kinds (Command q (read_node plan image buffer at)) c buffer.0 (at + i)) (read_cells read pixels kind plan.part.rect.x plan.part.rect.y plan.part.rect.w plan.part.rect.h))
      plan (λ some ends. client_shows kinds q c image buffer read pixels kind rect at shown are some ends) is ends;
  others = λ kinds q c image buffer plan at id i other. others_stay kinds q (read_node plan image buffer at) c id i other;
}
