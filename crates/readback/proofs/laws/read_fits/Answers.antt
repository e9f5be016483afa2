use Rattle.std.proofs.Common.{◌+◌, ◌≤◌}
use Rattle.vk_types.specs.Touches.{the_end}
use Rattle.vk_model.specs.Fitting.{NodeFits}
use Rattle.vk_model.specs.Log.{NoneEmpty}
use Rattle.readback.specs.Plans.{plan_size, read_node}
use Rattle.readback.proofs.Showing.{of_plan}
use Rattle.readback.proofs.Fits.{client_fits, client_none_empty, pack_fits, pack_none_empty}
use Rattle.readback.proofs.laws.read_fits.Goals as goal

pub returns : goal.returns
returns c = record {
  client = λ kinds image buffer info pixels kind rect plan at len stored room is inside.
      of_plan info pixels kind rect (λ plan. at + plan_size plan ≤ len → NodeFits kinds (read_node plan image buffer at)) plan
      (λ some inside. client_fits info pixels kind rect some kinds image buffer at len stored room inside) is inside;
  pack = λ kinds image buffer info pixels kind rect base len store. pack_fits info pixels kind rect image buffer base store kinds len;
  client_none_empty = λ image buffer info pixels kind rect plan at is inside.
      of_plan info pixels kind rect (λ plan. at + plan_size plan ≤ the_end → NoneEmpty (read_node plan image buffer at)) plan
      (λ some inside. client_none_empty info pixels kind rect some image buffer at inside) is inside;
  pack_none_empty = λ image buffer info pixels kind rect base store. pack_none_empty info pixels kind rect image buffer base store;
}
