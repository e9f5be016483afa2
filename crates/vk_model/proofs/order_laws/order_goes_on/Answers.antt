use Rattle.vk_model.proofs.Device.{permitted_push, executed_push, permitted_longer, executed_longer, write_ready, ready_by_edges, first_left_ready}
use Rattle.vk_model.proofs.order_laws.order_goes_on.Goals as goal

pub returns : goal.returns
returns c = record { runs = permitted_push; changes = executed_push; accepts = permitted_longer; keeps = executed_longer; writes = write_ready; edges = ready_by_edges; first = first_left_ready }
