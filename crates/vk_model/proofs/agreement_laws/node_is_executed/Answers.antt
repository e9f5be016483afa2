use Rattle.vk_model.proofs.Executing.{node_executed}
use Rattle.vk_model.proofs.agreement_laws.node_is_executed.Goals as goal

pub returns : goal.returns
returns c = node_executed
