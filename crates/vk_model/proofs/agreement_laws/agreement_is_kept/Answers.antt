use Rattle.vk_model.proofs.Agreement.{agrees_after, agrees_through}
use Rattle.vk_model.proofs.agreement_laws.agreement_is_kept.Goals as goal

pub returns : goal.returns
returns c = record { after = agrees_after; through = agrees_through }
