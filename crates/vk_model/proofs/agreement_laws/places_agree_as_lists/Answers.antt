use Rattle.vk_model.proofs.Lists.{agrees_with, agree_at}
use Rattle.vk_model.proofs.agreement_laws.places_agree_as_lists.Goals as goal

pub returns : goal.returns
returns c = record { as_list = agrees_with; by_place = agree_at }
