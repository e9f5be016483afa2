use Rattle.gl_model.proofs.StoreLaws.{effect-store, effect-other, change_store-store}
use Rattle.gl_model.proofs.laws.stores_after_an_effect.Goals as goal

pub returns : goal.returns
returns c = record { written = effect-store; others = effect-other; one = change_store-store }
