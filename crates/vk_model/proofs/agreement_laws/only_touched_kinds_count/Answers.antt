use Rattle.vk_model.proofs.SameKinds.{apply_same_kinds, eval_same_kinds}
use Rattle.vk_model.proofs.agreement_laws.only_touched_kinds_count.Goals as goal

pub returns : goal.returns
returns c = record { item = apply_same_kinds; log = eval_same_kinds }
