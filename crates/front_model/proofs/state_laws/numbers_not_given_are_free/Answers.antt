use Rattle.std.proofs.Common.{sym, subst}
use Rattle.gl_model.specs.declared.state.GroupState.{GroupState}
use Rattle.gl_model.specs.GroupState.{opening_group}
use Rattle.front_model.specs.Wanted.{HasFreeNumbers}
use Rattle.front_model.proofs.KindsFree.{effect_free, group_after_free, group_after_all_free, opening_free}
use Rattle.front_model.proofs.state_laws.numbers_not_given_are_free.Goals as goal

pub returns : goal.returns
returns c =
    let P : GroupState → Type 0 = λ g. HasFreeNumbers g in
    let laws = c.group_is_a_projection.ensures in
    record {
      reached = λ threads history. subst P (sym (laws.history threads history)) (group_after_all_free history (opening_group threads) (opening_free threads));
      entry = λ state e place free. subst P (sym (laws.entry state e place)) (group_after_free state.group e free);
      effect = λ state thread asked place free accepted. subst P (sym (laws.effect state thread asked place)) (effect_free state.group thread asked free accepted);
    }
