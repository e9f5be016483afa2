use Rattle.std.proofs.Common.{◌+◌, sym, ◌∙◌, ap}
use Rattle.gl_model.specs.declared.state.GroupState.{GroupState}
use Rattle.gl_model.specs.GroupState.{opening_group}
use Rattle.front_core.specs.Economy.{due_of, due_from}
use Rattle.front_core.proofs.Dues.{due_from_append}
use Rattle.front_core.proofs.laws.dues_grow.Goals as goal

pub returns-clause-grows : goal.returns-clause-grows
returns-clause-grows c threads history e =
    due_from_append (opening_group threads) history e
    ∙ ap (λ (g : GroupState). due_from (opening_group threads) history + due_of g e.thread e.call) (sym (c.group_is_a_projection.ensures.history threads history))
