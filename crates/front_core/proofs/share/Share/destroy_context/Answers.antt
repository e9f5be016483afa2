use Rattle.std.proofs.Common.{◌≡◌, sym, ◌∙◌, ap, refl}
use Rattle.tables.specs.Table.{has, only}
use Rattle.gl_model.specs.declared.state.GroupState.{GroupState}
use Rattle.gl_model.specs.GroupEffect.{destroyed}
use Rattle.front_core.specs.Share.{HaveIndexes}
use Rattle.front_core.proofs.ContextIndexes.{left_indexes, fewer-destroyed, indexes_of_equal}
use Rattle.front_core.proofs.share.Share.destroy_context.Goals as goal

pub returns-in-Ok-clause-indexes : goal.returns-in-Ok-clause-indexes
returns-in-Ok-clause-indexes g c =
    let before : GroupState = c.args.self.now.state in
    let after : GroupState = c.state_call.new.self.state in
    let kept : HaveIndexes before.contexts c.state_call.new.self.serials c.state_call.new.self.core.indexes.group
    = indexes_of_equal before.contexts before.contexts c.state_call.new.self.serials c.args.self.now.serials c.state_call.new.self.core.indexes.group c.args.self.now.core.indexes.group
    refl c.state_call.ensures.serials c.state_call.ensures.group c.requires.indexes in
    let contexts : after.contexts ≡ destroyed c.args.number before.contexts = ap (λ (x : GroupState). x.contexts) c.in-Ok.ensures.done.state in
    indexes_of_equal after.contexts after.contexts c.drop_indexes.new.serials (only (λ n. has n after.contexts) c.state_call.new.self.serials) c.state_call.new.self.core.indexes.group c.state_call.new.self.core.indexes.group
    refl (c.drop_indexes.ensures ∙ ap (λ (x : GroupState). only (λ n. has n x.contexts) c.state_call.new.self.serials) c.group.ensures) refl
    (left_indexes before.contexts after.contexts c.state_call.new.self.serials c.state_call.new.self.core.indexes.group kept
    (λ n there. fewer-destroyed c.args.number n before.contexts (sym (ap (has n) contexts) ∙ there)))
