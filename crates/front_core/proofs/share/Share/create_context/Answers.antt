use Rattle.std.proofs.Common.{◌≡◌, ℕ, ◌==◌, false, true, ◌∙◌, ap, subst}
use Rattle.tables.specs.Table.{any_value, with_entry}
use Rattle.gl_model.specs.declared.state.GroupState.{GroupState}
use Rattle.gl_model.specs.GroupState.{new_context}
use Rattle.back_core.specs.Needs.{IsOfGroup}
use Rattle.front_moves.specs.Core.{face}
use Rattle.front_core.specs.Share.{IsLowestFree}
use Rattle.front_core.proofs.FreeIndexes.{all_taken, few_contexts}
use Rattle.front_core.proofs.ContextIndexes.{created_indexes, indexes_of_equal}
use Rattle.back_core.specs.Frame.{NoBatch}
use Rattle.front_core.proofs.AtTheBack.{nothing_done}
use Rattle.front_core.proofs.share.Share.create_context.Goals as goal

pub unreachable-requires : goal.unreachable-requires
unreachable-requires g c =
    let before : GroupState = c.args.self.now.state in
    few_contexts before c.args.thread c.args.number c.requires.may.accepted
    (all_taken before.contexts c.args.self.now.serials (face c.args.self.now.core).group c.requires.indexes c.in_default.ensures.ordered
    (subst (λ n. (k : ℕ) → IsOfGroup n k → any_value (λ j. j == k) c.args.self.now.serials ≡ true) c.group.ensures.value c.in_default.ensures.none))

pub returns-in-Ok-state_call-clause-lowest : goal.returns-in-Ok-state_call-clause-lowest
returns-in-Ok-state_call-clause-lowest g c = (
  c.in-Some.index,
  c.state_call.ensures.serials ∙ c.in-Ok.ensures.ok ∙ ap (λ n. with_entry n c.in-Some.index c.args.self.now.serials) c.from.ensures,
  subst (λ n. IsLowestFree n c.args.self.now.serials c.in-Some.index) c.group.ensures.value (record { own = c.in-Some.ensures.own; free = c.in-Some.ensures.free; lowest = c.in-Some.ensures.lowest }),
)

pub returns-in-Ok-state_call-clause-indexes : goal.returns-in-Ok-state_call-clause-indexes
returns-in-Ok-state_call-clause-indexes g c =
    let before : GroupState = c.args.self.now.state in
    let own : IsOfGroup (face c.args.self.now.core).group c.in-Some.index = subst (λ n. IsOfGroup n c.in-Some.index) c.group.ensures.value c.in-Some.ensures.own in
    indexes_of_equal c.state_call.new.self.state.contexts (with_entry c.args.number new_context before.contexts)
    c.state_call.new.self.serials (with_entry c.args.number c.in-Some.index c.args.self.now.serials)
    c.state_call.new.self.core.indexes.group c.args.self.now.core.indexes.group
    (ap (λ (x : GroupState). x.contexts) c.in-Ok-state_call.ensures.done.state)
    (c.state_call.ensures.serials ∙ c.in-Ok.ensures.ok ∙ ap (λ n. with_entry n c.in-Some.index c.args.self.now.serials) c.from.ensures)
    c.state_call.ensures.group
    (created_indexes before.contexts c.args.self.now.serials (face c.args.self.now.core).group c.args.number c.in-Some.index new_context c.requires.indexes own c.in-Some.ensures.free)

pub returns-clause-err : goal.returns-clause-err
returns-clause-err g c = c.state_calls_come_to.ensures.owns (face c.args.self.now.core) (g.L.BackLink.state c.args.link.now) c.requires.may.backs.holds

pub returns-clause-at_back : goal.returns-clause-at_back
returns-clause-at_back g c = nothing_done (g.L.BackLink.state c.args.link.now) (g.L.BackLink.told c.args.link.now) 0 false true NoBatch
