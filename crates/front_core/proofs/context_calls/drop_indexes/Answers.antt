use Rattle.std.proofs.Common.{◌∙◌, ℕ, rules, tests}
use Rattle.tables.specs.Table.{has}
use Rattle.gl_state.proofs.Retained.{filter_map_from_retain}
use Rattle.front_core.proofs.ContextIndexes.{same_entries}
use Rattle.front_core.proofs.context_calls.drop_indexes.Goals as goal

pub returns : goal.returns
returns c =
    filter_map_from_retain (λ (k v : ℕ). has k c.args.contexts.now) (λ (k v : ℕ). v) _ _ (λ k v b w f t. search (rules, tests)) _ _ c.retain.ensures
    ∙ same_entries _
