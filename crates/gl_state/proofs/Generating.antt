-- The context that is current on a thread, as it is looked up by its number.
use Rattle.std.proofs.Common.{◌≡◌, ℕ, Option, Some, None, sym, ap, refl, ◌∙◌}
use Rattle.std.specs.Option.{option_map}
use Rattle.tables.specs.Table.{entry}
use Rattle.gl_model.specs.declared.state.Context.{Context}
use Rattle.gl_model.specs.declared.state.GroupState.{GroupState}
use Rattle.gl_model.specs.Bindings.{current_entry, current_context, same_option}
use Rattle.gl_state.specs.Order.{IsKept}
use Rattle.gl_state.proofs.Rising.{found_entry}

entry_at : (group : GroupState) (thread number : ℕ) (found : Option (ℕ × Context)) → IsKept group → current_entry group thread ≡ found → option_map (λ e. e.0) found ≡ Some number → (c : Context) → option_map (λ e. e.1) found ≡ Some c → entry number group.contexts ≡ Some c
entry_at group thread number None kept is some c has = absurd (cc)
entry_at group thread number (Some e) kept is some c has =
    let same : e.0 ≡ number = cc in
    let one : e.1 ≡ c = cc in
    ap (λ k. entry k group.contexts) (sym same) ∙ found_entry (λ x. same_option x.1.thread (Some thread)) group.contexts e kept.contexts is ∙ ap (λ x. Some x) one

pub context_entry : (group : GroupState) (thread number : ℕ) → IsKept group → option_map (λ e. e.0) (current_entry group thread) ≡ Some number → (c : Context) → current_context group thread ≡ Some c → entry number group.contexts ≡ Some c
context_entry group thread number kept some c has = entry_at group thread number (current_entry group thread) kept refl some c has
