-- The effect of a call that changes the current context, and no reference of it.
use Rattle.std.proofs.Common.{◌≡◌, ℕ, ◌==◌, false, cond, Option, Some, None, sym, ap, ◌∙◌, refl}
use Rattle.std.specs.Option.{option_map, option_map_or}
use Rattle.gl_calls.specs.declared.call.Call.{Call}
use Rattle.gl_calls.specs.Egl.{is_egl_call}
use Rattle.gl_model.specs.declared.state.Context.{Context}
use Rattle.gl_model.specs.declared.state.GroupState.{GroupState}
use Rattle.gl_model.specs.Bindings.{current_entry, same_option}
use Rattle.gl_model.specs.GroupEffect.{swept, group_effect, gl_change, gl_change_in, with_context}
use Rattle.gl_state.specs.Order.{IsKept}
use Rattle.gl_state.specs.Changes.{changed_context, changed_if, current_number, after_change}
use Rattle.gl_state.proofs.Rising.{found_entry, changed_entry, IsRising-changed}
use Rattle.gl_state.proofs.Swept.{KeepsReferences, swept-changed_context}

-- the change by number is the change of the entry that was found
pub changed_current : (group : GroupState) (thread : ℕ) (change : Context → Context) (e : ℕ × Context) → IsKept group → current_entry group thread ≡ Some e → record group { contexts = changed_context e.0 change group.contexts } ≡ with_context group e.0 (change e.1)
changed_current group thread change e kept found =
    ap (λ contexts. record group { contexts = contexts })
    (changed_entry change e.0 e.1 group.contexts kept.contexts (found_entry (λ x. same_option x.1.thread (Some thread)) group.contexts e kept.contexts found))

noted_at : (group : GroupState) (thread : ℕ) (change : Context → Context) (found : Option (ℕ × Context)) → IsKept group → current_entry group thread ≡ found → record group { contexts = changed_if (option_map (λ e. e.0) found) change group.contexts } ≡ option_map_or (λ e. with_context group e.0 (change e.1)) found group
noted_at group thread change None kept found = refl
noted_at group thread change (Some e) kept found = changed_current group thread change e kept found

pub after_change-noted : (group : GroupState) (thread : ℕ) (change : Context → Context) → IsKept group → after_change group thread change ≡ option_map_or (λ e. with_context group e.0 (change e.1)) (current_entry group thread) group
after_change-noted group thread change kept = noted_at group thread change (current_entry group thread) kept refl

module _ (group : GroupState) (thread : ℕ) (change : Context → Context) (kept : IsKept group) (keeps : KeepsReferences change) where
  changed_is_kept : (number : Option ℕ) → IsKept (record group { contexts = changed_if number change group.contexts })
  changed_is_kept None = kept
  changed_is_kept (Some n) = record {
    contexts = IsRising-changed (λ e. cond (e.0 == n) (change e.1) e.1) group.contexts kept.contexts;
    buffers = kept.buffers;
    referred = swept-changed_context group n change keeps kept.referred;
  }

  pub IsKept-after_change : IsKept (after_change group thread change)
  IsKept-after_change = changed_is_kept (current_number group thread)

  module _ (asked : Call) (gl : is_egl_call asked ≡ false) (changes : (n : ℕ) (c : Context) → gl_change group n c asked ≡ with_context group n (change c)) where
    effect_at : (found : Option (ℕ × Context)) → current_entry group thread ≡ found → record group { contexts = changed_if (option_map (λ e. e.0) found) change group.contexts } ≡ swept (gl_change_in group found asked)
    effect_at None found = sym kept.referred
    effect_at (Some e) found =
        let current = changed_current group thread change e kept found in
        sym (swept-changed_context group e.0 change keeps kept.referred) ∙ ap swept (current ∙ sym (changes e.0 e.1))

    pub after_change-effect : after_change group thread change ≡ group_effect group thread asked
    after_change-effect = effect_at (current_entry group thread) refl ∙ rw gl refl
