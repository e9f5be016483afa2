-- The effect of a call on syncs.
use Rattle.std.proofs.Common.{◌≡◌, ℕ, false, cond, Option, Some, None, is_some, sym, ap, ◌∙◌, refl}
use Rattle.std.specs.Option.{option_map}
use Rattle.gl_calls.specs.declared.call.Call.{Call}
use Rattle.gl_calls.specs.Egl.{is_egl_call}
use Rattle.tables.specs.Table.{Entries}
use Rattle.gl_model.specs.declared.state.Context.{Context}
use Rattle.gl_model.specs.declared.state.GroupState.{GroupState}
use Rattle.gl_model.specs.Bindings.{current_entry, current_context}
use Rattle.gl_model.specs.GroupEffect.{swept, group_effect, gl_change, gl_change_in}
use Rattle.gl_state.specs.Order.{IsKept}

pub IsKept-syncs : (group : GroupState) (syncs : Entries (Unit {0})) → IsKept group → IsKept (record group { syncs = syncs })
IsKept-syncs group syncs kept = record {
  contexts = kept.contexts;
  buffers = kept.buffers;
  referred = ap (λ (g : GroupState). record g { syncs = syncs }) kept.referred;
}

module _ (group : GroupState) (change : Entries (Unit {0}) → Entries (Unit {0})) (kept : IsKept group) (asked : Call) (gl : is_egl_call asked ≡ false)
    (changes : (n : ℕ) (c : Context) → gl_change group n c asked ≡ record group { syncs = change group.syncs }) where
  syncs_at : (found : Option (ℕ × Context)) → record group { syncs = cond (is_some (option_map (λ e. e.1) found)) (change group.syncs) group.syncs } ≡ swept (gl_change_in group found asked)
  syncs_at None = sym kept.referred
  syncs_at (Some e) = sym (IsKept-syncs group (change group.syncs) kept).referred ∙ ap swept (sym (changes e.0 e.1))

  pub syncs-effect : (thread : ℕ) → record group { syncs = cond (is_some (current_context group thread)) (change group.syncs) group.syncs } ≡ group_effect group thread asked
  syncs-effect thread = syncs_at (current_entry group thread) ∙ rw gl refl
