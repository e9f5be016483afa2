-- The effect of a call that changes the bound buffer.
use Rattle.std.proofs.Common.{◌≡◌, ℕ, ◌==◌, ◌||◌, Bool, true, false, cond, [], ◌∷◌, Option, Some, None, map, sym, ap, ◌∙◌, refl}
use Rattle.std.specs.Option.{option_map, option_and_then}
use Rattle.gl_calls.specs.declared.call.Call.{Call}
use Rattle.gl_calls.specs.declared.words.BufferTarget.{BufferTarget}
use Rattle.gl_calls.specs.Egl.{is_egl_call}
use Rattle.tables.specs.Table.{Entries, entry, with_entry, only, any_value}
use Rattle.gl_model.specs.declared.objects.BufferFacts.{BufferFacts}
use Rattle.gl_model.specs.declared.state.Context.{Context}
use Rattle.gl_model.specs.declared.state.GroupState.{GroupState}
use Rattle.gl_model.specs.Bindings.{current_entry, buffer_binding}
use Rattle.gl_model.specs.GroupEffect.{swept, group_effect, gl_change, gl_change_in, change_buffer, names_object, binds_buffer}
use Rattle.gl_state.specs.Order.{IsKept}
use Rattle.gl_state.specs.Changes.{bound_number, changed_buffer}
use Rattle.gl_state.proofs.Rising.{changed_entry, IsRising-changed}

-- a filter by keys, after a change of the values
only-changed : {V : Type 0} (test : ℕ → Bool) (g : ℕ × V → V) (t : Entries V) → only test (map (λ e. (e.0, g e)) t) ≡ map (λ e. (e.0, g e)) (only test t)
only-changed test g [] = refl
only-changed test g (e ∷ t) = step (test e.0) (only-changed test g t)
  where
    step : (b : Bool) → only test (map (λ x. (x.0, g x)) t) ≡ map (λ x. (x.0, g x)) (only test t) → cond b ((e.0, g e) ∷ only test (map (λ x. (x.0, g x)) t)) (only test (map (λ x. (x.0, g x)) t)) ≡ map (λ x. (x.0, g x)) (cond b (e ∷ only test t) (only test t))
    step true rest = ap (λ xs. (e.0, g e) ∷ xs) rest
    step false rest = rest

module _ (group : GroupState) (change : BufferFacts → BufferFacts) (kept : IsKept group) where
  module _ (b : ℕ) (f : BufferFacts) (has : entry b group.buffers ≡ Some f) where
    mapped : with_entry b (change f) group.buffers ≡ map (λ e. (e.0, cond (e.0 == b) (change e.1) e.1)) group.buffers
    mapped = sym (changed_entry change b f group.buffers kept.buffers has)

    whole : only (λ x. names_object group.buffer_names x || any_value (binds_buffer x) group.contexts) (with_entry b (change f) group.buffers) ≡ with_entry b (change f) group.buffers
    whole =
        ap (only (λ x. names_object group.buffer_names x || any_value (binds_buffer x) group.contexts)) mapped
        ∙ only-changed (λ x. names_object group.buffer_names x || any_value (binds_buffer x) group.contexts) (λ e. cond (e.0 == b) (change e.1) e.1) group.buffers
        ∙ ap (λ g. map (λ e. (e.0, cond (e.0 == b) (change e.1) e.1)) g.buffers) kept.referred
        ∙ sym mapped

    one_changed : IsKept (record group { buffers = with_entry b (change f) group.buffers })
    one_changed = record {
      contexts = kept.contexts;
      buffers = rw mapped (IsRising-changed (λ e. cond (e.0 == b) (change e.1) e.1) group.buffers kept.buffers);
      referred = rw (whole, ap (λ g. g.textures) kept.referred, ap (λ g. g.renderbuffers) kept.referred) refl;
    }

  at_entry : (b : ℕ) (has : Option BufferFacts) → entry b group.buffers ≡ has → IsKept (record group { buffers = changed_buffer (Some b) change group.buffers })
  at_entry b None has = rw has kept
  at_entry b (Some f) has = rw has (one_changed b f has)

  pub IsKept-changed_buffer : (number : Option ℕ) → IsKept (record group { buffers = changed_buffer number change group.buffers })
  IsKept-changed_buffer None = kept
  IsKept-changed_buffer (Some b) = at_entry b (entry b group.buffers) refl

  changed_is : (number : Option ℕ) → change_buffer group number change ≡ record group { buffers = changed_buffer number change group.buffers }
  changed_is None = refl
  changed_is (Some b) = refl

  module _ (thread : ℕ) (target : BufferTarget) (asked : Call) (gl : is_egl_call asked ≡ false) (changes : (n : ℕ) (c : Context) → gl_change group n c asked ≡ change_buffer group (buffer_binding c target) change) where
    effect_at : (found : Option (ℕ × Context)) → record group { buffers = changed_buffer (option_and_then (λ c. buffer_binding c target) (option_map (λ e. e.1) found)) change group.buffers } ≡ swept (gl_change_in group found asked)
    effect_at None = sym kept.referred
    effect_at (Some e) =
        sym (IsKept-changed_buffer (buffer_binding e.1 target)).referred
        ∙ ap swept (sym (changes e.0 e.1 ∙ changed_is (buffer_binding e.1 target)))

    pub changed_buffer-effect : record group { buffers = changed_buffer (bound_number group thread target) change group.buffers } ≡ group_effect group thread asked
    changed_buffer-effect = effect_at (current_entry group thread) ∙ rw gl refl
