-- The context that is current on a thread, by its number.
use Rattle.std.proofs.Common.{inl, inr, ◌<◌, ◌≡◌, ℕ, false, Option, Some, None, [], ◌∷◌, sym, ap, ◌∙◌, refl, arith}
use Rattle.std.specs.Option.{option_map, option_map_or}
use Rattle.std.proofs.lemmas.Grind.{common_steps}
use Rattle.gl_calls.specs.declared.call.Call.{Call}
use Rattle.gl_calls.specs.Egl.{is_egl_call}
use Rattle.tables.specs.Table.{Entries, entry, with_entry, with_value}
use Rattle.gl_model.proofs.TableLaws.{is_at-nat_cmp}
use Rattle.gl_model.specs.declared.state.Context.{Context}
use Rattle.gl_model.specs.declared.state.GroupState.{GroupState}
use Rattle.gl_model.specs.Bindings.{current_entry, same_option}
use Rattle.gl_model.specs.GroupEffect.{swept, group_effect, gl_change}
use Rattle.gl_state.specs.Order.{IsRising, IsKept}
use Rattle.gl_state.specs.Changes.{changed_at}
use Rattle.gl_state.proofs.Filtered.{IsRising-with_entry}
use Rattle.gl_state.proofs.Rising.{found_entry, past_head, set_head, set_past, above_absent, AreAbove-below}
use Rattle.std.proofs.lemmas.Bool.{cases_eq, cases_lt}

with_value_head : {V : Type 0} (k : ℕ) (w : V) (e : ℕ × V) (t : Entries V) → k ≡ e.0 → with_value k (e ∷ t) w ≡ (e.0, w) ∷ t
with_value_head k w e t same = grind (arith, common_steps, is_at-nat_cmp k e.0)

with_value_past : {V : Type 0} (k : ℕ) (w : V) (e : ℕ × V) (t : Entries V) → ((k ≡ e.0) → ⊥) → with_value k (e ∷ t) w ≡ e ∷ with_value k t w
with_value_past k w e t differs = grind (arith, common_steps, is_at-nat_cmp k e.0)

-- a value is changed where the key has one
pub with_value-with_entry : {V : Type 0} (k : ℕ) (v w : V) (t : Entries V) → IsRising t → entry k t ≡ Some v → with_value k t w ≡ with_entry k w t
with_value-with_entry k v w [] rising had = absurd (cc)
with_value-with_entry k v w (e ∷ t) rising had =
    elim (cases_eq k e.0) [
      | inl same ↦ with_value_head k w e t same ∙ sym (set_head k w e t same)
      | inr differs ↦
          let there : entry k t ≡ Some v = sym (past_head k e t differs) ∙ had in
          elim (cases_lt k e.0) [
            | inl below ↦ absurd (cc (above_absent k t (AreAbove-below k e.0 t below rising.0), there))
            | inr above ↦
                let past : e.0 < k = omega (arith, differs, above) in
                rw (with_value_past k w e t differs, set_past k w e t past, with_value-with_entry k v w t rising.1 there) refl
          ]
    ]

pub changed_at-entry : {V : Type 0} (k : ℕ) (change : V → V) (v : V) (t : Entries V) → IsRising t → entry k t ≡ Some v → changed_at k change t ≡ with_entry k (change v) t
changed_at-entry k change v t rising had = rw had (with_value-with_entry k v (change v) t rising had)

rising_at : {V : Type 0} (k : ℕ) (change : V → V) (t : Entries V) (o : Option V) → IsRising t → entry k t ≡ o → IsRising (changed_at k change t)
rising_at k change t None rising is = rw is rising
rising_at k change t (Some v) rising is = rw (changed_at-entry k change v t rising is) (IsRising-with_entry k (change v) t rising)

pub IsRising-changed_at : {V : Type 0} (k : ℕ) (change : V → V) (t : Entries V) → IsRising t → IsRising (changed_at k change t)
IsRising-changed_at k change t rising = rising_at k change t (entry k t) rising refl

pub IsRising-changed_if : {V A : Type 0} (k : ℕ) (change : A → V → V) (o : Option A) (t : Entries V) → IsRising t → IsRising (option_map_or (λ a. changed_at k (change a) t) o t)
IsRising-changed_if k change None t rising = rising
IsRising-changed_if k change (Some a) t rising = IsRising-changed_at k (change a) t rising

-- a context is the one of a thread
pub record IsCurrent (group : GroupState) (thread number : ℕ) (context : Context) : Type 0 where
  pub here : entry number group.contexts ≡ Some context
  pub effect : (asked : Call) → is_egl_call asked ≡ false → group_effect group thread asked ≡ swept (gl_change group number context asked)
  pub changed : (change : Context → Context) → changed_at number change group.contexts ≡ with_entry number (change context) group.contexts

effect_at : (group : GroupState) (thread : ℕ) (e : ℕ × Context) → current_entry group thread ≡ Some e → (asked : Call) → is_egl_call asked ≡ false → group_effect group thread asked ≡ swept (gl_change group e.0 e.1 asked)
effect_at group thread e found asked gl = rw (gl, found) refl

current_entry_at : (group : GroupState) (thread : ℕ) (number : ℕ) (found : Option (ℕ × Context)) → IsKept group → current_entry group thread ≡ found → option_map (λ e. e.0) found ≡ Some number → (context : Context) × IsCurrent group thread number context
current_entry_at group thread number None kept is none = absurd (cc)
current_entry_at group thread number (Some e) kept is some =
    let same : e.0 ≡ number = cc in
    let here : entry number group.contexts ≡ Some e.1 = ap (λ k. entry k group.contexts) (sym same) ∙ found_entry (λ x. same_option x.1.thread (Some thread)) group.contexts e kept.contexts is in (
      e.1,
      record {
        here = here;
        effect = λ asked gl. effect_at group thread e is asked gl ∙ ap (λ k. swept (gl_change group k e.1 asked)) same;
        changed = λ change. changed_at-entry number change e.1 group.contexts kept.contexts here;
      },
    )

pub current_at : (group : GroupState) (thread : ℕ) (number : ℕ) → IsKept group → option_map (λ e. e.0) (current_entry group thread) ≡ Some number → (context : Context) × IsCurrent group thread number context
current_at group thread number kept some = current_entry_at group thread number (current_entry group thread) kept refl some

-- without a context nothing changes
none_effect : (group : GroupState) (thread : ℕ) (asked : Call) (found : Option (ℕ × Context)) → IsKept group → current_entry group thread ≡ found → option_map (λ e. e.0) found ≡ None → is_egl_call asked ≡ false → group ≡ group_effect group thread asked
none_effect group thread asked None kept is none gl = sym kept.referred ∙ rw (gl, is) refl
none_effect group thread asked (Some e) kept is none gl = absurd (cc)

pub no_context_effect : (group : GroupState) (thread : ℕ) (asked : Call) → IsKept group → option_map (λ e. e.0) (current_entry group thread) ≡ None → is_egl_call asked ≡ false → group ≡ group_effect group thread asked
no_context_effect group thread asked kept none gl = none_effect group thread asked (current_entry group thread) kept refl none gl
