-- Names and objects after a name was bound or deleted.
use Rattle.std.proofs.Common.{◌≡◌, ℕ, ◌+◌, ◌≤◌, ◌==◌, ◌||◌, ◌&&◌, Bool, true, false, not, cond, [], ◌∷◌, map, length, is_some, Option, Some, None, sym, ap, ◌∙◌, refl, arith}
use Rattle.std.specs.Option.{option_map_or}
use Rattle.std.specs.Map.{keys_of}
use Rattle.std.proofs.lemmas.Grind.{common_steps}
use Rattle.tables.specs.Table.{Entries, entry, has, with_entry, without, only}
use Rattle.gl_model.specs.declared.objects.BufferFacts.{BufferFacts}
use Rattle.gl_model.specs.declared.state.Names.{Names}
use Rattle.gl_model.specs.GroupEffect.{names_object, object_of, makes_object, after_bind, with_made, after_delete}
use Rattle.gl_model.proofs.TableLaws.{is_at-nat_cmp, entry-with_entry, entry-only}
use Rattle.gl_state.specs.Order.{IsTied}
use Rattle.gl_model.specs.declared.state.GroupState.{GroupState}
use Rattle.gl_state.specs.declared.nameless.Nameless.{Nameless}
use Rattle.gl_state.specs.declared.nameless.Ended.{Ended}
use Rattle.gl_state.specs.Ended.{gone, AreGone, HasRoom}
use Rattle.gl_state.specs.Changes.{changed_buffer}
use Rattle.gl_state.proofs.Rising.{changed_entry}
use Rattle.gl_state.proofs.Filtered.{only-with_entry_out, only-same}
use Rattle.gl_state.proofs.Tied.{IsTied-made, IsTied-forgotten, IsTied-deleted, IsTied-deleted_alone, IsTied-changed, one_named, key_set-changed}
use Rattle.gl_state.proofs.Gone.{keys_of-key_set}

pub without-with_entry : {V : Type 0} (k : ℕ) (v : V) (t : Entries V) → has k t ≡ false → without k (with_entry k v t) ≡ t
without-with_entry k v [] absent = rw (is_at-nat_cmp k k) (grind (arith, common_steps))
without-with_entry k v (e ∷ t) absent = grind (arith, common_steps, is_at-nat_cmp, without-with_entry k v t)

pub length-with_entry : {V : Type 0} (k : ℕ) (v : V) (t : Entries V) → length (with_entry k v t) ≤ length t + 1
length-with_entry k v [] = omega arith
length-with_entry k v (e ∷ t) = grind (arith, common_steps, length-with_entry k v t)

no_object : {A : Type 0} (o : Option A) (b : Bool) → (b && not (is_some o)) ≡ true → o ≡ None
no_object None b is = refl
no_object (Some a) true is = absurd (cc)
no_object (Some a) false is = absurd (cc)

module _ {V : Type 0} (names : Names) (objects : Entries V) (nameless : Entries (Unit {0})) (tied : IsTied names objects nameless) (name : ℕ) (fresh : V) where
  -- a name is bound
  bound_at : (b : Bool) → makes_object names name ≡ b → IsTied (after_bind names name) (with_made names name fresh objects) nameless
  bound_at true is = rw is (IsTied-made names objects nameless tied name (no_object (object_of names name) (not (name == 0)) is) fresh)
  bound_at false is = rw is tied

  pub IsTied-bound : IsTied (after_bind names name) (with_made names name fresh objects) nameless
  IsTied-bound = bound_at (makes_object names name) refl

  module _ (bound : ℕ → Bool) (after : Entries V) (swept_is : after ≡ only (λ b. names_object (after_bind names name) b || bound b) (with_made names name fresh objects)) where
    stays : (makes : makes_object names name ≡ true) → has names.made after ≡ true
    stays makes =
        ap (has names.made) swept_is
        ∙ ap is_some (entry-only (λ b. names_object (after_bind names name) b || bound b) names.made (with_made names name fresh objects))
        ∙ rw makes (rw (one_named names objects nameless tied name (no_object (object_of names name) (not (name == 0)) makes) fresh) (ap is_some (entry-with_entry names.made names.made fresh objects) ∙ here))
      where
        here : is_some (cond (names.made == names.made) (Some fresh) (entry names.made objects)) ≡ true
        here = grind (arith, common_steps)

    gone_at : (b : Bool) → makes_object names name ≡ b → gone (with_made names name fresh objects) after ≡ gone objects after
    gone_at true is = rw is (ap keys_of (only-with_entry_out (λ b. not (has b after)) names.made fresh objects (ap not (stays is))))
    gone_at false is = rw is refl

    pub gone-bound : gone (with_made names name fresh objects) after ≡ gone objects after
    gone-bound = gone_at (makes_object names name) refl

module _ {V : Type 0} (names : Names) (objects : Entries V) (nameless : Entries (Unit {0})) (tied : IsTied names objects nameless) (name : ℕ) where
  -- a name is deleted
  listed_at : (b : ℕ) → object_of names name ≡ Some b → (c : Bool) → has b objects ≡ c → IsTied (after_delete names name) objects (cond c (with_entry b tt nameless) nameless)
  listed_at b is true had = IsTied-deleted names objects nameless tied name b is had
  listed_at b is false had = IsTied-deleted_alone names objects nameless tied name b is had

  lost_at : (o : Option ℕ) → object_of names name ≡ o → IsTied (after_delete names name) objects (option_map_or (λ b. cond (has b objects) (with_entry b tt nameless) nameless) o nameless)
  lost_at None is = IsTied-forgotten names objects nameless tied name is
  lost_at (Some b) is = listed_at b is (has b objects) refl

  pub IsTied-lost : IsTied (after_delete names name) objects (option_map_or (λ b. cond (has b objects) (with_entry b tt nameless) nameless) (object_of names name) nameless)
  IsTied-lost = lost_at (object_of names name) refl

pub length-listed : {V : Type 0} (objects : Entries V) (nameless : Entries (Unit {0})) (o : Option ℕ) → length (option_map_or (λ b. cond (has b objects) (with_entry b tt nameless) nameless) o nameless) ≤ length nameless + 1
length-listed objects nameless None = omega arith
length-listed objects nameless (Some b) = step (has b objects)
  where
    step : (c : Bool) → length (cond c (with_entry b tt nameless) nameless) ≤ length nameless + 1
    step true = length-with_entry b tt nameless
    step false = omega arith

-- a buffer changes
module _ (change : BufferFacts → BufferFacts) (names : Names) (objects : Entries BufferFacts) (nameless : Entries (Unit {0})) (tied : IsTied names objects nameless) where
  changed_at_entry : (b : ℕ) (o : Option BufferFacts) → entry b objects ≡ o → IsTied names (changed_buffer (Some b) change objects) nameless
  changed_at_entry b None is = rw is tied
  changed_at_entry b (Some f) is =
      rw (is, sym (changed_entry change b f objects tied.rising is))
      (IsTied-changed names objects nameless tied (λ e. cond (e.0 == b) (change e.1) e.1))

  pub IsTied-changed_buffer : (number : Option ℕ) → IsTied names (changed_buffer number change objects) nameless
  IsTied-changed_buffer None = tied
  IsTied-changed_buffer (Some b) = changed_at_entry b (entry b objects) refl

  gone_at_entry : (after : Entries BufferFacts) (b : ℕ) (o : Option BufferFacts) → entry b objects ≡ o → gone (changed_buffer (Some b) change objects) after ≡ gone objects after
  gone_at_entry after b None is = rw is refl
  gone_at_entry after b (Some f) is =
      rw (is, sym (changed_entry change b f objects tied.rising is))
      (sym (keys_of-key_set (only (λ k. not (has k after)) (map (λ e. (e.0, cond (e.0 == b) (change e.1) e.1)) objects)))
      ∙ ap keys_of (key_set-changed (λ e. cond (e.0 == b) (change e.1) e.1) (λ k. not (has k after)) objects)
      ∙ keys_of-key_set (only (λ k. not (has k after)) objects))

  pub gone-changed_buffer : (after : Entries BufferFacts) (number : Option ℕ) → gone (changed_buffer number change objects) after ≡ gone objects after
  gone-changed_buffer after None = refl
  gone-changed_buffer after (Some b) = gone_at_entry after b (entry b objects) refl

-- what stays is not gone
only-nothing : {V : Type 0} (t : Entries V) → only (λ _. false) t ≡ []
only-nothing [] = refl
only-nothing (e ∷ t) = only-nothing t

pub gone-same : {V : Type 0} (t : Entries V) → gone t t ≡ []
gone-same t = ap keys_of (only-same (λ k. not (has k t)) (λ _. false) t (λ k had. ap not had) ∙ only-nothing t)

pub AreGone-none : (group : GroupState) (ended : Ended) (nameless : Nameless) (more : ℕ) → HasRoom ended nameless more → AreGone group group ended
AreGone-none group ended nameless more room = record {
  buffers = room.no_buffers ∙ sym (gone-same group.buffers);
  textures = room.no_textures ∙ sym (gone-same group.textures);
  renderbuffers = room.no_renderbuffers ∙ sym (gone-same group.renderbuffers);
}
