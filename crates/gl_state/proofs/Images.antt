-- Images that are given storage.
use Rattle.std.proofs.Common.{◌≡◌, ℕ, ◌==◌, ℤ, Bool, true, false, not, cond, List, [], ◌∷◌, map, is_some, is_none, Option, Some, None, sym, ap, ◌∙◌, refl}
use Rattle.std.specs.Option.{option_map, option_map_or, option_and_then}
use Rattle.std.specs.Map.{keys_of}
use Rattle.gl_calls.specs.declared.reply.Reply.{Reply}
use Rattle.gl_calls.specs.declared.call.Call.TheVariants as call
use Rattle.gl_calls.specs.declared.words.FormatWord.{FormatWord}
use Rattle.tables.specs.Table.{Entries, entry, has, with_entry, only}
use Rattle.gl_model.specs.declared.objects.ImageInfo.{ImageInfo}
use Rattle.gl_model.specs.declared.state.Context.{Context}
use Rattle.gl_model.specs.declared.state.GroupState.{GroupState}
use Rattle.gl_model.specs.declared.state.Names.{Names}
use Rattle.gl_model.specs.Bindings.{current_entry, current_context}
use Rattle.gl_model.specs.GroupEffect.{swept, group_effect, gl_change_in, change_image, new_image}
use Rattle.gl_model.specs.Refusal.{refusal, gl_refusal, gl_rows}
use Rattle.gl_model.specs.RefusalRows.{Row, first_row}
use Rattle.gl_state.specs.Order.{IsTied}
use Rattle.gl_state.specs.Ended.{gone}
use Rattle.gl_state.specs.Changes.{bound_texture_number, bound_renderbuffer_number}
use Rattle.gl_state.proofs.Rising.{changed_entry}
use Rattle.gl_state.proofs.Tied.{IsTied-changed, key_set-changed}
use Rattle.gl_state.proofs.Gone.{keys_of-key_set}

-- no row holds
abbrev AreFalse : List Row → Type 0
AreFalse [] = Unit {0}
AreFalse (row ∷ rows) = (row.0 ≡ false) × AreFalse rows

rows_step : (b : Bool) (r : Reply) (rows : List Row) → cond b (Some r) (first_row rows) ≡ None → (first_row rows ≡ None → AreFalse rows) → (b ≡ false) × AreFalse rows
rows_step true r rows none later = absurd (cc)
rows_step false r rows none later = (refl, later none)

none_holds : (rows : List Row) → first_row rows ≡ None → AreFalse rows
none_holds [] none = tt
none_holds (row ∷ rows) none = rows_step row.0 row.1 rows none (none_holds rows)

-- what is bound exists
bound_exists : (images : Entries (Option ImageInfo)) (bound : Option ℕ) → is_none (option_and_then (λ t. entry t images) bound) ≡ false → option_map_or (λ t. has t images) bound true ≡ true
bound_exists images None some = refl
bound_exists images (Some t) some = step (entry t images) some
  where
    step : (o : Option (Option ImageInfo)) → is_none o ≡ false → is_some o ≡ true
    step None some = absurd (cc)
    step (Some x) some = refl

texture_at : (group : GroupState) (levels : ℤ) (format : FormatWord) (width height : ℤ) (context : Option Context) → gl_refusal group context (call.TexStorage levels format width height) ≡ None → option_map_or (λ t. has t group.textures) (option_and_then (λ c. c.texture) context) true ≡ true
texture_at group levels format width height None accepted = refl
texture_at group levels format width height (Some context) accepted =
    bound_exists group.textures context.texture (none_holds (gl_rows group context (call.TexStorage levels format width height)) accepted).1.1.1.0

pub texture_exists : (group : GroupState) (thread : ℕ) (levels : ℤ) (format : FormatWord) (width height : ℤ) → refusal group thread (call.TexStorage levels format width height) ≡ None → option_map_or (λ t. has t group.textures) (bound_texture_number group thread) true ≡ true
texture_exists group thread levels format width height accepted = texture_at group levels format width height (current_context group thread) accepted

renderbuffer_at : (group : GroupState) (format : FormatWord) (width height : ℤ) (context : Option Context) → gl_refusal group context (call.RenderbufferStorage format width height) ≡ None → option_map_or (λ t. has t group.renderbuffers) (option_and_then (λ c. c.renderbuffer) context) true ≡ true
renderbuffer_at group format width height None accepted = refl
renderbuffer_at group format width height (Some context) accepted =
    bound_exists group.renderbuffers context.renderbuffer (none_holds (gl_rows group context (call.RenderbufferStorage format width height)) accepted).1.1.0

pub renderbuffer_exists : (group : GroupState) (thread : ℕ) (format : FormatWord) (width height : ℤ) → refusal group thread (call.RenderbufferStorage format width height) ≡ None → option_map_or (λ t. has t group.renderbuffers) (bound_renderbuffer_number group thread) true ≡ true
renderbuffer_exists group thread format width height accepted = renderbuffer_at group format width height (current_context group thread) accepted

tex_storage_at : (group : GroupState) (levels : ℤ) (format : FormatWord) (width height : ℤ) (found : Option (ℕ × Context)) → swept (record group { textures = change_image (option_and_then (λ c. c.texture) (option_map (λ e. e.1) found)) (new_image format width height) group.textures }) ≡ swept (gl_change_in group found (call.TexStorage levels format width height))
tex_storage_at group levels format width height None = refl
tex_storage_at group levels format width height (Some e) = refl

pub tex_storage-effect : (group : GroupState) (thread : ℕ) (levels : ℤ) (format : FormatWord) (width height : ℤ) → swept (record group { textures = change_image (bound_texture_number group thread) (new_image format width height) group.textures }) ≡ group_effect group thread (call.TexStorage levels format width height)
tex_storage-effect group thread levels format width height = tex_storage_at group levels format width height (current_entry group thread)

renderbuffer_storage_at : (group : GroupState) (format : FormatWord) (width height : ℤ) (found : Option (ℕ × Context)) → swept (record group { renderbuffers = change_image (option_and_then (λ c. c.renderbuffer) (option_map (λ e. e.1) found)) (new_image format width height) group.renderbuffers }) ≡ swept (gl_change_in group found (call.RenderbufferStorage format width height))
renderbuffer_storage_at group format width height None = refl
renderbuffer_storage_at group format width height (Some e) = refl

pub renderbuffer_storage-effect : (group : GroupState) (thread : ℕ) (format : FormatWord) (width height : ℤ) → swept (record group { renderbuffers = change_image (bound_renderbuffer_number group thread) (new_image format width height) group.renderbuffers }) ≡ group_effect group thread (call.RenderbufferStorage format width height)
renderbuffer_storage-effect group thread format width height = renderbuffer_storage_at group format width height (current_entry group thread)

-- names and objects stay tied
module _ (names : Names) (images : Entries (Option ImageInfo)) (nameless : Entries (Unit {0})) (tied : IsTied names images nameless) (image : Option ImageInfo) where
  mapped : (t : ℕ) (o : Option (Option ImageInfo)) → entry t images ≡ o → is_some o ≡ true → with_entry t image images ≡ map (λ e. (e.0, cond (e.0 == t) image e.1)) images
  mapped t None is some = absurd (cc)
  mapped t (Some i) is some = sym (changed_entry (λ _. image) t i images tied.rising is)

  pub IsTied-changed_image : (number : Option ℕ) → option_map_or (λ t. has t images) number true ≡ true → IsTied names (change_image number image images) nameless
  IsTied-changed_image None exists = tied
  IsTied-changed_image (Some t) exists =
      rw (mapped t (entry t images) refl exists) (IsTied-changed names images nameless tied (λ e. cond (e.0 == t) image e.1))

  pub gone-changed_image : (after : Entries (Option ImageInfo)) (number : Option ℕ) → option_map_or (λ t. has t images) number true ≡ true → gone (change_image number image images) after ≡ gone images after
  gone-changed_image after None exists = refl
  gone-changed_image after (Some t) exists =
      rw (mapped t (entry t images) refl exists)
      (sym (keys_of-key_set (only (λ k. not (has k after)) (map (λ e. (e.0, cond (e.0 == t) image e.1)) images)))
      ∙ ap keys_of (key_set-changed (λ e. cond (e.0 == t) image e.1) (λ k. not (has k after)) images)
      ∙ keys_of-key_set (only (λ k. not (has k after)) images))
