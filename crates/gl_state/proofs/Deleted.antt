-- What deleting a name does to the group, as its parts are changed.
use Rattle.std.proofs.Common.{◌≡◌, ℕ, Option, Some, None, refl}
use Rattle.std.specs.Option.{option_map_or}
use Rattle.gl_calls.specs.declared.words.ObjectKind.TheVariants as kinds
use Rattle.tables.specs.Table.{with_entry}
use Rattle.gl_model.specs.declared.state.Context.{Context}
use Rattle.gl_model.specs.declared.state.GroupState.{GroupState}
use Rattle.gl_model.specs.GroupEffect.{swept, delete, object_of, after_delete, without_buffer}
use Rattle.gl_state.specs.Changes.{changed_at, changed_buffer, without_texture, without_renderbuffer}

module _ (group : GroupState) (number name : ℕ) (context : Context)
    (changed : (change : Context → Context) → changed_at number change group.contexts ≡ with_entry number (change context) group.contexts) where
  pub deleted_buffer : (o : Option ℕ) → object_of group.buffer_names name ≡ o → swept (record group {
    buffer_names = after_delete group.buffer_names name;
    buffers = changed_buffer o (λ f. record f { map = None }) group.buffers;
    contexts = option_map_or (λ b. changed_at number (λ c. without_buffer c b) group.contexts) o group.contexts;
  }) ≡ swept (delete group number context kinds.Buffer name)
  deleted_buffer None is = rw is refl
  deleted_buffer (Some b) is = rw (is, changed (λ c. without_buffer c b)) refl

  pub deleted_texture : (o : Option ℕ) → object_of group.texture_names name ≡ o → swept (record group {
    texture_names = after_delete group.texture_names name;
    contexts = option_map_or (λ t. changed_at number (λ c. without_texture c t) group.contexts) o group.contexts;
  }) ≡ swept (delete group number context kinds.Texture name)
  deleted_texture None is = rw is refl
  deleted_texture (Some t) is = rw (is, changed (λ c. without_texture c t)) refl

  pub deleted_renderbuffer : (o : Option ℕ) → object_of group.renderbuffer_names name ≡ o → swept (record group {
    renderbuffer_names = after_delete group.renderbuffer_names name;
    contexts = option_map_or (λ t. changed_at number (λ c. without_renderbuffer c t) group.contexts) o group.contexts;
  }) ≡ swept (delete group number context kinds.Renderbuffer name)
  deleted_renderbuffer None is = rw is refl
  deleted_renderbuffer (Some t) is = rw (is, changed (λ c. without_renderbuffer c t)) refl
