use Rattle.std.proofs.Common.{ℕ, ◌||◌, Some, ap, ◌∙◌, refl}
use Rattle.tables.specs.Table.{any_value}
use Rattle.gl_model.specs.Bindings.{same_option}
use Rattle.gl_model.specs.GroupEffect.{binds_buffer, attaches}
use Rattle.gl_model.specs.declared.state.Attachment.TheVariants.{Texture, Renderbuffer}
use Rattle.gl_state.specs.Ended.{without_all}
use Rattle.gl_state.proofs.Gone.{left_is, left_tied, left_gone}
use Rattle.gl_state.proofs.sweep.sweep.Goals as goal

pub returns-clause-swept : goal.returns-clause-swept
returns-clause-swept c =
    rw (
      left_is c.args.group.now.buffer_names c.args.group.now.buffers c.args.nameless.now.buffers c.requires.tied.buffers
          (λ (b : ℕ). any_value (binds_buffer b) c.args.group.now.contexts)
          c.remove_objects.new.objects c.unlist_all.new.nameless c.note_buffers.new.ended.items c.note_buffers.ensures
          (c.remove_objects.ensures ∙ ap (λ ks. without_all ks c.args.group.now.buffers) c.as_slice.ensures.value)
          (c.unlist_all.ensures ∙ ap (λ ks. without_all ks c.args.nameless.now.buffers) c.as_slice-2.ensures.value),
      left_is c.args.group.now.texture_names c.args.group.now.textures c.args.nameless.now.textures c.requires.tied.textures
          (λ (b : ℕ). any_value (λ x. same_option x.texture (Some b) || attaches (Texture b) x) c.args.group.now.contexts)
          c.remove_objects-2.new.objects c.unlist_all-2.new.nameless c.note_textures.new.ended.items c.note_textures.ensures
          (c.remove_objects-2.ensures ∙ ap (λ ks. without_all ks c.args.group.now.textures) c.as_slice-3.ensures.value)
          (c.unlist_all-2.ensures ∙ ap (λ ks. without_all ks c.args.nameless.now.textures) c.as_slice-4.ensures.value),
      left_is c.args.group.now.renderbuffer_names c.args.group.now.renderbuffers c.args.nameless.now.renderbuffers c.requires.tied.renderbuffers
          (λ (b : ℕ). any_value (λ x. same_option x.renderbuffer (Some b) || attaches (Renderbuffer b) x) c.args.group.now.contexts)
          c.remove_objects-3.new.objects c.unlist_all-3.new.nameless c.note_renderbuffers.new.ended.items c.note_renderbuffers.ensures
          (c.remove_objects-3.ensures ∙ ap (λ ks. without_all ks c.args.group.now.renderbuffers) c.as_slice-5.ensures.value)
          (c.unlist_all-3.ensures ∙ ap (λ ks. without_all ks c.args.nameless.now.renderbuffers) c.as_slice-6.ensures.value),
    ) refl

pub returns-clause-tied : goal.returns-clause-tied
returns-clause-tied c = record {
  buffers = left_tied c.args.group.now.buffer_names c.args.group.now.buffers c.args.nameless.now.buffers c.requires.tied.buffers
      (λ (b : ℕ). any_value (binds_buffer b) c.args.group.now.contexts)
      c.remove_objects.new.objects c.unlist_all.new.nameless c.note_buffers.new.ended.items c.note_buffers.ensures
      (c.remove_objects.ensures ∙ ap (λ ks. without_all ks c.args.group.now.buffers) c.as_slice.ensures.value)
      (c.unlist_all.ensures ∙ ap (λ ks. without_all ks c.args.nameless.now.buffers) c.as_slice-2.ensures.value);
  textures = left_tied c.args.group.now.texture_names c.args.group.now.textures c.args.nameless.now.textures c.requires.tied.textures
      (λ (b : ℕ). any_value (λ x. same_option x.texture (Some b) || attaches (Texture b) x) c.args.group.now.contexts)
      c.remove_objects-2.new.objects c.unlist_all-2.new.nameless c.note_textures.new.ended.items c.note_textures.ensures
      (c.remove_objects-2.ensures ∙ ap (λ ks. without_all ks c.args.group.now.textures) c.as_slice-3.ensures.value)
      (c.unlist_all-2.ensures ∙ ap (λ ks. without_all ks c.args.nameless.now.textures) c.as_slice-4.ensures.value);
  renderbuffers = left_tied c.args.group.now.renderbuffer_names c.args.group.now.renderbuffers c.args.nameless.now.renderbuffers c.requires.tied.renderbuffers
      (λ (b : ℕ). any_value (λ x. same_option x.renderbuffer (Some b) || attaches (Renderbuffer b) x) c.args.group.now.contexts)
      c.remove_objects-3.new.objects c.unlist_all-3.new.nameless c.note_renderbuffers.new.ended.items c.note_renderbuffers.ensures
      (c.remove_objects-3.ensures ∙ ap (λ ks. without_all ks c.args.group.now.renderbuffers) c.as_slice-5.ensures.value)
      (c.unlist_all-3.ensures ∙ ap (λ ks. without_all ks c.args.nameless.now.renderbuffers) c.as_slice-6.ensures.value);
}

pub returns-clause-ended : goal.returns-clause-ended
returns-clause-ended c = record {
  buffers = left_gone c.args.group.now.buffer_names c.args.group.now.buffers c.args.nameless.now.buffers c.requires.tied.buffers
      (λ (b : ℕ). any_value (binds_buffer b) c.args.group.now.contexts)
      c.remove_objects.new.objects c.unlist_all.new.nameless c.note_buffers.new.ended.items c.note_buffers.ensures
      (c.remove_objects.ensures ∙ ap (λ ks. without_all ks c.args.group.now.buffers) c.as_slice.ensures.value)
      (c.unlist_all.ensures ∙ ap (λ ks. without_all ks c.args.nameless.now.buffers) c.as_slice-2.ensures.value);
  textures = left_gone c.args.group.now.texture_names c.args.group.now.textures c.args.nameless.now.textures c.requires.tied.textures
      (λ (b : ℕ). any_value (λ x. same_option x.texture (Some b) || attaches (Texture b) x) c.args.group.now.contexts)
      c.remove_objects-2.new.objects c.unlist_all-2.new.nameless c.note_textures.new.ended.items c.note_textures.ensures
      (c.remove_objects-2.ensures ∙ ap (λ ks. without_all ks c.args.group.now.textures) c.as_slice-3.ensures.value)
      (c.unlist_all-2.ensures ∙ ap (λ ks. without_all ks c.args.nameless.now.textures) c.as_slice-4.ensures.value);
  renderbuffers = left_gone c.args.group.now.renderbuffer_names c.args.group.now.renderbuffers c.args.nameless.now.renderbuffers c.requires.tied.renderbuffers
      (λ (b : ℕ). any_value (λ x. same_option x.renderbuffer (Some b) || attaches (Renderbuffer b) x) c.args.group.now.contexts)
      c.remove_objects-3.new.objects c.unlist_all-3.new.nameless c.note_renderbuffers.new.ended.items c.note_renderbuffers.ensures
      (c.remove_objects-3.ensures ∙ ap (λ ks. without_all ks c.args.group.now.renderbuffers) c.as_slice-5.ensures.value)
      (c.unlist_all-3.ensures ∙ ap (λ ks. without_all ks c.args.nameless.now.renderbuffers) c.as_slice-6.ensures.value);
}
