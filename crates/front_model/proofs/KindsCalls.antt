-- What a call does to the tables of objects, before what nothing refers to is taken out.
use Rattle.std.proofs.Common.{◌≡◌, ℕ, false, Option, Some, None, refl, ap, arith, if◌then◌else◌}
use Rattle.std.specs.Option.{option_and_then}
use Rattle.formats.specs.declared.errors.EglError.TheVariants.{Success}
use Rattle.vk_types.specs.declared.handles.Kind.{Kind}
use Rattle.gl_calls.specs.declared.call.Call.{Call}
use Rattle.gl_calls.specs.declared.call.Call.TheVariants as call
use Rattle.gl_calls.specs.declared.words.BindTarget.TheVariants as targets
use Rattle.gl_calls.specs.declared.words.ObjectKind.TheVariants as kinds
use Rattle.gl_calls.specs.Egl.{is_egl_call}
use Rattle.tables.specs.Table.{entry}
use Rattle.gl_model.specs.declared.objects.BufferFacts.{BufferFacts}
use Rattle.gl_model.specs.declared.objects.ImageInfo.{ImageInfo}
use Rattle.gl_model.specs.declared.state.Context.{Context}
use Rattle.gl_model.specs.declared.state.GroupState.{GroupState}
use Rattle.gl_model.specs.Bindings.{buffer_binding, current_entry}
use Rattle.gl_model.specs.GroupEffect.{change_buffer, unmapped, delete_buffer, delete_texture, delete_renderbuffer, object_of, makes_object, with_egl_error, egl_change, gl_change, gl_change_in}
use Rattle.front_model.specs.Wanted.{buffer_kind, HasFreeNumbers}
use Rattle.front_model.specs.Calls.{makes_storage}
use Rattle.front_model.proofs.KindsTables.{Says, Says-changed, Says-made}

-- what the facts of a buffer and of an image say of its store
abbrev pub buffer_look : BufferFacts → Option Kind
buffer_look f = buffer_kind f.size

abbrev pub image_look : Option ImageInfo → Option ImageInfo
image_look image = image

-- the tables of one group say of each store what those of another say
pub record SaysAll (after before : GroupState) : Type 0 where
  pub buffers : Says buffer_look after.buffers before.buffers
  pub textures : Says image_look after.textures before.textures
  pub renderbuffers : Says image_look after.renderbuffers before.renderbuffers

nothing_said : (after before : GroupState) → after.buffers ≡ before.buffers → after.textures ≡ before.textures → after.renderbuffers ≡ before.renderbuffers → SaysAll after before
nothing_said after before buffers textures renderbuffers = record {
  buffers = λ k. ap (λ t. option_and_then buffer_look (entry k t)) buffers;
  textures = λ k. ap (λ t. option_and_then image_look (entry k t)) textures;
  renderbuffers = λ k. ap (λ t. option_and_then image_look (entry k t)) renderbuffers;
}

changed_says : (group : GroupState) (bound : Option ℕ) (change : BufferFacts → BufferFacts) → ((f : BufferFacts) → (change f).size ≡ f.size) → SaysAll (change_buffer group bound change) group
changed_says group None change keeps = nothing_said group group refl refl refl
changed_says group (Some b) change keeps = record {
  buffers = Says-changed buffer_look change b group.buffers (λ f. ap buffer_kind (keeps f));
  textures = λ k. refl;
  renderbuffers = λ k. refl;
}

deleted_says : (group : GroupState) (number : ℕ) (context : Context) (o : Option ℕ) → SaysAll (delete_buffer group number context o) group
deleted_says group number context None = nothing_said group group refl refl refl
deleted_says group number context (Some b) = record {
  buffers = Says-changed buffer_look unmapped b group.buffers (λ f. refl);
  textures = λ k. refl;
  renderbuffers = λ k. refl;
}

texture_deleted : (group : GroupState) (number : ℕ) (context : Context) (o : Option ℕ) → SaysAll (delete_texture group number context o) group
texture_deleted group number context None = nothing_said group group refl refl refl
texture_deleted group number context (Some t) = nothing_said (delete_texture group number context (Some t)) group refl refl refl

renderbuffer_deleted : (group : GroupState) (number : ℕ) (context : Context) (o : Option ℕ) → SaysAll (delete_renderbuffer group number context o) group
renderbuffer_deleted group number context None = nothing_said group group refl refl refl
renderbuffer_deleted group number context (Some t) = nothing_said (delete_renderbuffer group number context (Some t)) group refl refl refl

pub gl_says : (group : GroupState) (number : ℕ) (context : Context) (asked : Call) → entry group.buffer_names.made group.buffers ≡ None → HasFreeNumbers group → makes_storage asked ≡ false → SaysAll (gl_change group number context asked) group
gl_says group number context (call.Delete kinds.Buffer name) free numbers makes =
    let says = deleted_says group number context (object_of group.buffer_names name) in
    record { buffers = says.buffers; textures = says.textures; renderbuffers = says.renderbuffers }
gl_says group number context (call.Delete kinds.Texture name) free numbers makes =
    let says = texture_deleted group number context (object_of group.texture_names name) in
    record { buffers = says.buffers; textures = says.textures; renderbuffers = says.renderbuffers }
gl_says group number context (call.Delete kinds.Renderbuffer name) free numbers makes =
    let says = renderbuffer_deleted group number context (object_of group.renderbuffer_names name) in
    record { buffers = says.buffers; textures = says.textures; renderbuffers = says.renderbuffers }
gl_says group number context (call.Delete kinds.Framebuffer name) free numbers makes = record { buffers = λ k. refl; textures = λ k. refl; renderbuffers = λ k. refl }
gl_says group number context (call.Gen kinds.Buffer count) free numbers makes = record { buffers = λ k. refl; textures = λ k. refl; renderbuffers = λ k. refl }
gl_says group number context (call.Gen kinds.Texture count) free numbers makes = record { buffers = λ k. refl; textures = λ k. refl; renderbuffers = λ k. refl }
gl_says group number context (call.Gen kinds.Renderbuffer count) free numbers makes = record { buffers = λ k. refl; textures = λ k. refl; renderbuffers = λ k. refl }
gl_says group number context (call.Gen kinds.Framebuffer count) free numbers makes = record { buffers = λ k. refl; textures = λ k. refl; renderbuffers = λ k. refl }
gl_says group number context (call.Bind (targets.Buffer target) name) free numbers makes = record {
  buffers = Says-made buffer_look (makes_object group.buffer_names name) group.buffer_names.made (record { size = 0; map = None }) group.buffers refl free;
  textures = λ k. refl;
  renderbuffers = λ k. refl;
}
gl_says group number context (call.Bind (targets.Framebuffer target) name) free numbers makes = record { buffers = λ k. refl; textures = λ k. refl; renderbuffers = λ k. refl }
gl_says group number context (call.Bind targets.Texture name) free numbers makes = record {
  buffers = λ k. refl;
  textures = Says-made image_look (makes_object group.texture_names name) group.texture_names.made None group.textures refl (numbers.textures group.texture_names.made (omega arith));
  renderbuffers = λ k. refl;
}
gl_says group number context (call.Bind targets.Renderbuffer name) free numbers makes = record {
  buffers = λ k. refl;
  textures = λ k. refl;
  renderbuffers = Says-made image_look (makes_object group.renderbuffer_names name) group.renderbuffer_names.made None group.renderbuffers refl (numbers.renderbuffers group.renderbuffer_names.made (omega arith));
}
gl_says group number context (call.BufferData target size usage payload) free numbers makes = let bad : ⊥ = cc in absurd bad
gl_says group number context (call.TexStorage levels format width height) free numbers makes = let bad : ⊥ = cc in absurd bad
gl_says group number context (call.RenderbufferStorage format width height) free numbers makes = let bad : ⊥ = cc in absurd bad
gl_says group number context (call.MapBufferRange target offset len access) free numbers makes = changed_says group (buffer_binding context target) _ (λ f. refl)
gl_says group number context (call.UnmapBuffer target) free numbers makes = changed_says group (buffer_binding context target) unmapped (λ f. refl)
gl_says group number context asked free numbers makes = record { buffers = λ k. refl; textures = λ k. refl; renderbuffers = λ k. refl }

gl_in_says : (group : GroupState) (current : Option (ℕ × Context)) (asked : Call) → entry group.buffer_names.made group.buffers ≡ None → HasFreeNumbers group → makes_storage asked ≡ false → SaysAll (gl_change_in group current asked) group
gl_in_says group None asked free numbers makes = nothing_said group group refl refl refl
gl_in_says group (Some current) asked free numbers makes = gl_says group current.0 current.1 asked free numbers makes

-- the group after a call, before the sweep
abbrev pub unswept : GroupState → ℕ → Call → GroupState
unswept group thread asked =
    if is_egl_call asked then with_egl_error (egl_change group thread asked) thread Success
    else gl_change_in group (current_entry group thread) asked

pub unswept_says : (group : GroupState) (thread : ℕ) (asked : Call) → entry group.buffer_names.made group.buffers ≡ None → HasFreeNumbers group → makes_storage asked ≡ false → SaysAll (unswept group thread asked) group
unswept_says group thread (call.CreateContext number) free numbers makes = record { buffers = λ k. refl; textures = λ k. refl; renderbuffers = λ k. refl }
unswept_says group thread (call.DestroyContext number) free numbers makes = record { buffers = λ k. refl; textures = λ k. refl; renderbuffers = λ k. refl }
unswept_says group thread (call.MakeCurrent number) free numbers makes = record { buffers = λ k. refl; textures = λ k. refl; renderbuffers = λ k. refl }
unswept_says group thread call.EglGetError free numbers makes = record { buffers = λ k. refl; textures = λ k. refl; renderbuffers = λ k. refl }
unswept_says group thread (call.CreateSync number) free numbers makes = record { buffers = λ k. refl; textures = λ k. refl; renderbuffers = λ k. refl }
unswept_says group thread (call.EglClientWaitSync number flush timeout) free numbers makes = record { buffers = λ k. refl; textures = λ k. refl; renderbuffers = λ k. refl }
unswept_says group thread (call.DestroySync number) free numbers makes = record { buffers = λ k. refl; textures = λ k. refl; renderbuffers = λ k. refl }
unswept_says group thread asked free numbers makes = gl_in_says group (current_entry group thread) asked free numbers makes
