-- Which images have storage after a call.
use Rattle.std.proofs.Common.{◌≡◌, ℕ, ◌+◌, ◌≤◌, ◌==◌, Bool, true, false, cond, Option, Some, None, is_none, refl, ap, sym, ◌∙◌, arith, if◌then◌else◌}
use Rattle.std.specs.Option.{option_map_or, option_map, option_and_then}
use Rattle.std.proofs.lemmas.Grind.{common_steps}
use Rattle.gl_calls.specs.declared.call.Call.{Call}
use Rattle.gl_calls.specs.declared.call.Call.TheVariants as call
use Rattle.gl_calls.specs.declared.words.BindTarget.TheVariants as targets
use Rattle.gl_calls.specs.declared.words.ObjectKind.TheVariants as kinds
use Rattle.tables.specs.Table.{Entries, entry, with_entry}
use Rattle.gl_model.specs.declared.objects.BufferFacts.{BufferFacts}
use Rattle.gl_model.specs.declared.objects.ImageInfo.{ImageInfo}
use Rattle.gl_model.specs.GroupState.{Attachment, Empty, Texture, Renderbuffer, Names, Context, GroupState}
use Rattle.gl_model.specs.Bindings.{buffer_binding, same_attachment, image_of, current_context, current_entry}
use Rattle.gl_model.specs.Storage.{image_bytes, passes_limit}
use Rattle.gl_model.specs.ImageRows.{storage_of, storage_bytes, tex_storage_rows, renderbuffer_storage_rows}
use Rattle.gl_model.specs.Refusal.{refusal, gl_refusal, bound_texture, bound_renderbuffer}
use Rattle.gl_model.specs.GroupEffect.{change_buffer, delete_buffer, delete_texture, delete_renderbuffer, after_delete, object_of, makes_object, gl_change, gl_change_in, change_image, new_image}
use Rattle.gl_model.specs.Effect.{bound_texture_attachment}
use Rattle.gl_model.proofs.TableLaws.{entry-with_entry}
use Rattle.gl_model.proofs.CallSizes.{none_holds}
use Rattle.gl_model.proofs.ReachedSizes.{unswept, replaced-none, bound-free}

-- the image that gets new storage
abbrev pub storage_target : Context → Call → Attachment
storage_target context (call.TexStorage levels format width height) = bound_texture_attachment context
storage_target context (call.RenderbufferStorage format width height) = option_map_or Renderbuffer context.renderbuffer Empty
storage_target context _ = Empty

abbrev pub target_in : Option Context → Call → Attachment
target_in o asked = option_map_or (λ context. storage_target context asked) o Empty

-- a number that was not given is free
abbrev pub Unmade : Names → Entries (Option ImageInfo) → ℕ → Type 0
Unmade names images k = names.made ≤ k → entry k images ≡ None

-- in a group the numbers from k on are free where they were not given
pub record IsUnmade (group : GroupState) (k : ℕ) : Type 0 where
  pub textures : Unmade group.texture_names group.textures k
  pub renderbuffers : Unmade group.renderbuffer_names group.renderbuffers k

-- An image has the storage that it had, but for the target, and numbers that were not given stay free.
pub record ImagesStay (group after : GroupState) (target : Attachment) (k : ℕ) : Type 0 where
  pub textures : same_attachment (Texture k) target ≡ false → image_of after.textures (Some k) ≡ image_of group.textures (Some k)
  pub renderbuffers : same_attachment (Renderbuffer k) target ≡ false → image_of after.renderbuffers (Some k) ≡ image_of group.renderbuffers (Some k)
  pub unmade : IsUnmade after k

-- two groups have the same images, under the same numbers
pub record SameImages (one two : GroupState) : Type 0 where
  pub textures : one.textures ≡ two.textures
  pub renderbuffers : one.renderbuffers ≡ two.renderbuffers
  pub texture_numbers : one.texture_names.made ≡ two.texture_names.made
  pub renderbuffer_numbers : one.renderbuffer_names.made ≡ two.renderbuffer_names.made

pub lower : {m n b : ℕ} → m ≡ n → m ≤ b → n ≤ b
lower same h = omega (arith, same)

pub unmade_too : (one two : GroupState) (k : ℕ) → SameImages one two → IsUnmade two k → IsUnmade one k
unmade_too one two k same free = record {
  textures = λ past. ap (λ t. entry k t) same.textures ∙ free.textures (lower same.texture_numbers past);
  renderbuffers = λ past. ap (λ t. entry k t) same.renderbuffers ∙ free.renderbuffers (lower same.renderbuffer_numbers past);
}

pub unchanged : (group after : GroupState) (target : Attachment) (k : ℕ) → IsUnmade group k → SameImages after group → ImagesStay group after target k
unchanged group after target k free same = record {
  textures = λ apart. ap (λ t. image_of t (Some k)) same.textures;
  renderbuffers = λ apart. ap (λ t. image_of t (Some k)) same.renderbuffers;
  unmade = unmade_too after group k same free;
}

-- Tables of images where one entry is other

made_stays : (t : Bool) (made k : ℕ) (table : Entries (Option ImageInfo)) → (made ≤ k → entry k table ≡ None) → image_of (if t then with_entry made None table else table) (Some k) ≡ image_of table (Some k)
made_stays false made k table free = refl
made_stays true made k table free = ap (option_and_then (λ i. i)) (entry-with_entry made k None table) ∙ by_key (k == made) refl
  where
    given : (m n : ℕ) → (m == n) ≡ true → n ≤ m
    given m n h = grind (arith, common_steps)

    by_key : (t : Bool) → (k == made) ≡ t → option_and_then (λ (i : Option ImageInfo). i) (cond t (Some None) (entry k table)) ≡ image_of table (Some k)
    by_key false is = refl
    by_key true is = sym (ap (option_and_then (λ i. i)) (free (given k made is)))

passed_by : {V : Type 0} (t : Bool) (v : V) (o : Option V) → t ≡ false → cond t (Some v) o ≡ o
passed_by true v o h = let no : ⊥ = cc in absurd no
passed_by false v o h = refl

texture_stays : (bound : Option ℕ) (image : Option ImageInfo) (k : ℕ) (table : Entries (Option ImageInfo)) → same_attachment (Texture k) (option_map_or Texture bound Empty) ≡ false → image_of (change_image bound image table) (Some k) ≡ image_of table (Some k)
texture_stays None image k table apart = refl
texture_stays (Some u) image k table apart = ap (option_and_then (λ i. i)) (entry-with_entry u k image table ∙ passed_by (k == u) image (entry k table) apart)

renderbuffer_stays : (bound : Option ℕ) (image : Option ImageInfo) (k : ℕ) (table : Entries (Option ImageInfo)) → same_attachment (Renderbuffer k) (option_map_or Renderbuffer bound Empty) ≡ false → image_of (change_image bound image table) (Some k) ≡ image_of table (Some k)
renderbuffer_stays None image k table apart = refl
renderbuffer_stays (Some u) image k table apart = ap (option_and_then (λ i. i)) (entry-with_entry u k image table ∙ passed_by (k == u) image (entry k table) apart)

-- new storage is that of an image that is there
stored-free : (bound : Option ℕ) (image : Option ImageInfo) (k : ℕ) (table : Entries (Option ImageInfo)) → is_none (option_and_then (λ t. entry t table) bound) ≡ false → entry k table ≡ None → entry k (change_image bound image table) ≡ None
stored-free None image k table there free = free
stored-free (Some u) image k table there free = by_entry (entry u table) refl there
  where
    by_entry : (o : Option (Option ImageInfo)) → entry u table ≡ o → is_none o ≡ false → entry k (with_entry u image table) ≡ None
    by_entry None is h = let no : ⊥ = cc in absurd no
    by_entry (Some old) is h = replaced-none u k image old table is free

-- Parts of the group that calls on other objects leave alone

change_buffer-images : (group : GroupState) (bound : Option ℕ) (change : BufferFacts → BufferFacts) → SameImages (change_buffer group bound change) group
change_buffer-images group None change = record { textures = refl; renderbuffers = refl; texture_numbers = refl; renderbuffer_numbers = refl }
change_buffer-images group (Some b) change = record { textures = refl; renderbuffers = refl; texture_numbers = refl; renderbuffer_numbers = refl }

deleted_buffer : (group : GroupState) (number : ℕ) (context : Context) (names : Names) (o : Option ℕ) → SameImages (record (delete_buffer group number context o) { buffer_names = names }) group
deleted_buffer group number context names None = record { textures = refl; renderbuffers = refl; texture_numbers = refl; renderbuffer_numbers = refl }
deleted_buffer group number context names (Some b) = record { textures = refl; renderbuffers = refl; texture_numbers = refl; renderbuffer_numbers = refl }

deleted_texture : (group : GroupState) (number : ℕ) (context : Context) (name : ℕ) (o : Option ℕ) → SameImages (record (delete_texture group number context o) { texture_names = after_delete group.texture_names name }) group
deleted_texture group number context name None = record { textures = refl; renderbuffers = refl; texture_numbers = refl; renderbuffer_numbers = refl }
deleted_texture group number context name (Some t) = record { textures = refl; renderbuffers = refl; texture_numbers = refl; renderbuffer_numbers = refl }

deleted_renderbuffer : (group : GroupState) (number : ℕ) (context : Context) (name : ℕ) (o : Option ℕ) → SameImages (record (delete_renderbuffer group number context o) { renderbuffer_names = after_delete group.renderbuffer_names name }) group
deleted_renderbuffer group number context name None = record { textures = refl; renderbuffers = refl; texture_numbers = refl; renderbuffer_numbers = refl }
deleted_renderbuffer group number context name (Some r) = record { textures = refl; renderbuffers = refl; texture_numbers = refl; renderbuffer_numbers = refl }

-- each accepted call of OpenGL ES
gl_images : (group : GroupState) (number : ℕ) (context : Context) (asked : Call) (k : ℕ) → IsUnmade group k → gl_refusal group (Some context) asked ≡ None → ImagesStay group (gl_change group number context asked) (storage_target context asked) k
gl_images group number context (call.Delete kinds.Buffer name) k free accepted = unchanged group _ _ k free (deleted_buffer group number context _ (object_of group.buffer_names name))
gl_images group number context (call.Delete kinds.Texture name) k free accepted = unchanged group _ _ k free (deleted_texture group number context name (object_of group.texture_names name))
gl_images group number context (call.Delete kinds.Renderbuffer name) k free accepted = unchanged group _ _ k free (deleted_renderbuffer group number context name (object_of group.renderbuffer_names name))
gl_images group number context (call.Delete kinds.Framebuffer name) k free accepted = unchanged group _ _ k free (record { textures = refl; renderbuffers = refl; texture_numbers = refl; renderbuffer_numbers = refl })
gl_images group number context (call.Gen kinds.Buffer count) k free accepted = unchanged group _ _ k free (record { textures = refl; renderbuffers = refl; texture_numbers = refl; renderbuffer_numbers = refl })
gl_images group number context (call.Gen kinds.Texture count) k free accepted = unchanged group _ _ k free (record { textures = refl; renderbuffers = refl; texture_numbers = refl; renderbuffer_numbers = refl })
gl_images group number context (call.Gen kinds.Renderbuffer count) k free accepted = unchanged group _ _ k free (record { textures = refl; renderbuffers = refl; texture_numbers = refl; renderbuffer_numbers = refl })
gl_images group number context (call.Gen kinds.Framebuffer count) k free accepted = unchanged group _ _ k free (record { textures = refl; renderbuffers = refl; texture_numbers = refl; renderbuffer_numbers = refl })
gl_images group number context (call.Bind (targets.Buffer target) name) k free accepted = unchanged group _ _ k free (record { textures = refl; renderbuffers = refl; texture_numbers = refl; renderbuffer_numbers = refl })
gl_images group number context (call.Bind (targets.Framebuffer target) name) k free accepted = unchanged group _ _ k free (record { textures = refl; renderbuffers = refl; texture_numbers = refl; renderbuffer_numbers = refl })
gl_images group number context (call.Bind targets.Texture name) k free accepted =
    let names = group.texture_names in
    let makes = makes_object names name in
    record {
      textures = λ apart. made_stays makes names.made k group.textures free.textures;
      renderbuffers = λ apart. refl;
      unmade = record {
        textures = bound-free makes names (record { objects = with_entry name (Some names.made) names.objects; made = names.made + 1 }) None group.textures k refl free.textures;
        renderbuffers = free.renderbuffers;
      };
    }
gl_images group number context (call.Bind targets.Renderbuffer name) k free accepted =
    let names = group.renderbuffer_names in
    let makes = makes_object names name in
    record {
      textures = λ apart. refl;
      renderbuffers = λ apart. made_stays makes names.made k group.renderbuffers free.renderbuffers;
      unmade = record {
        textures = free.textures;
        renderbuffers = bound-free makes names (record { objects = with_entry name (Some names.made) names.objects; made = names.made + 1 }) None group.renderbuffers k refl free.renderbuffers;
      };
    }
gl_images group number context (call.BufferData target size usage payload) k free accepted = unchanged group _ _ k free (change_buffer-images group (buffer_binding context target) _)
gl_images group number context (call.MapBufferRange target offset len access) k free accepted = unchanged group _ _ k free (change_buffer-images group (buffer_binding context target) _)
gl_images group number context (call.UnmapBuffer target) k free accepted = unchanged group _ _ k free (change_buffer-images group (buffer_binding context target) _)
gl_images group number context (call.TexStorage levels format width height) k free accepted =
    let bound = bound_texture group context in
    let there : is_none bound ≡ false = (none_holds (tex_storage_rows levels format width height bound (passes_limit group 0 (storage_bytes format width height))) accepted).1.1.1.0 in
    record {
      textures = λ apart. texture_stays context.texture (new_image format width height) k group.textures apart;
      renderbuffers = λ apart. refl;
      unmade = record {
        textures = λ past. stored-free context.texture (new_image format width height) k group.textures there (free.textures past);
        renderbuffers = free.renderbuffers;
      };
    }
gl_images group number context (call.RenderbufferStorage format width height) k free accepted =
    let bound = bound_renderbuffer group context in
    let full = passes_limit group (image_bytes (storage_of bound)) (storage_bytes format width height) in
    let there : is_none bound ≡ false = (none_holds (renderbuffer_storage_rows format width height bound full) accepted).1.1.0 in
    record {
      textures = λ apart. refl;
      renderbuffers = λ apart. renderbuffer_stays context.renderbuffer (new_image format width height) k group.renderbuffers apart;
      unmade = record {
        textures = free.textures;
        renderbuffers = λ past. stored-free context.renderbuffer (new_image format width height) k group.renderbuffers there (free.renderbuffers past);
      };
    }
gl_images group number context _ k free accepted = unchanged group _ _ k free (record { textures = refl; renderbuffers = refl; texture_numbers = refl; renderbuffer_numbers = refl })

images_in : (group : GroupState) (asked : Call) (o : Option (ℕ × Context)) (k : ℕ) → IsUnmade group k → gl_refusal group (option_map (λ e. e.1) o) asked ≡ None → ImagesStay group (gl_change_in group o asked) (target_in (option_map (λ e. e.1) o) asked) k
images_in group asked None k free accepted = unchanged group group Empty k free (record { textures = refl; renderbuffers = refl; texture_numbers = refl; renderbuffer_numbers = refl })
images_in group asked (Some e) k free accepted = gl_images group e.0 e.1 asked k free accepted

-- each accepted call of a thread, before the sweep
pub images_stay : (group : GroupState) (thread : ℕ) (asked : Call) (k : ℕ) → IsUnmade group k → refusal group thread asked ≡ None → ImagesStay group (unswept group thread asked) (target_in (current_context group thread) asked) k
images_stay group thread (call.CreateContext number) k free accepted = unchanged group _ _ k free (record { textures = refl; renderbuffers = refl; texture_numbers = refl; renderbuffer_numbers = refl })
images_stay group thread (call.DestroyContext number) k free accepted = unchanged group _ _ k free (record { textures = refl; renderbuffers = refl; texture_numbers = refl; renderbuffer_numbers = refl })
images_stay group thread (call.MakeCurrent number) k free accepted = unchanged group _ _ k free (record { textures = refl; renderbuffers = refl; texture_numbers = refl; renderbuffer_numbers = refl })
images_stay group thread call.EglGetError k free accepted = unchanged group _ _ k free (record { textures = refl; renderbuffers = refl; texture_numbers = refl; renderbuffer_numbers = refl })
images_stay group thread (call.CreateSync number) k free accepted = unchanged group _ _ k free (record { textures = refl; renderbuffers = refl; texture_numbers = refl; renderbuffer_numbers = refl })
images_stay group thread (call.EglClientWaitSync number flush timeout) k free accepted = unchanged group _ _ k free (record { textures = refl; renderbuffers = refl; texture_numbers = refl; renderbuffer_numbers = refl })
images_stay group thread (call.DestroySync number) k free accepted = unchanged group _ _ k free (record { textures = refl; renderbuffers = refl; texture_numbers = refl; renderbuffer_numbers = refl })
images_stay group thread asked k free accepted = images_in group asked (current_entry group thread) k free accepted
