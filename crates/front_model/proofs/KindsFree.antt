-- Numbers of textures and renderbuffers that were not given yet stay free.
use Rattle.std.proofs.Common.{◌≡◌, ℕ, ◌+◌, ◌≤◌, ◌==◌, Bool, true, false, cond, Option, Some, None, List, [], ◌∷◌, is_none, refl, ap, sym, ◌∙◌, subst, arith, if◌then◌else◌}
use Rattle.std.specs.Option.{option_and_then, option_map, option_map_or}
use Rattle.std.proofs.lemmas.Grind.{common_steps}
use Rattle.gl_calls.specs.declared.call.Call.{Call}
use Rattle.gl_calls.specs.declared.call.Call.TheVariants as call
use Rattle.gl_calls.specs.declared.reply.Entry.{Entry}
use Rattle.gl_calls.specs.declared.reply.Reply.{Reply}
use Rattle.gl_calls.specs.declared.words.BindTarget.TheVariants as targets
use Rattle.gl_calls.specs.declared.words.ObjectKind.TheVariants as kinds
use Rattle.tables.specs.Table.{Entries, entry, with_entry, only}
use Rattle.gl_model.specs.declared.objects.BufferFacts.{BufferFacts}
use Rattle.gl_model.specs.declared.objects.ImageInfo.{ImageInfo}
use Rattle.gl_model.specs.declared.state.Context.{Context}
use Rattle.gl_model.specs.declared.state.GroupState.{GroupState}
use Rattle.gl_model.specs.declared.state.Names.{Names}
use Rattle.gl_model.specs.GroupState.{opening_group}
use Rattle.gl_model.specs.Bindings.{buffer_binding, current_entry}
use Rattle.gl_model.specs.GroupEffect.{change_buffer, change_image, new_image, unmapped, delete_buffer, delete_texture, delete_renderbuffer, object_of, makes_object, gl_change, gl_change_in, group_effect}
use Rattle.gl_model.specs.Legal.{refused_group}
use Rattle.gl_model.specs.Reached.{group_after, group_after_all}
use Rattle.gl_model.specs.Refusal.{refusal, gl_refusal, gl_rows}
use Rattle.gl_model.proofs.TableLaws.{entry-only, entry-with_entry}
use Rattle.front_model.specs.Wanted.{HasFreeNumbers}
use Rattle.front_model.proofs.Ranges.{none_holds}
use Rattle.front_model.proofs.KindsTables.{same_key}
use Rattle.front_model.proofs.KindsCalls.{unswept}
use Rattle.front_model.proofs.KindsStores.{SameTables, refers_texture, refers_renderbuffer, refused_tables}

-- a table has nothing from a number on
abbrev Free : {A : Type 0} → ℕ → Entries A → Type 0
Free made table = (k : ℕ) → made ≤ k → entry k table ≡ None

-- an entry that is there is changed
Free-changed : {A : Type 0} (made key : ℕ) (old v : A) (table : Entries A) → entry key table ≡ Some old → Free made table → Free made (with_entry key v table)
Free-changed {A} made key old v table there free = λ k high. entry-with_entry key k v table ∙ by_key k (k == key) refl (free k high)
  where
    by_key : (k : ℕ) (t : Bool) → (k == key) ≡ t → entry k table ≡ None → cond t (Some v) (entry k table) ≡ None
    by_key k true is absent =
        let clash : Some old ≡ None = sym there ∙ ap (λ j. entry j table) (sym (same_key k key is)) ∙ absent in
        let bad : ⊥ = cc in absurd bad
    by_key k false is absent = absent

-- the next number is given
Free-made : {A : Type 0} (made : ℕ) (v : A) (table : Entries A) → Free made table → Free (made + 1) (with_entry made v table)
Free-made {A} made v table free = λ k high. entry-with_entry made k v table ∙ by_key k high (k == made) refl
  where
    apart : (k : ℕ) → made + 1 ≤ k → (k == made) ≡ true → ⊥
    apart k high is = grind (arith, common_steps)

    by_key : (k : ℕ) → made + 1 ≤ k → (t : Bool) → (k == made) ≡ t → cond t (Some v) (entry k table) ≡ None
    by_key k high true is = absurd (apart k high is)
    by_key k high false is = free k (omega (arith, high))

Free-swept : {A : Type 0} (made : ℕ) (test : ℕ → Bool) (table : Entries A) → Free made table → Free made (only test table)
Free-swept {A} made test table free = λ k high. entry-only test k table ∙ by_test (test k) (entry k table) (free k high)
  where
    by_test : (t : Bool) (o : Option A) → o ≡ None → cond t o None ≡ None
    by_test true o h = h
    by_test false o h = refl

-- new storage for an image that is there
Free-stored : (made : ℕ) (o : Option ℕ) (image : Option ImageInfo) (table : Entries (Option ImageInfo)) → is_none (option_and_then (λ t. entry t table) o) ≡ false → Free made table → Free made (change_image o image table)
Free-stored made None image table there free = free
Free-stored made (Some t) image table there free = by_entry (entry t table) refl there
  where
    by_entry : (o : Option (Option ImageInfo)) → entry t table ≡ o → is_none o ≡ false → Free made (with_entry t image table)
    by_entry None is h = let bad : ⊥ = cc in absurd bad
    by_entry (Some old) is h = Free-changed made t old image table is free

-- Calls

-- textures, renderbuffers and their numbers are those of another group
same_numbers : (after before : GroupState) → after.textures ≡ before.textures → after.renderbuffers ≡ before.renderbuffers → after.texture_names.made ≡ before.texture_names.made → after.renderbuffer_names.made ≡ before.renderbuffer_names.made → HasFreeNumbers before → HasFreeNumbers after
same_numbers after before textures renderbuffers texture_made renderbuffer_made free = record {
  textures = λ t high. ap (entry t) textures ∙ free.textures t (subst (λ (n : ℕ). n ≤ t) texture_made high);
  renderbuffers = λ r high. ap (entry r) renderbuffers ∙ free.renderbuffers r (subst (λ (n : ℕ). n ≤ r) renderbuffer_made high);
}

pub tables_free : (after before : GroupState) → SameTables after before → HasFreeNumbers before → HasFreeNumbers after
tables_free after before same free = same_numbers after before same.textures same.renderbuffers (ap (λ n. n.made) same.texture_names) (ap (λ n. n.made) same.renderbuffer_names) free

changed_free : (group : GroupState) (bound : Option ℕ) (change : BufferFacts → BufferFacts) → HasFreeNumbers group → HasFreeNumbers (change_buffer group bound change)
changed_free group None change free = free
changed_free group (Some b) change free = record { textures = free.textures; renderbuffers = free.renderbuffers }

buffer_deleted : (group : GroupState) (number : ℕ) (context : Context) (o : Option ℕ) → HasFreeNumbers group → HasFreeNumbers (delete_buffer group number context o)
buffer_deleted group number context None free = free
buffer_deleted group number context (Some b) free = record { textures = free.textures; renderbuffers = free.renderbuffers }

texture_deleted : (group : GroupState) (number : ℕ) (context : Context) (o : Option ℕ) → HasFreeNumbers group → HasFreeNumbers (delete_texture group number context o)
texture_deleted group number context None free = free
texture_deleted group number context (Some t) free = record { textures = free.textures; renderbuffers = free.renderbuffers }

renderbuffer_deleted : (group : GroupState) (number : ℕ) (context : Context) (o : Option ℕ) → HasFreeNumbers group → HasFreeNumbers (delete_renderbuffer group number context o)
renderbuffer_deleted group number context None free = free
renderbuffer_deleted group number context (Some t) free = record { textures = free.textures; renderbuffers = free.renderbuffers }

textures_stay : (group : GroupState) (number : ℕ) (context : Context) (o : Option ℕ) → (delete_texture group number context o).textures ≡ group.textures
textures_stay group number context None = refl
textures_stay group number context (Some t) = refl

renderbuffers_stay : (group : GroupState) (number : ℕ) (context : Context) (o : Option ℕ) → (delete_renderbuffer group number context o).renderbuffers ≡ group.renderbuffers
renderbuffers_stay group number context None = refl
renderbuffers_stay group number context (Some r) = refl

-- a name bound may give the next number
made_free : (t : Bool) (names bound : Names) (table : Entries (Option ImageInfo)) → bound.made ≡ names.made + 1 → Free names.made table → Free (if t then bound else names).made (if t then with_entry names.made None table else table)
made_free true names bound table next free = subst (λ (n : ℕ). Free n (with_entry names.made None table)) (sym next) (Free-made names.made None table free)
made_free false names bound table next free = free

gl_free : (group : GroupState) (number : ℕ) (context : Context) (asked : Call) → gl_refusal group (Some context) asked ≡ None → HasFreeNumbers group → HasFreeNumbers (gl_change group number context asked)
gl_free group number context (call.Delete kinds.Buffer name) accepted free =
    let kept = buffer_deleted group number context (object_of group.buffer_names name) free in record { textures = kept.textures; renderbuffers = kept.renderbuffers }
gl_free group number context (call.Delete kinds.Texture name) accepted free =
    let kept = texture_deleted group number context (object_of group.texture_names name) free in
    record { textures = λ t high. ap (entry t) (textures_stay group number context (object_of group.texture_names name)) ∙ free.textures t high; renderbuffers = kept.renderbuffers }
gl_free group number context (call.Delete kinds.Renderbuffer name) accepted free =
    let kept = renderbuffer_deleted group number context (object_of group.renderbuffer_names name) free in
    record { textures = kept.textures; renderbuffers = λ r high. ap (entry r) (renderbuffers_stay group number context (object_of group.renderbuffer_names name)) ∙ free.renderbuffers r high }
gl_free group number context (call.Delete kinds.Framebuffer name) accepted free = record { textures = free.textures; renderbuffers = free.renderbuffers }
gl_free group number context (call.Gen kinds.Buffer count) accepted free = record { textures = free.textures; renderbuffers = free.renderbuffers }
gl_free group number context (call.Gen kinds.Texture count) accepted free = record { textures = free.textures; renderbuffers = free.renderbuffers }
gl_free group number context (call.Gen kinds.Renderbuffer count) accepted free = record { textures = free.textures; renderbuffers = free.renderbuffers }
gl_free group number context (call.Gen kinds.Framebuffer count) accepted free = record { textures = free.textures; renderbuffers = free.renderbuffers }
gl_free group number context (call.Bind (targets.Buffer target) name) accepted free = record { textures = free.textures; renderbuffers = free.renderbuffers }
gl_free group number context (call.Bind (targets.Framebuffer target) name) accepted free = record { textures = free.textures; renderbuffers = free.renderbuffers }
gl_free group number context (call.Bind targets.Texture name) accepted free =
    let names = group.texture_names in
    record {
      textures = made_free (makes_object names name) names (record { objects = with_entry name (Some names.made) names.objects; made = names.made + 1 }) group.textures refl free.textures;
      renderbuffers = free.renderbuffers;
    }
gl_free group number context (call.Bind targets.Renderbuffer name) accepted free =
    let names = group.renderbuffer_names in
    record {
      textures = free.textures;
      renderbuffers = made_free (makes_object names name) names (record { objects = with_entry name (Some names.made) names.objects; made = names.made + 1 }) group.renderbuffers refl free.renderbuffers;
    }
gl_free group number context (call.BufferData target size usage payload) accepted free = changed_free group (buffer_binding context target) _ free
gl_free group number context (call.MapBufferRange target offset len access) accepted free = changed_free group (buffer_binding context target) _ free
gl_free group number context (call.UnmapBuffer target) accepted free = changed_free group (buffer_binding context target) unmapped free
gl_free group number context (call.TexStorage levels format width height) accepted free = record {
  textures = Free-stored group.texture_names.made context.texture (new_image format width height) group.textures (none_holds (gl_rows group context (call.TexStorage levels format width height)) accepted).1.1.1.0 free.textures;
  renderbuffers = free.renderbuffers;
}
gl_free group number context (call.RenderbufferStorage format width height) accepted free = record {
  textures = free.textures;
  renderbuffers = Free-stored group.renderbuffer_names.made context.renderbuffer (new_image format width height) group.renderbuffers (none_holds (gl_rows group context (call.RenderbufferStorage format width height)) accepted).1.1.0 free.renderbuffers;
}
gl_free group number context asked accepted free = record { textures = free.textures; renderbuffers = free.renderbuffers }

gl_in_free : (group : GroupState) (current : Option (ℕ × Context)) (asked : Call) → gl_refusal group (option_map (λ e. e.1) current) asked ≡ None → HasFreeNumbers group → HasFreeNumbers (gl_change_in group current asked)
gl_in_free group None asked accepted free = free
gl_in_free group (Some current) asked accepted free = gl_free group current.0 current.1 asked accepted free

unswept_free : (group : GroupState) (thread : ℕ) (asked : Call) → refusal group thread asked ≡ None → HasFreeNumbers group → HasFreeNumbers (unswept group thread asked)
unswept_free group thread (call.CreateContext number) accepted free = record { textures = free.textures; renderbuffers = free.renderbuffers }
unswept_free group thread (call.DestroyContext number) accepted free = record { textures = free.textures; renderbuffers = free.renderbuffers }
unswept_free group thread (call.MakeCurrent number) accepted free = record { textures = free.textures; renderbuffers = free.renderbuffers }
unswept_free group thread call.EglGetError accepted free = record { textures = free.textures; renderbuffers = free.renderbuffers }
unswept_free group thread (call.CreateSync number) accepted free = record { textures = free.textures; renderbuffers = free.renderbuffers }
unswept_free group thread (call.EglClientWaitSync number flush timeout) accepted free = record { textures = free.textures; renderbuffers = free.renderbuffers }
unswept_free group thread (call.DestroySync number) accepted free = record { textures = free.textures; renderbuffers = free.renderbuffers }
unswept_free group thread asked accepted free = gl_in_free group (current_entry group thread) asked accepted free

pub effect_free : (group : GroupState) (thread : ℕ) (asked : Call) → HasFreeNumbers group → refusal group thread asked ≡ None → HasFreeNumbers (group_effect group thread asked)
effect_free group thread asked free accepted =
    let after : GroupState = unswept group thread asked in
    let left : HasFreeNumbers after = unswept_free group thread asked accepted free in
    record {
      textures = Free-swept after.texture_names.made (refers_texture after) after.textures left.textures;
      renderbuffers = Free-swept after.renderbuffer_names.made (refers_renderbuffer after) after.renderbuffers left.renderbuffers;
    }

-- An entry, and a history

pub group_after_free : (group : GroupState) (e : Entry) → HasFreeNumbers group → HasFreeNumbers (group_after group e)
group_after_free group e free = by_refusal (refusal group e.thread e.call) refl
  where
    by_refusal : (o : Option Reply) → refusal group e.thread e.call ≡ o → HasFreeNumbers (option_map_or (λ answer. refused_group group e.thread answer) o (group_effect group e.thread e.call))
    by_refusal None is = effect_free group e.thread e.call free is
    by_refusal (Some answer) is = tables_free (refused_group group e.thread answer) group (refused_tables group e.thread answer) free

pub group_after_all_free : (history : List Entry) (group : GroupState) → HasFreeNumbers group → HasFreeNumbers (group_after_all group history)
group_after_all_free [] group free = free
group_after_all_free (e ∷ rest) group free = group_after_all_free rest (group_after group e) (group_after_free group e free)

pub opening_free : (threads : List ℕ) → HasFreeNumbers (opening_group threads)
opening_free threads = record { textures = λ t high. refl; renderbuffers = λ r high. refl }
