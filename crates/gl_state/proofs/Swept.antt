-- States in which something refers to each object stay so.
use Rattle.std.proofs.Common.{◌≡◌, ℕ, ◌==◌, ◌||◌, Bool, true, false, cond, List, [], ◌∷◌, Some, ap, ◌∙◌, refl}
use Rattle.std.specs.List.{filter}
use Rattle.tables.specs.Table.{Entries, only, any_value}
use Rattle.gl_model.specs.declared.state.Attachment.{Attachment}
use Rattle.gl_model.specs.declared.state.Attachment.TheVariants.{Texture, Renderbuffer}
use Rattle.gl_model.specs.declared.state.Context.{Context}
use Rattle.gl_model.specs.declared.state.GroupState.{GroupState}
use Rattle.gl_model.specs.Bindings.{same_option}
use Rattle.gl_model.specs.GroupEffect.{swept, binds_buffer, attaches, names_object}
use Rattle.gl_state.specs.Changes.{changed_context}

pub filter-same : {X : Type 0} (p q : X → Bool) → ((x : X) → p x ≡ q x) → (xs : List X) → filter p xs ≡ filter q xs
filter-same p q same [] = refl
filter-same p q same (x ∷ xs) = rw (same x, filter-same p q same xs) refl

-- a change that leaves what a context refers to
pub record KeepsReferences (change : Context → Context) : Type 0 where
  pub buffers : (b : ℕ) (c : Context) → binds_buffer b (change c) ≡ binds_buffer b c
  pub texture : (c : Context) → (change c).texture ≡ c.texture
  pub renderbuffer : (c : Context) → (change c).renderbuffer ≡ c.renderbuffer
  pub attached : (a : Attachment) (c : Context) → attaches a (change c) ≡ attaches a c

step_same : (p : Context → Bool) (change : Context → Context) (c : Context) (b : Bool) → p (change c) ≡ p c → p (cond b (change c) c) ≡ p c
step_same p change c true same = same
step_same p change c false same = refl

any_value-changed : (p : Context → Bool) (change : Context → Context) (number : ℕ) (t : Entries Context) → ((c : Context) → p (change c) ≡ p c) → any_value p (changed_context number change t) ≡ any_value p t
any_value-changed p change number [] same = refl
any_value-changed p change number (e ∷ t) same =
    rw (step_same p change e.1 (e.0 == number) (same e.1), any_value-changed p change number t same) refl

module _ (group : GroupState) (number : ℕ) (change : Context → Context) (keeps : KeepsReferences change) (whole : swept group ≡ group) where
  buffers_whole : only (λ b. names_object group.buffer_names b || any_value (binds_buffer b) (changed_context number change group.contexts)) group.buffers ≡ group.buffers
  buffers_whole =
      filter-same _ _ (λ e. ap (λ x. names_object group.buffer_names e.0 || x) (any_value-changed (binds_buffer e.0) change number group.contexts (keeps.buffers e.0))) group.buffers
      ∙ ap (λ g. g.buffers) whole

  textures_whole : only (λ t. names_object group.texture_names t || any_value (λ c. same_option c.texture (Some t) || attaches (Texture t) c) (changed_context number change group.contexts)) group.textures ≡ group.textures
  textures_whole =
      filter-same _ _ (λ e. ap (λ x. names_object group.texture_names e.0 || x)
      (any_value-changed (λ c. same_option c.texture (Some e.0) || attaches (Texture e.0) c) change number group.contexts
      (λ c. rw (keeps.texture c, keeps.attached (Texture e.0) c) refl))) group.textures
      ∙ ap (λ g. g.textures) whole

  renderbuffers_whole : only (λ r. names_object group.renderbuffer_names r || any_value (λ c. same_option c.renderbuffer (Some r) || attaches (Renderbuffer r) c) (changed_context number change group.contexts)) group.renderbuffers ≡ group.renderbuffers
  renderbuffers_whole =
      filter-same _ _ (λ e. ap (λ x. names_object group.renderbuffer_names e.0 || x)
      (any_value-changed (λ c. same_option c.renderbuffer (Some e.0) || attaches (Renderbuffer e.0) c) change number group.contexts
      (λ c. rw (keeps.renderbuffer c, keeps.attached (Renderbuffer e.0) c) refl))) group.renderbuffers
      ∙ ap (λ g. g.renderbuffers) whole

  pub swept-changed_context : swept (record group { contexts = changed_context number change group.contexts }) ≡ record group { contexts = changed_context number change group.contexts }
  swept-changed_context =
      rw (buffers_whole, textures_whole, renderbuffers_whole) refl
