-- Changes of the context that is current on a thread.
use Rattle.std.specs.Prelude.{ℕ, ◌==◌, Option, List, map, if◌then◌else◌}
use Rattle.std.specs.Option.{option_and_then, option_map, option_map_or}
use Rattle.tables.specs.Table.{Entries, entry, with_entry, with_value}
use Rattle.gl_calls.specs.declared.words.BufferTarget.{BufferTarget}
use Rattle.gl_model.specs.declared.objects.BufferFacts.{BufferFacts}
use Rattle.gl_model.specs.declared.state.Context.{Context}
use Rattle.gl_model.specs.declared.state.GroupState.{GroupState}
use Rattle.gl_model.specs.Bindings.{current_entry, current_context, buffer_binding}
use Rattle.gl_calls.specs.declared.words.DrawBuffer.{DrawBuffer}
use Rattle.gl_calls.specs.Words.{drawn_point}
use Rattle.gl_model.specs.declared.state.Framebuffer.{Framebuffer}
use Rattle.gl_model.specs.declared.state.Attachment.TheVariants.{Texture, Renderbuffer}
use Rattle.gl_model.specs.GroupEffect.{listed_draws, unbound, detached_from_bound}

-- one context changed
abbrev pub changed_context : ℕ → (Context → Context) → Entries Context → Entries Context
changed_context number change contexts = map (λ e. (e.0, if e.0 == number then change e.1 else e.1)) contexts

-- the context of a number changed, if there is a number
abbrev pub changed_if : Option ℕ → (Context → Context) → Entries Context → Entries Context
changed_if number change contexts = option_map_or (λ n. changed_context n change contexts) number contexts

-- the number of the context that is current on a thread
abbrev pub current_number : GroupState → ℕ → Option ℕ
current_number group thread = option_map (λ e. e.0) (current_entry group thread)

-- the group after the context that is current on a thread was changed
abbrev pub after_change : GroupState → ℕ → (Context → Context) → GroupState
after_change group thread change =
    record group { contexts = changed_if (current_number group thread) change group.contexts }

-- the buffer that is bound to a target on a thread, by its number
abbrev pub bound_number : GroupState → ℕ → BufferTarget → Option ℕ
bound_number group thread target = option_and_then (λ c. buffer_binding c target) (current_context group thread)

-- the buffer of a number changed, if there is a number and it has a buffer
abbrev pub changed_buffer : Option ℕ → (BufferFacts → BufferFacts) → Entries BufferFacts → Entries BufferFacts
changed_buffer number change buffers =
    option_map_or (λ b. option_map_or (λ f. with_entry b (change f) buffers) (entry b buffers) buffers) number buffers

-- the value of a key changed, where the table has the key
abbrev pub changed_at : {V : Type 0} → ℕ → (V → V) → Entries V → Entries V
changed_at key change table = option_map_or (λ v. with_value key table (change v)) (entry key table) table

-- a framebuffer that draws to the buffers of a list, and one that reads a buffer
abbrev pub with_draws : List DrawBuffer → Framebuffer → Framebuffer
with_draws buffers f = record f { draws = listed_draws buffers }

abbrev pub with_read : DrawBuffer → Framebuffer → Framebuffer
with_read buffer f = record f { read = drawn_point buffer }

-- a context that does not have a texture or renderbuffer bound, nor in the framebuffers that are bound
abbrev pub without_texture : Context → ℕ → Context
without_texture context t = record (detached_from_bound context (Texture t)) { texture = unbound context.texture t }

abbrev pub without_renderbuffer : Context → ℕ → Context
without_renderbuffer context r = record (detached_from_bound context (Renderbuffer r)) { renderbuffer = unbound context.renderbuffer r }

-- the texture and the renderbuffer that are bound on a thread, by their numbers
abbrev pub bound_texture_number : GroupState → ℕ → Option ℕ
bound_texture_number group thread = option_and_then (λ c. c.texture) (current_context group thread)

abbrev pub bound_renderbuffer_number : GroupState → ℕ → Option ℕ
bound_renderbuffer_number group thread = option_and_then (λ c. c.renderbuffer) (current_context group thread)
