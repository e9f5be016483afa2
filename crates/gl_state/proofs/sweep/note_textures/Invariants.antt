use Rattle.std.proofs.Common.{◌≡◌, ◌+◌, ◌≤◌, ◌||◌, ◌++◌, not, length, vec_capacity, Some}
use Rattle.std.specs.Map.{keys_of}
use Rattle.tables.specs.Table.{any_value, only}
use Rattle.gl_model.specs.Bindings.{same_option}
use Rattle.gl_model.specs.GroupEffect.{attaches}
use Rattle.gl_model.specs.declared.state.Attachment.TheVariants.{Texture}
use Rattle.gl_state.proofs.sweep.note_textures.Given as goal

abbrev pub invariant-loop-texture : goal.invariant-loop-texture
invariant-loop-texture l = record {
  rest : l.ended.items ++ keys_of (only (λ b. not (any_value (λ c. same_option c.texture (Some b) || attaches (Texture b) c) l.contexts)) l.texture-iterator) ≡ keys_of (only (λ b. not (any_value (λ c. same_option c.texture (Some b) || attaches (Texture b) c) l.contexts)) l.nameless);
  room : length l.ended.items + length l.texture-iterator ≤ vec_capacity l.ended;
}
