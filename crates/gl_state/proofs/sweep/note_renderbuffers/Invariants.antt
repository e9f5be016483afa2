use Rattle.std.proofs.Common.{◌≡◌, ◌+◌, ◌≤◌, ◌||◌, ◌++◌, not, length, vec_capacity, Some}
use Rattle.std.specs.Map.{keys_of}
use Rattle.tables.specs.Table.{any_value, only}
use Rattle.gl_model.specs.Bindings.{same_option}
use Rattle.gl_model.specs.GroupEffect.{attaches}
use Rattle.gl_model.specs.declared.state.Attachment.TheVariants.{Renderbuffer}
use Rattle.gl_state.proofs.sweep.note_renderbuffers.Given as goal

abbrev pub invariant-loop-renderbuffer : goal.invariant-loop-renderbuffer
invariant-loop-renderbuffer l = record {
  rest : l.ended.items ++ keys_of (only (λ b. not (any_value (λ c. same_option c.renderbuffer (Some b) || attaches (Renderbuffer b) c) l.contexts)) l.renderbuffer-iterator) ≡ keys_of (only (λ b. not (any_value (λ c. same_option c.renderbuffer (Some b) || attaches (Renderbuffer b) c) l.contexts)) l.nameless);
  room : length l.ended.items + length l.renderbuffer-iterator ≤ vec_capacity l.ended;
}
