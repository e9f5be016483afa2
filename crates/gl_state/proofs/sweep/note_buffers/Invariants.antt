use Rattle.std.proofs.Common.{◌≡◌, ◌+◌, ◌≤◌, ◌++◌, not, length, vec_capacity}
use Rattle.std.specs.Map.{keys_of}
use Rattle.tables.specs.Table.{any_value, only}
use Rattle.gl_model.specs.GroupEffect.{binds_buffer}
use Rattle.gl_state.proofs.sweep.note_buffers.Given as goal

abbrev pub invariant-loop-buffer : goal.invariant-loop-buffer
invariant-loop-buffer l = record {
  rest : l.ended.items ++ keys_of (only (λ b. not (any_value (binds_buffer b) l.contexts)) l.buffer-iterator) ≡ keys_of (only (λ b. not (any_value (binds_buffer b) l.contexts)) l.nameless);
  room : length l.ended.items + length l.buffer-iterator ≤ vec_capacity l.ended;
}
