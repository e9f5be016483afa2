-- What a copy between buffers and a map of one need.
use Rattle.std.specs.Prelude.{◌≡◌, ℕ, ◌+◌, ◌≤◌, ◌⊎◌, Some}
use Rattle.gl_calls.specs.declared.words.BufferTarget.{BufferTarget}
use Rattle.gl_model.specs.declared.state.Context.{Context}
use Rattle.gl_model.specs.declared.state.GroupState.{GroupState}
use Rattle.gl_model.specs.Bindings.{current_context, buffer_binding}
use Rattle.front_model.specs.Face.{Face}
use Rattle.front_moves.specs.Core.{HasBytes}

-- this buffer is bound to the target in the context that is current on the thread
abbrev pub IsNamed : GroupState → ℕ → BufferTarget → ℕ → Type 0
IsNamed group thread target b = (context : Context) → current_context group thread ≡ Some context → buffer_binding context target ≡ Some b

-- both buffers have stores in which the ranges lie, and ranges of one buffer are apart
pub record MayCopy (f : Face) (src src_at dst dst_at size : ℕ) : Type 0 where
  pub source : (len : ℕ) × HasBytes f src len × (src_at + size ≤ len)
  pub target : (len : ℕ) × HasBytes f dst len × (dst_at + size ≤ len)
  pub apart : src ≡ dst → (src_at + size ≤ dst_at) ⊎ (dst_at + size ≤ src_at)
