-- Each cell that a state holds is a byte or not defined.
use Rattle.std.specs.Prelude.{ℕ, Some, List, [], ◌∷◌}
use Rattle.gl_calls.specs.declared.call.Call.{Call}
use Rattle.gl_calls.specs.declared.call.Call.TheVariants as call
use Rattle.gl_calls.specs.declared.call.PixelSource.TheVariants as source
use Rattle.gl_calls.specs.declared.reply.Entry.{Entry}
use Rattle.gl_calls.specs.Words.{payload_bytes}
use Rattle.gl_model.specs.declared.state.Attachment.{Attachment}
use Rattle.gl_model.specs.GroupModel.{GroupModel}
use Rattle.gl_model.specs.Effect.{store_of}
use Rattle.gl_model.specs.Reached.{cells_of}
use Rattle.transfer.specs.Blits.{AreCells}

-- so of all buffers and images
pub record HoldsCells (state : GroupModel) : Type 0 where
  pub stores : (b : ℕ) → AreCells (store_of state b).cells
  pub images : (image : Attachment) → AreCells (cells_of state image)

-- the data of a call are bytes
abbrev pub HasBytes : Call → Type 0
HasBytes (call.BufferData target size usage (Some payload)) = AreCells (payload_bytes payload)
HasBytes (call.BufferSubData target offset payload) = AreCells (payload_bytes payload)
HasBytes (call.MapWrite target offset payload) = AreCells (payload_bytes payload)
HasBytes (call.TexSubImage x y width height pixels kind (source.Client payload)) = AreCells (payload_bytes payload)
HasBytes _ = Unit {0}

-- the data of each call of a history
abbrev pub HaveBytes : List Entry → Type 0
HaveBytes [] = Unit {0}
HaveBytes (e ∷ rest) = HasBytes e.call × HaveBytes rest
