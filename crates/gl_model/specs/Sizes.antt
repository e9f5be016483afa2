-- What holds in each reached state: what buffers and images hold has their size, and a map lies inside its buffer.
use Rattle.std.specs.Prelude.{ℕ, ◌+◌, ◌≤◌, ◌≡◌, Some, None, List, [], ◌∷◌, length, unsigned_abs, IfSome}
use Rattle.gl_calls.specs.declared.call.Call.{Call}
use Rattle.gl_calls.specs.declared.call.Call.TheVariants as call
use Rattle.gl_calls.specs.declared.reply.Entry.{Entry}
use Rattle.gl_calls.specs.Words.{payload_len}
use Rattle.tables.specs.Table.{entry}
use Rattle.gl_model.specs.declared.objects.BufferFacts.{BufferFacts}
use Rattle.gl_model.specs.GroupState.{Attachment}
use Rattle.gl_model.specs.Bindings.{attached_image}
use Rattle.gl_model.specs.Storage.{image_bytes}
use Rattle.gl_model.specs.Reached.{cells_of}
use Rattle.gl_model.specs.GroupModel.{GroupModel, Store}
use Rattle.gl_model.specs.Effect.{store_of, empty_store}

-- a store has the size of its buffer, and a map lies inside
pub record HoldsBuffer (store : Store) (facts : BufferFacts) : Type 0 where
  pub cells : length store.cells ≡ facts.size
  pub flags : length store.waiting ≡ facts.size
  pub map : IfSome facts.map (λ m. m.at + m.len ≤ facts.size)

-- each existing buffer has a store of its size, no other buffer has one, and numbers that were not given yet are free
pub record HasSizes (state : GroupModel) : Type 0 where
  pub stores : (b : ℕ) (f : BufferFacts) → entry b state.group.buffers ≡ Some f → HoldsBuffer (store_of state b) f
  pub gone : (b : ℕ) → entry b state.group.buffers ≡ None → store_of state b ≡ empty_store
  pub unmade : (b : ℕ) → state.group.buffer_names.made ≤ b → entry b state.group.buffers ≡ None

-- the data of a call, if it has some, is as long as the size that the call names
abbrev pub HasItsData : Call → Type 0
HasItsData (call.BufferData target size usage (Some payload)) = payload_len payload ≡ unsigned_abs size
HasItsData _ = Unit {0}

-- the data of each call of a history
abbrev pub HaveTheirData : List Entry → Type 0
HaveTheirData [] = Unit {0}
HaveTheirData (e ∷ rest) = HasItsData e.call × HaveTheirData rest

-- what an image holds is as long as its texels, and an image without storage holds nothing
abbrev pub HoldImages : GroupModel → Type 0
HoldImages state = (image : Attachment) → length (cells_of state image) ≡ image_bytes (attached_image state.group image)

-- each image holds its size, and numbers that were not given yet are free
pub record HasImageSizes (state : GroupModel) : Type 0 where
  pub cells : HoldImages state
  pub unmade_textures : (t : ℕ) → state.group.texture_names.made ≤ t → entry t state.group.textures ≡ None
  pub unmade_renderbuffers : (r : ℕ) → state.group.renderbuffer_names.made ≤ r → entry r state.group.renderbuffers ≡ None
