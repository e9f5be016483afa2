-- What OpenGL ES says that the objects hold, and when a front stands on a state.
use Rattle.std.specs.Prelude.{◌≡◌, ℕ, ℤ, ◌+◌, ◌-◌, ◌<◌, ◌≤◌, ◌==◌, Bool, if◌then◌else◌, Option, Some, None, unsigned_abs, pos, slice_index, length, List}
use Rattle.std.specs.Option.{option_map, option_and_then}
use Rattle.cells.specs.Contents.{cell_at, in_range}
use Rattle.formats.specs.Pairs.{format_number}
use Rattle.vk_types.specs.declared.handles.Kind.{Kind}
use Rattle.vk_types.specs.declared.handles.Kind.TheVariants as kind
use Rattle.gl_calls.specs.declared.call.Call.{Call}
use Rattle.gl_calls.specs.declared.words.BufferTarget.{BufferTarget}
use Rattle.tables.specs.Table.{entry, has}
use Rattle.gl_model.specs.declared.objects.BufferFacts.{BufferFacts}
use Rattle.gl_model.specs.declared.objects.ImageInfo.{ImageInfo}
use Rattle.gl_model.specs.declared.objects.Mapped.{Mapped}
use Rattle.gl_model.specs.declared.state.Context.{Context}
use Rattle.gl_model.specs.declared.state.GroupState.{GroupState}
use Rattle.gl_model.specs.Bindings.{current_context, buffer_binding, image_of}
use Rattle.gl_model.specs.GroupEffect.{swept}
use Rattle.gl_model.specs.GroupModel.{GroupModel}
use Rattle.gl_model.specs.Effect.{store_of}
use Rattle.gl_model.specs.Reached.{texture_of, renderbuffer_of}
use Rattle.gl_model.specs.Refusal.{refusal}
use Rattle.gl_model.specs.Sizes.{HasSizes}
use Rattle.back_core.specs.Link.{Link}
use Rattle.front_model.specs.declared.object.Object.{Object}
use Rattle.front_model.specs.declared.object.Object.TheVariants.{Buffer, Texture, Renderbuffer}
use Rattle.front_model.specs.Face.{Face, outline_at, view}
use Rattle.front_model.specs.Stands.{Holds, no_hands, IsQuiet}

-- the kind of an image's store
abbrev pub image_kind : ImageInfo → Kind
image_kind info = kind.Image (format_number info.format) info.width info.height

-- the store of a buffer; one of no bytes has none
abbrev pub buffer_kind : ℕ → Option Kind
buffer_kind size = if size == 0 then None else Some (kind.Buffer size)

-- the store that an object is to have
abbrev pub kind_wanted : GroupState → Object → Option Kind
kind_wanted group (Buffer b) = option_and_then (λ f. buffer_kind f.size) (entry b group.buffers)
kind_wanted group (Texture t) = option_map image_kind (image_of group.textures (Some t))
kind_wanted group (Renderbuffer r) = option_map image_kind (image_of group.renderbuffers (Some r))

-- the cell that an object is to have at a place
abbrev pub wanted : GroupModel → Object → ℕ → ℕ
wanted state (Buffer b) p = cell_at (store_of state b).cells p
wanted state (Texture t) p = cell_at (texture_of state t) p
wanted state (Renderbuffer r) p = cell_at (renderbuffer_of state r) p

-- what is seen is right wherever it is defined
abbrev pub AgreeWith : (Object → ℕ → ℕ) → (Object → ℕ → ℕ) → Type 0
AgreeWith seen right = (o : Object) (p : ℕ) → right o p < 256 → seen o p ≡ right o p

-- the object exists
abbrev pub exists : GroupState → Object → Bool
exists group (Buffer b) = has b group.buffers
exists group (Texture t) = has t group.textures
exists group (Renderbuffer r) = has r group.renderbuffers

-- the buffer is mapped
pub record IsMapped (group : GroupState) (b : ℕ) : Type 0 where
  pub facts : BufferFacts
  pub mapped : Mapped
  pub is : entry b group.buffers ≡ Some facts
  pub map : facts.map ≡ Some mapped

-- A front stands: it holds, its objects have their stores, what it shows is right wherever it is defined, and the host may use
-- each mapped buffer.
pub record Stands (f : Face) (s : Link) (state : GroupModel) : Type 0 where
  pub holds : Holds f no_hands s
  pub kinds : (o : Object) → option_map (λ v. v.kind) (outline_at f o) ≡ kind_wanted state.group o
  pub agreement : AgreeWith (view f s) (wanted state)
  pub maps : (b : ℕ) → IsMapped state.group b → IsQuiet f s (Buffer b)

-- numbers of textures and renderbuffers that were not given yet are free
pub record HasFreeNumbers (group : GroupState) : Type 0 where
  pub textures : (t : ℕ) → group.texture_names.made ≤ t → entry t group.textures ≡ None
  pub renderbuffers : (r : ℕ) → group.renderbuffer_names.made ≤ r → entry r group.renderbuffers ≡ None

-- What holds where a call was accepted: its thread has a context, each object has what its size says, and something refers to it.
pub record IsAccepted (state : GroupModel) (thread : ℕ) (call : Call) (context : Context) : Type 0 where
  pub current : current_context state.group thread ≡ Some context
  pub accepted : refusal state.group thread call ≡ None
  pub sizes : HasSizes state
  pub referred : swept state.group ≡ state.group

-- a buffer is bound to the target of a context, and these are its facts
pub record IsBound (group : GroupState) (context : Context) (target : BufferTarget) (b : ℕ) (facts : BufferFacts) : Type 0 where
  pub bound : buffer_binding context target ≡ Some b
  pub is : entry b group.buffers ≡ Some facts

-- some buffer is bound to the target, so that a property holds of it
pub record HasBound (group : GroupState) (context : Context) (target : BufferTarget) (P : ℕ → BufferFacts → Type 0) : Type 0 where
  pub b : ℕ
  pub facts : BufferFacts
  pub is_bound : IsBound group context target b facts
  pub holds : P b facts

-- a map of a buffer that has this range
pub record HasMapRange (facts : BufferFacts) (at len : ℕ) : Type 0 where
  pub mapped : Mapped
  pub map : facts.map ≡ Some mapped
  pub in_map : at + len ≤ mapped.len
  pub in_buffer : mapped.at + mapped.len ≤ facts.size

-- the number is not negative
abbrev pub IsPositive : ℤ → Type 0
IsPositive z = z ≡ pos (unsigned_abs z)

-- bytes in place of what stands in a range
abbrev pub with_bytes : (ℕ → ℕ) → ℕ → List ℕ → ℕ → ℕ
with_bytes old at bytes i = if in_range at (length bytes) i then slice_index bytes (i - at) else old i

-- cells of another object, from a place on, in place of what stands in a range
abbrev pub with_copy : (ℕ → ℕ) → ℕ → ℕ → (ℕ → ℕ) → ℕ → ℕ → ℕ
with_copy old at size source from i = if in_range at size i then source (from + (i - at)) else old i
