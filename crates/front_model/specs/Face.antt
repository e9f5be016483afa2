-- What the front of a share group has, without where it lies in memory, and what its objects then hold.
use Rattle.std.specs.Prelude.{◌≡◌, ℕ, ◌*◌, ◌==◌, Bool, true, false, if◌then◌else◌, Option, Some, None, List, ◌++◌, map}
use Rattle.std.specs.List.{flat_map, list_any, range_with_len}
use Rattle.std.specs.Option.{option_map}
use Rattle.cells.specs.Contents.{UNDEFINED}
use Rattle.vk_types.specs.declared.handles.Kind.{Kind}
use Rattle.vk_types.specs.declared.handles.Kind.TheVariants as kind
use Rattle.vk_types.specs.declared.regions.Rect.{Rect}
use Rattle.vk_types.specs.declared.ops.Op.{Op}
use Rattle.vk_types.specs.declared.ops.Op.TheVariants as op
use Rattle.vk_types.specs.declared.ops.Node.{Node}
use Rattle.vk_model.specs.Cells.{Contents}
use Rattle.vk_model.specs.Log.{Item, commands, touches_object}
use Rattle.vk_model.specs.Meaning.{eval, after_all}
use Rattle.barriers.specs.declared.tracker.Tracker.{Tracker}
use Rattle.back_core.specs.Own.{log_of}
use Rattle.back_core.specs.Link.{Link, kinds_of}
use Rattle.front_model.specs.declared.object.Object.{Object}
use Rattle.front_model.specs.declared.object.Object.TheVariants.{Buffer, Texture, Renderbuffer}
use Rattle.front_model.specs.declared.object.StoredKind.{StoredKind}
use Rattle.front_model.specs.declared.object.StoredKind.TheVariants as stored

-- the object of a kind that has a number
abbrev pub object_of : StoredKind → ℕ → Object
object_of stored.Buffer number = Buffer number
object_of stored.Texture number = Texture number
object_of stored.Renderbuffer number = Renderbuffer number

-- the test of whether two are one object
abbrev pub same_object : Object → Object → Bool
same_object (Buffer a) (Buffer b) = a == b
same_object (Buffer a) (Texture b) = false
same_object (Buffer a) (Renderbuffer b) = false
same_object (Texture a) (Buffer b) = false
same_object (Texture a) (Texture b) = a == b
same_object (Texture a) (Renderbuffer b) = false
same_object (Renderbuffer a) (Buffer b) = false
same_object (Renderbuffer a) (Texture b) = false
same_object (Renderbuffer a) (Renderbuffer b) = a == b

-- What waits on an object: a node on it that was not recorded. An update copies from a staging buffer of its own; a clear has
-- none.
pub record Waiting : Type 0 where
  pub staging : Option ℕ
  pub node : Node

-- The operation writes the object alone, and reads nothing but the staging buffer.
abbrev pub IsUpdate : Option ℕ → ℕ → Op → Type 0
IsUpdate staging handle (op.CopyBuffer src src_at dst dst_at size) = (staging ≡ Some src.0) × (dst.0 ≡ handle)
IsUpdate staging handle (op.BufferToImage src src_at stride texel_size dst rect) = (staging ≡ Some src.0) × (dst.0 ≡ handle)
IsUpdate staging handle (op.ImageToBuffer src rect dst dst_at stride texel_size expand) = ⊥
IsUpdate staging handle (op.CopyImage src src_x src_y dst rect) = ⊥
IsUpdate staging handle (op.BlitImage src dst coords clip) = ⊥
IsUpdate staging handle (op.ClearImage image rect texel) = (staging ≡ None) × (image.0 ≡ handle)
IsUpdate staging handle (op.FillBuffer dst dst_at size byte) = ⊥
IsUpdate staging handle (op.PassPart _ _ image _ _ _) = ⊥
IsUpdate staging handle (op.Barrier b) = ⊥

-- a handle's kind, for each index the number of the last batch that uses it, or 0, and what its tracker knows
pub record Slot : Type 0 where
  pub kind : Kind
  pub used : ℕ → ℕ
  pub tracker : Tracker

-- an object that has a store: its handle, and what waits on it, in order
pub record Stored : Type 0 where
  pub handle : ℕ
  pub slot : Slot
  pub waiting : List Waiting

-- A front: its group; for each index of the group the last number and the nodes that were recorded since; and its objects,
-- of which those without a store are left out.
pub record Face : Type 0 where
  pub group : ℕ
  pub last : ℕ → ℕ
  pub pending : ℕ → List Node
  pub objects : Object → Option Stored

-- a function of objects with another value at one of them
unfoldable pub put_object : {A : Type 0} → (Object → A) → Object → A → Object → A
put_object f o v = λ q. if same_object q o then v else f q

-- the indexes of a group
abbrev pub indexes_of : ℕ → List ℕ
indexes_of group = range_with_len (8 * group) 8

-- the pending nodes, those of the contexts in rising order of their indexes
abbrev pub in_order : Face → List Node
in_order f = flat_map f.pending (indexes_of f.group)

-- what the group had its back do, and then what is pending
abbrev pub whole_log : Face → Link → List Item
whole_log f s = log_of s.mine ++ commands 0 (in_order f)

-- what that leaves in each handle
abbrev pub recorded : Face → Link → Contents
recorded f s = eval (kinds_of s) (whole_log f s)

-- what waits on an object, as nodes
abbrev pub waits : Stored → List Node
waits b = map (λ w. w.node) b.waiting

-- what an object holds once what waits on it is done
abbrev pub content_in : (ℕ → Kind) → Contents → Option Stored → ℕ → ℕ
content_in kinds c None = λ p. UNDEFINED
content_in kinds c (Some b) = after_all kinds (commands 0 (waits b)) c b.handle

-- The view of a front: what each of its objects holds at each place.
abbrev pub view : Face → Link → Object → ℕ → ℕ
view f s = λ o. content_in (kinds_of s) (recorded f s) (f.objects o)

-- what an update writes: so many bytes from a place on, or a rectangle
pub data Part : Type 0 where
  Bytes : (at len : ℕ) → Part
  Area : Rect → Part

abbrev pub part_of : Op → Part
part_of (op.CopyBuffer src src_at dst dst_at size) = Bytes dst_at size
part_of (op.BufferToImage src src_at stride texel_size dst rect) = Area rect
part_of (op.ImageToBuffer src rect dst dst_at stride texel_size expand) = Bytes 0 0
part_of (op.CopyImage src src_x src_y dst rect) = Area rect
part_of (op.BlitImage src dst coords clip) = Area clip
part_of (op.ClearImage image rect texel) = Area rect
part_of (op.FillBuffer dst dst_at size byte) = Bytes dst_at size
part_of (op.PassPart _ _ image _ _ _) = Bytes 0 0
part_of (op.Barrier b) = Bytes 0 0

-- what callers know of an object: the kind of its store, and what waits on it
pub record Outline : Type 0 where
  pub kind : Kind
  pub waiting : List Part

abbrev pub outline : Stored → Outline
outline b = record { kind = b.slot.kind; waiting = map (λ w. part_of w.node.op) b.waiting }

abbrev pub outline_at : Face → Object → Option Outline
outline_at f o = option_map outline (f.objects o)

-- some of the nodes touches the handle
abbrev pub nodes_touch : List Node → ℕ → Bool
nodes_touch nodes id = list_any (λ n. touches_object n id) nodes
