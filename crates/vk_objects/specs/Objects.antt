-- Live objects by their numbers, each with its kind and its bytes.
use Rattle.std.specs.Prelude.{◌≡◌, ◌≢◌, ℕ, ◌<◌, ◌^◌, List, [], length, Option, Some, None, option_map, replicate, unwrap_or}
use Rattle.std.specs.List.{AllByRecursion}
use Rattle.std.specs.BTreeMap.{get, btree_map_len}
use Rattle.std.specs.Ordering.{nat_cmp}
use Rattle.vk_types.specs.declared.handles.Kind.{Kind}
use Rattle.vk_types.specs.declared.handles.Kind.TheVariants.{Buffer}
use Rattle.cells.specs.Contents.{cell_at}
use Rattle.vk_model.specs.Cells.{Contents}
use Rattle.vk_model.specs.Log.{Command}
use Rattle.vk_model.specs.Meaning.{apply, ContentsAgree}
use Rattle.vk_model.specs.Fitting.{size_of, IsKind}
use Rattle.vk_types.specs.declared.ops.Node.{Node}
use Rattle.vk_types.specs.Touches.{touches}
use Rattle.vk_objects.specs.declared.objects.Object.{Object}
use Rattle.vk_objects.specs.declared.objects.Objects.{Objects}
use Rattle.vk_objects.specs.Undefined.{KeepsUndefined}

-- an object whose bytes are all 0
abbrev pub new_object : Kind → Object
new_object kind = record { kind = kind; bytes = replicate (size_of kind) 0 }

abbrev pub object_at : Objects → ℕ → Option Object
object_at objects id = get nat_cmp objects.map id

abbrev pub kind_of : Objects → ℕ → Option Kind
kind_of objects id = option_map (λ o. o.kind) (object_at objects id)

abbrev pub bytes_in : Option Object → List ℕ
bytes_in None = []
bytes_in (Some o) = o.bytes

-- the bytes of an object, and none where it is not live
abbrev pub bytes_of : Objects → ℕ → List ℕ
bytes_of objects id = bytes_in (object_at objects id)

-- how many objects are live
abbrev pub count_of : Objects → ℕ
count_of objects = btree_map_len objects.map

-- only this object is another one
pub record SetsObject (old new : Objects) (id : ℕ) (object : Option Object) : Type 0 where
  pub here : object_at new id ≡ object
  pub others : (other : ℕ) → other ≢ id → object_at new other ≡ object_at old other

-- only this object has other bytes
pub record SetsBytes (old new : Objects) (id : ℕ) (bytes : List ℕ) : Type 0 where
  pub here : bytes_of new id ≡ bytes
  pub kind : kind_of new id ≡ kind_of old id
  pub others : (other : ℕ) → other ≢ id → object_at new other ≡ object_at old other
  pub count : count_of new ≡ count_of old

-- only this object has other bytes, as many as before
pub record Rewrites (old new : Objects) (id : ℕ) : Type 0 where
  pub sets : SetsBytes old new id (bytes_of new id)
  pub size : length (bytes_of new id) ≡ length (bytes_of old id)
  pub small : length (bytes_of new id) < 2 ^ 64

-- nothing changed
abbrev pub IsUnchanged : Objects → Objects → Type 0
IsUnchanged old new = (id : ℕ) → object_at new id ≡ object_at old id

-- Contents

-- the kind of each object; one that is not live has no bytes
abbrev pub kinds_of : Objects → ℕ → Kind
kinds_of objects id = unwrap_or (kind_of objects id) (Buffer 0)

-- the bytes of each object as a content, which is not defined past their end
abbrev pub contents_of : Objects → Contents
contents_of objects id i = cell_at (bytes_of objects id) i

-- the bytes that an object of this kind has
abbrev pub HasSize : Option Kind → List ℕ → Type 0
HasSize None bytes = bytes ≡ []
HasSize (Some kind) bytes = IsKind kind × (length bytes ≡ size_of kind)

-- each live object has all its bytes
abbrev pub HaveSizes : Objects → Type 0
HaveSizes objects = (id : ℕ) → HasSize (kind_of objects id) (bytes_of objects id)

-- so has each object that the node touches
abbrev pub TouchedHaveSizes : Objects → Node → Type 0
TouchedHaveSizes objects n = AllByRecursion (λ t. HasSize (kind_of objects t.id.0) (bytes_of objects t.id.0)) (touches n)

-- The bytes agree with the contents after the node, those that are not defined after it are as they were, and nothing but
-- bytes changed.
pub record Executes (old new : Objects) (n : Node) : Type 0 where
  pub agree : ContentsAgree (contents_of new) (apply (kinds_of old) (Command 0 n) (contents_of old))
  pub kept : KeepsUndefined (contents_of old) (contents_of new) (apply (kinds_of old) (Command 0 n) (contents_of old))
  pub kinds : (id : ℕ) → kind_of new id ≡ kind_of old id
  pub sizes : (id : ℕ) → length (bytes_of new id) ≡ length (bytes_of old id)
  pub count : count_of new ≡ count_of old
