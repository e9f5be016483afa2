-- The store of an object.
use Rattle.std.specs.Prelude.{ℕ, Bool, true, false, Option, None, List, []}
use Rattle.vk_types.specs.Accesses.{host_read}
use Rattle.vk_types.specs.Touches.{whole}
use Rattle.vk_types.specs.declared.accesses.Access.{Access}
use Rattle.vk_types.specs.declared.accesses.Layout.{Layout}
use Rattle.vk_types.specs.declared.regions.Touch.{Touch}
use Rattle.vk_types.specs.declared.regions.Barrier.{Barrier}
use Rattle.vk_types.specs.declared.handles.HandleId.{HandleId}
use Rattle.vk_types.specs.declared.handles.Kind.{Kind}
use Rattle.vk_types.specs.declared.handles.Kind.TheVariants as kind
use Rattle.vk_types.specs.declared.batches.QueueSerial.{QueueSerial}
use Rattle.barriers.specs.declared.tracker.Tracker.{Tracker}
use Rattle.barriers.specs.Licence.{Accessed, Fenced}
use Rattle.barriers.specs.Trackers.{new_tracker, taken, taken_touch}

-- the handle of an object's store, its kind, the last uses of it, and what its tracker knows
pub record ObjectStore : Type 0 where
  pub handle : HandleId
  pub kind : Kind
  pub uses : List QueueSerial
  pub tracker : Tracker

abbrev pub is_image : Kind → Bool
is_image (kind.Buffer size) = false
is_image (kind.Image format width height) = true

-- how many bytes a buffer has; an image is not counted in them
abbrev pub buffer_size : Kind → ℕ
buffer_size (kind.Buffer size) = size
buffer_size (kind.Image format width height) = 0

-- a store that nothing has used
abbrev pub new_store : HandleId → Kind → ObjectStore
new_store handle kind = record { handle = handle; kind = kind; uses = []; tracker = new_tracker handle (is_image kind) }

-- an access of the whole store: of a buffer, and of an image in a layout
abbrev pub touch_of : HandleId → Access → Option Layout → Touch
touch_of handle access layout = whole handle access layout

abbrev pub access_of : HandleId → Access → Touch
access_of handle access = touch_of handle access None

-- the store after an access, with the barrier that was due before it
abbrev pub accessed_in : Option Layout → Access → ObjectStore → ObjectStore
accessed_in layout access x = record x { tracker = taken_touch x.tracker (touch_of x.handle access layout) }

abbrev pub accessed : Access → ObjectStore → ObjectStore
accessed access x = accessed_in None access x

-- the store after a barrier of it
abbrev pub fenced : Barrier → ObjectStore → ObjectStore
fenced barrier x = record x { tracker = taken x.tracker (Fenced barrier) }

-- the store after a read by the host
abbrev pub heard : ObjectStore → ObjectStore
heard x = record x { tracker = taken x.tracker (Accessed host_read) }
