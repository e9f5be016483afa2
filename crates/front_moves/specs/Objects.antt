-- The objects of a share group that have a store.
use Rattle.std.specs.Prelude.{◌≡◌, ℕ, ◌+◌, ◌*◌, ◌<◌, ◌==◌, if◌then◌else◌, Option, Some, None, List, [], fold, length}
use Rattle.std.specs.Option.{option_map}
use Rattle.vk_types.specs.declared.accesses.Access.{Access}
use Rattle.vk_types.specs.declared.batches.QueueSerial.{QueueSerial}
use Rattle.vk_types.specs.declared.ops.Node.{Node}
use Rattle.vk_types.specs.declared.regions.Barrier.{Barrier}
use Rattle.vk_model.specs.Log.{commands}
use Rattle.tables.specs.Table.{Entries, entry}
use Rattle.resource_use.specs.Uses.{number_of, noted}
use Rattle.barriers.specs.Trackers.{taken}
use Rattle.barriers.specs.Logs.{uses_in}
use Rattle.object_helper.specs.Objects.{ObjectStore, accessed, fenced}
use Rattle.front_model.specs.declared.object.Object.{Object}
use Rattle.front_model.specs.declared.object.Object.TheVariants.{Buffer, Texture, Renderbuffer}
use Rattle.front_model.specs.Face.{Stored}

-- the number under which an object's store is kept: objects of the three kinds in turn
abbrev pub key_of : Object → ℕ
key_of (Buffer b) = 3 * b
key_of (Texture t) = 3 * t + 1
key_of (Renderbuffer r) = 3 * r + 2

-- the store of an object as a front has it
abbrev pub stored_of : ObjectStore → Stored
stored_of x = record { handle = x.handle.0; slot = record { kind = x.kind; used = number_of x.uses; tracker = x.tracker }; waiting = [] }

-- the objects of a front that have these stores
abbrev pub objects_of : Entries ObjectStore → Object → Option Stored
objects_of stores o = option_map stored_of (entry (key_of o) stores)

-- the store after an access in a batch
abbrev pub used : Access → QueueSerial → ObjectStore → ObjectStore
used access serial x = record (accessed access x) { uses = noted x.uses serial }

-- the store after a barrier of it in a batch
abbrev pub fenced_in : QueueSerial → Barrier → ObjectStore → ObjectStore
fenced_in serial barrier x = record (fenced barrier x) { uses = noted x.uses serial }

-- the store after nodes that touch it were recorded for a batch
abbrev pub with_use : QueueSerial → List Node → ObjectStore → ObjectStore
with_use serial nodes x = record x { uses = noted x.uses serial; tracker = fold taken x.tracker (uses_in (commands 0 nodes) x.handle.0) }

-- the store under one number has changed, where there is one, and the others are as they were
abbrev pub ChangesOne : ℕ → (ObjectStore → ObjectStore) → Entries ObjectStore → Entries ObjectStore → Type 0
ChangesOne key change old new = (k : ℕ) → entry k new ≡ (if k == key then option_map change (entry k old) else entry k old)

-- this store was taken out
pub record TakesOne (key : ℕ) (store : ObjectStore) (old new : Entries ObjectStore) : Type 0 where
  pub taken : entry key old ≡ Some store
  pub others : (k : ℕ) → entry k new ≡ (if k == key then None else entry k old)
  pub fewer : length new < length old
