-- What is left where some objects were ended, and where a front was closed.
use Rattle.std.specs.Prelude.{◌≡◌, ℕ, ◌==◌, ◌⊎◌, Bool, true, false, if◌then◌else◌, Some, None, IsSome, List, [], ◌≤◌}
use Rattle.std.specs.List.{list_any}
use Rattle.cells.specs.Contents.{UNDEFINED}
use Rattle.vk_types.specs.declared.batches.QueueSerial.{QueueSerial}
use Rattle.tables.specs.Table.{Entries, entry}
use Rattle.object_helper.specs.Objects.{ObjectStore}
use Rattle.resource_use.specs.Uses.{number_of}
use Rattle.submit_queue.specs.Histories.{last_number}
use Rattle.back_core.specs.Own.{batches_of}
use Rattle.back_core.specs.Link.{Link}
use Rattle.front_model.specs.declared.object.Object.{Object}
use Rattle.front_model.specs.Face.{Face, same_object, outline_at, view}
use Rattle.front_model.specs.Stands.{Holds, no_hands, IsQuiet, BarriersAreLicensed}

-- the object is one of these
abbrev pub is_ended : List Object → Object → Bool
is_ended ended o = list_any (same_object o) ended

-- these objects have no store any more, and what else is shown and quiet is as before
pub record HasEnded (f g : Face) (s t : Link) (ended : List Object) : Type 0 where
  pub holds : Holds g no_hands t
  pub view_is : (o : Object) (p : ℕ) → view g t o p ≡ (if is_ended ended o then UNDEFINED else view f s o p)
  pub outlines_are : (o : Object) → outline_at g o ≡ (if is_ended ended o then None else outline_at f o)
  pub still : (o : Object) → is_ended ended o ≡ false → IsQuiet f s o → IsQuiet g t o
  pub group : g.group ≡ f.group

-- Nothing is pending, no object has a store, the group holds nothing, no batch to come uses what it gave, and each barrier was licensed.
pub record HasClosed (f : Face) (s : Link) : Type 0 where
  pub none_pending : (index : ℕ) → f.pending index ≡ []
  pub none_stored : (o : Object) → f.objects o ≡ None
  pub none_held : (id : ℕ) → s.held id ≡ false
  pub none_lost : (id : ℕ) → IsSome (s.kinds id) → IsSome (s.given id)
  pub given : (id index : ℕ) (uses : List QueueSerial) → s.given id ≡ Some uses → number_of uses index ≤ last_number (batches_of s.mine) index
  pub licensed : BarriersAreLicensed s

-- Of these stores some are left, which are held still, and the others were let go.
pub record HasLetGo (stores left : Entries ObjectStore) (s t : Link) : Type 0 where
  pub rest : t ≡ record s { held = t.held }
  pub held : (k : ℕ) (x : ObjectStore) → entry k left ≡ Some x → (entry k stores ≡ Some x) × (t.held x.handle.0 ≡ true)
  pub others : (k : ℕ) (x : ObjectStore) → entry k stores ≡ Some x → (entry k left ≡ Some x) ⊎ (t.held x.handle.0 ≡ false)
