-- The names and references of one kind of object.
use Rattle.std.specs.Prelude.{ℕ, ◌==◌, ◌&&◌, ◌≡◌, ◌<◌, ◌≢◌, Bool, false, Option, Some, None, List, map, is_none, is_some, if◌then◌else◌, slice_index_or, slice_set}
use Rattle.std.specs.List.{filter}
use Rattle.std.specs.Option.{option_and_then, option_map_or, option_map}
use Rattle.tables.specs.Table.{Entries, entry, each_value}
use Rattle.gl_model.specs.declared.state.Names.{Names}
use Rattle.gl_model.specs.GroupEffect.{object_of}
use Rattle.gl_objects.specs.declared.ids.ObjectId.{ObjectId}
use Rattle.gl_objects.specs.declared.object.Object.{Object}
use Rattle.tables.specs.Table.{has}
use Rattle.unused_names.specs.declared.UnusedNames.{UnusedNames}
use Rattle.unused_names.specs.Unused.{Fits}
use Rattle.gl_objects.specs.Ids.{number_of, key_of}

-- the names with their objects, by the number of objects made before each, and the objects by their places
pub record NamedObjects : Type 0 where
  pub names : Names
  pub objects : List (Option Object)

-- names with their objects told by number
abbrev pub numbered : Entries (Option ObjectId) → Entries (Option ℕ)
numbered names = each_value (option_map number_of) names

-- the object at a place
abbrev pub object_at : List (Option Object) → ℕ → Option Object
object_at objects key = slice_index_or objects key None

-- the object of an id, if it exists
abbrev pub existing : List (Option Object) → ObjectId → Option Object
existing objects id = option_and_then (λ o. if o.number == number_of id then Some o else None) (object_at objects (key_of id))

-- how often an object is held, and its name if it has one
abbrev pub holds_of : List (Option Object) → ObjectId → ℕ
holds_of objects id = option_map_or (λ o. o.holds) (existing objects id) 0

abbrev pub name_of : List (Option Object) → ObjectId → Option ℕ
name_of objects id = option_and_then (λ o. o.name) (existing objects id)

-- nothing refers to an object
abbrev pub is_unreferenced : Object → Bool
is_unreferenced o = is_none o.name && (o.holds == 0)

-- an object ends where nothing refers to it
abbrev pub if_referenced : Object → Option Object
if_referenced o = if is_unreferenced o then None else Some o

-- the objects after one was changed
abbrev pub changed : List (Option Object) → ObjectId → (Object → Object) → List (Option Object)
changed objects id change = option_map_or (λ o. slice_set objects (key_of id) (if_referenced (change o))) (existing objects id) objects

abbrev pub with_holds : ℕ → Object → Object
with_holds n o = record o { holds = n }

abbrev pub without_name : Object → Object
without_name o = record o { name = None }

-- one place has this, and each other place what it had
pub record Puts (old new : List (Option Object)) (key : ℕ) (slot : Option Object) : Type 0 where
  pub here : object_at new key ≡ slot
  pub others : (other : ℕ) → other ≢ key → object_at new other ≡ object_at old other

-- the names that have an object, in rising order
abbrev pub object_names : Names → List ℕ
object_names names = map (λ e. e.0) (filter (λ e. is_some e.1) names.objects)

-- the object of an id, under a name
abbrev pub named_object : ObjectId → ℕ → ℕ → Object
named_object id name holds = record { number = number_of id; name = Some name; holds = holds }

-- What holds of the parts of a table.
pub record IsSound (names : Entries (Option ObjectId)) (made : ℕ) (objects : List (Option Object)) : Type 0 where
  -- objects were made before, and have numbers of their own
  pub earlier : (key : ℕ) (o : Object) → object_at objects key ≡ Some o → o.number < made
  pub apart : (j k : ℕ) (a b : Object) → object_at objects j ≡ Some a → object_at objects k ≡ Some b → a.number ≡ b.number → j ≡ k
  -- something refers to each object
  pub referenced : (key : ℕ) (o : Object) → object_at objects key ≡ Some o → is_unreferenced o ≡ false
  -- the object of a name has that name, and the name of an object has that object
  pub named : (name : ℕ) (id : ObjectId) → entry name names ≡ Some (Some id) → (holds : ℕ) × (object_at objects (key_of id) ≡ Some (named_object id name holds))
  pub listed : (key : ℕ) (o : Object) (name : ℕ) → object_at objects key ≡ Some o → o.name ≡ Some name → (id : ObjectId) × (entry name names ≡ Some (Some id)) × (key_of id ≡ key)

-- What callers may know of each table: an object exists exactly while it has a name or is held, and has a number of its own.
pub record IsLawful (t : NamedObjects) : Type 0 where
  pub earlier : (key : ℕ) (o : Object) → object_at t.objects key ≡ Some o → o.number < t.names.made
  pub apart : (j k : ℕ) (a b : Object) → object_at t.objects j ≡ Some a → object_at t.objects k ≡ Some b → a.number ≡ b.number → j ≡ k
  pub referenced : (key : ℕ) (o : Object) → object_at t.objects key ≡ Some o → is_unreferenced o ≡ false
  pub named : (name number : ℕ) → object_of t.names name ≡ Some number → (key : ℕ) × (holds : ℕ) × (object_at t.objects key ≡ Some (record { number = number; name = Some name; holds = holds }))
  pub listed : (key : ℕ) (o : Object) (name : ℕ) → object_at t.objects key ≡ Some o → o.name ≡ Some name → object_of t.names name ≡ Some o.number

-- What holds of the parts of a table, and of what is known of unused names.
pub record IsKept (names : Entries (Option ObjectId)) (made : ℕ) (objects : List (Option Object)) (unused : UnusedNames) : Type 0 where
  pub sound : IsSound names made objects
  pub fits : Fits unused (λ n. has n names)
