-- What an id tells of its object.
use Rattle.std.specs.Prelude.{ℕ, ◌/◌, ◌%◌, ◌^◌}
use Rattle.gl_objects.specs.declared.ids.ObjectId.{ObjectId}

-- how many objects of the kind were made before this one
unfoldable pub number_of : ObjectId → ℕ
number_of id = id.0 / 2 ^ 64

-- the place of the object in its table
unfoldable pub key_of : ObjectId → ℕ
key_of id = id.0 % 2 ^ 64
