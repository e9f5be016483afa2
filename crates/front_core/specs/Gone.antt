-- The objects that stop existing with a change of a group's state.
use Rattle.std.specs.Prelude.{List, ◌++◌, map}
use Rattle.gl_model.specs.declared.state.GroupState.{GroupState}
use Rattle.gl_state.specs.Ended.{gone}
use Rattle.front_model.specs.declared.object.Object.{Object}
use Rattle.front_model.specs.declared.object.Object.TheVariants.{Buffer, Texture, Renderbuffer}

abbrev pub objects_gone : GroupState → GroupState → List Object
objects_gone before after =
    map Buffer (gone before.buffers after.buffers) ++ map Texture (gone before.textures after.textures)
    ++ map Renderbuffer (gone before.renderbuffers after.renderbuffers)
