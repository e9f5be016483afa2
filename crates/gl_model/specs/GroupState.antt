-- The state of a share group, all but what its objects hold.
use Rattle.std.specs.Prelude.{ℕ, pos, false, None, List, []}
use Rattle.std.specs.List.{fold}
use Rattle.formats.specs.declared.errors.EglError.{EglError}
use Rattle.formats.specs.declared.errors.EglError.TheVariants.{Success}
use Rattle.formats.specs.Rows.{first_storage}
use Rattle.gl_calls.specs.declared.reply.GlError.TheVariants.{NoError}
use Rattle.tables.specs.Table.{Entries, with_entry}
-- The records of the state are the structs of src/state.rt: contracts see a table as its entries.
pub use Rattle.gl_model.specs.declared.state.Attachment.{Attachment}
pub use Rattle.gl_model.specs.declared.state.Attachment.TheVariants.{Empty, Texture, Renderbuffer}
pub use Rattle.gl_model.specs.declared.state.Framebuffer.{Framebuffer}
pub use Rattle.gl_model.specs.declared.state.Names.{Names}
pub use Rattle.gl_model.specs.declared.state.ScissorBox.{ScissorBox}
pub use Rattle.gl_model.specs.declared.state.Context.{Context}
pub use Rattle.gl_model.specs.declared.state.GroupState.{GroupState}

-- a context as it is created (OpenGL ES 3.0.6, State Tables, the initial values)
abbrev pub new_context : Context
new_context = record {
  marked = false;
  thread = None;
  array = None;
  copy_read = None;
  copy_write = None;
  pixel_pack = None;
  pixel_unpack = None;
  texture = None;
  renderbuffer = None;
  framebuffers = [];
  draw = 0;
  read = 0;
  pack = first_storage;
  unpack = first_storage;
  scissor_on = false;
  scissor = record { x = pos 0; y = pos 0; width = 0; height = 0 };
  error = NoError;
}

abbrev pub no_names : Names
no_names = record { objects = []; made = 0 }

-- the threads with no error of EGL
abbrev pub opening_threads : List ℕ → Entries EglError
opening_threads threads = fold (λ table thread. with_entry thread Success table) [] threads

-- the group of the declared threads, with nothing in it
abbrev pub opening_group : List ℕ → GroupState
opening_group threads = record {
  buffer_names = no_names;
  texture_names = no_names;
  renderbuffer_names = no_names;
  buffers = [];
  textures = [];
  renderbuffers = [];
  contexts = [];
  threads = opening_threads threads;
  syncs = [];
  egl_syncs = [];
}
