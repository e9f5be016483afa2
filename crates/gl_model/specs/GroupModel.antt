-- The whole state of a share group: its objects and bindings, and what the objects hold.
use Rattle.std.specs.Prelude.{ℕ, Bool, List, []}
use Rattle.cells.specs.Contents.{Content}
use Rattle.tables.specs.Table.{Entries}
use Rattle.gl_model.specs.GroupState.{GroupState, opening_group}

-- what a buffer holds, and of each place whether it was written through the map and not flushed since
pub record Store : Type 0 where
  pub cells : Content
  pub waiting : List Bool

-- a sync: the context that made it, by the place of its creation in the history, its own place, and whether it is known to be signalled
pub record Fence : Type 0 where
  pub context : ℕ
  pub place : ℕ
  pub signalled : Bool

-- Contexts go by their numbers, and births are the places where they were created.
pub record GroupModel : Type 0 where
  pub group : GroupState
  pub stores : Entries Store
  pub texture_cells : Entries Content
  pub renderbuffer_cells : Entries Content
  pub births : Entries ℕ
  pub fences : Entries Fence
  pub egl_fences : Entries Fence

-- the state of the declared threads, with nothing in it
abbrev pub opening : List ℕ → GroupModel
opening threads = record {
  group = opening_group threads;
  stores = [];
  texture_cells = [];
  renderbuffer_cells = [];
  births = [];
  fences = [];
  egl_fences = [];
}
