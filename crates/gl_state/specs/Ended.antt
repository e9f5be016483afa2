-- Objects that stopped existing.
use Rattle.std.specs.Prelude.{ℕ, ◌+◌, ◌≤◌, ◌≡◌, not, List, [], ◌∷◌, length, vec_capacity}
use Rattle.std.specs.Map.{keys_of}
use Rattle.tables.specs.Table.{Entries, has, without, only}
use Rattle.gl_model.specs.declared.state.GroupState.{GroupState}
use Rattle.gl_state.specs.declared.nameless.Nameless.{Nameless}
use Rattle.gl_state.specs.declared.nameless.Ended.{Ended}

-- the numbers that are in a table before and not after, in rising order
abbrev pub gone : {V : Type 0} → Entries V → Entries V → List ℕ
gone before after = keys_of (only (λ b. not (has b after)) before)

-- the lists are exactly the objects that existed before and do not after
pub record AreGone (before after : GroupState) (ended : Ended) : Type 0 where
  pub buffers : ended.buffers.items ≡ gone before.buffers after.buffers
  pub textures : ended.textures.items ≡ gone before.textures after.textures
  pub renderbuffers : ended.renderbuffers.items ≡ gone before.renderbuffers after.renderbuffers

-- empty lists with room for all nameless objects and some more
pub record HasRoom (ended : Ended) (nameless : Nameless) (more : ℕ) : Type 0 where
  pub no_buffers : ended.buffers.items ≡ []
  pub no_textures : ended.textures.items ≡ []
  pub no_renderbuffers : ended.renderbuffers.items ≡ []
  pub buffers : length nameless.buffers + more ≤ vec_capacity ended.buffers
  pub textures : length nameless.textures + more ≤ vec_capacity ended.textures
  pub renderbuffers : length nameless.renderbuffers + more ≤ vec_capacity ended.renderbuffers

-- a table without some keys
abbrev pub without_all : {V : Type 0} → List ℕ → Entries V → Entries V
without_all [] table = table
without_all (key ∷ rest) table = without_all rest (without key table)
