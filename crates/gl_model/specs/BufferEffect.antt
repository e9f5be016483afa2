-- What an accepted call on buffers does to what they hold (OpenGL ES 3.0.6, Buffer Objects).
use Rattle.std.specs.Prelude.{ℕ, ◌||◌, ◌&&◌, Bool, false, not, Option, Some, None, List, map, length, slice_index_or, if◌then◌else◌}
use Rattle.std.specs.Option.{option_map_or}
use Rattle.std.specs.List.{range_with_len}
use Rattle.cells.specs.Contents.{Content, cells, cell_at, UNDEFINED, undefined_cells, in_range, overwritten}
use Rattle.gl_calls.specs.declared.words.AccessWord.{AccessWord}
use Rattle.gl_calls.specs.declared.payload.Payload.{Payload}
use Rattle.gl_calls.specs.Words.{payload_bytes}
use Rattle.gl_model.specs.declared.objects.Mapped.{Mapped}
use Rattle.gl_model.specs.GroupModel.{Store}

-- n flags, of which flag i is f i
abbrev pub flags : ℕ → (ℕ → Bool) → List Bool
flags n f = map f (range_with_len 0 n)

abbrev pub flag_at : List Bool → ℕ → Bool
flag_at list i = slice_index_or list i false

abbrev pub no_flags : Content → List Bool
no_flags content = flags (length content) (λ _. false)

-- a store with nothing written through a map
abbrev pub store_of_cells : Content → Store
store_of_cells content = record { cells = content; waiting = no_flags content }

-- BufferData: the bytes, or cells that are not defined
abbrev pub data_cells : ℕ → Option Payload → Content
data_cells size None = undefined_cells size
data_cells size (Some payload) = payload_bytes payload

-- MapBufferRange: invalidated cells are not defined
abbrev pub map_cells : Content → ℕ → ℕ → AccessWord → Content
map_cells old at len access =
    if access.invalidate_buffer then undefined_cells (length old)
    else (if access.invalidate_range then overwritten old at (undefined_cells len) else old)

-- a write through the map, from a place of the buffer on
abbrev pub written : Store → ℕ → List ℕ → Store
written old at bytes = record {
  cells = overwritten old.cells at bytes;
  waiting = flags (length old.cells) (λ i. in_range at (length bytes) i || flag_at old.waiting i);
}

-- a flush of a range of the buffer
abbrev pub flushed : Store → ℕ → ℕ → Store
flushed old at len = record old { waiting = flags (length old.cells) (λ i. not (in_range at len i) && flag_at old.waiting i) }

-- The end of a map. Under explicit flushes a cell that was written and not flushed since is not defined.
abbrev pub closed : Store → Option Mapped → Store
closed old map =
    if option_map_or (λ m. m.access.flush_explicit) map false
    then store_of_cells (cells (length old.cells) (λ i. if flag_at old.waiting i then UNDEFINED else cell_at old.cells i))
    else store_of_cells old.cells
