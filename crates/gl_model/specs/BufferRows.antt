-- The refusals of the calls on buffers (OpenGL ES 3.0.6, Buffer Objects).
use Rattle.std.specs.Prelude.{ℕ, ◌+◌, ◌-◌, ◌==◌, ◌||◌, ◌&&◌, ℤ, unsigned_abs, Bool, false, not, Option, List, [], ◌∷◌, is_some, is_none, nat_lt}
use Rattle.std.specs.Option.{option_map_or}
use Rattle.gl_calls.specs.declared.reply.Reply.TheVariants.{NoMap}
use Rattle.gl_calls.specs.declared.words.BufferTarget.{BufferTarget}
use Rattle.gl_calls.specs.declared.words.Usage.{Usage}
use Rattle.gl_calls.specs.declared.words.AccessWord.{AccessWord}
use Rattle.gl_calls.specs.Words.{is_other_buffer, is_other_usage}
use Rattle.gl_model.specs.declared.objects.BufferFacts.{BufferFacts}
use Rattle.gl_model.specs.declared.objects.Mapped.{Mapped}
use Rattle.gl_model.specs.RefusalRows.{Row, ◌⇒◌, invalid_enum, invalid_value, invalid_operation, out_of_memory, is_negative}

-- What is asked of the bound buffer. None says that name 0 is bound.

abbrev pub size_of : Option BufferFacts → ℕ
size_of bound = option_map_or (λ b. b.size) bound 0

abbrev pub is_mapped : Option BufferFacts → Bool
is_mapped bound = option_map_or (λ b. is_some b.map) bound false

-- a test of the map, which fails where there is none
abbrev pub map_has : (Mapped → Bool) → Option BufferFacts → Bool
map_has test bound = option_map_or (λ b. option_map_or test b.map false) bound false

abbrev pub map_len : Option BufferFacts → ℕ
map_len bound = option_map_or (λ b. option_map_or (λ m. m.len) b.map 0) bound 0

-- numbers that are not negative: the range from at on reaches past an end
abbrev pub is_past : ℤ → ℕ → ℕ → Bool
is_past at len end = nat_lt end (unsigned_abs at + len)

abbrev pub gap : ℕ → ℕ → ℕ
gap a b = (a - b) + (b - a)

-- BufferData; full: with the new store in place of the bound one the group passes its limit
abbrev pub buffer_data_rows : BufferTarget → ℤ → Usage → Option BufferFacts → Bool → List Row
buffer_data_rows target size usage bound full =
    (is_other_buffer target ⇒ invalid_enum)
    ∷ (is_negative size ⇒ invalid_value)
    ∷ (is_other_usage usage ⇒ invalid_enum)
    ∷ (is_none bound ⇒ invalid_operation)
    ∷ (full ⇒ out_of_memory)
    ∷ []

-- BufferSubData
abbrev pub buffer_sub_data_rows : BufferTarget → ℤ → ℕ → Option BufferFacts → List Row
buffer_sub_data_rows target offset len bound =
    (is_other_buffer target ⇒ invalid_enum)
    ∷ (is_negative offset ⇒ invalid_value)
    ∷ (is_none bound ⇒ invalid_operation)
    ∷ (is_mapped bound ⇒ invalid_operation)
    ∷ (is_past offset len (size_of bound) ⇒ invalid_value)
    ∷ []

-- CopyBufferSubData; same says that both targets have one buffer
abbrev pub copy_buffer_rows : BufferTarget → BufferTarget → ℤ → ℤ → ℤ → Option BufferFacts → Option BufferFacts → Bool → List Row
copy_buffer_rows from to read write size source target same =
    (is_other_buffer from || is_other_buffer to ⇒ invalid_enum)
    ∷ (is_negative read || is_negative write || is_negative size ⇒ invalid_value)
    ∷ (is_none source || is_none target ⇒ invalid_operation)
    ∷ (is_mapped source || is_mapped target ⇒ invalid_operation)
    ∷ (is_past read (unsigned_abs size) (size_of source) || is_past write (unsigned_abs size) (size_of target) ⇒ invalid_value)
    ∷ (same && nat_lt 0 (unsigned_abs size) && nat_lt (gap (unsigned_abs read) (unsigned_abs write)) (unsigned_abs size) ⇒ invalid_value)
    ∷ []

-- MapBufferRange
abbrev pub map_rows : BufferTarget → ℤ → ℤ → AccessWord → Option BufferFacts → List Row
map_rows target offset len access bound =
    (is_other_buffer target ⇒ invalid_enum)
    ∷ (is_negative offset || is_negative len ⇒ invalid_value)
    ∷ (access.unknown ⇒ invalid_value)
    ∷ (is_none bound ⇒ invalid_operation)
    ∷ (is_past offset (unsigned_abs len) (size_of bound) ⇒ invalid_value)
    ∷ (unsigned_abs len == 0 ⇒ invalid_operation)
    ∷ (is_mapped bound ⇒ invalid_operation)
    ∷ (not (access.read || access.write) ⇒ invalid_operation)
    ∷ (access.read && (access.invalidate_range || access.invalidate_buffer || access.unsynchronized) ⇒ invalid_operation)
    ∷ (access.flush_explicit && not access.write ⇒ invalid_operation)
    ∷ []

-- FlushMappedBufferRange
abbrev pub flush_rows : BufferTarget → ℤ → ℤ → Option BufferFacts → List Row
flush_rows target offset len bound =
    (is_other_buffer target ⇒ invalid_enum)
    ∷ (is_negative offset || is_negative len ⇒ invalid_value)
    ∷ (is_none bound || not (map_has (λ m. m.access.flush_explicit) bound) ⇒ invalid_operation)
    ∷ (is_past offset (unsigned_abs len) (map_len bound) ⇒ invalid_value)
    ∷ []

-- UnmapBuffer
abbrev pub unmap_rows : BufferTarget → Option BufferFacts → List Row
unmap_rows target bound =
    (is_other_buffer target ⇒ invalid_enum)
    ∷ (is_none bound || not (is_mapped bound) ⇒ invalid_operation)
    ∷ []

-- a read through the map
abbrev pub map_read_rows : BufferTarget → ℤ → ℤ → Option BufferFacts → List Row
map_read_rows target offset len bound =
    (is_other_buffer target || is_none bound || not (is_mapped bound) ⇒ NoMap)
    ∷ (is_negative offset || is_negative len ⇒ NoMap)
    ∷ (is_past offset (unsigned_abs len) (map_len bound) ⇒ NoMap)
    ∷ (not (map_has (λ m. m.access.read) bound) ⇒ NoMap)
    ∷ []

-- a write through the map
abbrev pub map_write_rows : BufferTarget → ℤ → ℕ → Option BufferFacts → List Row
map_write_rows target offset len bound =
    (is_other_buffer target || is_none bound || not (is_mapped bound) ⇒ NoMap)
    ∷ (is_negative offset ⇒ NoMap)
    ∷ (is_past offset len (map_len bound) ⇒ NoMap)
    ∷ (not (map_has (λ m. m.access.write) bound) ⇒ NoMap)
    ∷ []
