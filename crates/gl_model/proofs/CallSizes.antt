-- Each accepted call of OpenGL ES keeps the sizes of buffers.
use Rattle.std.proofs.Common.{◌≡◌, ℕ, ◌+◌, ◌≤◌, ◌==◌, ◌||◌, ℤ, Bool, true, false, cond, Option, Some, None, List, [], ◌∷◌, length, unsigned_abs, IfSome, refl, ap, sym, ◌∙◌, subst, arith, if◌then◌else◌}
use Rattle.std.specs.Option.{option_map_or, option_and_then}
use Rattle.std.proofs.lemmas.Grind.{common_steps}
use Rattle.cells.specs.Contents.{UNDEFINED, overwritten, part}
use Rattle.formats.specs.declared.pixel.PixelFormat.{PixelFormat}
use Rattle.formats.specs.declared.pixel.PixelType.{PixelType}
use Rattle.gl_calls.specs.declared.call.Call.{Call}
use Rattle.gl_calls.specs.declared.call.Call.TheVariants as call
use Rattle.gl_calls.specs.declared.call.PixelDestination.TheVariants as destination
use Rattle.gl_calls.specs.declared.payload.Payload.{Payload}
use Rattle.gl_calls.specs.declared.words.BufferTarget.{BufferTarget}
use Rattle.gl_calls.specs.declared.words.Usage.{Usage}
use Rattle.gl_calls.specs.declared.words.AccessWord.{AccessWord}
use Rattle.gl_calls.specs.declared.words.BindTarget.TheVariants as targets
use Rattle.gl_calls.specs.declared.words.ObjectKind.TheVariants as kinds
use Rattle.gl_calls.specs.Words.{payload_len, payload_bytes}
use Rattle.tables.specs.Table.{entry, with_entry}
use Rattle.gl_model.specs.declared.objects.BufferFacts.{BufferFacts}
use Rattle.gl_model.specs.declared.objects.Mapped.{Mapped}
use Rattle.gl_model.specs.GroupState.{Context, GroupState}
use Rattle.gl_model.specs.Bindings.{buffer_of, buffer_binding, bound_buffer, same_option, read_attachment}
use Rattle.gl_model.specs.BufferRows.{size_of, map_len, is_past, buffer_sub_data_rows, copy_buffer_rows, map_rows, map_write_rows}
use Rattle.gl_model.specs.RefusalRows.{Row, first_row}
use Rattle.gl_model.specs.Refusal.{gl_refusal, read_framebuffer}
use Rattle.gl_model.specs.GroupEffect.{change_buffer, unmapped, delete_buffer, delete_texture, delete_renderbuffer, object_of, makes_object, gl_change}
use Rattle.gl_model.specs.GroupModel.{GroupModel, Store}
use Rattle.gl_model.specs.BufferEffect.{store_of_cells, data_cells, map_cells, written, flushed, closed}
use Rattle.gl_model.specs.ImageEffect.{Picture, after_read}
use Rattle.gl_model.specs.Effect.{change_store, store_of, empty_store, map_place, read_into, gl_contents, picture_of}
use Rattle.gl_model.specs.Sizes.{HoldsBuffer, HasSizes, HasItsData}
use Rattle.gl_model.proofs.TableLaws.{entry-with_entry}
use Rattle.gl_model.proofs.StoreSizes.{length-cells, length-payload_bytes, length-overwritten, length-part, holds-cells, holds-changed, length-map_cells, holds-written, holds-flushed, holds-closed}
use Rattle.gl_model.proofs.SizeLaws.{at_most, store_changed, buffer_changed, untouched, buffer_found}

-- no row holds
abbrev pub NoneHolds : List Row → Type 0
NoneHolds [] = Unit {0}
NoneHolds (row ∷ rows) = (row.0 ≡ false) × NoneHolds rows

row_fails : (row : Row) (rows : List Row) → first_row (row ∷ rows) ≡ None → (row.0 ≡ false) × (first_row rows ≡ None)
row_fails row rows h = by_case row.0 refl h
  where
    by_case : (c : Bool) → row.0 ≡ c → (if c then Some row.1 else first_row rows) ≡ None → (row.0 ≡ false) × (first_row rows ≡ None)
    by_case true is h = let no : ⊥ = cc in absurd no
    by_case false is h = (is, h)

pub none_holds : (rows : List Row) → first_row rows ≡ None → NoneHolds rows
none_holds [] h = tt
none_holds (row ∷ rows) h = let r : (row.0 ≡ false) × (first_row rows ≡ None) = row_fails row rows h in (r.0, none_holds rows r.1)

neither : (a b : Bool) → (a || b) ≡ false → b ≡ false
neither true b h = let no : ⊥ = cc in absurd no
neither false b h = h

-- a range that does not pass the end of what is bound
in_bound : (group : GroupState) (bound : Option ℕ) (offset : ℤ) (len : ℕ) (c : ℕ) (g : BufferFacts) → bound ≡ Some c → entry c group.buffers ≡ Some g → is_past offset len (size_of (buffer_of group bound)) ≡ false → unsigned_abs offset + len ≤ g.size
in_bound group bound offset len c g is there past =
    at_most g.size (unsigned_abs offset + len) (ap (λ o. is_past offset len (size_of o)) (sym (buffer_found group bound c g is there)) ∙ past)

-- BufferSubData
sub_data : (state : GroupModel) (context : Context) (target : BufferTarget) (offset : ℤ) (payload : Payload) → HasSizes state → gl_refusal state.group (Some context) (call.BufferSubData target offset payload) ≡ None → (b : ℕ) (f : BufferFacts) → entry b state.group.buffers ≡ Some f → HoldsBuffer (store_of (gl_contents state context (call.BufferSubData target offset payload)) b) f
sub_data state context target offset payload sizes accepted b f h =
    let past = (none_holds (buffer_sub_data_rows target offset (payload_len payload) (bound_buffer state.group context target)) accepted).1.1.1.1.0 in
    store_changed state (buffer_binding context target) (λ s. record s { cells = overwritten s.cells (unsigned_abs offset) (payload_bytes payload) }) sizes
    (λ c g is there holds.
    let inside : unsigned_abs offset + payload_len payload ≤ g.size = in_bound state.group (buffer_binding context target) offset (payload_len payload) c g is there past in
    holds-changed (store_of state c) _ g holds (length-overwritten (store_of state c).cells (unsigned_abs offset) (payload_bytes payload) (rw (length-payload_bytes payload, holds.cells) inside)))
    b f h

-- CopyBufferSubData
copied : (state : GroupModel) (context : Context) (from to : BufferTarget) (read write size : ℤ) → HasSizes state → gl_refusal state.group (Some context) (call.CopyBufferSubData from to read write size) ≡ None → (b : ℕ) (f : BufferFacts) → entry b state.group.buffers ≡ Some f → HoldsBuffer (store_of (gl_contents state context (call.CopyBufferSubData from to read write size)) b) f
copied state context from to read write size sizes accepted b f h =
    let source = option_map_or (λ b. (store_of state b).cells) (buffer_binding context from) [] in
    let bound = bound_buffer state.group context to in
    let rows = none_holds (copy_buffer_rows from to read write size (bound_buffer state.group context from) bound (same_option (buffer_binding context from) (buffer_binding context to))) accepted in
    let past : is_past write (unsigned_abs size) (size_of bound) ≡ false = neither (is_past read (unsigned_abs size) (size_of (bound_buffer state.group context from))) (is_past write (unsigned_abs size) (size_of bound)) rows.1.1.1.1.0 in
    store_changed state (buffer_binding context to) (λ s. record s { cells = overwritten s.cells (unsigned_abs write) (part source (unsigned_abs read) (unsigned_abs size)) }) sizes
    (λ c g is there holds.
    let inside : unsigned_abs write + unsigned_abs size ≤ g.size = in_bound state.group (buffer_binding context to) write (unsigned_abs size) c g is there past in
    holds-changed (store_of state c) _ g holds (length-overwritten (store_of state c).cells (unsigned_abs write) (part source (unsigned_abs read) (unsigned_abs size)) (rw holds.cells (less (unsigned_abs write) _ (unsigned_abs size) g.size (length-part source (unsigned_abs read) (unsigned_abs size)) inside))))
    b f h
  where
    less : (a n m s : ℕ) → n ≤ m → a + m ≤ s → a + n ≤ s
    less a n m s h k = omega arith

-- BufferData
data_size : (target : BufferTarget) (size : ℤ) (usage : Usage) (payload : Option Payload) → HasItsData (call.BufferData target size usage payload) → length (data_cells (unsigned_abs size) payload) ≡ unsigned_abs size
data_size target size usage None formed = length-cells (unsigned_abs size) (λ _. UNDEFINED)
data_size target size usage (Some payload) formed = length-payload_bytes payload ∙ formed

replaced : (state : GroupModel) (context : Context) (target : BufferTarget) (size : ℤ) (usage : Usage) (payload : Option Payload) → HasSizes state → HasItsData (call.BufferData target size usage payload) → (b : ℕ) (f : BufferFacts) → entry b (change_buffer state.group (buffer_binding context target) (λ _. record { size = unsigned_abs size; map = None })).buffers ≡ Some f → HoldsBuffer (store_of (gl_contents state context (call.BufferData target size usage payload)) b) f
replaced state context target size usage payload sizes formed b f h =
    buffer_changed state (buffer_binding context target) (λ _. record { size = unsigned_abs size; map = None }) (λ _. store_of_cells (data_cells (unsigned_abs size) payload)) sizes
    (λ c g is there holds. holds-cells (data_cells (unsigned_abs size) payload) (record { size = unsigned_abs size; map = None }) (data_size target size usage payload formed) tt)
    b f h

-- MapBufferRange
mapped : (state : GroupModel) (context : Context) (target : BufferTarget) (offset len : ℤ) (access : AccessWord) → HasSizes state → gl_refusal state.group (Some context) (call.MapBufferRange target offset len access) ≡ None → (b : ℕ) (f : BufferFacts) → entry b (change_buffer state.group (buffer_binding context target) (λ b. record b { map = Some (record { at = unsigned_abs offset; len = unsigned_abs len; access = access }) })).buffers ≡ Some f → HoldsBuffer (store_of (gl_contents state context (call.MapBufferRange target offset len access)) b) f
mapped state context target offset len access sizes accepted b f h =
    let past = (none_holds (map_rows target offset len access (bound_buffer state.group context target)) accepted).1.1.1.1.0 in
    buffer_changed state (buffer_binding context target) (λ b. record b { map = Some (record { at = unsigned_abs offset; len = unsigned_abs len; access = access }) })
    (λ s. store_of_cells (map_cells s.cells (unsigned_abs offset) (unsigned_abs len) access)) sizes
    (λ c g is there holds.
    let inside : unsigned_abs offset + unsigned_abs len ≤ g.size = in_bound state.group (buffer_binding context target) offset (unsigned_abs len) c g is there past in
    holds-cells (map_cells (store_of state c).cells (unsigned_abs offset) (unsigned_abs len) access) (record g { map = Some (record { at = unsigned_abs offset; len = unsigned_abs len; access = access }) })
    (length-map_cells (store_of state c).cells (unsigned_abs offset) (unsigned_abs len) access (rw holds.cells inside) ∙ holds.cells) inside)
    b f h

-- a range of a map lies in the buffer
map_inside : (m : Option Mapped) (size at len : ℕ) → IfSome m (λ m. m.at + m.len ≤ size) → at + len ≤ option_map_or (λ m. m.len) m 0 → (option_map_or (λ m. m.at) m 0 + at) + len ≤ size
map_inside None size at len inside h = omega arith
map_inside (Some m) size at len inside h = omega arith

-- a write through the map
map_written : (state : GroupModel) (context : Context) (target : BufferTarget) (offset : ℤ) (payload : Payload) → HasSizes state → gl_refusal state.group (Some context) (call.MapWrite target offset payload) ≡ None → (b : ℕ) (f : BufferFacts) → entry b state.group.buffers ≡ Some f → HoldsBuffer (store_of (gl_contents state context (call.MapWrite target offset payload)) b) f
map_written state context target offset payload sizes accepted b f h =
    let past = (none_holds (map_write_rows target offset (payload_len payload) (bound_buffer state.group context target)) accepted).1.1.0 in
    store_changed state (buffer_binding context target) (λ s. written s (map_place (bound_buffer state.group context target) (unsigned_abs offset)) (payload_bytes payload)) sizes
    (λ c g is there holds.
    let found : buffer_of state.group (buffer_binding context target) ≡ Some g = buffer_found state.group (buffer_binding context target) c g is there in
    let most : unsigned_abs offset + payload_len payload ≤ map_len (Some g) = at_most (map_len (Some g)) (unsigned_abs offset + payload_len payload) (ap (λ o. is_past offset (payload_len payload) (map_len o)) (sym found) ∙ past) in
    let P : Option BufferFacts → Type 0 = λ o. HoldsBuffer (written (store_of state c) (map_place o (unsigned_abs offset)) (payload_bytes payload)) g in
    subst P (sym found) (holds-written (store_of state c) (map_place (Some g) (unsigned_abs offset)) (payload_bytes payload) g holds
    (rw (length-payload_bytes payload) (map_inside g.map g.size (unsigned_abs offset) (payload_len payload) holds.map most))))
    b f h

-- Delete of a buffer
deleted : (state : GroupModel) (number : ℕ) (context : Context) (map : Option Mapped) (o : Option ℕ) → HasSizes state → (b : ℕ) (f : BufferFacts) → entry b (delete_buffer state.group number context o).buffers ≡ Some f → HoldsBuffer (store_of (change_store state o (λ s. closed s map)) b) f
deleted state number context map None sizes b f h = sizes.stores b f h
deleted state number context map (Some d) sizes b f h =
    buffer_changed state (Some d) unmapped (λ s. closed s map) sizes (λ c g is there holds. holds-closed (store_of state c) map g holds) b f h

-- a read into a pack buffer
read_sized : (state : GroupModel) (context : Context) (at : ℕ) (read : Option Picture) (pixels : PixelFormat) (kind : PixelType) (x y : ℤ) (width height : ℕ) → HasSizes state → (b : ℕ) (f : BufferFacts) → entry b state.group.buffers ≡ Some f → HoldsBuffer (store_of (read_into state context (destination.Offset at) read pixels kind x y width height) b) f
read_sized state context at None pixels kind x y width height sizes b f h = sizes.stores b f h
read_sized state context at (Some read) pixels kind x y width height sizes b f h =
    store_changed state context.pixel_pack (λ s. record s { cells = after_read s.cells at read pixels kind context.pack x y width height }) sizes
    (λ c g is there holds. holds-changed (store_of state c) _ g holds (length-cells (length (store_of state c).cells) _)) b f h

-- a name bound, which makes an object where it had none
made_sized : (state : GroupModel) (t : Bool) → HasSizes state → (b : ℕ) (f : BufferFacts) → entry b (if t then with_entry state.group.buffer_names.made (record { size = 0; map = None }) state.group.buffers else state.group.buffers) ≡ Some f → HoldsBuffer (store_of state b) f
made_sized state false sizes b f h = sizes.stores b f h
made_sized state true sizes b f h =
    by_key (b == state.group.buffer_names.made) refl (sym (entry-with_entry state.group.buffer_names.made b (record { size = 0; map = None }) state.group.buffers) ∙ h)
  where
    past_made : (m n : ℕ) → (m == n) ≡ true → n ≤ m
    past_made m n h = grind (arith, common_steps)

    by_key : (t : Bool) → (b == state.group.buffer_names.made) ≡ t → cond t (Some (record { size = 0; map = None })) (entry b state.group.buffers) ≡ Some f → HoldsBuffer (store_of state b) f
    by_key false is k = sizes.stores b f k
    by_key true is k =
        let empty : store_of state b ≡ empty_store = sizes.gone b (sizes.unmade b (past_made b state.group.buffer_names.made is)) in
        let fresh : BufferFacts = record { size = 0; map = None } in
        let same : fresh ≡ f = cc in
        let P : Store → Type 0 = λ s. HoldsBuffer s f in
        let Q : BufferFacts → Type 0 = λ f. HoldsBuffer empty_store f in
        subst P (sym empty) (subst Q same (record { cells = refl; flags = refl; map = tt }))

delete_texture-buffers : (group : GroupState) (number : ℕ) (context : Context) (o : Option ℕ) → (delete_texture group number context o).buffers ≡ group.buffers
delete_texture-buffers group number context None = refl
delete_texture-buffers group number context (Some t) = refl

delete_renderbuffer-buffers : (group : GroupState) (number : ℕ) (context : Context) (o : Option ℕ) → (delete_renderbuffer group number context o).buffers ≡ group.buffers
delete_renderbuffer-buffers group number context None = refl
delete_renderbuffer-buffers group number context (Some t) = refl

-- each accepted call
pub gl_sized : (state : GroupModel) (number : ℕ) (context : Context) (asked : Call) → HasSizes state → gl_refusal state.group (Some context) asked ≡ None → HasItsData asked → (b : ℕ) (f : BufferFacts) → entry b (gl_change state.group number context asked).buffers ≡ Some f → HoldsBuffer (store_of (gl_contents state context asked) b) f
gl_sized state number context (call.Delete kinds.Buffer name) sizes accepted formed b f h =
    deleted state number context (option_and_then (λ f. f.map) (buffer_of state.group (object_of state.group.buffer_names name))) (object_of state.group.buffer_names name) sizes b f h
gl_sized state number context (call.Delete kinds.Texture name) sizes accepted formed b f h =
    sizes.stores b f (ap (λ t. entry b t) (sym (delete_texture-buffers state.group number context (object_of state.group.texture_names name))) ∙ h)
gl_sized state number context (call.Delete kinds.Renderbuffer name) sizes accepted formed b f h =
    sizes.stores b f (ap (λ t. entry b t) (sym (delete_renderbuffer-buffers state.group number context (object_of state.group.renderbuffer_names name))) ∙ h)
gl_sized state number context (call.Delete kinds.Framebuffer name) sizes accepted formed b f h = sizes.stores b f h
gl_sized state number context (call.Gen kinds.Buffer count) sizes accepted formed b f h = sizes.stores b f h
gl_sized state number context (call.Gen kinds.Texture count) sizes accepted formed b f h = sizes.stores b f h
gl_sized state number context (call.Gen kinds.Renderbuffer count) sizes accepted formed b f h = sizes.stores b f h
gl_sized state number context (call.Gen kinds.Framebuffer count) sizes accepted formed b f h = sizes.stores b f h
gl_sized state number context (call.Bind (targets.Buffer target) name) sizes accepted formed b f h = made_sized state (makes_object state.group.buffer_names name) sizes b f h
gl_sized state number context (call.Bind (targets.Framebuffer target) name) sizes accepted formed b f h = sizes.stores b f h
gl_sized state number context (call.Bind targets.Texture name) sizes accepted formed b f h = sizes.stores b f h
gl_sized state number context (call.Bind targets.Renderbuffer name) sizes accepted formed b f h = sizes.stores b f h
gl_sized state number context (call.BufferData target size usage payload) sizes accepted formed b f h = replaced state context target size usage payload sizes formed b f h
gl_sized state number context (call.BufferSubData target offset payload) sizes accepted formed b f h = sub_data state context target offset payload sizes accepted b f h
gl_sized state number context (call.CopyBufferSubData from to read write size) sizes accepted formed b f h = copied state context from to read write size sizes accepted b f h
gl_sized state number context (call.MapBufferRange target offset len access) sizes accepted formed b f h = mapped state context target offset len access sizes accepted b f h
gl_sized state number context (call.FlushMappedBufferRange target offset len) sizes accepted formed b f h =
    store_changed state (buffer_binding context target) (λ s. flushed s (map_place (bound_buffer state.group context target) (unsigned_abs offset)) (unsigned_abs len)) sizes
    (λ c g is there holds. holds-flushed (store_of state c) _ (unsigned_abs len) g holds) b f h
gl_sized state number context (call.UnmapBuffer target) sizes accepted formed b f h =
    buffer_changed state (buffer_binding context target) unmapped (λ s. closed s (option_and_then (λ f. f.map) (bound_buffer state.group context target))) sizes
    (λ c g is there holds. holds-closed (store_of state c) (option_and_then (λ f. f.map) (bound_buffer state.group context target)) g holds) b f h
gl_sized state number context (call.MapWrite target offset payload) sizes accepted formed b f h = map_written state context target offset payload sizes accepted b f h
gl_sized state number context (call.ReadPixels x y width height pixels kind destination.Client) sizes accepted formed b f h = sizes.stores b f h
gl_sized state number context (call.ReadPixels x y width height pixels kind (destination.Offset at)) sizes accepted formed b f h =
    read_sized state context at (picture_of state (read_attachment (read_framebuffer context))) pixels kind x y (unsigned_abs width) (unsigned_abs height) sizes b f h
gl_sized state number context asked sizes accepted formed b f h = untouched state context asked b f refl (sizes.stores b f h)
