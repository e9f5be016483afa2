-- What agrees with the state before a call on buffers agrees, changed as the call says, with the state after it.
use Rattle.std.proofs.Common.{◌≡◌, ℕ, ℤ, ◌+◌, ◌<◌, ◌≤◌, ◌⊎◌, Bool, true, false, cond, Option, Some, None, [], length, slice_index, unwrap_or, unsigned_abs, refl, ap, sym, ◌∙◌, subst, arith, if◌then◌else◌}
use Rattle.std.specs.Option.{option_map_or, option_and_then}
use Rattle.std.proofs.lemmas.List.FromFn.{length-map-range_with_len, get_or-map-range_with_len}
use Rattle.cells.specs.Contents.{Content, cells, cell_at, UNDEFINED, undefined_cells, overwritten, part}
use Rattle.gl_calls.specs.declared.call.Call.{Call}
use Rattle.gl_calls.specs.declared.call.Call.TheVariants as call
use Rattle.gl_calls.specs.declared.payload.Payload.{Payload}
use Rattle.gl_calls.specs.declared.payload.Payload.TheVariants.{Literal, Ramp}
use Rattle.gl_calls.specs.declared.reply.Reply.{Reply}
use Rattle.gl_calls.specs.declared.words.AccessWord.{AccessWord}
use Rattle.gl_calls.specs.declared.words.BufferTarget.{BufferTarget}
use Rattle.gl_calls.specs.declared.words.ObjectKind.TheVariants as kinds
use Rattle.gl_calls.specs.declared.words.Usage.{Usage}
use Rattle.gl_calls.specs.Words.{payload_bytes, payload_len}
use Rattle.tables.specs.Table.{entry}
use Rattle.gl_model.specs.declared.objects.BufferFacts.{BufferFacts}
use Rattle.gl_model.specs.declared.objects.Mapped.{Mapped}
use Rattle.gl_model.specs.declared.state.Context.{Context}
use Rattle.gl_model.specs.declared.state.GroupState.{GroupState}
use Rattle.gl_model.specs.Bindings.{buffer_binding, buffer_of, bound_buffer}
use Rattle.gl_model.specs.BufferEffect.{data_cells, store_of_cells, map_cells, written, flushed, closed, flag_at}
use Rattle.gl_model.specs.GroupEffect.{object_of}
use Rattle.gl_model.specs.GroupModel.{GroupModel, Store, Fence}
use Rattle.gl_model.specs.Effect.{effect, gl_contents, in_context, change_store, store_of, empty_store, map_place}
use Rattle.gl_model.specs.Legal.{refused, told, signal_fence, says_signalled}
use Rattle.gl_model.specs.Reached.{changed_images, changed_images_in}
use Rattle.front_model.specs.declared.object.Object.{Object}
use Rattle.front_model.specs.declared.object.Object.TheVariants.{Buffer, Texture, Renderbuffer}
use Rattle.front_model.specs.Face.{put_object}
use Rattle.front_model.specs.Wanted.{wanted, AgreeWith, IsAccepted, IsBound, HasBound, HasMapRange, with_bytes, with_copy}
use Rattle.front_model.proofs.Ranges.{sub_range, copy_range, map_range_of, write_range}
use Rattle.front_model.proofs.AgreeingCells.{Right, Fades, length-cells, cell_at-defined, Right-with_bytes, Right-with_copy, Fades-overwritten}
use Rattle.front_model.proofs.AgreeingStores.{Laws, put_agrees, fade_agrees}

-- the payload has as many bytes as it says
pub length-payload_bytes : (payload : Payload) → length (payload_bytes payload) ≡ payload_len payload
length-payload_bytes (Literal bytes) = refl
length-payload_bytes (Ramp len start step) = length-map-range_with_len _ 0 len

-- what holds of some buffer that is bound holds of the one that is bound
pub bound_has : {group : GroupState} {context : Context} {target : BufferTarget} {b : ℕ} {facts : BufferFacts} (P : ℕ → BufferFacts → Type 0) → HasBound group context target P → IsBound group context target b facts → P b facts
bound_has {group} {context} {target} {b} {facts} P has bound =
    let one : Some has.b ≡ Some b = sym has.is_bound.bound ∙ bound.bound in
    let number : has.b ≡ b = cc in
    let two : Some has.facts ≡ Some facts = sym has.is_bound.is ∙ ap (λ k. entry k group.buffers) number ∙ bound.is in
    let same : has.facts ≡ facts = cc in
    subst (λ (k : ℕ). P k facts) number (subst (λ (f : BufferFacts). P has.b f) same has.holds)

-- what a call of OpenGL ES does in the current context
in_current : {state : GroupModel} {thread : ℕ} {asked : Call} {context : Context} → IsAccepted state thread asked context → in_context gl_contents state thread asked ≡ gl_contents state context asked
in_current {state} {thread} {asked} {context} accepted = ap (λ o. option_map_or (λ c. gl_contents state c asked) o state) accepted.current

images_of : {state : GroupModel} {thread : ℕ} {asked : Call} {context : Context} → IsAccepted state thread asked context → changed_images state.group thread asked ≡ changed_images_in context asked
images_of {state} {thread} {asked} {context} accepted = ap (λ o. option_map_or (λ c. changed_images_in c asked) o []) accepted.current

-- a map that invalidates
fades-map_cells : (old : Content) (at len : ℕ) (access : AccessWord) → at + len ≤ length old → Fades old (map_cells old at len access)
fades-map_cells old at len access inside = whole access.invalidate_buffer
  where
    gone : (n p : ℕ) → cell_at (undefined_cells n) p < 256 → ⊥
    gone n p h = let is : (p < n) × (cell_at (undefined_cells n) p ≡ 256) = cell_at-defined n (λ _. UNDEFINED) p h in omega (arith, is.1, h)

    undefined : (i : ℕ) → i < length (undefined_cells len) → slice_index (undefined_cells len) i ≡ 256
    undefined i low = get_or-map-range_with_len (λ _. UNDEFINED) 0 len i i 0 (omega (arith, low, length-cells len (λ _. UNDEFINED))) (omega arith)

    ranged : (b : Bool) → Fades old (if b then overwritten old at (undefined_cells len) else old)
    ranged true = Fades-overwritten old at (undefined_cells len) (omega (arith, inside, length-cells len (λ _. UNDEFINED))) undefined
    ranged false = λ p h. refl

    whole : (b : Bool) → Fades old (if b then undefined_cells (length old) else (if access.invalidate_range then overwritten old at (undefined_cells len) else old))
    whole true = λ p h. absurd (gone (length old) p h)
    whole false = ranged access.invalidate_range

-- the end of a map
fades-closed : (s : Store) (map : Option Mapped) → Fades s.cells (closed s map).cells
fades-closed s map = by_flush (option_map_or (λ m. m.access.flush_explicit) map false)
  where
    by_flag : (p : ℕ) (t : Bool) (cell : ℕ) → cell ≡ cond t UNDEFINED (cell_at s.cells p) → cell < 256 → cell ≡ cell_at s.cells p
    by_flag p true cell is h = absurd (omega (arith, is, h))
    by_flag p false cell is h = is

    by_flush : (t : Bool) → Fades s.cells (if t then store_of_cells (cells (length s.cells) (λ i. if flag_at s.waiting i then UNDEFINED else cell_at s.cells i)) else store_of_cells s.cells).cells
    by_flush true = λ p h.
        by_flag p (flag_at s.waiting p) (cell_at (cells (length s.cells) (λ i. if flag_at s.waiting i then UNDEFINED else cell_at s.cells i)) p)
        (cell_at-defined (length s.cells) (λ i. if flag_at s.waiting i then UNDEFINED else cell_at s.cells i) p h).1 h
    by_flush false = λ p h. refl

-- Writes

module _ (laws : Laws) where
  pub data_agrees : (state : GroupModel) (thread place b : ℕ) (context : Context) (facts : BufferFacts) (target : BufferTarget) (size : ℤ) (usage : Usage) (payload : Option Payload) (seen : Object → ℕ → ℕ) → IsAccepted state thread (call.BufferData target size usage payload) context → IsBound state.group context target b facts → AgreeWith seen (wanted state) → AgreeWith (put_object seen (Buffer b) (cell_at (data_cells (unsigned_abs size) payload))) (wanted (effect state thread (call.BufferData target size usage payload) place))
  data_agrees state thread place b context facts target size usage payload seen accepted bound agree =
      let change : Store → Store = λ s. store_of_cells (data_cells (unsigned_abs size) payload) in
      put_agrees laws state thread (call.BufferData target size usage payload) place (images_of accepted) b change seen (cell_at (data_cells (unsigned_abs size) payload))
      (in_current accepted ∙ ap (λ o. change_store state o change) bound.bound) (λ p h. refl) agree

  pub sub_agrees : (state : GroupModel) (thread place b : ℕ) (context : Context) (facts : BufferFacts) (target : BufferTarget) (offset : ℤ) (payload : Payload) (seen : Object → ℕ → ℕ) → IsAccepted state thread (call.BufferSubData target offset payload) context → IsBound state.group context target b facts → AgreeWith seen (wanted state) → AgreeWith (put_object seen (Buffer b) (with_bytes (seen (Buffer b)) (unsigned_abs offset) (payload_bytes payload))) (wanted (effect state thread (call.BufferSubData target offset payload) place))
  sub_agrees state thread place b context facts target offset payload seen accepted bound agree =
      let change : Store → Store = λ s. record s { cells = overwritten s.cells (unsigned_abs offset) (payload_bytes payload) } in
      let range : (facts.map ≡ None) × (unsigned_abs offset + payload_len payload ≤ facts.size) =
      bound_has (λ b facts. (facts.map ≡ None) × (unsigned_abs offset + payload_len payload ≤ facts.size)) (sub_range state thread context target offset payload accepted) bound in
      let long : length (store_of state b).cells ≡ facts.size = (accepted.sizes.stores b facts bound.is).cells in
      put_agrees laws state thread (call.BufferSubData target offset payload) place (images_of accepted) b change seen (with_bytes (seen (Buffer b)) (unsigned_abs offset) (payload_bytes payload))
      (in_current accepted ∙ ap (λ o. change_store state o change) bound.bound)
      (Right-with_bytes (store_of state b).cells (unsigned_abs offset) (payload_bytes payload) (omega (arith, range.1, long, length-payload_bytes payload)) (seen (Buffer b)) (agree (Buffer b))) agree

  pub copy_agrees : (state : GroupModel) (thread place r w : ℕ) (context : Context) (source facts : BufferFacts) (from to : BufferTarget) (read write size : ℤ) (seen : Object → ℕ → ℕ) → IsAccepted state thread (call.CopyBufferSubData from to read write size) context → IsBound state.group context from r source → IsBound state.group context to w facts → AgreeWith seen (wanted state) → AgreeWith (put_object seen (Buffer w) (with_copy (seen (Buffer w)) (unsigned_abs write) (unsigned_abs size) (seen (Buffer r)) (unsigned_abs read))) (wanted (effect state thread (call.CopyBufferSubData from to read write size) place))
  copy_agrees state thread place r w context source facts from to read write size seen accepted bound other agree =
      let Target : ℕ → ℕ → BufferFacts → Type 0 = λ r w target. (target.map ≡ None) × (unsigned_abs write + unsigned_abs size ≤ target.size) × (r ≡ w → (unsigned_abs read + unsigned_abs size ≤ unsigned_abs write) ⊎ (unsigned_abs write + unsigned_abs size ≤ unsigned_abs read)) in
      let Source : ℕ → BufferFacts → Type 0 = λ r source. (source.map ≡ None) × (unsigned_abs read + unsigned_abs size ≤ source.size) × HasBound state.group context to (Target r) in
      let here : Source r source = bound_has Source (copy_range state thread context from to read write size accepted) bound in
      let there : Target r w facts = bound_has (Target r) here.2 other in
      let change : Store → Store = λ s. record s { cells = overwritten s.cells (unsigned_abs write) (part (store_of state r).cells (unsigned_abs read) (unsigned_abs size)) } in
      put_agrees laws state thread (call.CopyBufferSubData from to read write size) place (images_of accepted) w change seen (with_copy (seen (Buffer w)) (unsigned_abs write) (unsigned_abs size) (seen (Buffer r)) (unsigned_abs read))
      (in_current accepted
      ∙ ap (λ o. change_store state (buffer_binding context to) (λ s. record s { cells = overwritten s.cells (unsigned_abs write) (part (option_map_or (λ b. (store_of state b).cells) o []) (unsigned_abs read) (unsigned_abs size)) })) bound.bound
      ∙ ap (λ o. change_store state o change) other.bound)
      (Right-with_copy (store_of state w).cells (store_of state r).cells (unsigned_abs write) (unsigned_abs read) (unsigned_abs size) (seen (Buffer w)) (seen (Buffer r))
      (omega (arith, there.1, (accepted.sizes.stores w facts other.is).cells)) (omega (arith, here.1, (accepted.sizes.stores r source bound.is).cells)) (agree (Buffer w)) (agree (Buffer r))) agree

  pub map_write_agrees : (state : GroupModel) (thread place b : ℕ) (context : Context) (facts : BufferFacts) (mapped : Mapped) (target : BufferTarget) (offset : ℤ) (payload : Payload) (seen : Object → ℕ → ℕ) → IsAccepted state thread (call.MapWrite target offset payload) context → IsBound state.group context target b facts → facts.map ≡ Some mapped → AgreeWith seen (wanted state) → AgreeWith (put_object seen (Buffer b) (with_bytes (seen (Buffer b)) (mapped.at + unsigned_abs offset) (payload_bytes payload))) (wanted (effect state thread (call.MapWrite target offset payload) place))
  map_write_agrees state thread place b context facts mapped target offset payload seen accepted bound map agree =
      let range : HasMapRange facts (unsigned_abs offset) (payload_len payload) =
      bound_has (λ b facts. HasMapRange facts (unsigned_abs offset) (payload_len payload)) (write_range state thread context target offset payload accepted) bound in
      let both : Some range.mapped ≡ Some mapped = sym range.map ∙ map in
      let same : range.mapped ≡ mapped = cc in
      let at_is : range.mapped.at ≡ mapped.at = ap (λ m. m.at) same in
      let long : length (store_of state b).cells ≡ facts.size = (accepted.sizes.stores b facts bound.is).cells in
      let place_is : map_place (bound_buffer state.group context target) (unsigned_abs offset) ≡ mapped.at + unsigned_abs offset =
      ap (λ o. map_place (buffer_of state.group o) (unsigned_abs offset)) bound.bound ∙ ap (λ o. map_place o (unsigned_abs offset)) bound.is
      ∙ ap (λ o. option_map_or (λ m. m.at) o 0 + unsigned_abs offset) map in
      let change : ℕ → Store → Store = λ at s. written s at (payload_bytes payload) in
      put_agrees laws state thread (call.MapWrite target offset payload) place (images_of accepted) b (change (mapped.at + unsigned_abs offset)) seen (with_bytes (seen (Buffer b)) (mapped.at + unsigned_abs offset) (payload_bytes payload))
      (in_current accepted ∙ ap (λ at. change_store state (buffer_binding context target) (change at)) place_is ∙ ap (λ o. change_store state o (change (mapped.at + unsigned_abs offset))) bound.bound)
      (Right-with_bytes (store_of state b).cells (mapped.at + unsigned_abs offset) (payload_bytes payload)
      (omega (arith, range.in_map, range.in_buffer, at_is, long, length-payload_bytes payload)) (seen (Buffer b)) (agree (Buffer b))) agree

  -- Cells that become undefined at most

  pub map_agrees : (state : GroupModel) (thread place : ℕ) (context : Context) (target : BufferTarget) (offset len : ℤ) (access : AccessWord) (seen : Object → ℕ → ℕ) → IsAccepted state thread (call.MapBufferRange target offset len access) context → AgreeWith seen (wanted state) → AgreeWith seen (wanted (effect state thread (call.MapBufferRange target offset len access) place))
  map_agrees state thread place context target offset len access seen accepted agree =
      fade_agrees laws state thread (call.MapBufferRange target offset len access) place (images_of accepted) (buffer_binding context target)
      (λ s. store_of_cells (map_cells s.cells (unsigned_abs offset) (unsigned_abs len) access)) seen (in_current accepted)
      (λ b is. fades-map_cells (store_of state b).cells (unsigned_abs offset) (unsigned_abs len) access (inside b is)) agree
    where
      inside : (b : ℕ) → buffer_binding context target ≡ Some b → unsigned_abs offset + unsigned_abs len ≤ length (store_of state b).cells
      inside b is =
          let has = map_range_of state thread context target offset len access accepted in
          let one : Some has.b ≡ Some b = sym has.is_bound.bound ∙ is in
          let number : has.b ≡ b = cc in
          let long : length (store_of state has.b).cells ≡ has.facts.size = (accepted.sizes.stores has.b has.facts has.is_bound.is).cells in
          subst (λ (k : ℕ). unsigned_abs offset + unsigned_abs len ≤ length (store_of state k).cells) number (omega (arith, long, has.holds.2))

  pub flush_agrees : (state : GroupModel) (thread place : ℕ) (context : Context) (target : BufferTarget) (offset len : ℤ) (seen : Object → ℕ → ℕ) → IsAccepted state thread (call.FlushMappedBufferRange target offset len) context → AgreeWith seen (wanted state) → AgreeWith seen (wanted (effect state thread (call.FlushMappedBufferRange target offset len) place))
  flush_agrees state thread place context target offset len seen accepted agree =
      fade_agrees laws state thread (call.FlushMappedBufferRange target offset len) place (images_of accepted) (buffer_binding context target)
      (λ s. flushed s (map_place (bound_buffer state.group context target) (unsigned_abs offset)) (unsigned_abs len)) seen (in_current accepted) (λ b is p h. refl) agree

  pub unmap_agrees : (state : GroupModel) (thread place : ℕ) (context : Context) (target : BufferTarget) (seen : Object → ℕ → ℕ) → IsAccepted state thread (call.UnmapBuffer target) context → AgreeWith seen (wanted state) → AgreeWith seen (wanted (effect state thread (call.UnmapBuffer target) place))
  unmap_agrees state thread place context target seen accepted agree =
      fade_agrees laws state thread (call.UnmapBuffer target) place (images_of accepted) (buffer_binding context target)
      (λ s. closed s (option_and_then (λ f. f.map) (bound_buffer state.group context target))) seen (in_current accepted)
      (λ b is. fades-closed (store_of state b) (option_and_then (λ f. f.map) (bound_buffer state.group context target))) agree

  pub delete_agrees : (state : GroupModel) (thread place name : ℕ) (context : Context) (seen : Object → ℕ → ℕ) → IsAccepted state thread (call.Delete kinds.Buffer name) context → AgreeWith seen (wanted state) → AgreeWith seen (wanted (effect state thread (call.Delete kinds.Buffer name) place))
  delete_agrees state thread place name context seen accepted agree =
      let b = object_of state.group.buffer_names name in
      fade_agrees laws state thread (call.Delete kinds.Buffer name) place (images_of accepted) b
      (λ s. closed s (option_and_then (λ f. f.map) (buffer_of state.group b))) seen (in_current accepted)
      (λ c is. fades-closed (store_of state c) (option_and_then (λ f. f.map) (buffer_of state.group b))) agree

-- Calls that are refused, and answers of waits

pub refused_agrees : (state : GroupModel) (thread : ℕ) (answer : Reply) (seen : Object → ℕ → ℕ) → AgreeWith seen (wanted state) → AgreeWith seen (wanted (refused state thread answer))
refused_agrees state thread answer seen agree (Buffer b) = agree (Buffer b)
refused_agrees state thread answer seen agree (Texture t) = agree (Texture t)
refused_agrees state thread answer seen agree (Renderbuffer r) = agree (Renderbuffer r)

-- a state whose contents are those of another
same_contents : (one two : GroupModel) (seen : Object → ℕ → ℕ) → one.stores ≡ two.stores → one.texture_cells ≡ two.texture_cells → one.renderbuffer_cells ≡ two.renderbuffer_cells → AgreeWith seen (wanted two) → AgreeWith seen (wanted one)
same_contents one two seen stores textures renderbuffers agree (Buffer b) = subst (λ s. Right (seen (Buffer b)) (unwrap_or (entry b s) empty_store).cells) (sym stores) (agree (Buffer b))
same_contents one two seen stores textures renderbuffers agree (Texture t) = subst (λ s. Right (seen (Texture t)) (unwrap_or (entry t s) [])) (sym textures) (agree (Texture t))
same_contents one two seen stores textures renderbuffers agree (Renderbuffer r) = subst (λ s. Right (seen (Renderbuffer r)) (unwrap_or (entry r s) [])) (sym renderbuffers) (agree (Renderbuffer r))

signal_agrees : (fence : Option Fence) (t : Bool) (state : GroupModel) (seen : Object → ℕ → ℕ) → AgreeWith seen (wanted state) → AgreeWith seen (wanted (if t then signal_fence fence state else state))
signal_agrees None true state seen agree = agree
signal_agrees (Some f) true state seen agree = same_contents (signal_fence (Some f) state) state seen refl refl refl agree
signal_agrees fence false state seen agree = agree

pub told_agrees : (state : GroupModel) (asked : Call) (answer : Reply) (seen : Object → ℕ → ℕ) → AgreeWith seen (wanted state) → AgreeWith seen (wanted (told state asked answer))
told_agrees state (call.ClientWaitSync number flags timeout) answer seen agree = signal_agrees (entry number state.fences) (says_signalled answer) state seen agree
told_agrees state (call.EglClientWaitSync number flush timeout) answer seen agree = signal_agrees (entry number state.egl_fences) (says_signalled answer) state seen agree
told_agrees state _ answer seen agree = agree
