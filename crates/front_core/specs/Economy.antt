-- What a call may do at the back: how many bytes the host writes, whether it may wait, and which batches it may hand over.
use Rattle.std.specs.Prelude.{◌≡◌, ◌≢◌, ℕ, ◌+◌, ◌≤◌, ◌==◌, ◌⊎◌, Bool, true, false, not, unsigned_abs, List, [], ◌∷◌, Option, Some, None, Contains}
use Rattle.std.specs.Option.{option_map, option_map_or}
use Rattle.formats.specs.Texel.{bytes_per_texel}
use Rattle.formats.specs.Rows.{needed_length}
use Rattle.gl_calls.specs.declared.call.Call.{Call}
use Rattle.gl_calls.specs.declared.call.Call.TheVariants as call
use Rattle.gl_calls.specs.declared.call.PixelSource.TheVariants as source
use Rattle.gl_calls.specs.declared.payload.Payload.{Payload}
use Rattle.gl_calls.specs.declared.reply.Entry.{Entry}
use Rattle.gl_calls.specs.declared.words.BufferTarget.{BufferTarget}
use Rattle.gl_calls.specs.Words.{payload_len}
use Rattle.tables.specs.Table.{Entries}
use Rattle.vk_types.specs.declared.batches.Batch.{Batch}
use Rattle.vk_types.specs.declared.batches.QueueSerial.{QueueSerial}
use Rattle.vk_types.specs.declared.batches.Reason.{Reason}
use Rattle.vk_types.specs.declared.batches.Reason.TheVariants as reason
use Rattle.gl_model.specs.declared.state.Context.{Context}
use Rattle.gl_model.specs.declared.state.GroupState.{GroupState}
use Rattle.gl_model.specs.GroupState.{opening_group}
use Rattle.gl_model.specs.Bindings.{current_context, buffer_binding, image_of}
use Rattle.gl_model.specs.Reached.{group_after}
use Rattle.gl_model.specs.Refusal.{refusal}
use Rattle.front_model.specs.declared.object.Object.{Object}
use Rattle.front_model.specs.declared.object.Object.TheVariants.{Buffer}
use Rattle.front_model.specs.Face.{Face}
use Rattle.sync_serials.specs.declared.serials.SyncName.{SyncName}
use Rattle.sync_serials.specs.declared.serials.SyncName.TheVariants.{Gl, Egl}
use Rattle.sync_serials.specs.Serials.{SyncTables, serial_at, newest_of}
use Rattle.front_moves.specs.Reasons.{IsCross, IsFull}
use Rattle.front_core.specs.Share.{current_index, replaced_index, replaced_by}

-- the length of data, or of none
abbrev pub data_len : Option Payload → ℕ
data_len None = 0
data_len (Some payload) = payload_len payload

-- the bytes that an upload of a rectangle into the bound texture needs of its data
abbrev pub needed_bytes : GroupState → Context → ℕ → ℕ → ℕ
needed_bytes group context width height =
    option_map_or (λ image. needed_length context.unpack (bytes_per_texel image.format) width height) (image_of group.textures context.texture) 0

-- the bytes that are due for an accepted call: those of its data, and of an upload of texels those that it needs
abbrev pub upload_due : GroupState → ℕ → Call → ℕ
upload_due group thread (call.BufferData target size usage payload) = data_len payload
upload_due group thread (call.BufferSubData target offset payload) = payload_len payload
upload_due group thread (call.MapWrite target offset payload) = payload_len payload
upload_due group thread (call.TexSubImage x y width height pixels kind (source.Client payload)) =
    option_map_or (λ context. needed_bytes group context (unsigned_abs width) (unsigned_abs height)) (current_context group thread) 0
upload_due group thread _ = 0

-- the bytes that are due for a call: none where it is refused
abbrev pub due_of : GroupState → ℕ → Call → ℕ
due_of group thread asked = option_map_or (λ answer. 0) (refusal group thread asked) (upload_due group thread asked)

-- the calls that may wait for the device where they are accepted
abbrev pub may_wait : Call → Bool
may_wait (call.MapBufferRange target offset len access) = true
may_wait (call.EglClientWaitSync number flush timeout) = not (timeout == 0)
may_wait (call.ClientWaitSync number flags timeout) = not (timeout == 0)
may_wait call.Finish = true
may_wait _ = false

abbrev pub waits_of : GroupState → ℕ → Call → Bool
waits_of group thread asked = option_map_or (λ answer. false) (refusal group thread asked) (may_wait asked)

-- the targets whose buffers a call copies from or to on the device, or maps, each with whether it reads the buffer alone
abbrev pub used_targets : Call → List (BufferTarget × Bool)
used_targets (call.BufferSubData target offset payload) = (target, false) ∷ []
used_targets (call.CopyBufferSubData from to read write size) = (from, true) ∷ (to, false) ∷ []
used_targets (call.MapBufferRange target offset len access) = (target, false) ∷ []
used_targets _ = []

-- the call copies from or to this object, or maps it; where it is said to read alone, it copies from it
pub record IsUsedBy (group : GroupState) (thread : ℕ) (asked : Call) (used : Object × Bool) : Type 0 where
  pub context : Context
  pub target : BufferTarget
  pub current : current_context group thread ≡ Some context
  pub listed : Contains (used_targets asked) (target, used.1)
  pub bound : option_map Buffer (buffer_binding context target) ≡ Some used.0

abbrev pub maps_a_buffer : Call → Bool
maps_a_buffer (call.MapBufferRange target offset len access) = true
maps_a_buffer _ = false

-- a batch without nodes has a number up to that of the newest sync of its index, which waits for one
abbrev pub IsNeeded : SyncTables → Batch → Type 0
IsNeeded tables batch = batch.nodes ≡ [] → batch.number ≤ newest_of tables batch.index

-- a batch that may be handed over, and is needed
pub record IsNeededAnd (tables : SyncTables) (MayHand : Batch → Type 0) (batch : Batch) : Type 0 where
  pub is : MayHand batch
  pub needed : IsNeeded tables batch

-- what the context that is replaced had pending
pub record IsSwitch (group : GroupState) (serials : Entries ℕ) (thread number : ℕ) (batch : Batch) : Type 0 where
  pub replaced : replaced_index group serials thread number ≡ Some batch.index
  pub for_reason : batch.reason ≡ reason.Switch

-- The reason of a batch is true of the call that handed it over: the call replaces the batch's context; it maps a buffer in the
-- batch's context, where something is pending; it uses a buffer in conflict with the batch of another context; or the batch is as
-- long as one may get.
pub data IsTrueReason (f : Face) (group : GroupState) (serials : Entries ℕ) (thread : ℕ) (asked : Call) (batch : Batch) : Type 0 where
  switch : replaced_by group serials thread asked ≡ Some batch.index → batch.reason ≡ reason.Switch → IsTrueReason f group serials thread asked batch
  read : maps_a_buffer asked ≡ true → current_index group serials thread ≡ Some batch.index → batch.reason ≡ reason.Read →
      batch.nodes ≢ [] → IsTrueReason f group serials thread asked batch
  cross : (index : ℕ) (o : Object) (reads : Bool) → current_index group serials thread ≡ Some index → IsUsedBy group thread asked (o, reads) →
      IsCross f index o reads batch → IsTrueReason f group serials thread asked batch
  full : IsFull batch → IsTrueReason f group serials thread asked batch

-- the context that is current on a thread hands over for a reason
pub record IsOfCurrent (group : GroupState) (serials : Entries ℕ) (thread : ℕ) (why : Reason) (batch : Batch) : Type 0 where
  pub current : current_index group serials thread ≡ Some batch.index
  pub for_reason : batch.reason ≡ why

-- the context that made a sync hands over the batch that the sync stands at the end of
pub record IsForSync (serial : QueueSerial) (batch : Batch) : Type 0 where
  pub of_index : batch.index ≡ serial.index
  pub number : batch.number ≡ serial.number
  pub for_reason : batch.reason ≡ reason.Sync

-- what a wait hands over for its own context, where it is to flush it
pub record IsOwnFlush (group : GroupState) (serials : Entries ℕ) (thread : ℕ) (flush : Bool) (batch : Batch) : Type 0 where
  pub asked : flush ≡ true
  pub own : IsOfCurrent group serials thread reason.Flush batch

-- what a wait with a positive timeout hands over for its sync
pub record IsWaitedFor (serial : QueueSerial) (timeout : ℕ) (batch : Batch) : Type 0 where
  pub positive : (timeout == 0) ≡ false
  pub for_sync : IsForSync serial batch

-- what a wait hands over
abbrev pub IsForWait : GroupState → Entries ℕ → ℕ → QueueSerial → Bool → ℕ → Batch → Type 0
IsForWait group serials thread serial flush timeout batch = IsOwnFlush group serials thread flush batch ⊎ IsWaitedFor serial timeout batch

-- what a wait for a sync of this name hands over
abbrev pub IsForPoll : GroupState → Entries ℕ → SyncTables → ℕ → SyncName → Bool → ℕ → Batch → Type 0
IsForPoll group serials tables thread x flush timeout batch =
    IsOwnFlush group serials thread flush batch ⊎ ((serial : QueueSerial) × (serial_at tables x ≡ Some serial) × IsWaitedFor serial timeout batch)

-- the calls that flush the context that makes them: glFlush, and a wait that asks for it
abbrev pub flushes_own : Call → Bool
flushes_own call.Flush = true
flushes_own (call.ClientWaitSync number flags timeout) = flags == 1
flushes_own (call.EglClientWaitSync number flush timeout) = flush
flushes_own _ = false

-- the calls that flush the context of a sync: WaitSync, and a wait that may wait
abbrev pub waits_for : Call → SyncName → Type 0
waits_for (call.WaitSync number flags end) x = x ≡ Gl number
waits_for (call.ClientWaitSync number flags timeout) x = (x ≡ Gl number) × ((timeout == 0) ≡ false)
waits_for (call.EglClientWaitSync number flush timeout) x = (x ≡ Egl number) × ((timeout == 0) ≡ false)
waits_for _ x = ⊥

-- The reason of a batch is true of the call on syncs that handed it over: the call flushes or finishes the batch's context, or it
-- waits for a sync that the batch's context made.
pub data IsSyncReason (group : GroupState) (serials : Entries ℕ) (tables : SyncTables) (thread : ℕ) (asked : Call) (batch : Batch) : Type 0 where
  flush : flushes_own asked ≡ true → IsOfCurrent group serials thread reason.Flush batch → IsSyncReason group serials tables thread asked batch
  finish : asked ≡ call.Finish → IsOfCurrent group serials thread reason.Finish batch → IsSyncReason group serials tables thread asked batch
  sync : (x : SyncName) (serial : QueueSerial) → waits_for asked x → serial_at tables x ≡ Some serial → IsForSync serial batch →
      IsSyncReason group serials tables thread asked batch

-- the reason of a batch is true of the call that handed it over
abbrev pub HasTrueReason : Face → GroupState → Entries ℕ → SyncTables → ℕ → Call → Batch → Type 0
HasTrueReason f group serials tables thread asked batch =
    IsTrueReason f group serials thread asked batch ⊎ IsSyncReason group serials tables thread asked batch

-- what an accepted call may hand over: batches whose reason is true of it and which are needed, by the syncs from before the call
pub record MayHandOver (f : Face) (group : GroupState) (serials : Entries ℕ) (tables : SyncTables) (thread : ℕ) (asked : Call) (batch : Batch) : Type 0 where
  pub accepted : refusal group thread asked ≡ None
  pub true_reason : HasTrueReason f group serials tables thread asked batch
  pub needed : IsNeeded tables batch

-- what the closing of a front may hand over
pub record IsEndingBatch (tables : SyncTables) (batch : Batch) : Type 0 where
  pub for_reason : batch.reason ≡ reason.End
  pub needed : IsNeeded tables batch

-- the bytes that are due over some entries from a state on, each call in the state before it
abbrev pub due_from : GroupState → List Entry → ℕ
due_from group [] = 0
due_from group (e ∷ rest) = due_of group e.thread e.call + due_from (group_after group e) rest

-- the bytes that are due over a history of the declared threads
abbrev pub due_over : List ℕ → List Entry → ℕ
due_over threads history = due_from (opening_group threads) history
