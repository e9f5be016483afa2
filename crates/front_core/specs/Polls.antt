-- What a call on syncs learns, and what is handed over and retired after it.
use Rattle.std.specs.Prelude.{◌≡◌, ℕ, ◌==◌, ◌<◌, ◌≤◌, ◌+◌, nat_le, Bool, true, false, IfSome, [], Option, Some, None, if◌then◌else◌}
use Rattle.gl_calls.specs.declared.call.Call.{Call}
use Rattle.gl_calls.specs.declared.call.Call.TheVariants as call
use Rattle.gl_calls.specs.declared.reply.Reply.{Reply}
use Rattle.gl_calls.specs.declared.reply.Reply.TheVariants as reply
use Rattle.gl_calls.specs.declared.reply.Waited.{Waited}
use Rattle.gl_calls.specs.declared.reply.Waited.TheVariants.{AlreadySignaled, TimeoutExpired, ConditionSatisfied}
use Rattle.tables.specs.Table.{Entries}
use Rattle.vk_types.specs.declared.batches.QueueSerial.{QueueSerial}
use Rattle.gl_model.specs.declared.state.GroupState.{GroupState}
use Rattle.back_core.specs.Answers.{IsNow}
use Rattle.back_core.specs.Needs.{IsOfGroup}
use Rattle.back_core.specs.Link.{Asked, Link}
use Rattle.front_model.specs.Face.{Face}
use Rattle.sync_serials.specs.declared.serials.SyncName.{SyncName}
use Rattle.sync_serials.specs.declared.serials.SyncName.TheVariants.{Gl, Egl}
use Rattle.sync_serials.specs.Serials.{SyncTables, serial_at, newest_of}
use Rattle.front_core.specs.Share.{current_index, replaced_index}

-- what a wait answers where its sync is signalled at its start, and where it is not (OpenGL ES 3.0.6, Waiting for Sync Objects; EGL
-- 1.5, Synchronization Primitives)
abbrev pub answer_by : Call → (signalled : Bool) → Waited
answer_by (call.ClientWaitSync name flags timeout) signalled =
    if signalled then AlreadySignaled else if timeout == 0 then TimeoutExpired else ConditionSatisfied
answer_by (call.EglClientWaitSync name flush timeout) signalled =
    if signalled then ConditionSatisfied else if timeout == 0 then TimeoutExpired else ConditionSatisfied
answer_by _ signalled = AlreadySignaled

abbrev pub timeout_of : Call → ℕ
timeout_of (call.ClientWaitSync name flags timeout) = timeout
timeout_of (call.EglClientWaitSync name flush timeout) = timeout
timeout_of _ = 0

-- the number of loads rose, where it is told
abbrev pub AskedAnew : Option Asked → Option Asked → Type 0
AskedAnew None new = new ≡ None
AskedAnew (Some old) None = ⊥
AskedAnew (Some old) (Some new) = old.loads < new.loads

-- the last load was of this index, where that is told
abbrev pub IsLastLoad : Option Asked → ℕ → Type 0
IsLastLoad None index = Unit {0}
IsLastLoad (Some asked) index = asked.index ≡ Some index

-- A sync's index was asked once how far it is, at the start: the number was completed then, and the group knows of no lower one.
-- Where the call did not wait, the group knows that number from then on, and nothing was asked since.
pub record HasPolled (tables : SyncTables) (old new : Link) (x : SyncName) (timeout : ℕ) : Type 0 where
  pub serial : QueueSerial
  pub is : serial_at tables x ≡ Some serial
  pub completed : ℕ
  pub told : IsNow old.now serial.index completed
  pub rises : old.done serial.index ≤ completed
  pub loaded : AskedAnew old.asked new.asked
  pub at_once : (completed < serial.number → timeout ≡ 0) → (new.done serial.index ≡ completed) × IsLastLoad new.asked serial.index

-- a sync was polled: it is signalled where its number was completed, and each signalled one is known to be retired, as is one that
-- was waited for
pub record IsPoll (tables : SyncTables) (old new : Link) (x : SyncName) (timeout : ℕ) (signalled : Bool) : Type 0 where
  pub polled : HasPolled tables old new x timeout
  pub is_signalled : signalled ≡ nat_le polled.serial.number polled.completed
  pub retired : (signalled ≡ false → timeout ≡ 0 → ⊥) → polled.serial.number ≤ new.done polled.serial.index

-- a sync that was made: its index is one of the group, and its number one that the index gave or gives next, up to the newest
pub record IsMade (f : Face) (tables : SyncTables) (serial : QueueSerial) : Type 0 where
  pub of_group : IsOfGroup f.group serial.index
  pub some : 1 ≤ serial.number
  pub number : serial.number ≤ f.last serial.index + 1
  pub low : serial.number ≤ newest_of tables serial.index

-- a wait for a sync was answered by the number that its index had completed
pub record IsPolled (tables : SyncTables) (old new : Link) (asked : Call) (x : SyncName) (answer : Reply) : Type 0 where
  pub polled : HasPolled tables old new x (timeout_of asked)
  pub answers : answer ≡ reply.Waited (answer_by asked (nat_le polled.serial.number polled.completed))

-- each wait is answered so, and no other call
abbrev pub Polls : SyncTables → Link → Link → Call → Reply → Type 0
Polls tables old new (call.ClientWaitSync name flags timeout) answer = IsPolled tables old new (call.ClientWaitSync name flags timeout) (Gl name) answer
Polls tables old new (call.EglClientWaitSync name flush timeout) answer = IsPolled tables old new (call.EglClientWaitSync name flush timeout) (Egl name) answer
Polls tables old new _ answer = Unit {0}

-- an index is flushed: nothing that was recorded in it is pending, and each sync that was made on it has its batch
pub record HasFlushedAll (f : Face) (tables : SyncTables) (index : ℕ) : Type 0 where
  pub pending : f.pending index ≡ []
  pub batched : newest_of tables index ≤ f.last index

-- an index that was flushed stays so
abbrev pub FlushedStay : Face → Face → Type 0
FlushedStay f g = (tables : SyncTables) (index : ℕ) → HasFlushedAll f tables index → HasFlushedAll g tables index

-- all that an index handed over is known to be retired
pub record HasFinished (f : Face) (t : Link) (tables : SyncTables) (index : ℕ) : Type 0 where
  pub flushed : HasFlushedAll f tables index
  pub retired : f.last index ≤ t.done index

-- A wait that timed out and was to flush has flushed the context that is current, if there is one; after one that ended well the
-- sync's batch is known to be retired.
pub record FlushesInWait (current : Option ℕ) (tables : SyncTables) (f : Face) (t : Link) (x : SyncName) (flush : Bool) (answer : Reply) : Type 0 where
  pub timed_out : answer ≡ reply.Waited TimeoutExpired → flush ≡ true → IfSome current (HasFlushedAll f tables)
  pub satisfied : answer ≡ reply.Waited ConditionSatisfied → IfSome (serial_at tables x) (λ serial. serial.number ≤ t.done serial.index)

-- what is flushed and retired after an accepted call, in the front and its link after it
abbrev pub Flushes : GroupState → Entries ℕ → SyncTables → ℕ → Call → Face → Link → Reply → Type 0
Flushes group serials tables thread (call.MakeCurrent number) f t answer = IfSome (replaced_index group serials thread number) (HasFlushedAll f tables)
Flushes group serials tables thread call.Flush f t answer = IfSome (current_index group serials thread) (HasFlushedAll f tables)
Flushes group serials tables thread call.Finish f t answer = IfSome (current_index group serials thread) (HasFinished f t tables)
Flushes group serials tables thread (call.WaitSync name flags end) f t answer = IfSome (serial_at tables (Gl name)) (λ serial. serial.number ≤ f.last serial.index)
Flushes group serials tables thread (call.ClientWaitSync name flags timeout) f t answer =
    FlushesInWait (current_index group serials thread) tables f t (Gl name) (flags == 1) answer
Flushes group serials tables thread (call.EglClientWaitSync name flush timeout) f t answer =
    FlushesInWait (current_index group serials thread) tables f t (Egl name) flush answer
Flushes group serials tables thread _ f t answer = Unit {0}
