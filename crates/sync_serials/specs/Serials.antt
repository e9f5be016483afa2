-- The serials of a share group's syncs, and when they stand beside its state.
use Rattle.std.specs.Prelude.{◌≡◌, ℕ, ◌+◌, ◌-◌, ◌*◌, ◌<◌, ◌≤◌, ◌==◌, nat_le, Bool, true, false, Option, Some, if◌then◌else◌, List, [], length, slice_set, slice_index_or, replicate}
use Rattle.std.specs.Option.{option_and_then}
use Rattle.std.specs.Map.{keys_of}
use Rattle.cells.specs.Contents.{in_range}
use Rattle.gl_calls.specs.declared.call.Call.{Call}
use Rattle.gl_calls.specs.declared.call.Call.TheVariants as call
use Rattle.gl_calls.specs.declared.reply.Waited.{Waited}
use Rattle.gl_calls.specs.declared.reply.Waited.TheVariants.{AlreadySignaled, TimeoutExpired, ConditionSatisfied}
use Rattle.tables.specs.Table.{Entries, entry, with_entry, without, IsOrdered}
use Rattle.vk_types.specs.declared.batches.QueueSerial.{QueueSerial}
use Rattle.gl_model.specs.declared.state.GroupState.{GroupState}
use Rattle.gl_model.specs.Bindings.{current_entry}
use Rattle.gl_model.specs.GroupModel.{GroupModel, Fence}
use Rattle.gl_model.specs.Syncs.{HasSyncs}
use Rattle.back_core.specs.Link.{Link}
use Rattle.back_core.specs.Needs.{IsOfGroup}
use Rattle.front_model.specs.Face.{Face}
use Rattle.sync_serials.specs.declared.serials.SyncName.{SyncName}
use Rattle.sync_serials.specs.declared.serials.SyncName.TheVariants.{Gl, Egl}

-- the serials of syncs of OpenGL ES and of EGL by their numbers, and for each index of the group the number of the sync that was
-- made on it last, or 0
pub record SyncTables : Type 0 where
  pub group : ℕ
  pub fences : Entries QueueSerial
  pub egl_fences : Entries QueueSerial
  pub newest : List ℕ

-- no sync
abbrev pub no_syncs : ℕ → SyncTables
no_syncs group = record { group = group; fences = []; egl_fences = []; newest = replicate 8 0 }

-- the serial of a sync
abbrev pub serial_at : SyncTables → SyncName → Option QueueSerial
serial_at tables (Gl number) = entry number tables.fences
serial_at tables (Egl number) = entry number tables.egl_fences

-- the number of the sync that was made last on an index of the group, or 0
abbrev pub newest_of : SyncTables → ℕ → ℕ
newest_of tables i = if in_range (8 * tables.group) 8 i then slice_index_or tables.newest (i - 8 * tables.group) 0 else 0

-- a sync was made
abbrev pub with_sync : SyncTables → SyncName → QueueSerial → SyncTables
with_sync tables (Gl number) serial =
    record tables {
      fences = with_entry number serial tables.fences;
      newest = slice_set tables.newest (serial.index - 8 * tables.group) serial.number;
    }
with_sync tables (Egl number) serial =
    record tables {
      egl_fences = with_entry number serial tables.egl_fences;
      newest = slice_set tables.newest (serial.index - 8 * tables.group) serial.number;
    }

-- a sync was deleted
abbrev pub without_sync : SyncTables → SyncName → SyncTables
without_sync tables (Gl number) = record tables { fences = without number tables.fences }
without_sync tables (Egl number) = record tables { egl_fences = without number tables.egl_fences }

-- what a state knows of a sync
abbrev pub fence_at : GroupModel → SyncName → Option Fence
fence_at state (Gl number) = entry number state.fences
fence_at state (Egl number) = entry number state.egl_fences

-- the index of the context that is current on a thread, where contexts have these indexes
abbrev pub index_on : GroupState → Entries ℕ → ℕ → Option ℕ
index_on group ids thread = option_and_then (λ e. entry e.0 ids) (current_entry group thread)

-- What holds of a sync: its serial has an index of the group and a number that the index gave or gives next; that number is known
-- to be completed where the state knows the sync to be signalled; the context that made it has that index as long as there is one.
pub record SyncStands (f : Face) (s : Link) (ids : Entries ℕ) (tables : SyncTables) (state : GroupModel) (place : ℕ)
    (serial : QueueSerial) (fence : Fence) : Type 0 where
  pub of_group : IsOfGroup f.group serial.index
  pub some : 1 ≤ serial.number
  pub low : serial.number ≤ newest_of tables serial.index
  pub signalled : fence.signalled ≡ true → serial.number ≤ s.done serial.index
  pub context : (n : ℕ) → entry n state.births ≡ Some fence.context → entry n ids ≡ Some serial.index
  pub earlier : fence.context < place

-- Serials of syncs stand beside a state: the syncs of the state and no others have one; those of one context have one index, and do
-- not fall from one sync to a later one; on each of the eight indexes the newest is at most the number of the batch that comes next;
-- and no two contexts have one birth.
pub record SyncsStand (f : Face) (s : Link) (ids : Entries ℕ) (tables : SyncTables) (state : GroupModel) (place : ℕ) : Type 0 where
  pub known : HasSyncs state place
  pub group : tables.group ≡ f.group
  pub eight : length tables.newest ≡ 8
  pub fences : keys_of tables.fences ≡ keys_of state.fences
  pub egl_fences : keys_of tables.egl_fences ≡ keys_of state.egl_fences
  pub ordered : IsOrdered tables.fences
  pub egl_ordered : IsOrdered tables.egl_fences
  pub stands : (x : SyncName) (serial : QueueSerial) (fence : Fence) → serial_at tables x ≡ Some serial → fence_at state x ≡ Some fence →
      SyncStands f s ids tables state place serial fence
  pub order : (x y : SyncName) (serial later : QueueSerial) (fence other : Fence) →
      serial_at tables x ≡ Some serial → serial_at tables y ≡ Some later →
      fence_at state x ≡ Some fence → fence_at state y ≡ Some other → fence.context ≡ other.context →
      (serial.index ≡ later.index) × (fence.place ≤ other.place → serial.number ≤ later.number)
  pub newest : (i : ℕ) → IsOfGroup f.group i → newest_of tables i ≤ f.last i + 1
  pub births : (n m birth : ℕ) → entry n state.births ≡ Some birth → entry m state.births ≡ Some birth → n ≡ m

-- a front and its link went on: no number of a batch fell, and no completed one
pub record HasGoneOn (f g : Face) (s t : Link) : Type 0 where
  pub group : g.group ≡ f.group
  pub last : (i : ℕ) → f.last i ≤ g.last i
  pub done : (i : ℕ) → s.done i ≤ t.done i

-- the calls that make a sync of this name
abbrev pub makes : Call → SyncName → Type 0
makes (call.FenceSync number condition flags) x = x ≡ Gl number
makes (call.CreateSync number) x = x ≡ Egl number
makes _ x = ⊥

-- the calls that end a sync of this name
abbrev pub ends : Call → SyncName → Type 0
ends (call.DeleteSync number) x = x ≡ Gl number
ends (call.DestroySync number) x = x ≡ Egl number
ends _ x = ⊥

-- the calls that ask for a sync of this name, which may tell that it is signalled
abbrev pub asks : Call → SyncName → Type 0
asks (call.ClientWaitSync number flags timeout) x = x ≡ Gl number
asks (call.EglClientWaitSync number flush timeout) x = x ≡ Egl number
asks _ x = ⊥

abbrev pub is_wait : Call → Bool
is_wait (call.ClientWaitSync number flags timeout) = true
is_wait (call.EglClientWaitSync number flush timeout) = true
is_wait _ = false

-- the calls that take or end a context without creating one
abbrev pub leaves_contexts : Call → Bool
leaves_contexts (call.DestroyContext number) = true
leaves_contexts (call.MakeCurrent number) = true
leaves_contexts _ = false

-- what a wait for a number answers where a number is completed (OpenGL ES 3.0.6, Waiting for Sync Objects)
abbrev pub waited : (number completed timeout : ℕ) → Waited
waited number completed timeout =
    if nat_le number completed then AlreadySignaled else if timeout == 0 then TimeoutExpired else ConditionSatisfied

-- and what EGL's wait answers (EGL 1.5, Synchronization Primitives)
abbrev pub egl_waited : (number completed timeout : ℕ) → Waited
egl_waited number completed timeout =
    if nat_le number completed then ConditionSatisfied else if timeout == 0 then TimeoutExpired else ConditionSatisfied
