-- A front with its history, and what a call leaves of it.
use Rattle.std.specs.Prelude.{◌≡◌, ℕ, ◌+◌, ◌≤◌, Bool, true, false, List, [], ◌∷◌, ◌++◌, length, Contains}
use Rattle.gl_calls.specs.declared.call.Call.{Call}
use Rattle.gl_calls.specs.declared.reply.Reply.{Reply}
use Rattle.gl_calls.specs.declared.reply.Entry.{Entry}
use Rattle.tables.specs.Table.{Entries, has}
use Rattle.gl_model.specs.declared.state.GroupState.{GroupState}
use Rattle.gl_model.specs.GroupModel.{GroupModel}
use Rattle.gl_model.specs.Effect.{effect}
use Rattle.gl_model.specs.GroupEffect.{group_effect}
use Rattle.gl_model.specs.Legal.{Answers, Step, after_entry, IsLegal}
use Rattle.gl_model.specs.Reached.{reached, group_after}
use Rattle.gl_model.specs.Sizes.{HasItsData, HaveTheirData}
use Rattle.submit_queue.specs.Histories.{last_number}
use Rattle.back_core.specs.Own.{batches_of}
use Rattle.back_core.specs.Needs.{IsOfGroup}
use Rattle.back_core.specs.Link.{Link, IsNew}
use Rattle.front_model.specs.Face.{Face, view}
use Rattle.front_model.specs.Stands.{Owns}
use Rattle.front_model.specs.Wanted.{wanted, AgreeWith, Stands}
use Rattle.front_moves.specs.Core.{CoreParts, face}
use Rattle.front_moves.specs.Ending.{HasClosed}
use Rattle.sync_serials.specs.Serials.{SyncTables, SyncsStand, newest_of}
use Rattle.front_core.specs.Share.{Backs, IsStateOf, MayCall, HaveIndexes}

-- The call of one entry

-- a call of a declared thread in a state whose objects the front has, and whose syncs have their serials
pub record MayAnswer (f : Face) (s : Link) (group : GroupState) (serials : Entries ℕ) (tables : SyncTables) (thread : ℕ) (call : Call) : Type 0 where
  pub backs : Backs f s group
  pub declared : has thread group.threads ≡ true
  pub model : GroupModel
  pub is : IsStateOf model group
  pub its_data : HasItsData call
  pub place : ℕ
  pub syncs : SyncsStand f s serials tables model place

-- the same, where the call is accepted
pub record MayServe (f : Face) (s : Link) (group : GroupState) (serials : Entries ℕ) (tables : SyncTables) (thread : ℕ) (call : Call) : Type 0 where
  pub may : MayCall f s group thread call
  pub place : ℕ
  pub syncs : SyncsStand f s serials tables may.model place

abbrev pub entry_of : ℕ → ℕ → Call → Reply → Entry
entry_of thread line call reply = record { thread = thread; line = line; call = call; reply = reply }

-- the serials of syncs go on standing beside the state after the entry of a call
abbrev pub SyncsGoOn : Face → Face → Link → Link → GroupState → Entries ℕ → Entries ℕ → SyncTables → SyncTables → ℕ → Call → Reply → Type 0
SyncsGoOn f g s t group serials later tables now thread call reply = (state : GroupModel) (line place : ℕ) → IsStateOf state group →
    SyncsStand f s serials tables state place → SyncsStand g t later now (after_entry state (entry_of thread line call reply) place) (place + 1)

-- An accepted call was carried out in any state in which the serials of syncs stand: the objects are those of the state after it,
-- what is seen agrees with what they are to hold, the reply is one that OpenGL ES gives, and the serials go on standing.
pub record IsServed (f g : Face) (s t : Link) (group after : GroupState) (serials later : Entries ℕ) (tables now : SyncTables) (thread : ℕ) (call : Call) (reply : Reply) : Type 0 where
  pub backs : Backs g t after
  pub state : after ≡ group_effect group thread call
  pub agrees : (state : GroupModel) (place : ℕ) → IsStateOf state group → AgreeWith (view f s) (wanted state) →
      AgreeWith (view g t) (wanted (effect state thread call place))
  pub answers : (state : GroupModel) (place : ℕ) → IsStateOf state group → SyncsStand f s serials tables state place →
      AgreeWith (view f s) (wanted state) → Answers state thread call reply
  pub syncs : SyncsGoOn f g s t group serials later tables now thread call reply

-- A call was answered, by a refusal or as it was carried out: the objects are those of the state after its entry, what is seen
-- agrees with what they are to hold, the entry is a step of the state, and the serials of syncs go on standing.
pub record IsAnswered (f g : Face) (s t : Link) (group after : GroupState) (serials later : Entries ℕ) (tables now : SyncTables) (thread : ℕ) (call : Call) (reply : Reply) : Type 0 where
  pub backs : Backs g t after
  pub state : (line : ℕ) → after ≡ group_after group (entry_of thread line call reply)
  pub agrees : (state : GroupModel) (line place : ℕ) → IsStateOf state group → AgreeWith (view f s) (wanted state) →
      AgreeWith (view g t) (wanted (after_entry state (entry_of thread line call reply) place))
  pub step : (state : GroupModel) (line place : ℕ) → IsStateOf state group → SyncsStand f s serials tables state place →
      AgreeWith (view f s) (wanted state) → Step state (entry_of thread line call reply)
  pub syncs : SyncsGoOn f g s t group serials later tables now thread call reply

-- The front with its history

-- what contracts see of a front: the objects that it has on the device, the group's state without what they hold, the index of each
-- context, the serials of syncs, the declared threads, and the calls that were answered
pub record FrontModel : Type 0 where
  pub core : CoreParts
  pub state : GroupState
  pub serials : Entries ℕ
  pub syncs : SyncTables
  pub threads : List ℕ
  pub history : List Entry
  pub stopped : Bool
  pub closed : Bool

-- A front stands: it was neither stopped nor closed, its history is legal, and what it has is what the state after that history
-- is to have.
pub record FrontStands (f : FrontModel) (s : Link) : Type 0 where
  pub running : f.stopped ≡ false
  pub open_still : f.closed ≡ false
  pub legal : IsLegal f.threads f.history
  pub its_data : HaveTheirData f.history
  pub group_is : (reached f.threads f.history).group ≡ f.state
  pub stands : Stands (face f.core) s (reached f.threads f.history)
  pub indexes : HaveIndexes f.state.contexts f.serials (face f.core).group
  pub serials_stand : SyncsStand (face f.core) s f.serials f.syncs (reached f.threads f.history) (length f.history)
  pub declared : (thread : ℕ) → Contains f.threads thread → has thread f.state.threads ≡ true

-- a front of a group of declared threads with nothing in it, which stands on each new link of the group
pub record IsNewFront (f : FrontModel) (group : ℕ) (threads : List ℕ) : Type 0 where
  pub stands : (s : Link) → IsNew s group → FrontStands f s
  pub of_group : (face f.core).group ≡ group
  pub threads_are : f.threads ≡ threads
  pub empty : f.history ≡ []

-- a call was answered: the front stands, and its history has one entry more
pub record HasAnswered (old new : FrontModel) (t : Link) (thread line : ℕ) (call : Call) (reply : Reply) : Type 0 where
  pub stands : FrontStands new t
  pub history : new.history ≡ old.history ++ entry_of thread line call reply ∷ []
  pub threads : new.threads ≡ old.threads
  pub group : (face new.core).group ≡ (face old.core).group

-- a call ended early: the front is stopped with the history from before, and each handle that it has is held still
pub record HasStopped (old new : FrontModel) (t : Link) : Type 0 where
  pub stopped : new.stopped ≡ true
  pub history : new.history ≡ old.history
  pub threads : new.threads ≡ old.threads
  pub group : (face new.core).group ≡ (face old.core).group
  pub owns : Owns (face new.core).objects t

-- a front was closed: its group holds nothing, and each of its syncs has its batch
pub record IsClosed (old new : FrontModel) (t : Link) : Type 0 where
  pub closed : new.closed ≡ true
  pub history : new.history ≡ old.history
  pub threads : new.threads ≡ old.threads
  pub group : (face new.core).group ≡ (face old.core).group
  pub has_closed : HasClosed (face new.core) t
  pub batched : (i : ℕ) → IsOfGroup (face old.core).group i → newest_of old.syncs i ≤ last_number (batches_of t.mine) i
  pub owns : Owns (face new.core).objects t
