-- A share group's state and objects together, and what a call does to them.
use Rattle.std.specs.Prelude.{◌≡◌, ℕ, ◌*◌, ◌<◌, ◌≤◌, ◌==◌, Bool, true, false, if◌then◌else◌, Option, Some, None, List, [], ◌∷◌, ◌++◌}
use Rattle.std.specs.Option.{option_map, option_and_then}
use Rattle.gl_calls.specs.declared.call.Call.{Call}
use Rattle.gl_calls.specs.declared.call.Call.TheVariants as call
use Rattle.gl_calls.specs.declared.words.ObjectKind.TheVariants as kinds
use Rattle.gl_calls.specs.declared.words.BindTarget.TheVariants as targets
use Rattle.gl_calls.specs.declared.reply.Reply.{Reply}
use Rattle.gl_calls.specs.declared.reply.Reply.TheVariants as reply
use Rattle.tables.specs.Table.{Entries, entry, has, only, with_entry, any_value}
use Rattle.gl_model.specs.declared.state.Context.{Context}
use Rattle.gl_model.specs.declared.state.GroupState.{GroupState}
use Rattle.gl_model.specs.Bindings.{current_entry}
use Rattle.gl_model.specs.GroupEffect.{group_effect, swept}
use Rattle.gl_model.specs.GroupModel.{GroupModel}
use Rattle.gl_model.specs.Effect.{effect}
use Rattle.gl_model.specs.Legal.{Answers}
use Rattle.gl_model.specs.Refusal.{refusal}
use Rattle.gl_model.specs.Sizes.{HasSizes, HasImageSizes, HasItsData}
use Rattle.back_core.specs.Own.{Own, HostRead}
use Rattle.back_core.specs.Link.{Link}
use Rattle.back_core.specs.Needs.{IsOfGroup}
use Rattle.front_model.specs.declared.object.Object.{Object}
use Rattle.front_model.specs.declared.object.Object.TheVariants.{Buffer}
use Rattle.front_model.specs.Face.{Face, outline_at, view}
use Rattle.front_model.specs.Stands.{Holds, Moved, no_hands, IsQuiet}
use Rattle.front_model.specs.Wanted.{kind_wanted, wanted, AgreeWith, IsMapped, HasFreeNumbers}

-- The objects of a front are those of a state without contents: each has its store, and the host may use each mapped buffer.
pub record Backs (f : Face) (s : Link) (group : GroupState) : Type 0 where
  pub holds : Holds f no_hands s
  pub kinds : (o : Object) → option_map (λ v. v.kind) (outline_at f o) ≡ kind_wanted group o
  pub maps : (b : ℕ) → IsMapped group b → IsQuiet f s (Buffer b)

-- what is shown and quiet is as it was
abbrev pub Stays : Face → Face → Link → Link → Type 0
Stays f g s t = Moved g t (view f s) (outline_at f) (IsQuiet f s)

-- a state whose part without contents this is, as each reached state is
pub record IsStateOf (state : GroupModel) (group : GroupState) : Type 0 where
  pub group_is : state.group ≡ group
  pub sizes : HasSizes state
  pub images : HasImageSizes state
  pub free : HasFreeNumbers group
  pub referred : swept group ≡ group

-- A call was carried out: the objects are those of the state after it, what is seen agrees with what they are to hold, and the
-- reply is one that OpenGL ES gives.
pub record IsCarriedOut (f g : Face) (s t : Link) (group after : GroupState) (thread : ℕ) (call : Call) (reply : Reply) : Type 0 where
  pub backs : Backs g t after
  pub state : after ≡ group_effect group thread call
  pub agrees : (state : GroupModel) (place : ℕ) → IsStateOf state group → AgreeWith (view f s) (wanted state) →
      AgreeWith (view g t) (wanted (effect state thread call place))
  pub answers : (state : GroupModel) → IsStateOf state group → AgreeWith (view f s) (wanted state) → Answers state thread call reply

-- The state changed as a call says, and the objects and what is seen with it; what is answered is left open.
pub record IsChanged (f g : Face) (s t : Link) (group after : GroupState) (thread : ℕ) (call : Call) : Type 0 where
  pub backs : Backs g t after
  pub state : after ≡ group_effect group thread call
  pub agrees : (state : GroupModel) (place : ℕ) → IsStateOf state group → AgreeWith (view f s) (wanted state) →
      AgreeWith (view g t) (wanted (effect state thread call place))

-- each context has an index of the group, and no two have one
pub record HaveIndexes (contexts : Entries Context) (serials : Entries ℕ) (group : ℕ) : Type 0 where
  pub each : (n : ℕ) → has n serials ≡ has n contexts
  pub of_group : (n i : ℕ) → entry n serials ≡ Some i → IsOfGroup group i
  pub distinct : (n m i : ℕ) → entry n serials ≡ Some i → entry m serials ≡ Some i → n ≡ m

-- the lowest index of a group that no context has
pub record IsLowestFree (group : ℕ) (serials : Entries ℕ) (index : ℕ) : Type 0 where
  pub own : IsOfGroup group index
  pub free : any_value (λ j. j == index) serials ≡ false
  pub lowest : (k : ℕ) → 8 * group ≤ k → k < index → any_value (λ j. j == k) serials ≡ true

-- the index of the context that is current on a thread
abbrev pub current_index : GroupState → Entries ℕ → ℕ → Option ℕ
current_index group serials thread = option_and_then (λ e. entry e.0 serials) (current_entry group thread)

-- a call that was accepted in a state, whose objects the front has
pub record MayCall (f : Face) (s : Link) (group : GroupState) (thread : ℕ) (call : Call) : Type 0 where
  pub backs : Backs f s group
  pub declared : has thread group.threads ≡ true
  pub accepted : refusal group thread call ≡ None
  pub model : GroupModel
  pub is : IsStateOf model group
  pub its_data : HasItsData call

-- the context that a thread gives up as it takes the context of this number, or none
abbrev pub given_up : Option (ℕ × Context) → ℕ → Option ℕ
given_up None number = None
given_up (Some (n, context)) number = if n == number then None else Some n

-- the index of the context that is replaced as a thread takes the context of this number
abbrev pub replaced_index : GroupState → Entries ℕ → ℕ → ℕ → Option ℕ
replaced_index group serials thread number = option_and_then (λ n. entry n serials) (given_up (current_entry group thread) number)

-- the index of the context that an accepted call replaces, if it does
abbrev pub replaced_by : GroupState → Entries ℕ → ℕ → Call → Option ℕ
replaced_by group serials thread (call.MakeCurrent number) = replaced_index group serials thread number
replaced_by group serials thread _ = None

-- the group's list grew by one host read of these bytes; no bytes need none
abbrev pub Gains : List Own → List Own → List ℕ → Type 0
Gains old new [] = Unit {0}
Gains old new (b ∷ bytes) = (id : ℕ) × (at : ℕ) × (new ≡ old ++ HostRead id at (b ∷ bytes) ∷ [])

-- The indexes of contexts after a call on contexts: one that is created gets an index, and those of contexts that ended are dropped.
abbrev pub IsReindexed : Call → Entries ℕ → Entries ℕ → Entries Context → Type 0
IsReindexed (call.CreateContext number) old new contexts = (index : ℕ) × (new ≡ with_entry number index old)
IsReindexed (call.DestroyContext number) old new contexts = new ≡ only (λ n. has n contexts) old
IsReindexed (call.MakeCurrent number) old new contexts = new ≡ only (λ n. has n contexts) old
IsReindexed _ old new contexts = new ≡ old

-- the bytes of a reply are those of a host read that was made for it
abbrev pub HasOrigin : Link → Link → Reply → Type 0
HasOrigin s t (reply.Bytes bytes) = Gains s.mine t.mine bytes
HasOrigin s t _ = Unit {0}

abbrev pub is_map_read : Call → Bool
is_map_read (call.MapRead target offset len) = true
is_map_read _ = false

-- the calls that are built
abbrev pub is_built : Call → Bool
is_built (call.CreateContext number) = true
is_built (call.DestroyContext number) = true
is_built (call.MakeCurrent number) = true
is_built call.EglGetError = true
is_built call.GetError = true
is_built (call.GetInteger limit) = true
is_built (call.Gen kinds.Buffer count) = true
is_built (call.Delete kinds.Buffer name) = true
is_built (call.Bind (targets.Buffer target) name) = true
is_built (call.BufferData target size usage payload) = true
is_built (call.BufferSubData target offset payload) = true
is_built (call.CopyBufferSubData from to read write size) = true
is_built (call.MapBufferRange target offset len access) = true
is_built (call.FlushMappedBufferRange target offset len) = true
is_built (call.UnmapBuffer target) = true
is_built (call.MapRead target offset len) = true
is_built (call.MapWrite target offset payload) = true
is_built (call.PixelStore parameter value) = true
is_built (call.CreateSync number) = true
is_built (call.EglClientWaitSync number flush timeout) = true
is_built (call.DestroySync number) = true
is_built (call.FenceSync number condition flags) = true
is_built (call.ClientWaitSync number flags timeout) = true
is_built (call.WaitSync number flags end) = true
is_built (call.DeleteSync number) = true
is_built call.Flush = true
is_built call.Finish = true
is_built _ = false

-- the calls that write no cells: they change names, bindings, contexts, syncs, parameters and errors, or make cells undefined
abbrev pub is_of_state : Call → Bool
is_of_state (call.CreateContext number) = true
is_of_state (call.DestroyContext number) = true
is_of_state (call.MakeCurrent number) = true
is_of_state call.EglGetError = true
is_of_state call.GetError = true
is_of_state (call.GetInteger limit) = true
is_of_state (call.Gen kinds.Buffer count) = true
is_of_state (call.Delete kinds.Buffer name) = true
is_of_state (call.Bind (targets.Buffer target) name) = true
is_of_state (call.FlushMappedBufferRange target offset len) = true
is_of_state (call.UnmapBuffer target) = true
is_of_state (call.PixelStore parameter value) = true
is_of_state (call.CreateSync number) = true
is_of_state (call.DestroySync number) = true
is_of_state (call.FenceSync number condition flags) = true
is_of_state (call.WaitSync number flags end) = true
is_of_state (call.DeleteSync number) = true
is_of_state call.Flush = true
is_of_state call.Finish = true
is_of_state _ = false
