-- When a share group stands on what its seat's pass knows, and the history that its turnstile keeps.
use Rattle.std.specs.Prelude.{◌≡◌, ℕ, ◌+◌, ◌==◌, true, false, Bool, List, [], ◌∷◌, ◌++◌, map, Contains, if◌then◌else◌}
use Rattle.std.specs.Prelude.{Option, Some, None, Result, Err, IfOk, OnErr, is_err}
use Rattle.std.specs.List.{All, flat_map, list_any}
use mathlib.Core.List.{IsPrefix}
use Rattle.gl_calls.specs.declared.call.Call.{Call}
use Rattle.gl_calls.specs.declared.reply.Reply.{Reply}
use Rattle.gl_calls.specs.declared.reply.Entry.{Entry}
use Rattle.gl_model.specs.Legal.{IsLegal}
use Rattle.gl_model.specs.Refusal.{refusal}
use Rattle.vk_types.specs.declared.stops.Stop.{Stop}
use Rattle.vk_types.specs.declared.stops.Stop.TheVariants.{Lost}
use Rattle.turnstile.specs.Histories.{own}
use Rattle.turnstile.specs.Views.{PassModel}
use Rattle.back_core.specs.Link.{Link}
use Rattle.back_core.specs.declared.ending.Ending.TheVariants.{Stopped}
use Rattle.back_core.specs.Back.{ending_of, is_stopped}
use Rattle.back_core.specs.Frame.{AtBack}
use Rattle.front_model.specs.Stands.{Owns, BarriersAreLicensed}
use Rattle.front_moves.specs.Core.{face}
use Rattle.front_core.specs.Share.{HasOrigin, is_map_read}
use Rattle.front_core.specs.Polls.{Polls, Flushes}
use Rattle.front_core.specs.Economy.{MayHandOver, due_of, waits_of}
use Rattle.front_core.specs.Front.{FrontModel, FrontStands, HasAnswered, HasStopped, IsClosed}
use Rattle.shared_gpu.specs.Notes.{events_of}
use Rattle.shared_gpu.specs.Seats.{seat_link}
use Rattle.group_gpu.specs.Views.{GroupedModel}
use Rattle.group_gpu.specs.declared.noted_call.NotedCall.{NotedCall}
use Rattle.group_gpu.specs.declared.noted_call.NotedCall.TheVariants.{Founded, Answered}

-- A front's history is legal, and has calls of the group's own threads alone. Each barrier that the group had the back do was licensed
-- where it stands. The front stands, or it was stopped and its group holds each of its handles still.
pub record GroupStands (f : FrontModel) (s : Link) : Type 0 where
  pub legal : IsLegal f.threads f.history
  pub declared : All (λ e. Contains f.threads e.thread) f.history
  pub licensed : BarriersAreLicensed s
  pub stands : f.stopped ≡ false → FrontStands f s
  pub owns : f.stopped ≡ true → Owns (face f.core).objects s

-- The front of a group was closed, and then each handle that was left was let go.
pub record WasClosed (f : FrontModel) (s : Link) : Type 0 where
  pub closed : FrontModel
  pub link : Link
  pub is : IsClosed f closed link
  pub let_go : s ≡ record link { held = s.held }

-- the pass of a thread: the place of the thread among those of the group, counted from 1
abbrev pub pass_of : List ℕ → ℕ → ℕ
pass_of [] thread = 0
pass_of (t ∷ threads) thread = if t == thread then 1 else pass_of threads thread + 1

-- the pass that an entry names
abbrev pub names_of : NotedCall → Option ℕ
names_of (Founded group threads) = None
names_of (Answered pass entry) = Some pass

-- the entry of a call that was answered
abbrev pub note_of : List ℕ → Entry → NotedCall
note_of threads entry = Answered (pass_of threads entry.thread) entry

-- the entries of a group with these threads and answered calls
abbrev pub notes_of : ℕ → List ℕ → List Entry → List NotedCall
notes_of group threads history = Founded group threads ∷ map (note_of threads) history

-- the call that was answered, by an entry
abbrev pub call_by : NotedCall → List Entry
call_by (Founded group threads) = []
call_by (Answered pass entry) = entry ∷ []

-- the calls that were answered, by the entries
abbrev pub calls_of : List NotedCall → List Entry
calls_of notes = flat_map call_by notes

-- the call on the line of this number was answered
abbrev pub is_answered : List Entry → ℕ → Bool
is_answered history number = list_any (λ e. e.line == number) history

-- Others may have added entries to those that were seen, and then the pass added this one.
pub record EndsWith (pass : ℕ) (old new : List NotedCall) (entry : Entry) : Type 0 where
  pub before : List NotedCall
  pub begins : IsPrefix old before
  pub same : own names_of pass before ≡ own names_of pass old
  pub is : new ≡ before ++ Answered pass entry ∷ []

-- The pass is that of a declared thread of the group, whose history begins with its founding.
pub record IsThreads (pass : PassModel NotedCall) (thread : ℕ) : Type 0 where
  pub group : ℕ
  pub threads : List ℕ
  pub more : List NotedCall
  pub seen_is : pass.seen ≡ Founded group threads ∷ more
  pub declared : Contains threads thread
  pub number : pass_of threads thread ≡ pass.number

-- a pass between its turns, of the same turnstile, number and joined passes as before
pub record IsBetween (before now : PassModel NotedCall) : Type 0 where
  pub name : now.name ≡ before.name
  pub number : now.number ≡ before.number
  pub joined : now.joined ≡ before.joined
  pub holds : now.holds ≡ false

-- these are the entries of one legal history of a group's calls
pub record AreLegal (notes : List NotedCall) : Type 0 where
  pub group : ℕ
  pub threads : List ℕ
  pub history : List Entry
  pub is : notes ≡ notes_of group threads history
  pub legal : IsLegal threads history

-- One turn of a pass did this to the group: what it found began with all that the pass had seen before, and what it left is what the
-- pass has seen now.
pub record InOneTurn (before now : PassModel NotedCall) (Did : GroupedModel → GroupedModel → Type 0) : Type 0 where
  pub old : GroupedModel
  pub new : GroupedModel
  pub begins : IsPrefix before.seen (notes_of old.seat.group old.front.threads old.front.history)
  pub seen : now.seen ≡ notes_of new.seat.group new.front.threads new.front.history
  pub did : Did old new

-- A thread made a call of a group that ran, and had this answer. What the group sees of the back is what its seat's pass has seen
-- of it before and after the call.
pub record HasCalled (old new : GroupedModel) (thread line : ℕ) (call : Call) (answer : Result Reply Stop) : Type 0 where
  pub ran : old.front.stopped ≡ false
  pub ok : IfOk answer (λ reply. HasAnswered old.front new.front (seat_link new.seat) thread line call reply)
  pub origin : IfOk answer (λ reply. is_map_read call ≡ true → refusal old.front.state thread call ≡ None →
      HasOrigin (seat_link old.seat) (seat_link new.seat) reply)
  pub polls : IfOk answer (λ reply. refusal old.front.state thread call ≡ None →
      Polls old.front.syncs (seat_link old.seat) (seat_link new.seat) call reply)
  pub flushes : IfOk answer (λ reply. refusal old.front.state thread call ≡ None →
      Flushes old.front.state old.front.serials old.front.syncs thread call (face new.front.core) (seat_link new.seat) reply)
  pub err : OnErr answer (HasStopped old.front new.front (seat_link new.seat))
  pub lost : answer ≡ Err Lost → ending_of (events_of new.seat.pass.seen) ≡ Stopped Lost
  pub stopped : OnErr answer (is_stopped (ending_of (events_of new.seat.pass.seen)) ≡ true)
  pub at_back : AtBack (seat_link old.seat) (seat_link new.seat) None None (due_of old.front.state thread call)
      (waits_of old.front.state thread call) (is_err answer)
      (MayHandOver (face old.front.core) old.front.state old.front.serials old.front.syncs thread call)
  pub licensed : BarriersAreLicensed (seat_link new.seat)
