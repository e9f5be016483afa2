-- What each event does to a world.
use Rattle.std.specs.Prelude.{◌≡◌, ℕ, ◌<◌, true, false, List, length, None, Some, slice_get, slice_set}
use Rattle.gl_calls.specs.declared.reply.Reply.{Reply}
use Rattle.gl_model.specs.Refusal.{refusal}
use Rattle.vk_types.specs.declared.stops.Stop.{Stop}
use Rattle.vk_types.specs.declared.stops.Stop.TheVariants.{Lost}
use Rattle.vk_types.specs.declared.batches.QueueSerial.{QueueSerial}
use Rattle.vk_device.specs.declared.logged.Logged.{Logged}
use Rattle.vk_device.specs.declared.logged.Turned.TheVariants as turned
use Rattle.submit_queue.specs.Histories as queue
use Rattle.back_core.specs.declared.back_event.BackEvent.{BackEvent}
use Rattle.back_core.specs.declared.ending.Step.TheVariants as step
use Rattle.back_core.specs.History.{queue_history, link_of}
use Rattle.back_core.specs.Frame.{AtBack, GoesOn}
use Rattle.back_core.specs.Run.{WereRead}
use Rattle.back_core.specs.Back.{BackModel, stopped_by}
use Rattle.back_core.specs.Steps.{Submits, Turns, RetiresOne, CleansUp, CleansSome}
use Rattle.front_moves.specs.Core.{face}
use Rattle.front_core.specs.Share.{HasOrigin, is_map_read}
use Rattle.front_core.specs.Economy.{MayHandOver, due_of, waits_of}
use Rattle.front_core.specs.Polls.{Polls, Flushes}
use Rattle.front_core.specs.Front.{FrontModel, HasAnswered, HasStopped}
use Rattle.trace_text.specs.declared.trace.Line.{Line}
use Rattle.trace_text.specs.Reading.{Plan}
use Rattle.play_model.specs.Plays.{Play, Plays, IsNext, IsReady, HasEnded}
use Rattle.world_core.specs.declared.event.Event.{Event}
use Rattle.world_core.specs.declared.event.Event.TheVariants.{Call, Submit, Turn, Retire, Cleanup}
use Rattle.world_core.specs.declared.event.Stepped.{Stepped}
use Rattle.world_core.specs.declared.event.Stepped.TheVariants.{Done, Nothing, NotReady, Ended}
use Rattle.world_core.specs.World.{WorldModel, play_of}

-- what an event needs: a thread that is declared, and numbers that were read of the back
abbrev pub MayStep : {D : Type 0} → WorldModel D → Event → Type 0
MayStep w (Call thread) = thread < length w.threads
MayStep w Submit = Unit {0}
MayStep w Turn = Unit {0}
MayStep w Retire = Unit {0}
MayStep w (Cleanup read) = WereRead w.back.history read

-- What a call does

-- the front of one group became another one
pub record Replaces (old new : List FrontModel) (group : ℕ) : Type 0 where
  pub before : FrontModel
  pub after : FrontModel
  pub had : slice_get old group ≡ Some before
  pub has : new ≡ slice_set old group after

-- The front of a group gave this reply to the call of a line, and that group alone had a part in what happened at the back meanwhile: the
-- host wrote no more bytes than are due, completed numbers are as before unless the call may wait, and the reason of each batch that was
-- handed over is true of the call. Where the call is accepted, the bytes that it read from a map came from the device in it; a poll was
-- answered by the number that was completed just before the call; and what it was to flush is flushed.
pub record HasAsked (old new : List FrontModel) (h k : List BackEvent) (group thread : ℕ) (line : Line) (reply : Reply) : Type 0 where
  pub fronts : Replaces old new group
  pub answered : HasAnswered fronts.before fronts.after (link_of k group) thread line.number line.call reply
  pub at_back : AtBack (link_of h group) (link_of k group) (Some h) (Some k) (due_of fronts.before.state thread line.call)
      (waits_of fronts.before.state thread line.call) false
      (MayHandOver (face fronts.before.core) fronts.before.state fronts.before.serials fronts.before.syncs thread line.call)
  pub origin : is_map_read line.call ≡ true → refusal fronts.before.state thread line.call ≡ None →
      HasOrigin (link_of h group) (link_of k group) reply
  pub polls : refusal fronts.before.state thread line.call ≡ None →
      Polls fronts.before.syncs (link_of h group) (link_of k group) line.call reply
  pub flushes : refusal fronts.before.state thread line.call ≡ None →
      Flushes fronts.before.state fronts.before.serials fronts.before.syncs thread line.call
      (face fronts.after.core) (link_of k group) reply

-- A thread's next line was answered by the front of its group.
pub record HasCalled {D : Type 0} (old new : WorldModel D) (thread : ℕ) : Type 0 where
  pub threads : new.threads ≡ old.threads
  pub running : new.running ≡ true
  pub plays : Plays old.threads (play_of old) (play_of new) thread
  pub asked : HasAsked old.fronts new.fronts old.back.history new.back.history
      plays.may.next.is.plan.group thread plays.may.line plays.reply

-- the next line of a thread waits for one that was not answered
pub record IsWaiting (threads : List Plan) (p : Play) (thread : ℕ) : Type 0 where
  pub line : Line
  pub next : IsNext threads p.done thread line
  pub waits : IsReady (p.histories next.is.plan.group) line → ⊥

-- what became of a thread's next line, by what was answered
abbrev pub IsCallStep : {D : Type 0} → WorldModel D → WorldModel D → ℕ → Stepped → Type 0
IsCallStep old new thread Done = HasCalled old new thread
IsCallStep old new thread Nothing = ⊥
IsCallStep old new thread NotReady = (new ≡ old) × IsWaiting old.threads (play_of old) thread
IsCallStep old new thread Ended = (new ≡ old) × HasEnded old.threads old.done thread

-- What a step of the back does

-- no thread went on, and no front changed
pub record IsAtBack {D : Type 0} (old new : WorldModel D) : Type 0 where
  pub threads : new.threads ≡ old.threads
  pub done : new.done ≡ old.done
  pub fronts : new.fronts ≡ old.fronts
  pub running : new.running ≡ true

abbrev pub HasSubmitted : List BackEvent → List BackEvent → Stepped → Type 0
HasSubmitted old new Done = Submits old new step.Done
HasSubmitted old new Nothing = Submits old new step.Nothing
HasSubmitted old new NotReady = ⊥
HasSubmitted old new Ended = ⊥

abbrev pub HasTurned : List BackEvent → List BackEvent → Stepped → Type 0
HasTurned old new Done = (batch : ℕ) × (node : ℕ) × Turns old new (turned.Ran batch node)
HasTurned old new Nothing = Turns old new turned.Idle
HasTurned old new NotReady = ⊥
HasTurned old new Ended = ⊥

abbrev pub HasRetired : {D : Type 0} → BackModel D → BackModel D → Stepped → Type 0
HasRetired old new Done = (serial : QueueSerial) × RetiresOne old.history new.history serial
HasRetired old new Nothing = (new ≡ old) × ((place : ℕ) → queue.CanRetire (queue_history old.history) place → ⊥)
HasRetired old new NotReady = ⊥
HasRetired old new Ended = ⊥

abbrev pub HasCleaned : {D : Type 0} → (D → List Logged) → BackModel D → BackModel D → List ℕ → Stepped → Type 0
HasCleaned journal old new read Done = (count : ℕ) × CleansUp journal old new read count
HasCleaned journal old new read Nothing = ⊥
HasCleaned journal old new read NotReady = ⊥
HasCleaned journal old new read Ended = ⊥

-- What an event did, by what it answered

abbrev pub IsStep : {D : Type 0} → (D → List Logged) → WorldModel D → WorldModel D → Event → Stepped → Type 0
IsStep journal old new (Call thread) stepped = IsCallStep old new thread stepped
IsStep journal old new Submit stepped = IsAtBack old new × HasSubmitted old.back.history new.back.history stepped
IsStep journal old new Turn stepped = IsAtBack old new × HasTurned old.back.history new.back.history stepped
IsStep journal old new Retire stepped = IsAtBack old new × HasRetired old.back new.back stepped
IsStep journal old new (Cleanup read) stepped = IsAtBack old new × HasCleaned journal old.back new.back read stepped

-- A stop

-- A stop ended the world: what was played is as before.
pub record HasHalted {D : Type 0} (old new : WorldModel D) : Type 0 where
  pub threads : new.threads ≡ old.threads
  pub play : play_of new ≡ play_of old
  pub running : new.running ≡ false

-- the front of a group was stopped, and that group alone had a part in what happened at the back
pub record HasBroken (old new : List FrontModel) (h k : List BackEvent) (group : ℕ) : Type 0 where
  pub fronts : Replaces old new group
  pub stopped : HasStopped fronts.before fronts.after (link_of k group)
  pub at_back : GoesOn group (Some h) (Some k)

-- the front of the thread's group was stopped
pub record HasFailed (threads : List Plan) (old new : List FrontModel) (h k : List BackEvent) (thread : ℕ) : Type 0 where
  pub plan : Plan
  pub is_thread : slice_get threads thread ≡ Some plan
  pub broken : HasBroken old new h k plan.group

-- What an event did that ended by a stop. Steps of the back leave the fronts, and of these want of memory ends a submission alone.
abbrev pub IsHalt : {D : Type 0} → (D → List Logged) → WorldModel D → WorldModel D → Event → Stop → Type 0
IsHalt journal old new (Call thread) stop = HasFailed old.threads old.fronts new.fronts old.back.history new.back.history thread
IsHalt journal old new Submit stop = (new.fronts ≡ old.fronts) × (new.back.history ≡ stopped_by old.back.history stop)
IsHalt journal old new Turn stop = (new.fronts ≡ old.fronts) × (stop ≡ Lost) × (new.back.history ≡ stopped_by old.back.history stop)
IsHalt journal old new Retire stop = ⊥
IsHalt journal old new (Cleanup read) stop = (new.fronts ≡ old.fronts) × (stop ≡ Lost) × CleansSome journal old.back new.back read stop
