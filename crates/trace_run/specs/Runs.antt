-- What a run answers: the traces that are served, and the replies to them.
use Rattle.std.specs.Prelude.{◌≡◌, ℕ, ◌<◌, ◌≤◌, min, List, [], ◌∷◌, ◌++◌, length, map, Option, Some, None, if◌then◌else◌}
use Rattle.vk_device.specs.declared.logged.Logged.{Logged}
use Rattle.vk_device.specs.Journal.{kind_of}
use Rattle.back_core.specs.declared.back_event.BackEvent.{BackEvent}
use Rattle.back_core.specs.Frame.{IsGoing, host_bytes}
use Rattle.back_core.specs.Run.{IsRun, journal_of}
use Rattle.trace_text.specs.declared.trace.Line.{Line}
use Rattle.trace_text.specs.Reading.{Plan}
use Rattle.reply_text.specs.declared.history.GroupHistory.{GroupHistory}
use Rattle.front_core.specs.Share.{is_built}
use Rattle.play_model.specs.Plays.{Play, HasPlayed, HasEnded}
use Rattle.world_core.specs.World.{AreHistories, due_in}
use Rattle.schedule.specs.Moves.{Move, schedule, callers_of_group}

-- Which traces are served

-- the number of the first line whose call is not built
abbrev pub unbuilt_line : List Line → Option ℕ
unbuilt_line [] = None
unbuilt_line (line ∷ lines) = if is_built line.call then unbuilt_line lines else Some line.number

-- the smaller one of two lines, where there are two
abbrev pub first_of : Option ℕ → Option ℕ → Option ℕ
first_of None other = other
first_of (Some line) None = Some line
first_of (Some line) (Some other) = Some (min line other)

-- the line at which a trace is refused: the first one, of all threads, whose call is not built
abbrev pub first_unbuilt : List Plan → Option ℕ
first_unbuilt [] = None
first_unbuilt (thread ∷ threads) = first_of (unbuilt_line thread.lines) (first_unbuilt threads)

-- What is answered

-- the calls of each group were made in the order of these moves, and no others
abbrev pub AreCalls : List Plan → List Move → Play → Type 0
AreCalls threads moves play = (group : ℕ) → map (λ e. e.thread) (play.histories group) ≡ callers_of_group threads group moves

-- The histories of the declared groups, each legal and with its threads' lines in order, where the calls were made in the order of these
-- moves.
pub record AreReplies (threads : List Plan) (moves : List Move) (groups : List GroupHistory) : Type 0 where
  pub play : Play
  pub played : HasPlayed threads play
  pub histories : AreHistories threads play groups
  pub calls : AreCalls threads moves play

-- the replies to all lines, in the order of the schedule of this seed
pub record AnswersAll (threads : List Plan) (seed : ℕ) (groups : List GroupHistory) : Type 0 where
  pub replies : AreReplies threads (schedule threads seed) groups
  pub all : (thread : ℕ) → thread < length threads → HasEnded threads replies.play.done thread

-- the replies to the first calls of the schedule
pub record AnswersFirst (threads : List Plan) (seed : ℕ) (groups : List GroupHistory) : Type 0 where
  pub made : List Move
  pub rest : List Move
  pub schedule_is : schedule threads seed ≡ made ++ rest
  pub replies : AreReplies threads made groups

-- What happened at the back of a device with this journal: in it no stop stands, so no call on the device failed.
pub record WentWell (journal : List Logged) : Type 0 where
  pub history : List BackEvent
  pub run : IsRun history
  pub journal_is : journal ≡ journal_of history
  pub going : IsGoing (Some history)

-- All lines were answered. No call on the device failed, the host wrote no more bytes than were due, and every object was destroyed.
pub record RanAll (threads : List Plan) (seed : ℕ) (groups : List GroupHistory) (journal : List Logged) : Type 0 where
  pub answers : AnswersAll threads seed groups
  pub destroyed : (id : ℕ) → kind_of journal id ≡ None
  pub went_well : WentWell journal
  pub uploads : host_bytes journal ≤ due_in threads answers.replies.play
