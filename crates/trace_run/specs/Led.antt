-- What becomes of a world that is led through a schedule, and closed.
use Rattle.std.specs.Prelude.{◌≡◌, ℕ, ◌<◌, ◌≤◌, List, ◌++◌, length, None, Some}
use Rattle.vk_device.specs.Journal.{kind_of}
use Rattle.back_core.specs.Frame.{IsGoing, host_bytes}
use Rattle.back_core.specs.Run.{journal_of}
use Rattle.trace_text.specs.Reading.{Plan}
use Rattle.play_model.specs.Plays.{HasEnded}
use Rattle.world_core.specs.World.{WorldModel, play_of, due_in}
use Rattle.schedule.specs.Moves.{Move, schedule}
use Rattle.trace_run.specs.Runs.{AreCalls}

-- A world of these threads was led through the whole schedule of this seed, and closed.
pub record WasLed {D : Type 0} (threads : List Plan) (seed : ℕ) (w : WorldModel D) : Type 0 where
  pub threads_are : w.threads ≡ threads
  pub calls : AreCalls threads (schedule threads seed) (play_of w)
  pub all : (thread : ℕ) → thread < length threads → HasEnded threads w.done thread
  pub destroyed : (id : ℕ) → kind_of (journal_of w.back.history) id ≡ None
  pub going : IsGoing (Some w.back.history)
  pub uploads : host_bytes (journal_of w.back.history) ≤ due_in threads (play_of w)

-- The first calls of the schedule were made.
pub record WasLedOn {D : Type 0} (threads : List Plan) (seed : ℕ) (w : WorldModel D) : Type 0 where
  pub threads_are : w.threads ≡ threads
  pub made : List Move
  pub rest : List Move
  pub schedule_is : schedule threads seed ≡ made ++ rest
  pub calls : AreCalls threads made (play_of w)
