-- How a world ends.
use Rattle.std.specs.Prelude.{◌≡◌, ℕ, zero, suc, ◌≤◌, false, List, Option, Some, None}
use Rattle.vk_device.specs.declared.logged.Logged.{Logged}
use Rattle.vk_device.specs.Journal.{kind_of}
use Rattle.back_core.specs.declared.back_event.BackEvent.{BackEvent}
use Rattle.back_core.specs.Back.{BackModel}
use Rattle.back_core.specs.Frame.{AtBack, IsGoing, host_bytes}
use Rattle.back_core.specs.History.{link_of}
use Rattle.back_core.specs.Run.{IsRun, journal_of}
use Rattle.back_core.specs.Steps.{HasGoneOn, IsIdle, CleansAll}
use Rattle.front_core.specs.Economy.{IsEndingBatch}
use Rattle.front_core.specs.Front.{FrontModel, IsClosed}
use Rattle.world_core.specs.World.{WorldModel, play_of, due_in}
use Rattle.world_core.specs.Steps.{Replaces}

-- the front of a group was closed
pub record HasClosedOne (old new : List FrontModel) (h k : List BackEvent) (group : ℕ) : Type 0 where
  pub fronts : Replaces old new group
  pub closed : IsClosed fronts.before fronts.after (link_of k group)
  pub at_back : AtBack (link_of h group) (link_of k group) (Some h) (Some k) 0 false false (IsEndingBatch fronts.before.syncs)

-- the fronts of the first groups, so many, were closed one after the other, in rising order
unfoldable pub CloseFirst : ℕ → List FrontModel → List BackEvent → List FrontModel → List BackEvent → Type 0
CloseFirst zero old h new k = (new ≡ old) × (k ≡ h)
CloseFirst (suc group) old h new k =
    (middle : List FrontModel) × (i : List BackEvent) × CloseFirst group old h middle i × HasClosedOne middle new i k group

-- The fronts of all groups were closed, each batch was submitted, run and retired, and then all that waited was destroyed.
pub record EndsAll {D : Type 0} (journal : D → List Logged) (old new : List FrontModel) (back now : BackModel D) : Type 0 where
  pub closed : List BackEvent
  pub fronts : CloseFirst 8 old back.history new closed
  pub settled : BackModel D
  pub gone_on : HasGoneOn closed settled.history
  pub idle : IsIdle settled.history
  pub count : ℕ
  pub cleans : CleansAll journal settled now count

-- A world was closed: what was played is as before, no object is left on the device, no call on it failed, and the host wrote no more bytes
-- than were due.
pub record HasClosed {D : Type 0} (journal : D → List Logged) (old new : WorldModel D) : Type 0 where
  pub threads : new.threads ≡ old.threads
  pub play : play_of new ≡ play_of old
  pub running : new.running ≡ false
  pub ends : EndsAll journal old.fronts new.fronts old.back new.back
  pub destroyed : (id : ℕ) → kind_of (journal_of new.back.history) id ≡ None
  pub going : IsGoing (Some new.back.history)
  pub uploads : host_bytes (journal_of new.back.history) ≤ due_in new.threads (play_of new)

-- What is left of a world: a device with the journal of a run, in which what still waited was let go. Its objects are those that the world
-- had, the host wrote nothing more, and no call on the device failed that had not failed before.
pub record HasFinished {D : Type 0} (w : WorldModel D) (journal : List Logged) : Type 0 where
  pub history : List BackEvent
  pub run : IsRun history
  pub journal_is : journal ≡ journal_of history
  pub objects : (id : ℕ) → kind_of journal id ≡ kind_of (journal_of w.back.history) id
  pub written : host_bytes journal ≡ host_bytes (journal_of w.back.history)
  pub going : IsGoing (Some w.back.history) → IsGoing (Some history)
