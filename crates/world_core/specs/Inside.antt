-- What a world keeps, and what its parts do.
use Rattle.std.specs.Prelude.{◌≡◌, ℕ, ◌≤◌, Bool, true, false, List, length, get_or, slice_get, Option, Some, None, IsSome, Contains}
use Rattle.trace_text.specs.Reading.{Plan}
use Rattle.trace_text.specs.Orders.{HasLine}
use Rattle.vk_types.specs.declared.batches.QueueSerial.{QueueSerial}
use Rattle.vk_device.specs.Journal.{kind_of}
use Rattle.resource_use.specs.Uses.{number_of}
use Rattle.submit_queue.specs.Histories as queue
use Rattle.back_core.specs.declared.back_event.BackEvent.{BackEvent}
use Rattle.back_core.specs.Own.{batches_of}
use Rattle.back_core.specs.Link.{Link}
use Rattle.back_core.specs.History.{completed, link_of, own_part, opening}
use Rattle.back_core.specs.Frame.{IsGoing, host_bytes}
use Rattle.back_core.specs.Run.{journal_of}
use Rattle.back_core.specs.Back.{BackModel}
use Rattle.back_core.specs.Steps.{CleansWhole}
use Rattle.front_model.specs.Stands.{Owns}
use Rattle.front_moves.specs.Core.{face}
use Rattle.front_core.specs.Front.{FrontModel, FrontStands}
use Rattle.play_model.specs.Plays.{HasPlayed, Play, members, is_answered}
use Rattle.world_core.specs.World.{WorldModel, IsServed, AllStand, play_at, histories_of, due_in}

-- What is kept

-- what was played, by the fronts
abbrev pub played_of : List ℕ → List FrontModel → Play
played_of done fronts = play_at done (histories_of fronts)

-- the world of these parts
abbrev pub world_of : {D : Type 0} → List Plan → List ℕ → List FrontModel → BackModel D → Bool → WorldModel D
world_of threads done fronts back running =
    record { threads = threads; done = done; fronts = fronts; back = back; running = running }

-- the front of a group, which holds what it has on the device
pub record IsFrontOf (threads : List Plan) (history : List BackEvent) (group : ℕ) (front : FrontModel) : Type 0 where
  pub threads_are : front.threads ≡ members threads group
  pub owns : Owns (face front.core).objects (link_of history group)

-- each group has its front
pub record AreFronts (threads : List Plan) (history : List BackEvent) (fronts : List FrontModel) : Type 0 where
  pub eight : length fronts ≡ 8
  pub each : (group : ℕ) (front : FrontModel) → slice_get fronts group ≡ Some front → IsFrontOf threads history group front

-- each front stands, no call on the device failed, no cleanup was cut off, and no more than the eight groups used the back
pub record Goes (fronts : List FrontModel) (history : List BackEvent) : Type 0 where
  pub stand : AllStand fronts history
  pub going : IsGoing (Some history)
  pub whole : CleansWhole history
  pub no_others : (group : ℕ) → 8 ≤ group → own_part history group ≡ opening group

-- a world that goes on does so, and the host wrote no more bytes than are due
pub record Runs (threads : List Plan) (p : Play) (fronts : List FrontModel) (history : List BackEvent) : Type 0 where
  pub goes : Goes fronts history
  pub uploads : host_bytes (journal_of history) ≤ due_in threads p

-- for each line with a call it is noted whether that was answered
abbrev pub AreNoted : List Plan → Play → List Bool → Type 0
AreNoted threads p answered = (group number : ℕ) → HasLine threads group number →
    slice_get answered number ≡ Some (is_answered (p.histories group) number)

-- what a world keeps of its threads, its fronts and its back
pub record Keeps (threads : List Plan) (done : List ℕ) (answered : List Bool) (fronts : List FrontModel) (history : List BackEvent)
    (running : Bool) : Type 0 where
  pub served : IsServed threads
  pub played : HasPlayed threads (played_of done fronts)
  pub noted : AreNoted threads (played_of done fronts) answered
  pub fronts_are : AreFronts threads history fronts
  pub runs : running ≡ true → Runs threads (played_of done fronts) fronts history

-- each front holds what it has on the device
abbrev pub OwnTheirs : List FrontModel → List BackEvent → Type 0
OwnTheirs fronts history = (group : ℕ) (front : FrontModel) → slice_get fronts group ≡ Some front →
    Owns (face front.core).objects (link_of history group)

-- What the steps of the back do

-- each group's own part is as before, and completed numbers may have risen
pub record LeavesGroups (old new : List BackEvent) : Type 0 where
  pub own : (group : ℕ) → own_part new group ≡ own_part old group
  pub rises : (index : ℕ) → completed old index ≤ completed new index

-- no call on the device failed, no cleanup was cut off, and the host wrote nothing
pub record StaysWell (old new : List BackEvent) : Type 0 where
  pub going : IsGoing (Some old) → IsGoing (Some new)
  pub whole : CleansWhole old → CleansWhole new
  pub written : host_bytes (journal_of new) ≡ host_bytes (journal_of old)

-- What a call does

-- the line that is waited for was answered, or none is
abbrev pub follows : List Bool → Option ℕ → Bool
follows answered None = true
follows answered (Some number) = get_or answered number false

-- a front that stands may be asked by this thread
pub record MayAsk (front : FrontModel) (history : List BackEvent) (group thread : ℕ) : Type 0 where
  pub stands : FrontStands front (link_of history group)
  pub declared : Contains front.threads thread

-- How fronts end

-- a group gave each object that it made, and no batch to come uses what it gave
pub record LeavesNothing (s : Link) : Type 0 where
  pub none_lost : (id : ℕ) → IsSome (s.kinds id) → IsSome (s.given id)
  pub given : (id index : ℕ) (uses : List QueueSerial) → s.given id ≡ Some uses →
      number_of uses index ≤ queue.last_number (batches_of s.mine) index

-- no call on the device failed, no cleanup was cut off, and each group left nothing
pub record AreClosed (history : List BackEvent) : Type 0 where
  pub going : IsGoing (Some history)
  pub whole : CleansWhole history
  pub nothing : (group : ℕ) → LeavesNothing (link_of history group)

-- what was held was let go: the device has the same objects, the host wrote nothing, and no call on the device failed
pub record LetsGo (old new : List BackEvent) : Type 0 where
  pub objects : (id : ℕ) → kind_of (journal_of new) id ≡ kind_of (journal_of old) id
  pub written : host_bytes (journal_of new) ≡ host_bytes (journal_of old)
  pub going : IsGoing (Some old) → IsGoing (Some new)
