-- What calls of a link do at the back, from one moment to a later one.
use Rattle.std.specs.Prelude.{◌≡◌, ℕ, ◌≤◌, Bool, false, List, ◌++◌, length, map, sum, All, Option, Some, None}
use Rattle.vk_types.specs.declared.batches.Batch.{Batch}
use Rattle.vk_device.specs.declared.logged.Logged.{Logged}
use Rattle.vk_device.specs.declared.logged.Logged.TheVariants as logged
use Rattle.back_core.specs.declared.back_event.BackEvent.{BackEvent}
use Rattle.back_core.specs.Own.{Own, HostWrote, Enqueued, HostRead, batches_of}
use Rattle.submit_queue.specs.Histories.{last_number}
use Rattle.back_core.specs.Link.{Link}
use Rattle.back_core.specs.Answers.{AskedRises}
use Rattle.back_core.specs.History.{is_outside}
use Rattle.back_core.specs.Back.{is_stopped, ending_of}

abbrev pub written_by : Own → ℕ
written_by (HostWrote id at bytes) = length bytes
written_by (Enqueued batch) = 0
written_by (HostRead id at bytes) = 0

-- the bytes of all host writes of a group's list
unfoldable pub uploaded : List Own → ℕ
uploaded mine = sum (map written_by mine)

abbrev pub bytes_by : Logged → ℕ
bytes_by (logged.Created id kind) = 0
bytes_by (logged.Wrote id at bytes) = length bytes
bytes_by (logged.Submitted batch) = 0
bytes_by (logged.Ran batch node) = 0
bytes_by (logged.Fetched id at bytes) = 0
bytes_by (logged.Destroyed id) = 0

-- the bytes of all host writes of a journal
unfoldable pub host_bytes : List Logged → ℕ
host_bytes journal = sum (map bytes_by journal)

-- an event of a group's own calls, a step of a batch, or a stop
abbrev pub IsPartOf : ℕ → BackEvent → Type 0
IsPartOf group event = is_outside group event ≡ false

-- what happened at the back, where it is told, has only grown, by events in which the group had a part
abbrev pub GoesOn : ℕ → Option (List BackEvent) → Option (List BackEvent) → Type 0
GoesOn group None now = now ≡ None
GoesOn group (Some before) None = ⊥
GoesOn group (Some before) (Some now) = (more : List BackEvent) × (now ≡ before ++ more) × All (IsPartOf group) more

-- the back was not stopped, where that is told
abbrev pub IsGoing : Option (List BackEvent) → Type 0
IsGoing None = Unit {0}
IsGoing (Some history) = is_stopped (ending_of history) ≡ false

-- no batch is handed over
abbrev pub NoBatch : Batch → Type 0
NoBatch batch = ⊥

-- What some calls of a link did, seen by the link before and after, and by what is told of the back before and now: the host
-- wrote no more bytes than are due, no number of a batch fell, completed numbers are told as before unless a call may wait, a back
-- that was not stopped is not stopped unless a call ended by a stop, and each batch that was handed over is one that may be.
pub record AtBack (old new : Link) (before now : Option (List BackEvent)) (due : ℕ) (waits stops : Bool) (MayHand : Batch → Type 0) : Type 0 where
  pub group : new.group ≡ old.group
  -- what the group's list has gained at its end
  pub gained : List Own
  pub grows : new.mine ≡ old.mine ++ gained
  pub known : (index : ℕ) → old.done index ≤ new.done index
  pub numbers : (index : ℕ) → last_number (batches_of old.mine) index ≤ last_number (batches_of new.mine) index
  pub loaded : AskedRises old.asked new.asked
  pub still : waits ≡ false → new.now ≡ old.now
  pub uploads : uploaded gained ≤ due
  pub batches : All MayHand (batches_of gained)
  pub goes_on : GoesOn old.group before now
  pub going : stops ≡ false → IsGoing before → IsGoing now

-- the same, of a link by what it shows
abbrev pub ActsAtBack : {L : Type 0} → (L → Link) → (L → Option (List BackEvent)) → L → L → ℕ → Bool → Bool → (Batch → Type 0) → Type 0
ActsAtBack state told old new due waits stops MayHand = AtBack (state old) (state new) (told old) (told new) due waits stops MayHand
