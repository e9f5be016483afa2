-- What is left where a shared back ends.
use Rattle.std.specs.Prelude.{◌≡◌, ℕ, ◌≤◌, List, Some, None, IsSome}
use Rattle.vk_types.specs.declared.batches.QueueSerial.{QueueSerial}
use Rattle.vk_device.specs.declared.logged.Logged.{Logged}
use Rattle.vk_device.specs.Journal.{kind_of}
use Rattle.resource_use.specs.Uses.{number_of}
use Rattle.submit_queue.specs.Histories.{last_number}
use Rattle.back_core.specs.declared.back_event.BackEvent.{BackEvent}
use Rattle.back_core.specs.Own.{batches_of}
use Rattle.back_core.specs.Link.{Link}
use Rattle.back_core.specs.Frame.{IsGoing}
use Rattle.back_core.specs.Run.{IsRun, journal_of}

-- a group gave each object that it made, and no batch to come uses what it gave
pub record HasGivenAll (s : Link) : Type 0 where
  pub none_lost : (id : ℕ) → IsSome (s.kinds id) → IsSome (s.given id)
  pub given : (id index : ℕ) (uses : List QueueSerial) → s.given id ≡ Some uses →
      number_of uses index ≤ last_number (batches_of s.mine) index

-- The journal is that of a run in which no call on the device failed, and no object is left.
pub record EndedWell (journal : List Logged) : Type 0 where
  pub history : List BackEvent
  pub run : IsRun history
  pub journal_is : journal ≡ journal_of history
  pub going : IsGoing (Some history)
  pub destroyed : (id : ℕ) → kind_of journal id ≡ None
