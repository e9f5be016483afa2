-- What the calls of a link need.
use Rattle.std.specs.Prelude.{◌≡◌, ℕ, ◌+◌, ◌*◌, ◌<◌, ◌≤◌, ◌⊎◌, true, false, List, ◌++◌, length, Some, None, All}
use Rattle.vk_types.specs.declared.batches.Batch.{Batch}
use Rattle.vk_types.specs.declared.batches.QueueSerial.{QueueSerial}
use Rattle.vk_model.specs.Log.{commands, NoneEmpty, IsSound}
use Rattle.vk_model.specs.Fitting.{HasRange, NodeFits}
use Rattle.vk_device.specs.Order.{IsOfOneQueue}
use Rattle.resource_use.specs.Uses.{number_of}
use Rattle.submit_queue.specs.Histories.{last_number}
use Rattle.back_core.specs.Own.{log_of, batches_of, next_number, last_use, batch_touches, own_touches}
use Rattle.back_core.specs.Link.{Link}

-- the indexes of group g are 8g to 8g + 7
abbrev pub IsOfGroup : ℕ → ℕ → Type 0
IsOfGroup group index = (8 * group ≤ index) × (index < 8 * group + 8)

-- the object was not made before, it is neither held nor given, and nothing touches it
pub record IsFresh (s : Link) (id : ℕ) : Type 0 where
  pub not_made : s.kinds id ≡ None
  pub not_held : s.held id ≡ false
  pub not_given : s.given id ≡ None
  pub untouched : All (λ x. own_touches x id ≡ false) s.mine

-- The host may write or read a range of a buffer that the group holds, which is not empty and lies inside, where each
-- batch that touches the buffer is known to be retired.
pub record HostMay (s : Link) (id at size : ℕ) : Type 0 where
  pub held : s.held id ≡ true
  pub range : HasRange (s.kinds id) at size
  pub retired : (index : ℕ) → last_use s.mine index id ≤ s.done index

-- an object that is held, or was given with the serial among its uses
abbrev pub MayTouch : Link → ℕ → ℕ → ℕ → Type 0
MayTouch s index number id = (s.held id ≡ true) ⊎ ((uses : List QueueSerial) × (s.given id ≡ Some uses) × (number_of uses index ≡ number))

-- a batch that may be handed to the back
pub record MayEnqueue (s : Link) (batch : Batch) : Type 0 where
  pub one_queue : IsOfOneQueue batch
  pub few : length batch.nodes < 4294967294
  pub sound : IsSound (log_of s.mine ++ commands 0 batch.nodes)
  pub none_empty : All NoneEmpty batch.nodes
  pub fits : All (NodeFits s.kinds) batch.nodes
  pub next : batch.number ≡ next_number s.mine batch.index
  pub of_group : IsOfGroup s.group batch.index
  pub touched : (id : ℕ) → batch_touches batch id ≡ true → MayTouch s batch.index batch.number id

-- For each index the uses name the last batch that touches the object, and none where none does, or the next batch of
-- an index of the group.
pub record MayGive (s : Link) (id : ℕ) (uses : List QueueSerial) : Type 0 where
  pub held : s.held id ≡ true
  pub exact : (index : ℕ) → (number_of uses index ≡ last_use s.mine index id) ⊎ (IsOfGroup s.group index × (number_of uses index ≡ next_number s.mine index))

-- the group's list has a batch with this serial
abbrev pub HasBatch : Link → ℕ → ℕ → Type 0
HasBatch s index number = (1 ≤ number) × (number ≤ last_number (batches_of s.mine) index)
