-- Which slots hold nodes of an object, found over buckets of objects.
use Rattle.std.specs.Prelude.{◌≡◌, ℕ, suc, ◌<◌, ◌≤◌, ◌⊎◌, ◌%◌, ◌==◌, Bool, true, false, List, length, slice_index, slice_index_or, Option, Some, None, if◌then◌else◌}
use Rattle.vk_types.specs.Touches.{barrier_of}
use Rattle.vk_model.specs.Log.{touches_object}
use Rattle.vk_ready.specs.declared.nodes.WaitingNode.{WaitingNode}
use Rattle.vk_ready.specs.declared.links.Filed.{Filed}
use Rattle.vk_ready.specs.Slots.{in_slot}

abbrev pub nowhere : Filed
nowhere = record { first = 0; first_before = 0; first_barrier = 0; second = 0; second_before = 0; second_barrier = 0 }

abbrev pub filed_at : List Filed → ℕ → Filed
filed_at filed k = slice_index_or filed k nowhere

-- the slot is filed in the bucket
abbrev pub IsIn : List Filed → ℕ → ℕ → Type 0
IsIn filed k bucket = (bucket ≡ (filed_at filed k).first) ⊎ (bucket ≡ (filed_at filed k).second)

-- no barrier waits in the slot
abbrev pub IsPlain : Option WaitingNode → Type 0
IsPlain None = Unit {0}
IsPlain (Some x) = barrier_of x.command ≡ None

-- a slot that is passed over: none where all are looked at, and each without a barrier where only barriers are
abbrev pub IsPassed : (only_barriers : Bool) → Option WaitingNode → Type 0
IsPassed false slot = ⊥
IsPassed true slot = IsPlain slot

-- the link is the number of the last slot of a bucket before the end that is looked at, plus 1, and 0 where there is none
pub record IsLast (only_barriers : Bool) (slots : List (Option WaitingNode)) (filed : List Filed) (bucket end link : ℕ) : Type 0 where
  pub inside : link ≤ end
  pub has : (k : ℕ) → link ≡ suc k → IsIn filed k bucket
  pub none : (k : ℕ) → link ≤ k → k < end → IsIn filed k bucket → IsPassed only_barriers (in_slot slots k)

-- the link of a slot in one of its buckets
abbrev pub before_in : Filed → ℕ → ℕ
before_in f bucket = if f.first == bucket then f.first_before else f.second_before

-- and that to a barrier
abbrev pub barrier_in : Filed → ℕ → ℕ
barrier_in f bucket = if f.first == bucket then f.first_barrier else f.second_barrier

abbrev pub link_in : (only_barriers : Bool) → Filed → ℕ → ℕ
link_in false f bucket = before_in f bucket
link_in true f bucket = barrier_in f bucket

-- each slot has the link to the last earlier one of its buckets that is looked at
abbrev pub AreLinked : (only_barriers : Bool) → List (Option WaitingNode) → List Filed → Type 0
AreLinked only_barriers slots filed = (k bucket : ℕ) → k < length filed → IsIn filed k bucket
    → IsLast only_barriers slots filed bucket k (link_in only_barriers (filed_at filed k) bucket)

-- and each bucket that to its last one
pub record AreChained (only_barriers : Bool) (slots : List (Option WaitingNode)) (heads : List ℕ) (filed : List Filed) : Type 0 where
  pub heads_are : (bucket : ℕ) → bucket < length heads → IsLast only_barriers slots filed bucket (length filed) (slice_index heads bucket)
  pub linked : AreLinked only_barriers slots filed

-- the slot is in the bucket of each object that the node touches
abbrev pub IsFiled : List Filed → (count k : ℕ) → WaitingNode → Type 0
IsFiled filed count k x = (id : ℕ) → touches_object x.command id ≡ true → IsIn filed k (id % count)

abbrev pub AreAllFiled : List (Option WaitingNode) → List Filed → ℕ → Type 0
AreAllFiled slots filed count = (k : ℕ) (x : WaitingNode) → in_slot slots k ≡ Some x → IsFiled filed count k x

-- Each node is found over its objects: among all slots of a bucket, and each barrier among the barriers alone.
pub record AreFiled (slots : List (Option WaitingNode)) (heads barriers : List ℕ) (filed : List Filed) : Type 0 where
  pub size : length filed ≡ length slots
  pub heads_size : length barriers ≡ length heads
  pub every : AreChained false slots heads filed
  pub barriers_alone : AreChained true slots barriers filed
  pub all : AreAllFiled slots filed (length heads)
