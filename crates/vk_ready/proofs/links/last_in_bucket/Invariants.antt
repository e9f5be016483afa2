use Rattle.std.proofs.Common.{◌≡◌, ℕ, suc, ◌<◌, ◌≤◌, length, false}
use Rattle.vk_ready.specs.Slots.{edge_from, in_slot}
use Rattle.vk_ready.specs.Filing.{IsIn}
use Rattle.vk_ready.proofs.links.last_in_bucket.Given as goal

-- no slot of the bucket from the link on has a node with an edge
abbrev pub invariant-loop-at : goal.invariant-loop-at
invariant-loop-at l = record {
  fits : l.at ≤ length l.filed;
  has : (k : ℕ) → l.at ≡ suc k → IsIn l.filed k l.bucket;
  free : (k : ℕ) → l.at ≤ k → k < l.end → IsIn l.filed k l.bucket → edge_from (in_slot l.slots k) l.later ≡ false;
}

abbrev pub decreases-loop-at : goal.decreases-loop-at
decreases-loop-at l = l.at
